-- What the attributes of a tag say of its object.
use Rattle.std.specs.Prelude.{◌≡◌, ℕ, Bool, true, false, ◌||◌, List, [], ◌∷◌, Option, Some, None, Ok, IsTrue, codes}
use Rattle.ob_scan.specs.Expansion.{Expands}
use Rattle.ob_encoding.specs.declared.field.Field.{Field}
use Rattle.ob_encoding.specs.declared.part.Part.{Part}
use Rattle.ob_encoding.specs.Kinds.{same}
use Rattle.ob_encoding.specs.Fields.{known}
use Rattle.ob_encoding.specs.Parts.{ReadsPart, put_part}
use Rattle.ob_object.specs.declared.kind.Kind.{Kind}
use Rattle.ob_object.specs.declared.head.Head.{Head}
use Rattle.ob_object.specs.Fits.{fits_head}
use Rattle.ob_object.specs.Object.{empty_head}

-- An attribute as it is written: its name, and what stands between its quotes.

abbrev pub has_name : List (List ℕ × List ℕ) → List ℕ → Bool
has_name [] n = false
has_name (a ∷ attributes) n = same a.0 n || has_name attributes n

-- each name differs from those behind it
abbrev pub AreDistinct : List (List ℕ × List ℕ) → Type 0
AreDistinct [] = Unit {0}
AreDistinct (a ∷ attributes) = (has_name attributes a.0 ≡ false) × AreDistinct attributes

-- the part that a text says, put to what was said before; what isn't known is passed over
abbrev pub Says : Option Field → Kind → List ℕ → Head → Head → Type 0
Says None k text before after = after ≡ before
Says (Some f) k text before after = (p : Part) × ReadsPart k f text (Ok p) × (after ≡ put_part p before)

-- the value stands for a text, and that says it
abbrev pub Tells : Kind → List ℕ × List ℕ → Head → Head → Type 0
Tells k a before after = (text : List ℕ) × Expands a.1 text × Says (known k a.0) k text before after

-- one attribute after another
abbrev pub Tell : Kind → List (List ℕ × List ℕ) → Head → Head → Type 0
Tell k [] before after = after ≡ before
Tell k (a ∷ attributes) before after = (between : Head) × Tells k a before between × Tell k attributes between after

-- all that the attributes of a tag of its kind say is the head
pub record Describe (attributes : List (List ℕ × List ℕ)) (h : Head) : Type 0 where
  pub distinct : AreDistinct attributes
  pub told : Tell h.kind attributes (empty_head h.kind) h
  pub fits : IsTrue (fits_head h)

-- an xmlns stands for the namespace; another attribute leaves it to those behind it
abbrev pub NamespaceBy : Bool → List ℕ → Option (List ℕ) → Type 0 → Type 0
NamespaceBy true raw ns Behind = (text : List ℕ) × Expands raw text × (ns ≡ Some text)
NamespaceBy false raw ns Behind = Behind

-- the text of the attribute xmlns, where there is one
abbrev pub NamespaceIs : List (List ℕ × List ℕ) → Option (List ℕ) → Type 0
NamespaceIs [] ns = ns ≡ None
NamespaceIs (a ∷ attributes) ns = NamespaceBy (same a.0 (codes "xmlns")) a.1 ns (NamespaceIs attributes ns)
