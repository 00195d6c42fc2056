-- Words that tell an item the same.
use Rattle.std.specs.Prelude.{◌≡◌, ℕ, Bool, true, false, not, ◌||◌, ◌&&◌, List, [], ◌∷◌, ◌++◌, map, Option, Some, is_some}
use Rattle.std.specs.List.{list_any}
use Rattle.std.specs.Ordering.{nat_cmp}
use Rattle.std.specs.Cmp.Lexicographic.{slice_cmp}
use Rattle.std.specs.BTreeSet.{BTreeSet, contains_by}
use denote.Ref.{Bor}
use Rattle.ob_object.specs.declared.kind.Kind.{Kind}
use Rattle.ob_object.specs.declared.head.Head.{Head}
use Rattle.ob_object.specs.Kinds.{same_kind, has_of, has_input, has_output}
use Rattle.ob_object.specs.Object.{Object, children}
use Rattle.ob_object.specs.WellFormed.{named, is_taken}
use Rattle.ob_contracts.specs.Found.{lent}
use Rattle.ob_contracts.specs.Inherit.{Contracts, Words, contract_of, words_in, present, or_else, only_if, given, first_given, overridden, missing, inherited_head, result_of}
use Rattle.ob_contracts.specs.Parts.{has_part}
use Rattle.ob_contracts.specs.declared.fewer.Known.{Known}
use Rattle.ob_contracts.specs.declared.reading.Part.{Part}
use Rattle.ob_contracts.specs.declared.reading.Part.TheVariants as part

-- what an object inherits is the same by one list's words as by another's
abbrev pub TellTheSame : Contracts → Option Words → Option Words → Type 0
TellTheSame lib told words = (o : Object) (over : Option Object) → result_of lib o told over ≡ result_of lib o words over

-- what a source has of a part, one of these gives
abbrev pub Gave : {A : Type 0} → (Object → Option A) → List Object → Object → Type 0
Gave f P s = is_some (f s) ≡ true → is_some (first_given f P) ≡ true

-- a source tells nothing of a head that none of these does
pub record IsHeadTold (P : List Object) (s : Object) : Type 0 where
  pub of : (k : Kind) → Gave (λ o. only_if (has_of k) o.head.of) P s
  pub input : (k : Kind) → Gave (λ o. only_if (has_input k) o.head.input) P s
  pub output : (k : Kind) → Gave (λ o. only_if (has_output k) o.head.output) P s
  pub slot : (k : Kind) → Gave (λ o. only_if (same_kind o.head.kind k) (given o.head.slot)) P s
  pub display : Gave (λ o. o.head.facets.display) P s
  pub display_name : Gave (λ o. o.head.facets.display_name) P s
  pub icon : Gave (λ o. o.head.facets.icon) P s
  pub min : (k : Kind) → Gave (λ o. only_if (same_kind o.head.kind k) o.head.facets.min) P s
  pub max : (k : Kind) → Gave (λ o. only_if (same_kind o.head.kind k) o.head.facets.max) P s
  pub precision : Gave (λ o. o.head.facets.precision) P s
  pub range : Gave (λ o. o.head.facets.range) P s
  pub status : Gave (λ o. o.head.facets.status) P s
  pub tz : Gave (λ o. o.head.facets.tz) P s
  pub unit : Gave (λ o. o.head.facets.unit) P s
  pub writable : Gave (λ o. o.head.facets.writable) P s

-- and nothing at all
pub record IsTold (P : List Object) (s : Object) : Type 0 where
  pub head : IsHeadTold P s
  pub names : (n : List ℕ) → Gave (λ o. named n (children o)) P s

-- the parts of a head that may be taken from a source
abbrev pub head_parts : List Part
head_parts =
    part.Of ∷ part.Input ∷ part.Output ∷ part.Slot ∷ part.Display ∷ part.DisplayName ∷ part.Icon ∷ part.Min ∷ part.Max ∷ part.Precision ∷ part.Range ∷ part.Status
    ∷ part.Tz ∷ part.Unit ∷ part.Writable ∷ []

-- whether one of these is of a kind and has a part
abbrev pub has_one : List Object → Kind → Part → Bool
has_one P k p = list_any (λ x. same_kind x.head.kind k && has_part p x) P

abbrev pub has_text : BTreeSet (Bor (List ℕ)) → List ℕ → Bool
has_text set t = contains_by (λ k. slice_cmp nat_cmp t k.now) set

-- whether a source has a part of a head that none of these of its kind has
abbrev pub tells_part : List Object → Object → Bool
tells_part P s = list_any (λ p. has_part p s && not (has_one P s.head.kind p)) head_parts

-- the names of objects were put to those that are known; where none was new, each was known
pub record ArePut (old new : BTreeSet (Bor (List ℕ))) (cs : List Object) (b : Bool) : Type 0 where
  pub names : (n : List ℕ) → has_text new n ≡ (has_text old n || is_taken (Some n) cs)
  pub none : b ≡ false → (n : List ℕ) → is_taken (Some n) cs ≡ true → has_text old n ≡ true

-- what is known is told by these
pub record Knows (t : Known) (P : List Object) : Type 0 where
  pub heads : (k : Kind) (p : Part) → has_one (lent t.heads.items) k p ≡ true → has_one P k p ≡ true
  pub names : (n : List ℕ) → has_text t.names n ≡ true → is_some (overridden (Some n) P) ≡ true

-- a source was put to what is known: it tells something new, or nothing
abbrev pub IsPut : Known → List Object → Object → Bool → Type 0
IsPut t P s true = Knows t (P ++ s ∷ [])
IsPut t P s false = Knows t P × IsTold P s

-- sources from which an object inherits the same
pub record Same (ss ts : List Object) : Type 0 where
  pub head : (h : Head) → inherited_head h ss ≡ inherited_head h ts
  pub over : (n : Option (List ℕ)) → overridden n ss ≡ overridden n ts
  pub missing : (there : List Object) → missing there ss ≡ missing there ts

-- what words name
abbrev pub named_by : Contracts → Words → List Object
named_by lib ws = present (map (contract_of lib) ws)

-- words that may stand for others in front of any sources
abbrev pub StandFor : Contracts → Words → Words → Type 0
StandFor lib ts ws = (R : List Object) → Same (named_by lib ts ++ R) (named_by lib ws ++ R)

-- some words, where they are told, stand for others: for those that a list gives its items, or for an object's own `is`
abbrev pub StandIn : Contracts → Option Words → Option Words → Type 0
StandIn lib told words = StandFor lib (words_in (or_else told words)) (words_in words)

-- some words stand for those that were looked at, what they tell is known, and what was seen is told
pub record IsTelling (lib : Contracts) (telling looked : Words) (seen : BTreeSet (Bor (List ℕ))) (known : Known) : Type 0 where
  pub stand : StandFor lib telling looked
  pub knows : Knows known (named_by lib telling)
  pub are_told : (w : List ℕ) → has_text seen w ≡ true → (c : Object) → contract_of lib w ≡ Some c → IsTold (named_by lib telling) c
