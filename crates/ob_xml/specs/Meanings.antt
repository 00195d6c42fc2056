-- What constructs mean: an attribute by what its text says, each other one by itself.
use Rattle.std.specs.Prelude.{◌≡◌, ℕ, List, Option, Some, None, Result, Ok}
use Rattle.ob_scan.specs.Constructs.{Construct}
use Rattle.ob_scan.specs.Constructs as constructs
use Rattle.ob_scan.specs.Expansion.{Expands}
use Rattle.ob_spelling.specs.declared.fault.ValueFault.{ValueFault}
use Rattle.ob_object.specs.declared.kind.Kind.{Kind}
use Rattle.ob_encoding.specs.declared.field.Field.{Field}
use Rattle.ob_encoding.specs.Fields.{known}
use Rattle.ob_encoding.specs.Parts.{ReadsPart, ReadAs}
use Rattle.ob_xml.specs.declared.meaning.Said.{Said}
use Rattle.ob_xml.specs.declared.meaning.Said.TheVariants as said

pub data Meaning : Type 0 where
  opening : List ℕ → Meaning
  -- the name, and what it says or why that can't be read
  attribute : List ℕ → Result Said ValueFault → Meaning
  tag_end : Meaning
  empty_end : Meaning
  closing : List ℕ → Meaning
  skipped : Meaning
  ending : Meaning
  mark : Meaning

-- an attribute that objects of the kind have, or any other
abbrev pub ReadsKnown : Option Field → Kind → List ℕ → Result Said ValueFault → Type 0
ReadsKnown None k text answer = answer ≡ Ok (said.Other text)
ReadsKnown (Some f) k text answer = ReadAs (λ p. said.Part p) (ReadsPart k f text) answer

-- what the attribute of a tag of the kind says by its text
abbrev pub ReadsAttribute : Kind → List ℕ → List ℕ → Result Said ValueFault → Type 0
ReadsAttribute k name text answer = ReadsKnown (known k name) k text answer

abbrev pub Means : Kind → Construct → Meaning → Type 0
Means k (constructs.opening name) m = m ≡ opening name
Means k (constructs.attribute name raw) m = (text : List ℕ) × Expands raw text × ((answer : Result Said ValueFault) × ReadsAttribute k name text answer × (m ≡ attribute name answer))
Means k constructs.tag_end m = m ≡ tag_end
Means k constructs.empty_end m = m ≡ empty_end
Means k (constructs.closing name) m = m ≡ closing name
Means k constructs.skipped m = m ≡ skipped
Means k constructs.ending m = m ≡ ending
Means k constructs.mark m = m ≡ mark
