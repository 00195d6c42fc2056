-- The words of a refusal: its cause, and its place in bytes.
use Rattle.std.specs.Prelude.{ℕ, List, ◌++◌, codes, decimal}
use Rattle.ob_spelling.specs.declared.fault.ValueFault.{ValueFault}
use Rattle.ob_spelling.specs.declared.fault.ValueFault.TheVariants as faults
use Rattle.ob_xml.specs.declared.refused.Refused.{Refused}
use Rattle.ob_xml.specs.declared.refused.Why.{Why}
use Rattle.ob_xml.specs.declared.refused.Why.TheVariants as causes

-- why a value can't be read
abbrev pub value_words : ValueFault → List ℕ
value_words faults.NotBool = codes "Value NotBool"
value_words faults.NotNumber = codes "Value NotNumber"
value_words faults.NotFinite = codes "Value NotFinite"
value_words faults.Digits = codes "Value Digits"
value_words faults.Range = codes "Value Range"
value_words faults.NotTime = codes "Value NotTime"
value_words faults.NotStatus = codes "Value NotStatus"
value_words faults.NotName = codes "Value NotName"

-- the cause
abbrev pub why_words : Why → List ℕ
why_words causes.Markup = codes "Markup"
why_words causes.Element = codes "Element"
why_words causes.Mismatch = codes "Mismatch"
why_words causes.Twice = codes "Twice"
why_words causes.SameName = codes "SameName"
why_words (causes.Value fault) = value_words fault
why_words causes.Text = codes "Text"
why_words causes.Deep = codes "Deep"
why_words causes.Big = codes "Big"
why_words causes.Ended = codes "Ended"
why_words causes.Memory = codes "Memory"

-- the cause, and the place
abbrev pub refusal_words : Refused → List ℕ
refusal_words refused = why_words refused.why ++ (codes " at " ++ decimal refused.at)
