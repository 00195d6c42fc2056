-- Where want of memory is told.
use Rattle.std.specs.Prelude.{ℕ}
use Rattle.ob_xml.specs.declared.refused.Refused.{Refused}
use Rattle.ob_xml.specs.declared.refused.Why.{Why}
use Rattle.ob_xml.specs.declared.refused.Why.TheVariants.{Memory}

abbrev pub of_why : Why → Refused → ℕ → Refused
of_why Memory refused all = record { at = all; why = Memory }
of_why _ refused all = refused

-- want of memory is told at the number of bytes fed
abbrev pub told_at : Refused → ℕ → Refused
told_at refused all = of_why refused.why refused all
