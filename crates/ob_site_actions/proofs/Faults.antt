-- What is wrong with a write, and the answer to it.
use Rattle.std.proofs.Common.{◌≡◌, Bool, true, false, not, cond, Option, Some, None, refl}
use Rattle.std.specs.Prelude.{is_some}
use Rattle.std.specs.Option.{option_or}
use Rattle.ob_site_rules.specs.declared.fault.Fault.TheVariants as faults
use Rattle.ob_site_rules.specs.declared.fault.Fault.{Fault}

pub none_told : (o : Option Fault) → is_some o ≡ false → None ≡ o
none_told None h = refl
none_told (Some f) h = absurd cc

-- the table of what is wrong with a value
abbrev pub by_table : Bool → Option Fault → Bool → Option Fault
by_table same fault over = option_or (cond (not same) (Some faults.OtherKind) None) (option_or fault (cond over (Some faults.TooManyEntries) None))

-- and what it says where it names nothing
pub nothing_of : (same : Bool) (fault : Option Fault) (over : Bool) → by_table same fault over ≡ None → (fault ≡ None) × (over ≡ false)
nothing_of true None true e = absurd cc
nothing_of true None false e = (refl, refl)
nothing_of true (Some f) over e = absurd cc
nothing_of false fault over e = absurd cc
