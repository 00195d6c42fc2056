use Rattle.std.proofs.Common.{arith, pos}
use Rattle.ob_weekly.specs.declared.due.Due.{Due}
use Rattle.ob_weekly.proofs.Lists.{first_of, there}
use Rattle.ob_weekly.proofs.due.first_due.Goals as goal

abbrev none : Due
none = record { at = pos 0; schedule = 0; day = 0; at_ms = 0; entry = 0 }

pub returns-clause-first : goal.returns-clause-first
returns-clause-first c = λ sorted d has. first_of c.args.dues.now _ sorted d has (there c.args.dues.now 0 none (omega (arith, c.requires)))
