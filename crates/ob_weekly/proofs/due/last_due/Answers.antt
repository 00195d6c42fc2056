use Rattle.std.proofs.Common.{◌-◌, length, arith, pos}
use Rattle.std.proofs.lemmas.List.Elements.{Contains-get_or}
use Rattle.ob_weekly.specs.declared.due.Due.{Due}
use Rattle.ob_weekly.specs.Firings.{due_cmp}
use Rattle.ob_weekly.proofs.Lists.{last_of, there}
use Rattle.ob_weekly.proofs.Order.{due_total}
use Rattle.ob_weekly.proofs.due.last_due.Goals as goal

abbrev none : Due
none = record { at = pos 0; schedule = 0; day = 0; at_ms = 0; entry = 0 }

pub returns-clause-one : goal.returns-clause-one
returns-clause-one c = Contains-get_or c.args.dues.now (length c.args.dues.now - 1) none (omega (arith, c.requires))

pub returns-clause-last : goal.returns-clause-last
returns-clause-last c = λ sorted d has.
    last_of due_cmp due_total c.args.dues.now (length c.args.dues.now - 1) _ (omega (arith, c.requires)) (there c.args.dues.now (length c.args.dues.now - 1) none (omega (arith, c.requires))) sorted d has
