use Rattle.std.proofs.Common.{rules, arith}
use Rattle.std.proofs.lemmas.Int.{ints}
use Rattle.ob_weekly.proofs.firing.just_before.Goals as goal

pub returns : goal.returns
returns c = (c.first_due-first.result, c.first_due-first.ensures.one, search rules, c.first_due-first.ensures.first)
