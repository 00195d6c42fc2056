use Rattle.std.proofs.Common.{sym, arith}
use Rattle.ob_requests.proofs.Parted.{not_of_watch, beyond_all}
use Rattle.ob_requests.proofs.paths.is_of_watch.Goals as goal

pub returns-in-No : goal.returns-in-No
returns-in-No c = sym (not_of_watch c.args.plan.now c.args.numbers.now c.args.path.now c.in-No.ensures)

pub returns-in-Beyond : goal.returns-in-Beyond
returns-in-Beyond c =
    sym (beyond_all c.args.plan.now c.args.numbers.now c.args.path.now c.in-Beyond.ensures.0 c.in-Beyond.ensures.1 c.in-Beyond.ensures.3 c.in-Beyond.ensures.2 (λ i. omega (arith, c.type_inv.numbers i)))
