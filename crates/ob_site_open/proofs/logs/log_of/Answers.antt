use Rattle.std.proofs.Common.{◌≡◌, ◌+◌, ◌-◌, ◌++◌, List, length, take, drop, replicate, ap, subst, sym}
use Rattle.ob_history.specs.declared.records.Record.{Record}
use Rattle.ob_history.specs.Records.{InOrder}
use Rattle.ob_site_rules.specs.State.{Log}
use Rattle.ob_site_open.specs.Logs.{stand_in}
use Rattle.ob_site_open.proofs.Counting.{in_order, left_over}
use Rattle.ob_site_open.proofs.logs.log_of.Goals as goal

pub push_copies-requires-clause-in_order : goal.push_copies-requires-clause-in_order
push_copies-requires-clause-in_order c =
    let above = c.above_capacity-above.result in
    let all : List Record = c.deref.result.now in
    let stays : List Record = take (length all - above) (drop above all) in
    let rest : stays ≡ drop above c.args.opened.now.kept.items = left_over above c.args.opened.now.kept.items all c.deref.ensures.value in
    let order : InOrder stays = subst InOrder (sym rest) (subst (λ (l : Log). InOrder l.kept) c.above_capacity-above.ensures.rolled c.requires.stands.in_order) in
    let kept : c.push_gone.new.log.kept ≡ replicate (c.args.opened.now.gone + above) (stand_in c.time_before.result) = ap (λ (l : Log). l.kept) c.in_ok-push_gone.ensures in
    subst (λ (ks : List Record). InOrder (ks ++ stays)) (sym kept) (in_order (c.args.opened.now.gone + above) c.time_before.result stays c.time_before.ensures order)
