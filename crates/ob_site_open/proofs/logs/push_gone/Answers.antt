use Rattle.std.proofs.Common.{◌≡◌, List, replicate, ap, subst, sym}
use Rattle.ob_history.specs.declared.records.Record.{Record}
use Rattle.ob_history.specs.Records.{MayFollow}
use Rattle.ob_site_rules.specs.State.{Log}
use Rattle.ob_site_open.specs.Logs.{stand_in}
use Rattle.ob_site_open.proofs.Counting.{may_follow}
use Rattle.ob_site_open.proofs.logs.push_gone.Goals as goal

pub push-requires-clause-in_order : goal.push-requires-clause-in_order
push-requires-clause-in_order c =
    let kept : c.loop.log.kept ≡ replicate c.loop.counter (stand_in c.args.time) = ap (λ (l : Log). l.kept) c.loop.invariant in
    subst (λ (ks : List Record). MayFollow ks (stand_in c.args.time)) (sym kept) (may_follow c.loop.counter c.args.time)
