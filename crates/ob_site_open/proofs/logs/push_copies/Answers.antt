use Rattle.std.proofs.Common.{◌≡◌, ◌++◌, List, take, ap, subst, sym}
use Rattle.ob_history.specs.declared.records.Record.{Record}
use Rattle.ob_history.specs.Records.{MayFollow}
use Rattle.ob_site_rules.specs.State.{Log}
use Rattle.ob_site_open.proofs.Counting.{next_in_order}
use Rattle.ob_site_open.proofs.logs.push_copies.Goals as goal

pub push-requires-clause-in_order : goal.push-requires-clause-in_order
push-requires-clause-in_order c =
    let so_far : List Record = c.args.log.now.kept ++ take c.loop-record.record-index c.args.records.now in
    let kept : c.loop-record.log.kept ≡ so_far = ap (λ (l : Log). l.kept) c.loop-record.invariant.0 in
    subst (λ (ks : List Record). MayFollow ks c.in_ok-copy.copy) (sym kept)
    (subst (MayFollow so_far) (sym c.in_ok-copy.ensures.copy)
    (next_in_order c.args.log.now.kept c.args.records.now c.loop-record.record-index c.record-item.result c.loop-record-test.true c.record-item.is c.requires.in_order))
