use Rattle.std.proofs.Common.{ap}
use Rattle.ob_history.specs.declared.records.Record.{Record}
use Rattle.ob_site_same.proofs.Kept.{one_record}
use Rattle.ob_site_same.proofs.records.same_record.Goals as goal

pub returns : goal.returns
returns c =
    let beside = c.is_beside.ensures.0 c.if-not-is_beside.false in (
      λ same. one_record c.args.entry.now c.args.other.now beside.0 beside.1 (c.is_slot.ensures.0 same),
      λ is. c.is_slot.ensures.1 (ap (λ (r : Record). r.slot) is),
    )
