use Rattle.std.proofs.Common.{sym, ap, ◌∙◌}
use Rattle.ob_site_rules.specs.Sameness.{same_slot}
use Rattle.ob_site_actions.proofs.Counting.{room_counts}
use Rattle.ob_site_actions.proofs.writing.write_if_changed.Goals as goal

pub write-requires-clause-counts : goal.write-requires-clause-counts
write-requires-clause-counts g c =
    let k = c.args.state.now in
    room_counts k.plan k.now k.time c.args.at.path.now c.args.head.now c.args.slot.now c.sound_law.ensures.sound.consistent.counted (sym (ap (same_slot c.args.slot.now) c.slot.ensures) ∙ sym c.same_slot.ensures ∙ c.if-same_slot.false) c.requires.room
