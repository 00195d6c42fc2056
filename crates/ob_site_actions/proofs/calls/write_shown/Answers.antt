use Rattle.std.proofs.Common.{sym, ◌∙◌}
use Rattle.ob_site_actions.proofs.Pointed.{not_hidden}
use Rattle.ob_site_actions.proofs.Valued.{points_have_values}
use Rattle.ob_site_actions.proofs.calls.write_shown.Goals as goal

pub unreachable-requires : goal.unreachable-requires
unreachable-requires g c = not_hidden c.args.state.now.plan c.args.state.now.now c.args.point.now c.in_ok-target.field-0 c.sound_law.ensures.sound.consistent c.requires c.in_ok-target.ensures c.in-None.is

pub write_by-requires-clause-records : goal.write_by-requires-clause-records
write_by-requires-clause-records g c = λ history has.
    points_have_values c.args.state.now.plan c.args.state.now.now c.sound_law.ensures.sound.consistent c.sound_law.ensures.sound.paths_differ c.sound_law.ensures.sound.roles.values c.args.point.now history c.in-Some.target c.requires has
    (sym c.in_ok-target.ensures ∙ c.in-Some.is)
