use Rattle.std.proofs.Common.{◌∙◌}
use Rattle.ob_site_actions.proofs.Selected.{growing_is}
use Rattle.ob_site_actions.proofs.limits.growing.Goals as goal

pub returns : goal.returns
returns c =
    let k = c.args.state.now in
    c.growing.ensures ∙ growing_is k.plan c.args.source.now k.now.logs c.sound_law.ensures.apart c.sound_law.ensures.histories
