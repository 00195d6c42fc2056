use Rattle.std.proofs.Common.{Option, sym, ap, ◌∙◌}
use Rattle.std.specs.Prelude.{unwrap_or}
use Rattle.ob_object.specs.Object.{Object}
use Rattle.ob_site_rules.specs.Build.{nameless}
use Rattle.ob_site_actions.proofs.own.own_reply.Goals as goal

pub returns : goal.returns
returns g c = λ p d at. c.nameless.ensures ∙ ap (λ (q : Option Object). nameless (unwrap_or q d)) (sym (c.in_ok-shown.ensures.shows p at))
