use Rattle.std.proofs.Common.{sym, ap, ◌∙◌}
use Rattle.ob_site_rules.specs.Shown.{rule_of}
use Rattle.ob_site_state.specs.Kept.{Kept}
use Rattle.ob_site_state.proofs.state.State.rule_of.Goals as goal

pub returns-in-Some : goal.returns-in-Some
returns-in-Some c =
    sym c.in-Some.is ∙ c.rule_of.ensures c.self.inside.plan c.self.invariant.roles ∙ ap (λ (k : Kept). rule_of k.plan c.args.source.now) c.self.view_is

pub returns-in-None : goal.returns-in-None
returns-in-None c =
    sym c.in-None.is ∙ c.rule_of.ensures c.self.inside.plan c.self.invariant.roles ∙ ap (λ (k : Kept). rule_of k.plan c.args.source.now) c.self.view_is
