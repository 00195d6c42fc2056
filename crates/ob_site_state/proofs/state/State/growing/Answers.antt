use Rattle.std.proofs.Common.{ℕ, List, Option, sym, ap, ◌∙◌}
use Rattle.ob_site_state.specs.Kept.{Kept}
use Rattle.ob_site_state.specs.Tallies.{capacities_of, growing_in}
use Rattle.ob_site_state.proofs.state.State.growing.Goals as goal

pub returns : goal.returns
returns c =
    let a = c.self.inside in
    let p = c.args.source.now in
    c.count_at.ensures
    ∙ c.self.invariant.growing p
    ∙ ap (λ (cs : List (Option ℕ)). growing_in p a.plan.histories cs) (sym c.self.invariant.tallied.capacities)
    ∙ ap (λ (k : Kept). growing_in p k.plan.histories (capacities_of k.now.logs)) c.self.view_is
