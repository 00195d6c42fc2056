use Rattle.std.proofs.Common.{arith}
use Rattle.ob_site_state.specs.Contents.{state_in}
use Rattle.ob_site_state.proofs.Noting.{begun}
use Rattle.ob_site_state.proofs.state.State.begin.Goals as goal

pub invariant_of-self : goal.invariant_of-self
invariant_of-self c =
    let a = c.self.inside in record {
      kept = begun a.plan a.time c.later-self-inside.result (state_in a.contents) a.contents.board a.since a.found.items c.self.invariant.kept (omega (arith, c.later-self-inside.ensures));
      tallied = c.self.invariant.tallied;
      growing = c.self.invariant.growing;
      roles = c.self.invariant.roles;
      bound = c.self.invariant.bound;
      bound_before = c.self.invariant.bound_before;
    }
