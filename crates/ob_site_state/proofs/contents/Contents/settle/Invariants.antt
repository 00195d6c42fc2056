use Rattle.std.proofs.Common.{◌≡◌, take}
use Rattle.ob_site_state.specs.Changes.{settled_all}
use Rattle.ob_site_state.specs.Contents.{state_in, SameRest}
use Rattle.ob_site_state.proofs.contents.Contents.settle.Given as goal

abbrev pub invariant-loop-change : goal.invariant-loop-change
invariant-loop-change l = record {
  so_far : state_in l.self ≡ record (state_in l.fn.self) { logs = settled_all (take l.change-index l.found) (state_in l.fn.self).logs };
  rest : SameRest l.fn.self l.self;
}
