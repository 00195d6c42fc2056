use Rattle.ob_site_state.specs.Contents.{state_in}
use Rattle.ob_site_state.proofs.Rests.{rest_then}
use Rattle.ob_site_state.proofs.Settling.{placed_now, settled_next}
use Rattle.ob_site_state.proofs.contents.Contents.settle.Goals as goal

pub settle_by-requires : goal.settle_by-requires
settle_by-requires c =
    placed_now c.args.found.now (state_in c.args.self.now) (state_in c.loop-change.self) c.loop-change.change-index c.change-item.result c.requires c.loop-change-test.true c.change-item.is c.loop-change.invariant.so_far

pub loop-change-preserved : goal.loop-change-preserved
loop-change-preserved c = record {
  so_far = settled_next c.args.found.now (state_in c.args.self.now) (state_in c.loop-change.self) (state_in c.settle_by.new.self) c.loop-change.change-index c.change-item.result c.loop-change-test.true c.change-item.is c.loop-change.invariant.so_far c.settle_by.ensures.new;
  rest = rest_then c.args.self.now c.loop-change.self c.settle_by.new.self c.loop-change.invariant.rest c.settle_by.ensures.rest;
}
