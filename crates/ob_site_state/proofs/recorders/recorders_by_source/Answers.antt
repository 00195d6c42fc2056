use Rattle.std.proofs.Common.{ap, ◌∙◌}
use Rattle.ob_site_state.specs.Roles.{is_of, places_at}
use Rattle.ob_site_state.proofs.Placed.{places_next}
use Rattle.ob_site_state.proofs.recorders.recorders_by_source.Goals as goal

pub loop-place-preserved : goal.loop-place-preserved
loop-place-preserved c = λ p.
    let hs = c.args.histories.now in
    let x = c.index-histories-place.result in
    places_next (is_of p) hs c.loop-place.place x (places_at c.loop-place.places p) (places_at c.put_recorder.new.places p) c.loop-place-test.true c.index-histories-place.is (c.in_ok-put_recorder.ensures p) (c.loop-place.invariant p)
