use Rattle.std.proofs.Common.{◌-◌, length, get_or, refl, sym, ap}
use Rattle.std.specs.Str.{bytes_eq}
use Rattle.std.specs.BTreeMap.{get_by_text}
use Rattle.ob_site_rules.specs.declared.plan.PointRule.{PointRule}
use Rattle.ob_site_state.specs.Roles.{has_source}
use Rattle.ob_site_state.proofs.Placed.{placed_next}
use Rattle.ob_site_state.proofs.places.rules_by_source.Goals as goal

pub loop-done-preserved : goal.loop-done-preserved
loop-done-preserved c = λ p.
    let rs = c.args.rules.now in
    let place = length rs - 1 - c.loop-done.done in
    let x = c.index-rules-place.result in
    placed_next (has_source p) rs (length rs) c.loop-done.done place x (bytes_eq (get_or rs place x).source p) (get_by_text c.loop-done.places p) (get_by_text c.put_place.new.places p) refl refl c.loop-done-test.true c.index-rules-place.is
    (ap (λ (y : PointRule). bytes_eq y.source p) (sym c.index-rules-place.is)) (c.in_ok-put_place.ensures p) (c.loop-done.invariant p)
