use Rattle.std.proofs.Common.{◌-◌, Option, length, get_or, refl, sym, ap}
use Rattle.std.specs.Str.{bytes_eq}
use Rattle.std.specs.BTreeMap.{get_by_text}
use Rattle.ob_site_rules.specs.Build.{Path}
use Rattle.ob_site_state.specs.Roles.{stands_at}
use Rattle.ob_site_state.proofs.Placed.{placed_next}
use Rattle.ob_site_state.proofs.places.histories_by_path.Goals as goal

pub loop-done-preserved : goal.loop-done-preserved
loop-done-preserved c = λ p.
    let xs = c.args.histories.now in
    let place = length xs - 1 - c.loop-done.done in
    let x = c.index-histories-place.result in
    placed_next (stands_at p) xs (length xs) c.loop-done.done place x (bytes_eq (get_or xs place x).0 p) (get_by_text c.loop-done.places p) (get_by_text c.put_place.new.places p) refl refl c.loop-done-test.true c.index-histories-place.is
    (ap (λ (y : Path × Option Path). bytes_eq y.0 p) (sym c.index-histories-place.is)) (c.in_ok-put_place.ensures p) (c.loop-done.invariant p)
