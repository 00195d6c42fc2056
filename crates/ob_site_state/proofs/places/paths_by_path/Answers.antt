use Rattle.std.proofs.Common.{◌-◌, length, refl}
use Rattle.std.specs.Str.{bytes_eq}
use Rattle.std.specs.BTreeMap.{get_by_text}
use Rattle.ob_site_rules.specs.Build.{Path}
use Rattle.ob_site_state.specs.Roles.{is_at}
use Rattle.ob_site_state.proofs.Placed.{placed_next}
use Rattle.ob_site_state.proofs.places.paths_by_path.Goals as goal

pub loop-done-preserved : goal.loop-done-preserved
loop-done-preserved c = λ p.
    let xs = c.args.paths.now in
    let place = length xs - 1 - c.loop-done.done in
    let x = c.index-paths-place.result in
    placed_next (is_at p) xs (length xs) c.loop-done.done place x (bytes_eq x p) (get_by_text c.loop-done.places p) (get_by_text c.put_place.new.places p) refl refl c.loop-done-test.true c.index-paths-place.is
    refl (c.in_ok-put_place.ensures p) (c.loop-done.invariant p)
