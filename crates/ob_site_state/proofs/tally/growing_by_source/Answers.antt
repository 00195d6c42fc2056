use Rattle.std.proofs.Common.{◌≡◌, ◌+◌, ◌&&◌, ℕ, cond, take, Option, Some, None, sym, ap, ◌∙◌, subst, arith}
use Rattle.std.proofs.lemmas.List.{length-take}
use Rattle.std.specs.Prelude.{slice_get, slice_index_or, is_none}
use Rattle.ob_site_rules.specs.Build.{Path}
use Rattle.ob_site_state.specs.Roles.{is_of}
use Rattle.ob_site_state.proofs.Growing.{growing_next, growing_within, there_at}
use Rattle.ob_site_state.proofs.tally.growing_by_source.Goals as goal

pub put_growing-requires : goal.put_growing-requires
put_growing-requires c = λ p.
    let hs = take c.loop-place.place c.args.histories.now in
    let cs = take c.loop-place.place c.args.capacities.now in
    omega (arith, c.loop-place.invariant p, growing_within p hs cs, length-take c.loop-place.place c.args.histories.now, c.loop-place-test.true)

pub loop-place-preserved : goal.loop-place-preserved
loop-place-preserved c = λ p.
    let hs = c.args.histories.now in
    let cs = c.args.capacities.now in
    let i = c.loop-place.place in
    let x = c.index-histories-place.result in
    let d : Option ℕ = slice_index_or cs i None in
    let here : slice_get hs i ≡ Some x = subst (λ (y : Path × Option Path). slice_get hs i ≡ Some y) (sym c.index-histories-place.is) (there_at hs i x c.loop-place-test.true) in
    let there : slice_get cs i ≡ Some d = there_at cs i None (omega (arith, c.requires, c.loop-place-test.true)) in
    c.in_ok-put_growing.ensures p
    ∙ ap (λ (n : ℕ). n + cond (is_of p x && is_none d) 1 0) (c.loop-place.invariant p)
    ∙ sym (growing_next p hs cs i x d here there)
