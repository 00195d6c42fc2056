use Rattle.std.proofs.Common.{◌<◌, ◌≤◌, map, length, refl, sym, ap, ◌∙◌, arith}
use Rattle.std.proofs.lemmas.List.{length-map}
use Rattle.std.proofs.lemmas.Option.{slice_get-map}
use Rattle.ob_site_rules.specs.Build.{Path}
use Rattle.ob_site_rules.specs.declared.plan.Plan.{Plan}
use Rattle.ob_site_rules.specs.State.{Log}
use Rattle.ob_site_same.proofs.Alike.{alike_all, alike_more, alike_pairs}
use Rattle.ob_site_same.proofs.state.same_logs.Goals as goal

pub loop-place-preserved : goal.loop-place-preserved
loop-place-preserved c =
    let second : Path × Log → Log = λ l. l.1 in
    let xs = c.args.state.now.now.logs in
    let ys = c.args.other.now.now.logs in
    let place = c.loop-place.place in
    let test = c.loop-place-test.true in
    let within : place < length (map second xs) = omega (arith, test, c.histories-place-end.ensures, length-map xs second) in
    let within_too : place < length (map second ys) = omega (arith, test, c.histories-place-end.ensures, c.histories.ensures, c.histories-2.ensures, c.if-histories.false, length-map ys second) in
    alike_more (map second xs) (map second ys) place c.loop-place.invariant within within_too
    (slice_get-map second xs place ∙ c.same_log.ensures.0 c.if-not-same_log.false ∙ sym (slice_get-map second ys place))

pub returns : goal.returns
returns c = λ planned.
    let second : Path × Log → Log = λ l. l.1 in
    let xs = c.args.state.now.now.logs in
    let ys = c.args.other.now.now.logs in
    let test = c.loop-place-test.false in
    let few : length (map second xs) ≤ c.loop-place.place = omega (arith, test, c.histories-place-end.ensures, length-map xs second) in
    let few_too : length (map second ys) ≤ c.loop-place.place = omega (arith, test, c.histories-place-end.ensures, c.histories.ensures, c.histories-2.ensures, c.if-histories.false, length-map ys second) in (
      λ _. alike_pairs xs ys
          (c.sound_law.ensures.histories ∙ ap (λ (p : Plan). map (λ h. h.0) p.histories) planned ∙ sym c.sound_law-2.ensures.histories)
          (alike_all (map second xs) (map second ys) c.loop-place.place c.loop-place.invariant few few_too),
      λ _. refl,
    )
