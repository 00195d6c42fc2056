use Rattle.std.proofs.Common.{List, ℕ, ◌<◌, ◌≤◌, ◌++◌, length, ap, ◌∙◌, take_all, arith}
use Rattle.ob_dialogue.specs.Printing.{line, items_text}
use Rattle.ob_dialogue.proofs.PartLemmas.{items_more, items_there}
use Rattle.ob_dialogue.proofs.lines.items.Goals as goal

pub unreachable-requires : goal.unreachable-requires
unreachable-requires c =
    let inside : c.loop-place.place < length c.args.mirror.now.held = omega (arith, c.loop-place-test.true, c.len-place-end.ensures) in
    items_there c.args.mirror.now.held c.loop-place.place inside c.in-None.ensures

pub loop-place-preserved : goal.loop-place-preserved
loop-place-preserved c =
    c.in_ok-line-in-Some.ensures ∙ ap (λ (t : List ℕ). t ++ line c.in-Some.object.now) c.loop-place.invariant
    ∙ items_more c.args.mirror.now.held c.loop-place.place c.in-Some.object.now c.in-Some.ensures

pub returns : goal.returns
returns c =
    let all : length c.args.mirror.now.held ≤ c.loop-place.place = omega (arith, c.loop-place-test.false, c.len-place-end.ensures) in
    c.loop-place.invariant ∙ ap items_text (take_all c.loop-place.place c.args.mirror.now.held all)
