use Rattle.std.proofs.Common.{◌<◌, length, get_or, decimal, sym, ◌∙◌, arith, []}
use Rattle.std.specs.Prelude.{bytes_eq, is_some}
use Rattle.ob_watching.specs.WatchOuts.{Text}
use Rattle.ob_client.specs.Mirrors.{found}
use Rattle.ob_super.specs.InHand as in_hand
use Rattle.ob_super.proofs.PlaceLemmas.{at_none, place_here, place_skip, get_same, and_false, false_and}
use Rattle.ob_super.proofs.supervisor.held_among.Goals as goal
use Rattle.ob_super.proofs.supervisor.held_among.Goals.{else-is_number-via-then-is_number+else-holds, else-is_number-via-else-is_number}

pub returns-in_default : goal.returns-in_default
returns-in_default c =
    at_none (in_hand.upstream c.args.upstream.now) c.args.mirror.now.held c.args.path.now 0 c.args.upstream.now.hrefs.items c.in_default.ensures

pub returns-then-holds : goal.returns-then-holds
returns-then-holds c =
    let i = c.loop-place.place in
    let inside : i < length c.args.upstream.now.hrefs.items = omega (arith, c.loop-place-test.true, c.len-place-end.ensures, c.args.upstream.now.hrefs.ok.0) in
    place_here (in_hand.upstream c.args.upstream.now) c.args.mirror.now.held c.args.path.now c.in-Some.rest.now i c.index.result.now c.in-Some.ensures inside c.index.ensures
    (sym c.is_number.ensures ∙ c.if-is_number.true) (sym c.holds.ensures ∙ c.if-holds.true) c.loop-place.invariant

pub loop-place-preserved : goal.loop-place-preserved
loop-place-preserved c =
    let i = c.loop-place.place in
    let u = in_hand.upstream c.args.upstream.now in
    let held = c.args.mirror.now.held in
    let rest = c.in-Some.rest.now in
    let inside : i < length c.args.upstream.now.hrefs.items = omega (arith, c.loop-place-test.true, c.len-place-end.ensures, c.args.upstream.now.hrefs.ok.0) in
    let none : Text = [] in
    let href = get_or c.args.upstream.now.hrefs.items i none in
    elim c.else-is_number.branch [
      | else-is_number-via-then-is_number+else-holds w ↦
          place_skip u held c.args.path.now rest i w.index.result.now c.in-Some.ensures inside w.index.ensures
          (and_false (bytes_eq (decimal i) rest) (is_some (found w.index.result.now held)) (sym w.holds.ensures ∙ w.if-holds.false)) c.loop-place.invariant
      | else-is_number-via-else-is_number w ↦
          place_skip u held c.args.path.now rest i href c.in-Some.ensures inside (get_same c.args.upstream.now.hrefs.items i none href inside)
          (false_and (bytes_eq (decimal i) rest) (is_some (found href held)) (sym c.is_number.ensures ∙ w.if-is_number.false)) c.loop-place.invariant
    ]
