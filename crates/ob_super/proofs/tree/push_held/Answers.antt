use Rattle.std.proofs.Common.{◌<◌, ◌≤◌, ◌+◌, length, sym, subst, ◌∙◌, arith}
use Rattle.ob_object.specs.Object.{Object}
use Rattle.ob_super.specs.InHand as in_hand
use Rattle.ob_super.proofs.TreeLemmas.{IsPut, put_none, put_some, put_all}
use Rattle.ob_super.proofs.tree.push_held.Goals as goal
use Rattle.ob_super.proofs.tree.push_held.Goals.{in-Some+in_ok-push_last, in_default}

pub loop-place-preserved : goal.loop-place-preserved
loop-place-preserved c =
    let i = c.loop-place.place in
    let u = in_hand.upstream c.args.upstream.now in
    let held = c.args.mirror.now.held in
    let head = c.args.list.now.head in
    let inside : i < length c.args.upstream.now.hrefs.items = omega (arith, c.loop-place-test.true, c.len-place-end.ensures, c.args.upstream.now.hrefs.ok.0) in
    elim c.match-branch-2.branch [
      | in-Some+in_ok-push_last w ↦
          subst (λ (o : Object). IsPut u held head (i + 1) o) (sym w.list-is)
          (put_some u held head i c.loop-place.list w.push_last.new.self w.in-Some.copy inside (sym w.in-Some.is ∙ c.in_ok-copy.ensures) w.in_ok-push_last.ensures c.loop-place.invariant)
      | in_default w ↦
          subst (λ (o : Object). IsPut u held head (i + 1) o) (sym w.list-is)
          (put_none u held head i c.loop-place.list inside (sym w.in_default.is ∙ c.in_ok-copy.ensures) c.loop-place.invariant)
    ]

pub returns : goal.returns
returns c =
    let i = c.loop-place.place in
    let outside : length c.args.upstream.now.hrefs.items ≤ i = omega (arith, c.loop-place-test.false, c.len-place-end.ensures, c.args.upstream.now.hrefs.ok.0) in
    put_all (in_hand.upstream c.args.upstream.now) c.args.mirror.now.held c.args.list.now.head i c.loop-place.list outside c.loop-place.invariant
