use Rattle.std.proofs.Common.{◌≡◌, ◌<◌, ℕ, List, Some, None, true, false, length, get_or, map, take, sym, ap, ◌∙◌}
use Rattle.std.specs.Prelude.{is_some, String}
use Rattle.std.proofs.Common.{Global}
use Rattle.std.specs.BTreeMap.{BTreeMap, get_by_text}
use Rattle.ob_object.specs.Paths.{node_path}
use Rattle.ob_tree.specs.Paths.{is_twice}
use Rattle.ob_tree.specs.Laid.{said}
use Rattle.ob_tree.proofs.Leaves.{said_below, said_or}
use Rattle.ob_tree.proofs.Placed.{put_more, skip_more, twice_if_known, twice_next, twice_here}
use Rattle.ob_tree.proofs.laying.places_of.Goals as goal
use Rattle.ob_tree.proofs.laying.places_of.Goals.{in-Some+else-is_known+in_ok-put_place, in_default}

abbrev Places : Type 0
Places = BTreeMap (String Global) ℕ

pub loop-place-preserved : goal.loop-place-preserved
loop-place-preserved c =
    let hs = said c.args.leaves.now in
    let i = c.loop-place.place in
    let y = c.index-leaves-place.result in
    let x = y.head in
    let at : i < length hs = said_below c.args.leaves.now i c.loop-place-test.true in
    let is : x ≡ get_or hs i x = said_or c.args.leaves.now i y c.loop-place-test.true c.index-leaves-place.is in
    let old = c.loop-place.invariant in
    elim c.match-node_path.branch [
      | in-Some+else-is_known+in_ok-put_place w ↦ let key = w.in-Some.path.now in
          let k : Some key ≡ node_path x = w.in-Some.ensures ∙ ap node_path c.head.ensures.value in
          let absent : is_some (get_by_text c.loop-place.places key) ≡ false = sym w.is_known.ensures ∙ w.if-is_known.false in
          record {
            found = λ p. ap (λ (t : Places). get_by_text t p) w.places-is
                ∙ put_more hs i x key (λ q. get_by_text c.loop-place.places q) (λ q. get_by_text w.put_place.new.places q) at is k absent old.found w.in_ok-put_place.ensures p;
            rest = twice_next hs i x _ at is (twice_if_known hs i x key (λ q. get_by_text c.loop-place.places q) false k old.found (sym absent)) old.rest;
          }
      | in_default w ↦ let k : None ≡ node_path x = w.in_default.ensures ∙ ap node_path c.head.ensures.value in
          record {
            found = λ p. ap (λ (t : Places). get_by_text t p) w.places-is ∙ skip_more hs i x (λ q. get_by_text c.loop-place.places q) at is k old.found p;
            rest = twice_next hs i x _ at is (ap (is_twice (map node_path (take i hs))) (sym k)) old.rest;
          }
    ]

pub returns-then-is_known : goal.returns-then-is_known
returns-then-is_known c =
    let hs = said c.args.leaves.now in
    let i = c.loop-place.place in
    let y = c.index-leaves-place.result in
    let x = y.head in
    let k : Some c.in-Some.path.now ≡ node_path x = c.in-Some.ensures ∙ ap node_path c.head.ensures.value in
    let there : true ≡ is_some (get_by_text c.loop-place.places c.in-Some.path.now) = sym c.if-is_known.true ∙ c.is_known.ensures in
    twice_here hs i x _ (said_below c.args.leaves.now i c.loop-place-test.true) (said_or c.args.leaves.now i y c.loop-place-test.true c.index-leaves-place.is) (twice_if_known hs i x c.in-Some.path.now (λ q. get_by_text c.loop-place.places q) true k c.loop-place.invariant.found there) c.loop-place.invariant.rest
    ∙ sym k
    ∙ ap (λ (t : List ℕ). Some t) (sym c.in_ok-path.ensures)
