use Rattle.std.proofs.Common.{◌≡◌, ◌+◌, ◌*◌, ◌<◌, ◌≤◌, ℕ, List, ◌++◌, map, set, length, get_or, refl, sym, ap, ◌∙◌, subst, arith}
use Rattle.std.proofs.lemmas.List.{length-map}
use Rattle.std.proofs.lemmas.List.Edits.{map_over_more}
use Rattle.ob_object.specs.Object.{Object, Objects, node, none, in_row, in_row-listed, listed-in_row, children, parts, count}
use Rattle.std.specs.Option.{option_copied}
use Rattle.ob_object.specs.Paths.{node_path}
use Rattle.ob_object.specs.declared.head.Head.{Head}
use Rattle.ob_site_rules.specs.Shown.{derived, with_status}
use Rattle.ob_contracts.proofs.Becoming.{all_written, as_long, given_back, read_here, within}
use Rattle.ob_shown_laws.specs.Own.{derived_own}
use Rattle.ob_plain_state.specs.States.{NamesAreFree}
use Rattle.ob_plain_state.specs.Dressed.{dressed_object}
use Rattle.ob_plain_state.proofs.Dresses.{dressed_differ, dressed_from, free_in}
use Rattle.ob_site_reads.proofs.dressing.+dressing.Goals as goal

pub dress_each-dress-requires : goal.dress_each-dress-requires
dress_each-dress-requires t c =
    let plan = c.args.state.now.plan in
    let s = c.args.state.now.now in
    let F = derived_own plan s in
    let xs = c.args.objects.now in
    let ys = c.loop-object.objects in
    let i = c.loop-object.object-index in
    let x = c.object-item.result in
    let y = get_or ys i x in
    let long : length ys ≡ length xs = as_long F xs ys i (omega arith) c.loop-object.invariant in
    let lt : i < length xs = omega arith in
    let is : x ≡ get_or xs i x = read_here F xs ys i x lt c.loop-object.invariant c.object-item.is in
    let here : parts y ≤ count (in_row xs) = subst (λ (o : Object). parts o ≤ count (in_row xs)) c.object-item.is (within xs i x lt is) in
    let same = listed-in_row xs in
    let free : NamesAreFree plan s (node y.head y.inner none) =
    subst (λ (o : Object). NamesAreFree plan s (node o.head o.inner none)) c.object-item.is
    (free_in plan s (in_row xs) i x c.requires (subst (λ (l : List Object). i < length l) (sym same) lt) (subst (λ (l : List Object). x ≡ get_or l i x) (sym same) is)) in
    (subst (λ (n : ℕ). 2 * parts y < n) c.decreases (omega (arith, here)), free)

pub dress_each-loop-object-preserved : goal.dress_each-loop-object-preserved
dress_each-loop-object-preserved t c =
    let F = derived_own c.args.state.now.plan c.args.state.now.now in
    let ys = c.loop-object.objects in
    let i = c.loop-object.object-index in
    ap (set ys i) (c.in_ok-dress.ensures ∙ ap F (sym c.object-item.is))
    ∙ map_over_more F c.args.objects.now ys i c.object-item.result (omega arith) c.loop-object.invariant c.object-item.is

pub dress_each-returns : goal.dress_each-returns
dress_each-returns t c =
    all_written (derived_own c.args.state.now.plan c.args.state.now.now) c.args.objects.now c.loop-object.objects c.loop-object.object-index (omega arith) c.loop-object.invariant

pub dress-dress_each-requires : goal.dress-dress_each-requires
dress-dress_each-requires t c =
    let plan = c.args.state.now.plan in
    let s = c.args.state.now.now in
    let o = c.args.object.now in
    let xs = c.as_mut_slice.result.now in
    let same : in_row xs ≡ o.inner = ap in_row (c.as_mut_slice.ensures.value ∙ c.take_children-children.ensures.children) ∙ in_row-listed o.inner in
    let free : NamesAreFree plan s (in_row xs) = subst (NamesAreFree plan s) (sym same) c.requires.1 in
    (subst (λ (n : ℕ). 2 * count (in_row xs) + 1 < n) c.decreases (omega (arith, ap count same)), free)

pub dress-put_children-requires : goal.dress-put_children-requires
dress-put_children-requires t c =
    let plan = c.args.state.now.plan in
    let s = c.args.state.now.now in
    let o = c.args.object.now in
    let F = dressed_object plan s in
    let xs = c.as_mut_slice.result.now in
    let kept = c.take_children-children.result in
    let rest = c.take_children-children.ensures.rest in
    let became : c.dress_each.new.objects ≡ map F (children o) =
    c.in_ok-dress_each.ensures ∙ ap (map F) (c.as_mut_slice.ensures.value ∙ c.take_children-children.ensures.children) in
    let long : length c.dress_each.new.objects ≡ length kept.items =
    ap length became ∙ length-map (children o) F ∙ sym (ap length c.take_children-children.ensures.children) in
    let path : option_copied c.node_path.result ≡ node_path o.head = c.node_path.ensures ∙ ap node_path (c.head.ensures.value ∙ ap (λ (x : Object). x.head) rest) in
    let all : c.in_ok-all.all.items ≡ map F (children o) ++ derived plan s (node_path o.head) =
    c.in_ok-all.ensures
    ∙ ap (λ (l : List Object). l ++ c.in_ok-derived.derived.items) (given_back kept.len c.dress_each.new.objects _ (long ∙ sym kept.ok.0) ∙ became)
    ∙ ap (λ (l : List Object). map F (children o) ++ l) (c.in_ok-derived.ensures ∙ ap (derived plan s) path) in
    dressed_differ plan s o c.in_ok-all.all.items c.requires all

pub dress-returns : goal.dress-returns
dress-returns t c =
    let plan = c.args.state.now.plan in
    let s = c.args.state.now.now in
    let o = c.args.object.now in
    let F = dressed_object plan s in
    let xs = c.as_mut_slice.result.now in
    let kept = c.take_children-children.result in
    let rest = c.take_children-children.ensures.rest in
    let became : c.dress_each.new.objects ≡ map F (children o) =
    c.in_ok-dress_each.ensures ∙ ap (map F) (c.as_mut_slice.ensures.value ∙ c.take_children-children.ensures.children) in
    let long : length c.dress_each.new.objects ≡ length kept.items =
    ap length became ∙ length-map (children o) F ∙ sym (ap length c.take_children-children.ensures.children) in
    let path : option_copied c.node_path.result ≡ node_path o.head = c.node_path.ensures ∙ ap node_path (c.head.ensures.value ∙ ap (λ (x : Object). x.head) rest) in
    let all : c.in_ok-all.all.items ≡ map F (children o) ++ derived plan s (node_path o.head) =
    c.in_ok-all.ensures
    ∙ ap (λ (l : List Object). l ++ c.in_ok-derived.derived.items) (given_back kept.len c.dress_each.new.objects _ (long ∙ sym kept.ok.0) ∙ became)
    ∙ ap (λ (l : List Object). map F (children o) ++ l) (c.in_ok-derived.ensures ∙ ap (derived plan s) path) in
    dressed_from plan s o c.put_children.new.self (with_status plan s o.head) c.in_ok-all.all.items
    (c.put_children.ensures
    ∙ ap (λ (x : Object). let y : Object = record { head = x.head; inner = in_row c.in_ok-all.all.items } in y)
    (c.put_status.ensures ∙ ap (λ (x : Object). let y : Object = record { head = with_status plan s x.head; inner = x.inner } in y) rest))
    refl all
