use Rattle.std.proofs.Common.{◌≡◌, ◌+◌, ◌*◌, ◌<◌, ◌≤◌, ℕ, List, IsTrue, ◌++◌, map, set, length, get_or, sym, ap, ◌∙◌, subst, arith}
use Rattle.std.proofs.lemmas.Bool.Decides.{Decides-eqb}
use Rattle.std.proofs.lemmas.List.{length-map}
use Rattle.std.proofs.lemmas.List.Edits.{map_over_more}
use Rattle.ob_object.specs.Completed.{completed}
use Rattle.ob_object.specs.Fits.{fits_head}
use Rattle.ob_object.specs.declared.head.Head.{Head}
use Rattle.ob_object.specs.Object.{Object, Objects, in_row, in_row-listed, children, parts, count}
use Rattle.ob_object.specs.WellFormed.{NamesDiffer}
use Rattle.ob_contracts.specs.Inherit.{bare, missing}
use Rattle.ob_contracts.specs.Settings.{child_in, completed_in, sources_in}
use Rattle.ob_contracts.specs.Shown.{finish}
use Rattle.ob_contracts.proofs.Alone.{alone_completed}
use Rattle.ob_contracts.proofs.Becoming.{all_written, as_long, child_becomes, children_in, filled_in, given_back, none_written, read_here, whole_in, within}
use Rattle.ob_contracts.proofs.completing.+completing.Goals as goal

pub complete_each-complete-requires : goal.complete_each-complete-requires
complete_each-complete-requires t c =
    let xs = c.args.objects.now in
    let ys = c.loop-object.objects in
    let F = child_in c.args.setting c.args.own.now in
    let i = c.loop-object.object-index in
    let x = c.object-item.result in
    let long : length ys ≡ length xs = as_long F xs ys i (omega arith) c.loop-object.invariant in
    let lt : i < length xs = omega arith in
    let here : parts (get_or ys i x) ≤ count (in_row xs) =
    subst (λ (o : Object). parts o ≤ count (in_row xs)) c.object-item.is (within xs i x lt (read_here F xs ys i x lt c.loop-object.invariant c.object-item.is)) in
    (subst (λ (n : ℕ). 4 * parts (get_or ys i x) + 3 < n) c.decreases (omega (arith, here)), tt)

pub complete_each-loop-object-preserved : goal.complete_each-loop-object-preserved
complete_each-loop-object-preserved t c =
    let s = c.args.setting in
    let own = c.args.own.now in
    let xs = c.args.objects.now in
    let ys = c.loop-object.objects in
    let F = child_in s own in
    let i = c.loop-object.object-index in
    let x = c.object-item.result in
    let becomes : c.complete.new.object ≡ F x =
    child_becomes s own (get_or ys i x) c.complete.new.object c.uncounted-view.result c.uncounted-view.ensures.library c.uncounted-view.ensures.result_of c.uncounted-view.ensures.sources
    (c.in_ok-complete.ensures ∙ c.setting-below.ensures c.uncounted-view.result c.in_ok-handed.ensures c.uncounted-view.ensures.library)
    ∙ ap F (sym c.object-item.is) in
    ap (set ys i) becomes ∙ map_over_more F xs ys i x (omega arith) c.loop-object.invariant c.object-item.is

pub complete_each-returns : goal.complete_each-returns
complete_each-returns t c =
    all_written (child_in c.args.setting c.args.own.now) c.args.objects.now c.loop-object.objects c.loop-object.object-index (omega arith) c.loop-object.invariant

pub complete_each-returns-then-is_empty : goal.complete_each-returns-then-is_empty
complete_each-returns-then-is_empty t c =
    none_written (child_in c.args.setting c.args.own.now) c.args.objects.now ((Decides-eqb (length c.args.objects.now) 0).0 (sym c.is_empty.ensures ∙ c.if-is_empty.true))

pub complete_children-complete_each-requires : goal.complete_children-complete_each-requires
complete_children-complete_each-requires t c =
    let o = c.args.object.now in
    let xs = c.as_mut_slice.result.now in
    let same : count (in_row xs) ≡ count o.inner =
    ap (λ (os : List Object). count (in_row os)) (c.as_mut_slice.ensures.value ∙ c.take_children-children.ensures.children) ∙ ap count (in_row-listed o.inner) in
    (subst (λ (n : ℕ). 4 * count (in_row xs) + 4 < n) c.decreases (omega (arith, same)), tt)

pub complete_children-put_children-requires : goal.complete_children-put_children-requires
complete_children-put_children-requires t c =
    let s = c.args.setting in
    let o = c.args.object.now in
    let xs = c.as_mut_slice.result.now in
    let kept = c.take_children-children.result in
    let own : xs ≡ children o = c.as_mut_slice.ensures.value ∙ c.take_children-children.ensures.children in
    let became : c.complete_each.new.objects ≡ map (child_in s o) (children o) =
    c.in_ok-complete_each.ensures ∙ ap (λ (x : Object). map (child_in s x) xs) c.take_children-children.ensures.rest ∙ ap (map (child_in s o)) own in
    let long : length c.complete_each.new.objects ≡ length kept.items =
    ap length became ∙ length-map (children o) (child_in s o) ∙ sym (ap length c.take_children-children.ensures.children) in
    let all : c.in_ok-all.all.items ≡ children (completed_in s o) =
    c.in_ok-all.ensures
    ∙ ap (λ (l : List Object). l ++ c.args.inherited.items) (given_back kept.len c.complete_each.new.objects _ (long ∙ sym kept.ok.0) ∙ became)
    ∙ ap (λ (l : List Object). map (child_in s o) (children o) ++ l) c.requires
    ∙ sym (children_in s o) in
    subst NamesDiffer (sym all) c.know_differ.ensures

pub complete_children-returns : goal.complete_children-returns
complete_children-returns t c =
    let s = c.args.setting in
    let o = c.args.object.now in
    let xs = c.as_mut_slice.result.now in
    let kept = c.take_children-children.result in
    let own : xs ≡ children o = c.as_mut_slice.ensures.value ∙ c.take_children-children.ensures.children in
    let became : c.complete_each.new.objects ≡ map (child_in s o) (children o) =
    c.in_ok-complete_each.ensures ∙ ap (λ (x : Object). map (child_in s x) xs) c.take_children-children.ensures.rest ∙ ap (map (child_in s o)) own in
    let long : length c.complete_each.new.objects ≡ length kept.items =
    ap length became ∙ length-map (children o) (child_in s o) ∙ sym (ap length c.take_children-children.ensures.children) in
    let all : c.in_ok-all.all.items ≡ children (completed_in s o) =
    c.in_ok-all.ensures
    ∙ ap (λ (l : List Object). l ++ c.args.inherited.items) (given_back kept.len c.complete_each.new.objects _ (long ∙ sym kept.ok.0) ∙ became)
    ∙ ap (λ (l : List Object). map (child_in s o) (children o) ++ l) c.requires
    ∙ sym (children_in s o) in
    c.put_children.ensures
    ∙ ap (λ (x : Object). let y : Object = record { head = x.head; inner = in_row c.in_ok-all.all.items } in y) c.take_children-children.ensures.rest
    ∙ filled_in s o c.in_ok-all.all.items all

pub complete_parts-complete_children-requires : goal.complete_parts-complete_children-requires
complete_parts-complete_children-requires t c =
    (subst (λ (n : ℕ). 4 * parts c.args.object.now + 1 < n) c.decreases (omega arith), c.in_ok-inherited.ensures)

pub complete_parts-complete-requires : goal.complete_parts-complete-requires
complete_parts-complete-requires t c =
    let g = c.in_ok-given.given in
    subst (λ (h : Head). IsTrue (fits_head (completed h g))) (sym (ap (λ (o : Object). o.head) c.in_ok-complete_children.ensures))
    (subst (λ (h : Head). IsTrue (fits_head h)) (sym c.in_ok-given.ensures.completes) c.given_head.ensures.fits)

pub complete_parts-returns : goal.complete_parts-returns
complete_parts-returns t c =
    whole_in c.args.setting c.args.object.now c.complete_children.new.object c.complete.new.self c.in_ok-given.given c.in_ok-complete_children.ensures c.complete.ensures c.in_ok-given.ensures.completes

pub complete-returns-then-names_nothing : goal.complete-returns-then-names_nothing
complete-returns-then-names_nothing t c =
    let nothing = c.names_nothing.ensures c.if-names_nothing.true in
    c.put_default.ensures ∙ alone_completed c.args.setting c.args.object.now (c.is_empty.ensures.0 c.if-is_empty.true) nothing.0 nothing.1
