use Rattle.std.proofs.Common.{◌≡◌, ◌+◌, ◌-◌, ◌<◌, ◌≤◌, ℕ, List, ◌++◌, Option, Some, drop, length, get_or, refl, sym, ap, ap₂, ◌∙◌, subst}
use Rattle.std.specs.Prelude.{slice_get}
use Rattle.std.specs.Option.{option_copied}
use Rattle.std.proofs.lemmas.Result.{IfOk-weaker}
use Rattle.ob_object.specs.declared.head.Head.{Head}
use Rattle.ob_object.specs.Object.{Object, parts, children, count, in_row, listed}
use Rattle.ob_object.specs.Paths.{node_path}
use Rattle.ob_contracts.specs.Found.{found, lent}
use Rattle.ob_contracts.specs.Inherit.{Contracts, Words, or_else, sources, inherited_head, implied_by, overridden, result_of, missing}
use Rattle.ob_contracts.specs.Telling.{TellTheSame}
use Rattle.ob_contracts.proofs.At.{fewer_parts}
use Rattle.ob_contracts.proofs.Bare.{child_here}
use Rattle.ob_hrefs.proofs.Rows.{row_more, row_past, inner_row}
use Rattle.ob_site_rules.specs.Shown.{derived, with_roles}
use Rattle.ob_site_rules.specs.State.{State}
use Rattle.ob_site_rules.specs.declared.plan.Plan.{Plan}
use Rattle.ob_site_file.specs.Sizes.{row_count, dressed_at}
use Rattle.ob_site_file.proofs.Sizes.{left_one, left_next, none_left, all_left, dressed_one, dressed_parts}
use Rattle.ob_site_file.proofs.size.+left_after_shown.Goals as goal

pub left_after_shown-requires : goal.left_after_shown-requires
left_after_shown-requires t c =
    let o = c.args.placed.object.now in
    let i = c.loop-child.child-index in
    let x = c.child-item.result in
    let here : Some x ≡ slice_get (children o) i = child_here o x _ _ c.children-child-items.ensures.value c.loop-child-test.true c.child-item.is in
    (subst (λ (n : ℕ). parts x < n) c.decreases (fewer_parts o i x here), tt)

-- the sources of an object, as they were found
from_is : (lib own : Contracts) (o : Object) (h : Head) (implied : Option Words) (over : Option Object) (fs gs : List Object) → gs ≡ fs → fs ≡ sources own h implied over → own ≡ lib → h ≡ o.head → gs ≡ sources lib o.head implied over
from_is lib own o h implied over fs gs e f g same = e ∙ f ∙ ap (λ (l : Contracts). sources l h implied over) g ∙ ap (λ (k : Head). sources lib k implied over) same

-- what is left behind one child more
module _ (most : ℕ) (lib : Contracts) (plan : Plan) (s : State) (o : Object) (implied : Option Words) (over : Option Object) where
  abbrev F : List Object
  F = sources lib o.head implied over

  abbrev G : Option Words
  G = implied_by (inherited_head o.head F)

  step : (all : List Object) (i left next : ℕ) (x : Object) → i < length all → x ≡ get_or all i x → next ≡ left - parts (result_of lib (dressed_at plan s x) G (overridden x.head.name F))
      → left - row_count lib G F (with_roles plan s (in_row (drop i all))) ≡ most - (1 + row_count lib G F (with_roles plan s (in_row all)))
      → next - row_count lib G F (with_roles plan s (in_row (drop (i + 1) all))) ≡ most - (1 + row_count lib G F (with_roles plan s (in_row all)))
  step all i left next x h is one p =
      let rest = in_row (drop (i + 1) all) in
      left_next left next (parts (result_of lib (dressed_at plan s x) G (overridden x.head.name F))) (row_count lib G F (with_roles plan s rest)) (row_count lib G F (with_roles plan s (in_row (drop i all))))
      (most - (1 + row_count lib G F (with_roles plan s (in_row all))))
      (ap (λ r. row_count lib G F (with_roles plan s r)) (row_more all i x h is) ∙ dressed_one lib G F plan s x rest) one p

  -- nothing is left of the limit
  over_limit : (all : List Object) (i left : ℕ) → all ≡ children o → left ≡ 0 → left - row_count lib G F (with_roles plan s (in_row (drop i all))) ≡ most - (1 + row_count lib G F (with_roles plan s (in_row all)))
      → 0 ≡ most - parts (result_of lib (dressed_at plan s o) implied over)
  over_limit all i left same h p =
      none_left most left (row_count lib G F (with_roles plan s (in_row (drop i all)))) (row_count lib G F (with_roles plan s o.inner)) (row_count lib G F (in_row (derived plan s (node_path o.head))))
      (count (in_row (missing (listed (with_roles plan s o.inner) ++ derived plan s (node_path o.head)) F))) h
      (p ∙ ap (λ r. most - (1 + row_count lib G F (with_roles plan s r))) (inner_row o all same))
      ∙ ap (λ (m : ℕ). most - m) (sym (dressed_parts lib plan s o implied over))

  whole : (all : List Object) (i left end : ℕ) → all ≡ children o → length all ≤ i
      → end ≡ left - (row_count lib G F (in_row (derived plan s (node_path o.head))) + count (in_row (missing (listed (with_roles plan s o.inner) ++ derived plan s (node_path o.head)) F)))
      → left - row_count lib G F (with_roles plan s (in_row (drop i all))) ≡ most - (1 + row_count lib G F (with_roles plan s (in_row all)))
      → end ≡ most - parts (result_of lib (dressed_at plan s o) implied over)
  whole all i left end same h more p =
      all_left most left end (row_count lib G F (with_roles plan s (in_row (drop i all)))) (row_count lib G F (with_roles plan s o.inner)) (row_count lib G F (in_row (derived plan s (node_path o.head))))
      (count (in_row (missing (listed (with_roles plan s o.inner) ++ derived plan s (node_path o.head)) F)))
      (ap (λ r. row_count lib G F (with_roles plan s r)) (row_past all i h)) more
      (p ∙ ap (λ r. most - (1 + row_count lib G F (with_roles plan s r))) (inner_row o all same))
      ∙ ap (λ (m : ℕ). most - m) (sym (dressed_parts lib plan s o implied over))

-- words that tell a child the same leave the same
as_told : (lib own : Contracts) (plan : Plan) (s : State) (x : Object) (given told gives : Option Words) (below : Option Object) (left n : ℕ) → own ≡ lib → given ≡ or_else told gives → TellTheSame own (or_else told gives) gives
    → n ≡ left - parts (result_of lib (dressed_at plan s x) given below) → n ≡ left - parts (result_of lib (dressed_at plan s x) gives below)
as_told lib own plan s x given told gives below left n e is same p =
    p ∙ ap (λ (w : Option Words). left - parts (result_of lib (dressed_at plan s x) w below)) is
    ∙ ap (λ (o : Object). left - parts o) (subst (λ (l : Contracts). TellTheSame l (or_else told gives) gives) e same (dressed_at plan s x) below)

-- what the next child inherits from
under : (lib own : Contracts) (plan : Plan) (s : State) (o x : Object) (h : Head) (implied gives : Option Words) (over below : Option Object) (fs : List Object) (left n : ℕ) → own ≡ lib → h ≡ o.head → fs ≡ sources lib o.head implied over
    → gives ≡ implied_by (inherited_head h fs) → below ≡ overridden x.head.name fs → n ≡ left - parts (result_of lib (dressed_at plan s x) gives below)
    → n ≡ left - parts (result_of lib (dressed_at plan s x) (implied_by (inherited_head o.head (sources lib o.head implied over))) (overridden x.head.name (sources lib o.head implied over)))
under lib own plan s o x h implied gives over below fs left n e same there g b p =
    p ∙ ap₂ (λ (v : Option Words) (w : Option Object). left - parts (result_of lib (dressed_at plan s x) v w))
    (g ∙ ap₂ (λ (k : Head) (l : List Object). implied_by (inherited_head k l)) same there) (b ∙ ap (λ (l : List Object). overridden x.head.name l) there)

pub loop-child-init : goal.loop-child-init
loop-child-init t c = λ plan s k.
    let lib = s.library in
    let h = c.args.placed.object.now.head in
    let F = sources lib h (option_copied c.args.placed.implied) (option_copied c.args.placed.over) in
    left_one c.args.most c.saturating_sub-left.result (row_count lib (implied_by (inherited_head h F)) F (with_roles plan s (in_row c.children-child-items.result.now))) c.saturating_sub-left.ensures

pub loop-child-preserved : goal.loop-child-preserved
loop-child-preserved t c = λ plan s k.
    let o = c.args.placed.object.now in
    let lib = s.library in
    let own = c.args.counting.now.library.now in
    let h = c.head-head.result.now in
    let implied = option_copied c.args.placed.implied in
    let over = option_copied c.args.placed.over in
    let x = c.child-item.result in
    let fs = lent c.in_ok-from.from.items in
    let there : fs ≡ sources lib o.head implied over = from_is lib own o h implied over fs fs refl c.in_ok-from.ensures k.library c.head-head.ensures.value in
    let names : (n : List ℕ) → found c.in_ok-names.names n ≡ overridden (Some n) fs = λ n. c.in_ok-names.ensures n ∙ ap (λ (l : List Object). overridden (Some n) l) (ap lent c.as_slice-2.ensures.value) in
    let below : option_copied c.find_over.result ≡ overridden x.head.name fs = c.find_over.ensures fs names ∙ ap (λ (j : Head). overridden j.name fs) c.head.ensures.value in
    let gives : option_copied c.implied_by-gives.result ≡ implied_by (inherited_head h fs) = c.implied_by-gives.ensures ∙ ap (λ (l : List Object). implied_by (inherited_head h l)) (ap lent c.as_slice.ensures.value) in
    step c.args.most lib plan s o implied over c.children-child-items.result.now c.loop-child.child-index c.loop-child.left c.in_ok-left.left x c.loop-child-test.true c.child-item.is
    (under lib own plan s o x h implied (option_copied c.implied_by-gives.result) over (option_copied c.find_over.result) fs c.loop-child.left c.in_ok-left.left k.library c.head-head.ensures.value there gives below
    (as_told lib own plan s x (option_copied c.told_by-given.result) c.in_ok-told.told (option_copied c.implied_by-gives.result) (option_copied c.find_over.result) c.loop-child.left c.in_ok-left.left k.library c.told_by-given.ensures c.in_ok-told.ensures (c.in_ok-left.ensures plan s k)))
    (c.loop-child.invariant plan s k)

pub returns-then-left-eq0 : goal.returns-then-left-eq0
returns-then-left-eq0 t c = λ plan s k.
    let o = c.args.placed.object.now in
    let lib = s.library in
    let own = c.args.counting.now.library.now in
    let h = c.head-head.result.now in
    let implied = option_copied c.args.placed.implied in
    let over = option_copied c.args.placed.over in
    let x = c.child-item.result in
    let fs = lent c.in_ok-from.from.items in
    let there : fs ≡ sources lib o.head implied over = from_is lib own o h implied over fs fs refl c.in_ok-from.ensures k.library c.head-head.ensures.value in
    let names : (n : List ℕ) → found c.in_ok-names.names n ≡ overridden (Some n) fs = λ n. c.in_ok-names.ensures n ∙ ap (λ (l : List Object). overridden (Some n) l) (ap lent c.as_slice-2.ensures.value) in
    let below : option_copied c.find_over.result ≡ overridden x.head.name fs = c.find_over.ensures fs names ∙ ap (λ (j : Head). overridden j.name fs) c.head.ensures.value in
    let gives : option_copied c.implied_by-gives.result ≡ implied_by (inherited_head h fs) = c.implied_by-gives.ensures ∙ ap (λ (l : List Object). implied_by (inherited_head h l)) (ap lent c.as_slice.ensures.value) in
    over_limit c.args.most lib plan s o implied over c.children-child-items.result.now (c.loop-child.child-index + 1) c.in_ok-left.left c.children-child-items.ensures.value c.if-left-eq0.true
    (step c.args.most lib plan s o implied over c.children-child-items.result.now c.loop-child.child-index c.loop-child.left c.in_ok-left.left x c.loop-child-test.true c.child-item.is
    (under lib own plan s o x h implied (option_copied c.implied_by-gives.result) over (option_copied c.find_over.result) fs c.loop-child.left c.in_ok-left.left k.library c.head-head.ensures.value there gives below
    (as_told lib own plan s x (option_copied c.told_by-given.result) c.in_ok-told.told (option_copied c.implied_by-gives.result) (option_copied c.find_over.result) c.loop-child.left c.in_ok-left.left k.library c.told_by-given.ensures c.in_ok-told.ensures (c.in_ok-left.ensures plan s k)))
    (c.loop-child.invariant plan s k))

-- what is added, by the sources and the words
added_is : (lib own : Contracts) (g gives : Option Words) (F fs gs kids more : List Object) (left n : ℕ) → own ≡ lib → gives ≡ g → fs ≡ F → gs ≡ F → n ≡ left - (row_count own gives fs (in_row more) + count (in_row (missing kids gs)))
    → n ≡ left - (row_count lib g F (in_row more) + count (in_row (missing kids F)))
added_is lib own g gives F fs gs kids more left n e1 e2 e3 e4 p =
    p ∙ ap (λ (l : Contracts). left - (row_count l gives fs (in_row more) + count (in_row (missing kids gs)))) e1
    ∙ ap (λ (w : Option Words). left - (row_count lib w fs (in_row more) + count (in_row (missing kids gs)))) e2
    ∙ ap (λ (l : List Object). left - (row_count lib g l (in_row more) + count (in_row (missing kids gs)))) e3
    ∙ ap (λ (l : List Object). left - (row_count lib g F (in_row more) + count (in_row (missing kids l)))) e4

pub returns : goal.returns
returns t c =
    IfOk-weaker c.left_after_added.result _ _
    (λ n is plan s k.
    let o = c.args.placed.object.now in
    let lib = s.library in
    let own = c.args.counting.now.library.now in
    let h = c.head-head.result.now in
    let implied = option_copied c.args.placed.implied in
    let over = option_copied c.args.placed.over in
    let fs = lent c.in_ok-from.from.items in
    let F = sources lib o.head implied over in
    let more = derived plan s (node_path o.head) in
    let there : fs ≡ F = from_is lib own o h implied over fs fs refl c.in_ok-from.ensures k.library c.head-head.ensures.value in
    let names : (n : List ℕ) → found c.in_ok-names.names n ≡ overridden (Some n) fs = λ n. c.in_ok-names.ensures n ∙ ap (λ (l : List Object). overridden (Some n) l) (ap lent c.as_slice-2.ensures.value) in
    let gives : option_copied c.implied_by-gives.result ≡ implied_by (inherited_head o.head F) =
    c.implied_by-gives.ensures ∙ ap (λ (l : List Object). implied_by (inherited_head h l)) (ap lent c.as_slice.ensures.value) ∙ ap₂ (λ (j : Head) (l : List Object). implied_by (inherited_head j l)) c.head-head.ensures.value there in
    whole c.args.most lib plan s o implied over c.children-child-items.result.now c.loop-child.child-index c.loop-child.left n c.children-child-items.ensures.value c.loop-child-test.false
    (added_is lib own (implied_by (inherited_head o.head F)) (option_copied c.implied_by-gives.result) F fs (lent c.as_slice-3.result.now) (listed (with_roles plan s o.inner) ++ more) more c.loop-child.left n k.library gives there
    (ap lent c.as_slice-3.ensures.value ∙ there) (is plan s fs k names)) (c.loop-child.invariant plan s k)) c.left_after_added.ensures
