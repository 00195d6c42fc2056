use Rattle.std.proofs.Common.{◌≡◌, ◌<◌, ◌++◌, ℕ, List, Option, Some, option_map, filter, sym, ap, ◌∙◌, subst}
use Rattle.std.specs.Prelude.{slice_get}
use Rattle.std.specs.Option.{option_copied}
use Rattle.ob_object.specs.declared.head.Head.{Head}
use Rattle.ob_object.specs.Object.{Object, Objects, parts, children, listed-in_row}
use Rattle.ob_object.specs.WellFormed.{is_taken}
use Rattle.ob_contracts.specs.Ancestry.{own_words}
use Rattle.ob_contracts.specs.Found.{found, lent}
use Rattle.ob_contracts.specs.Inherit.{Words, sources, overridden, missing, is_new}
use Rattle.ob_contracts.proofs.At.{fewer_parts}
use Rattle.ob_contracts.proofs.Bare.{child_here}
use Rattle.ob_roles.specs.Few.{few_words, briefly, brief, brief_contracts}
use Rattle.ob_roles.specs.Summed.{IsGivenBy}
use Rattle.ob_roles.specs.Worded.{worded_at}
use Rattle.ob_roles.proofs.Named.{Missing, missing_first, missing_more, missing_all}
use Rattle.ob_hrefs.proofs.Rows.{inner_row}
use Rattle.ob_roles.proofs.InPlace.{TellFew, from_few, names_same}
use Rattle.ob_roles.proofs.WordRows.{gives_of, gives_are, head_is, few_row, few_same, rows_first, rows_more, rows_all, whole_is}
use Rattle.ob_roles.proofs.worded.+worded.Goals as goal

pub worded-requires : goal.worded-requires
worded-requires t c =
    let o = c.args.placed.now.object.now in
    let i = c.loop-child.child-index in
    let x = c.child-item.result in
    let here : Some x ≡ slice_get (children o) i = child_here o x _ _ c.children-child-items.ensures.value c.loop-child-test.true c.child-item.is in
    (subst (λ (n : ℕ). parts x < n) c.decreases (fewer_parts o i x here), tt)

pub loop-child-init : goal.loop-child-init
loop-child-init t c = λ whole lib implied o tells holds given is.
    let x = c.args.placed.now.object.now in
    let gives = option_copied c.implied_by-gives.result in
    let fs = lent c.as_slice.result.now in
    let like : TellFew whole fs (sources lib x.head implied o) =
    from_few whole lib x c.head-head.result.now implied (option_copied c.args.placed.now.list) (option_copied c.args.placed.now.over) o fs c.head-head.ensures.value (ap lent c.as_slice.ensures.value ∙ c.in_ok-from.ensures (brief_contracts whole lib) holds) is given in
    let which : gives ≡ gives_of lib x.head implied o = gives_are whole lib x c.head-head.result.now implied gives o fs c.head-head.ensures.value c.implied_by-gives.ensures like in (
      rows_first whole lib (gives_of lib x.head implied o) (sources lib x.head implied o) c.children-child-items.result.now (children c.in_ok-made.made) (ap children c.in_ok-made.ensures),
      ap (λ (y : Object). y.head) c.in_ok-made.ensures ∙ head_is lib x c.in_ok-thin_head.field-0 implied (option_copied c.args.placed.now.words) gives o which c.in_ok-thin_head.ensures.thin,
    )

pub loop-child-preserved : goal.loop-child-preserved
loop-child-preserved t c = λ whole lib implied o tells holds given is.
    let y = c.args.placed.now.object.now in
    let gives = option_copied c.implied_by-gives.result in
    let all = c.children-child-items.result.now in
    let i = c.loop-child.child-index in
    let x = c.child-item.result in
    let fs = lent c.as_slice.result.now in
    let from = sources lib y.head implied o in
    let g = gives_of lib y.head implied o in
    let like : TellFew whole fs from =
    from_few whole lib y c.head-head.result.now implied (option_copied c.args.placed.now.list) (option_copied c.args.placed.now.over) o fs c.head-head.ensures.value (ap lent c.as_slice.ensures.value ∙ c.in_ok-from.ensures (brief_contracts whole lib) holds) is given in
    let which : gives ≡ g = gives_are whole lib y c.head-head.result.now implied gives o fs c.head-head.ensures.value c.implied_by-gives.ensures like in
    let same : lent c.as_slice-2.result.now ≡ fs = ap lent (c.as_slice-2.ensures.value ∙ sym c.as_slice.ensures.value) in
    let named : (n : List ℕ) → found c.in_ok-names.names n ≡ overridden (Some n) fs = λ n. c.in_ok-names.ensures n ∙ ap (λ (l : List Object). overridden (Some n) l) same in
    let over = overridden x.head.name from in
    let below : option_copied c.find_over-over.result ≡ option_map (brief whole) over =
    c.find_over-over.ensures fs named ∙ ap (λ (k : Head). overridden k.name fs) c.head-part.ensures.value ∙ like.over x.head.name in
    let here : Some x ≡ slice_get (children y) i = child_here y x _ _ c.children-child-items.ensures.value c.loop-child-test.true c.child-item.is in
    let few : option_copied c.as_ref-given.result ≡ option_map (few_words whole) g = c.as_ref-given.ensures.value ∙ c.in_ok-few.ensures whole i x here tells ∙ ap (option_map (few_words whole)) which in
    let own : option_copied c.as_ref.result ≡ option_map (few_words whole) (own_words x.head g over) =
    c.as_ref.ensures.value ∙ c.in_ok-own.ensures whole g over tells few below ∙ ap (λ (k : Head). option_map (few_words whole) (own_words k g over)) c.head-part.ensures.value in
    let sum : IsGivenBy (option_copied c.as_ref-items.result) (brief_contracts whole lib) x.head g =
    subst (λ (s : Option Object). IsGivenBy s (brief_contracts whole lib) x.head g) (sym c.as_ref-items.ensures.value)
    (subst (IsGivenBy c.in_ok-sum.sum (brief_contracts whole lib) x.head) which (c.in_ok-sum.ensures (brief_contracts whole lib) i x holds here)) in
    let made : c.in_ok-inner.inner ≡ brief whole (worded_at lib g over x) =
    c.in_ok-inner.ensures whole lib g over tells holds sum below ∙ ap (λ (w : Option Words). briefly whole w (worded_at lib g over x)) own in
    let kept = c.loop-child.invariant whole lib implied o tells holds given is in
    let more = rows_more whole lib g from all i x c.in_ok-inner.inner c.loop-child.made c.put_if_new.new.object c.children-child-items.ensures.names_differ c.loop-child-test.true c.child-item.is made c.in_ok-put_if_new.ensures kept.0 in
    (more.0, more.1 ∙ kept.1)

pub loop-source-init : goal.loop-source-init
loop-source-init t c = λ whole lib implied o tells holds given is.
    let y = c.args.placed.now.object.now in
    let kids = c.children-child-items.result.now in
    let all = c.deref-source-items.result.now in
    let from = sources lib y.head implied o in
    let g = gives_of lib y.head implied o in
    let own = few_row whole lib g from y.inner in
    let kept = c.loop-child.invariant whole lib implied o tells holds given is in
    let made : children c.loop-child.made ≡ own =
    rows_all whole lib g from kids (children c.loop-child.made) c.loop-child.child-index c.loop-child-test.false kept.0
    ∙ ap (λ (r : Objects). few_row whole lib g from r) (inner_row y kids c.children-child-items.ensures.value) in (
      subst (λ (m : List Object). Missing all 0 (own ++ missing (children y) (lent all)) m) (sym made) (missing_first all (children y) own (few_same whole lib g from y.inner)),
      kept.1,
      names_same c.in_ok-there.there y c.loop-child.made c.in_ok-there.ensures (λ n. few_same whole lib g from y.inner n ∙ ap (is_taken (Some n)) (sym made)),
    )

pub loop-source-preserved : goal.loop-source-preserved
loop-source-preserved t c = λ whole lib implied o tells holds given is.
    let all = c.deref-source-items.result.now in
    let made = c.loop-source.made in
    let x = c.source-item.result in
    let kept = c.loop-source.invariant whole lib implied o tells holds given is in
    let new : List Object = children made ++ filter (is_new (children made)) (children x.now) in
    let put = c.in_ok-put_missing.ensures kept.2 in
    let kids : children c.put_missing.new.object ≡ new = ap children put.0 ∙ listed-in_row new in
    (missing_more all c.loop-source.source-index x _ (children made) (children c.put_missing.new.object) c.loop-source-test.true c.source-item.is kids kept.0, ap (λ (o : Object). o.head) put.0 ∙ kept.1, put.1)

pub returns : goal.returns
returns t c = λ whole lib implied o tells holds given is.
    let y = c.args.placed.now.object.now in
    let all = c.deref-source-items.result.now in
    let kept = c.loop-source.invariant whole lib implied o tells holds given is in
    let like : TellFew whole (lent all) (sources lib y.head implied o) =
    from_few whole lib y c.head-head.result.now implied (option_copied c.args.placed.now.list) (option_copied c.args.placed.now.over) o (lent all) c.head-head.ensures.value (ap lent c.deref-source-items.ensures.value ∙ c.in_ok-from.ensures (brief_contracts whole lib) holds) is given in
    whole_is whole lib y c.loop-source.made (option_copied c.args.placed.now.words) implied o (lent all) like kept.1
    (missing_all all c.loop-source.source-index _ (children c.loop-source.made) c.loop-source-test.false kept.0)
