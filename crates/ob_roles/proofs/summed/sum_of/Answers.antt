use Rattle.std.proofs.Common.{◌≡◌, ℕ, [], ◌++◌, List, Some, None, map, filter, refl, sym, ap, ◌∙◌, subst}
use Rattle.std.specs.Map.{lookup}
use Rattle.std.specs.Option.{option_copied}
use Rattle.std.specs.Ordering.{nat_cmp}
use Rattle.std.specs.Cmp.Lexicographic.{slice_cmp}
use Rattle.std.specs.BTreeMap.{is_at}
use denote.Ref.{Bor}
use Rattle.ob_object.specs.Object.{Object, children, listed-in_row}
use Rattle.ob_contracts.specs.Found.{found, lent}
use Rattle.ob_contracts.specs.Inherit.{Words, contract_of, present, first_given, missing, is_new}
use Rattle.ob_roles.specs.Given.{contracts_in}
use Rattle.ob_roles.proofs.InPlace.{names_none}
use Rattle.ob_roles.proofs.Named.{Missing, missing_first, missing_more, missing_all}
use Rattle.ob_roles.proofs.summed.sum_of.Goals as goal

pub loop-source-init : goal.loop-source-init
loop-source-init c =
    let all = c.deref-source-items.result.now in
    let none : (n : List ℕ) → found c.new-there.result n ≡ None = λ n.
    ap (λ (es : List (Bor (List ℕ) × Bor Object)). option_copied (lookup (is_at (λ (k : Bor (List ℕ)). slice_cmp nat_cmp n k.now)) es)) c.new-there.ensures.empty in
    let same : lent c.as_slice-2.result.now ≡ lent all = ap lent (c.as_slice-2.ensures.value ∙ sym c.deref-source-items.ensures.value) in (
      subst (λ (m : List Object). Missing all 0 (missing [] (lent all)) m) (sym c.in_ok-sum.ensures.empty) (missing_first all [] [] (λ n. refl)),
      c.in_ok-sum.ensures.of ∙ c.first_of.ensures ∙ ap (first_given (λ s. s.head.of)) same,
      names_none c.new-there.result c.in_ok-sum.sum none c.in_ok-sum.ensures.empty,
    )

pub loop-source-preserved : goal.loop-source-preserved
loop-source-preserved c =
    let all = c.deref-source-items.result.now in
    let made = c.loop-source.sum in
    let x = c.source-item.result in
    let kept = c.loop-source.invariant in
    let new : List Object = children made ++ filter (is_new (children made)) (children x.now) in
    let put = c.in_ok-put_missing.ensures kept.2 in
    let kids : children c.put_missing.new.object ≡ new = ap children put.0 ∙ listed-in_row new in
    (missing_more all c.loop-source.source-index x _ (children made) (children c.put_missing.new.object) c.loop-source-test.true c.source-item.is kids kept.0, ap (λ (o : Object). o.head.of) put.0 ∙ kept.1, put.1)

pub returns : goal.returns
returns c = λ lib holds.
    let all = c.deref-source-items.result.now in
    let kept = c.loop-source.invariant in
    let found : lent all ≡ contracts_in lib (Some c.args.words.now) =
    ap lent c.deref-source-items.ensures.value ∙ c.in_ok-from.ensures lib holds ∙ ap (λ (ws : Words). present (map (contract_of lib) ws)) c.as_slice.ensures.value in
    record {
      of = kept.1 ∙ ap (first_given (λ s. s.head.of)) found;
      all = missing_all all c.loop-source.source-index _ (children c.loop-source.sum) c.loop-source-test.false kept.0 ∙ ap (missing []) found;
    }
