use Rattle.std.proofs.Common.{◌≡◌, ℕ, ◌∷◌, List, ◌∙◌, ◌==◌, get_or, sym, ap, arith, rules}
use Rattle.std.proofs.lemmas.List.{take_rest}
use Rattle.ob_href.proofs.OwnLemmas.{own_path, slash_and_rest, tail_before, tail_ends}
use Rattle.ob_href.proofs.own.is_own_path.Goals as goal

pub loop-byte-preserved : goal.loop-byte-preserved
loop-byte-preserved c = λ tail.
    c.loop-byte.invariant (tail_before (c.loop-byte.last == 47) _ c.loop-byte.byte-index c.loop-byte-test.true (sym c.may_follow.ensures ∙ c.if-not-may_follow.false) tail)

pub returns : goal.returns
returns c = λ yes.
    let bytes = c.as_bytes.result.now in
    let first : get_or bytes 0 0 ≡ 47 = search rules in
    own_path c.args.text.now _
    (sym c.as_bytes.ensures.value ∙ slash_and_rest bytes (omega (arith, c.in-47.len_at_least)) first ∙ ap (λ (l : List ℕ). 47 ∷ l) (sym (take_rest bytes 1)))
    (c.loop-byte.invariant (tail_ends (c.loop-byte.last == 47) _ c.loop-byte.byte-index (omega arith)))
