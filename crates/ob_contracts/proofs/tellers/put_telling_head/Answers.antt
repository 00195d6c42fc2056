use Rattle.std.proofs.Common.{Bool, [], ◌∷◌, ◌++◌, cond, ap, sym, subst, ◌∙◌}
use Rattle.std.proofs.lemmas.Result.{on_ok_weaker}
use Rattle.ob_contracts.specs.Found.{lent}
use Rattle.ob_contracts.specs.Inherit.{Words, contract_of}
use Rattle.ob_contracts.specs.Tellers.{IsHeadTelling}
use Rattle.ob_contracts.proofs.Taught.{heads_none, heads_new, heads_old}
use Rattle.ob_contracts.proofs.tellers.put_telling_head.Goals as goal

pub returns-in_default : goal.returns-in_default
returns-in_default c = λ looked t.
    heads_none c.args.library.now c.args.telling.now looked c.args.word.now (lent c.args.heads.now.items) t (sym (c.in_default.ensures ∙ ap (contract_of c.args.library.now) c.as_str.ensures.value))

pub returns-then-new : goal.returns-then-new
returns-then-new c =
    let lib = c.args.library.now in
    let w = c.args.word.now in
    let H = lent c.args.heads.now.items in
    let G = lent c.put_head.new.heads.items in
    on_ok_weaker c.put_word.result
    (λ put looked t.
    subst (λ (ts : Words). IsHeadTelling lib ts (looked ++ w ∷ []) G) (sym put)
    (heads_new lib c.args.telling.now looked w H t c.in-Some.contract.now G (sym (c.in-Some.ensures ∙ ap (contract_of lib) c.as_str.ensures.value))
    (c.in_ok-new.ensures.1 ∙ ap (λ (b : Bool). H ++ cond b (c.in-Some.contract.now ∷ []) []) c.if-new.true))) c.put_word.ensures

pub returns : goal.returns
returns c = λ looked t.
    let lib = c.args.library.now in
    let H = lent c.args.heads.now.items in
    heads_old lib c.args.telling.now looked c.args.word.now H t c.in-Some.contract.now (lent c.put_head.new.heads.items) (sym (c.in-Some.ensures ∙ ap (contract_of lib) c.as_str.ensures.value))
    (sym c.in_ok-new.ensures.0 ∙ c.if-new.false) (c.in_ok-new.ensures.1 ∙ ap (λ (b : Bool). H ++ cond b (c.in-Some.contract.now ∷ []) []) c.if-new.false)
