use Rattle.std.proofs.Common.{◌||◌, ◌∙◌, ◌++◌, ◌∷◌, [], ℕ, Bool, List, sym, ap, subst}
use Rattle.std.proofs.lemmas.Result.{on_ok_weaker}
use Rattle.std.specs.Str.{bytes_eq}
use Rattle.ob_contracts.specs.Inherit.{Words, contract_of}
use Rattle.ob_contracts.specs.Telling.{IsTelling, IsPut, named_by, has_text}
use Rattle.ob_contracts.proofs.Heads.{text_more, seen_again, no_contract, nothing_new, something_new, not_false}
use Rattle.ob_contracts.proofs.fewer.put_if_new.Goals as goal

pub returns-then-not-fresh : goal.returns-then-not-fresh
returns-then-not-fresh c = λ looked t.
    seen_again c.args.library.now c.args.telling.now looked c.args.seen.now c.insert.new.self c.args.known.now c.args.word.now t
    (λ n. text_more c.args.seen.now c.insert.new.self c.as_str-2.result c.in_ok-fresh.ensures.updates n ∙ ap (λ (w : List ℕ). has_text c.args.seen.now n || bytes_eq w n) c.as_str-2.ensures.value)
    (ap (has_text c.args.seen.now) (sym c.as_str-2.ensures.value) ∙ not_false (has_text c.args.seen.now c.as_str-2.result.now) (sym c.in_ok-fresh.ensures.added ∙ c.if-not-fresh.true))

pub returns-in_default : goal.returns-in_default
returns-in_default c = λ looked t.
    no_contract c.args.library.now c.args.telling.now looked c.args.seen.now c.args.known.now c.args.word.now t
    (c.in_default.ensures ∙ ap (contract_of c.args.library.now) c.as_str.ensures.value)

pub returns-then-new : goal.returns-then-new
returns-then-new c =
    on_ok_weaker c.put_word.result
    (λ put looked t.
    subst (λ (ts : Words). IsTelling c.args.library.now ts (looked ++ c.args.word.now ∷ []) c.insert.new.self c.put_source.new.known) (sym put)
    (something_new c.args.library.now c.args.telling.now looked c.args.seen.now c.insert.new.self c.args.known.now c.args.word.now t
    (λ n. text_more c.args.seen.now c.insert.new.self c.as_str-2.result c.in_ok-fresh.ensures.updates n ∙ ap (λ (w : List ℕ). has_text c.args.seen.now n || bytes_eq w n) c.as_str-2.ensures.value)
    c.in-Some.contract.now c.put_source.new.known (c.in-Some.ensures ∙ ap (contract_of c.args.library.now) c.as_str.ensures.value)
    (subst (λ (b : Bool). IsPut c.put_source.new.known (named_by c.args.library.now c.args.telling.now) c.in-Some.contract.now b) c.if-new.true (c.in_ok-new.ensures (named_by c.args.library.now c.args.telling.now) t.knows)))) c.put_word.ensures

pub returns : goal.returns
returns c = λ looked t.
    nothing_new c.args.library.now c.args.telling.now looked c.args.seen.now c.insert.new.self c.args.known.now c.args.word.now t
    (λ n. text_more c.args.seen.now c.insert.new.self c.as_str-2.result c.in_ok-fresh.ensures.updates n ∙ ap (λ (w : List ℕ). has_text c.args.seen.now n || bytes_eq w n) c.as_str-2.ensures.value)
    c.in-Some.contract.now c.put_source.new.known (c.in-Some.ensures ∙ ap (contract_of c.args.library.now) c.as_str.ensures.value)
    (subst (λ (b : Bool). IsPut c.put_source.new.known (named_by c.args.library.now c.args.telling.now) c.in-Some.contract.now b) c.if-new.false (c.in_ok-new.ensures (named_by c.args.library.now c.args.telling.now) t.knows))
