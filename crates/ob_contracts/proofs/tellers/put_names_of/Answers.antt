use Rattle.std.proofs.Common.{List, Some, None, cond, sym, ap, ◌∙◌}
use Rattle.std.proofs.lemmas.Result.{on_ok_weaker}
use Rattle.std.specs.BTreeMap.{get_by_text}
use Rattle.ob_object.specs.Object.{Object}
use Rattle.ob_object.specs.WellFormed.{is_taken}
use Rattle.ob_contracts.specs.Inherit.{contract_of, or_else}
use Rattle.ob_contracts.proofs.Taught.{words_more, words_none}
use Rattle.ob_contracts.proofs.tellers.put_names_of.Goals as goal

pub returns-in-Some : goal.returns-in-Some
returns-in-Some c =
    let lib = c.args.library.now in
    let old = get_by_text c.args.names.now in
    on_ok_weaker c.put_names.result
    (λ put looked held.
    words_more lib old (get_by_text c.put_names.new.names) looked c.args.word.now c.in-Some.contract.now (sym (c.in-Some.ensures ∙ ap (contract_of lib) c.as_str.ensures.value))
    (λ n. put n ∙ ap (λ (l : List Object). or_else (old n) (cond (is_taken (Some n) l) (Some c.args.word.now) None)) c.children.ensures.value) held) c.put_names.ensures

pub returns-in-None : goal.returns-in-None
returns-in-None c = λ looked held.
    words_none c.args.library.now (get_by_text c.args.names.now) looked c.args.word.now (sym (c.in-None.ensures ∙ ap (contract_of c.args.library.now) c.as_str.ensures.value)) held
