use Rattle.std.proofs.Common.{List, ℕ, Option, Some, None, cond, sym, ap, ◌∙◌}
use Rattle.std.proofs.lemmas.Result.{on_ok_weaker}
use Rattle.std.specs.BTreeMap.{get_by_text}
use Rattle.ob_object.specs.WellFormed.{has_name}
use Rattle.ob_contracts.specs.Inherit.{or_else}
use Rattle.ob_contracts.proofs.Taught.{word_kept, word_put}
use Rattle.ob_tree.proofs.numbering.put_number.Goals as goal

pub returns-then-is_known : goal.returns-then-is_known
returns-then-is_known c = λ n.
    let old = get_by_text c.args.numbers.now in
    word_kept old c.in-Some.name.now c.args.number (sym c.is_known.ensures ∙ c.if-is_known.true) n
    ∙ ap (λ (k : Option (List ℕ)). or_else (old n) (cond (has_name n k) (Some c.args.number) None)) c.in-Some.ensures

pub returns : goal.returns
returns c =
    let old = get_by_text c.args.numbers.now in
    on_ok_weaker c.put_place.result
    (λ put n.
    put n
    ∙ word_put old c.in-Some.name.now c.args.number (sym c.is_known.ensures ∙ c.if-is_known.false) n
    ∙ ap (λ (k : Option (List ℕ)). or_else (old n) (cond (has_name n k) (Some c.args.number) None)) c.in-Some.ensures) c.put_place.ensures
