use Rattle.std.proofs.Common.{sym, ◌∙◌, refl}
use Rattle.ob_http.proofs.MemberLemmas.{has_word_found, has_word_next, has_word_last}
use Rattle.ob_http.proofs.fields.has_word.Goals as goal

pub returns-then-is_word : goal.returns-then-is_word
returns-then-is_word c =
    sym (c.loop-at.invariant ∙ has_word_found c.args.word.now c.loop-at.rest.now c.in-Some.at (sym c.in-Some.ensures.place)
    (sym c.is_word.ensures ∙ c.if-is_word.true))

pub loop-at-preserved : goal.loop-at-preserved
loop-at-preserved c =
    c.loop-at.invariant ∙ has_word_next c.args.word.now c.loop-at.rest.now _ c.in-Some.at (sym c.in-Some.ensures.place)
    (sym c.is_word.ensures ∙ c.if-is_word.false) refl

pub returns : goal.returns
returns c = sym (c.loop-at.invariant ∙ has_word_last c.args.word.now c.loop-at.rest.now (sym c.find_byte.ensures.place ∙ c.in_default.is) ∙ sym c.is_word-2.ensures)
