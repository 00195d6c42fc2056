use Rattle.std.proofs.Common.{sym, ◌∙◌}
use Rattle.ob_program.proofs.TellingLemmas.{plain_told, wanting_told}
use Rattle.ob_program.proofs.telling.tell.Goals as goal

pub returns-then-not-has_words : goal.returns-then-not-has_words
returns-then-not-has_words g c = λ said is.
    plain_told _ _ _ said _ c.write_all.result (sym c.has_words.ensures ∙ c.if-not-has_words.true) (c.as_bytes.ensures.value ∙ c.lead.ensures)
    c.write_all.ensures.sends c.write_all.ensures.cause

pub returns-in-Err : goal.returns-in-Err
returns-in-Err g c = λ said is.
    wanting_told _ _ _ said _ c.write_all-in-Err.result (sym c.has_words.ensures ∙ c.if-not-has_words.false)
    (c.as_bytes-in-Err.ensures.value ∙ c.short.ensures) c.write_all-in-Err.ensures.sends c.write_all-in-Err.ensures.cause
