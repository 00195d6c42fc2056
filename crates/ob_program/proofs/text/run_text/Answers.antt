use Rattle.std.proofs.Common.{[], sym, ◌∙◌}
use Rattle.ob_program.proofs.TextLemmas.{text_ran, write_not_usage}
use Rattle.ob_program.proofs.text.run_text.Goals as goal

pub returns-clause-ran : goal.returns-clause-ran
returns-clause-ran g c =
    text_ran _ _ _ _ _ _ _ _ c.write_all-written.result c.exit_of_write-exit.result c.as_bytes.ensures.value c.exit_of_write-exit.ensures
    c.write_all-written.ensures.sends c.write_all-written.ensures.cause (c.tell.ensures [] c.new.ensures.items)

pub returns-clause-unused : goal.returns-clause-unused
returns-clause-unused g c = λ is_usage. write_not_usage c.write_all-written.result (sym c.exit_of_write-exit.ensures ∙ is_usage)
