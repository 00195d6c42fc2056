use Rattle.std.proofs.Common.{ℕ, List, subst}
use Rattle.ob_journal.specs.Journal.{Says, IsNoJournalAt}
use Rattle.ob_record.specs.Blocks.{IsBlock}
use Rattle.ob_record_journal.specs.Runs.{run_blocks}
use Rattle.ob_record_journal.specs.Saying.{no_journal}
use Rattle.ob_record_journal.proofs.saying.said_by.Goals as goal

pub returns-in-Err-clause-none : goal.returns-in-Err-clause-none
returns-in-Err-clause-none c = λ boot entries says.
    subst (λ (file : List ℕ). (blocks : List (List ℕ)) → Says IsBlock file blocks → ⊥) c.deref.ensures.value c.in-Err.ensures.none (run_blocks boot entries) says.blocks

pub returns-in-Err-clause-place : goal.returns-in-Err-clause-place
returns-in-Err-clause-place c = no_journal (subst (λ (file : List ℕ). IsNoJournalAt IsBlock file c.in-Err.fault.place) c.deref.ensures.value c.in-Err.ensures.place)
