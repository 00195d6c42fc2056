use Rattle.std.proofs.Common.{List, ℕ, subst}
use Rattle.ob_program.specs.declared.document.DocumentFault.TheVariants.{Failed, Memory}
use Rattle.ob_program.specs.Reading.{Reads}
use Rattle.ob_program.proofs.FileLemmas.{reads_file, reads_none}
use Rattle.ob_program.proofs.document.read_file.Goals as goal

pub returns-in-Ok-clause-reads : goal.returns-in-Ok-clause-reads
returns-in-Ok-clause-reads g c =
    reads_file _ c.in-Ok.bytes.items c.read_document.result c.in-Ok.ensures.bytes (subst (λ (t : List ℕ). Reads t c.read_document.result) c.deref.ensures.value c.read_document.ensures.reads)

pub returns-in-Err-Failed-clause-reads : goal.returns-in-Err-Failed-clause-reads
returns-in-Err-Failed-clause-reads g c = reads_none _ Failed (λ _. tt)

pub returns-in-Err-Memory-clause-reads : goal.returns-in-Err-Memory-clause-reads
returns-in-Err-Memory-clause-reads g c = reads_none _ Memory (λ _. tt)
