use Rattle.std.proofs.Common.{List, ℕ, subst, FitsSigned, w64}
use Rattle.ob_spelling.specs.White.{trim}
use Rattle.ob_spelling.specs.declared.fault.ValueFault.TheVariants.{NotNumber, Range}
use Rattle.ob_spelling.proofs.ReadsLemmas.{reads_one}
use Rattle.ob_values.specs.Integer.{IsInteger}
use Rattle.ob_values.specs.Readers.{ReadsInteger, ReadsInt}
use Rattle.ob_values.proofs.IntegerLemmas.{one_number}
use Rattle.ob_values.proofs.integer.read_int.Goals as goal

pub returns-clause-only : goal.returns-clause-only
returns-clause-only c = λ answer h.
    let text = trim c.args.bytes.now in
    let reads : ReadsInt c.args.bytes.now c.integer_of.result = subst (λ (t : List ℕ). ReadsInteger t c.integer_of.result) c.trimmed.ensures c.integer_of.ensures in
    reads_one IsInteger (FitsSigned w64) NotNumber Range text (one_number text) c.integer_of.result answer reads h
