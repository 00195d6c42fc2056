use Rattle.std.proofs.Common.{◌≢◌, ℕ, List, [], true, Option, Result, sym, subst}
use Rattle.std.specs.Prelude.{IfErr}
use Rattle.ob_object.specs.Object.{Object}
use Rattle.ob_documents.specs.Spelling.{Spells}
use Rattle.ob_xml.specs.declared.doc.Doc.{Doc}
use Rattle.ob_xml.specs.declared.refused.Refused.{Refused}
use Rattle.ob_xml.specs.declared.refused.Why.TheVariants.{Memory}
use Rattle.ob_xml.specs.Decoding.{IsCause}
use Rattle.ob_documents.proofs.Verdicts.{cause_stays, spells_nothing, finish_spells, finish_refuses, finish_spells_nothing}
use Rattle.ob_documents.proofs.whole.read.Goals as goal

pub returns-in-Ok-clause-spelled : goal.returns-in-Ok-clause-spelled
returns-in-Ok-clause-spelled c = finish_spells c.spelled.ensures c.args.text.now c.finish.result (c.finish.ensures.exact c.args.text.now (c.in-Ok.ensures.exact [] c.new-decoder.ensures).0)

pub returns-in-Ok-clause-refused : goal.returns-in-Ok-clause-refused
returns-in-Ok-clause-refused c = finish_refuses c.args.text.now c.finish.result (c.finish.ensures.exact c.args.text.now (c.in-Ok.ensures.exact [] c.new-decoder.ensures).0)

pub returns-in-Ok-clause-unspelled : goal.returns-in-Ok-clause-unspelled
returns-in-Ok-clause-unspelled c = finish_spells_nothing c.one_verdict.ensures c.only.ensures c.args.text.now c.finish.result (c.finish.ensures.exact c.args.text.now (c.in-Ok.ensures.exact [] c.new-decoder.ensures).0)

pub returns-in-Err-clause-refused : goal.returns-in-Err-clause-refused
returns-in-Err-clause-refused c =
    subst (λ (a : Result Doc Refused). IfErr a (λ r. IsCause c.args.text.now true r)) (sym c.refused.ensures)
    (cause_stays c.fault_stays.ensures c.args.text.now c.in-Err.fault (c.in-Err.ensures.exact [] c.new-decoder.ensures).1)

pub returns-in-Err-clause-unspelled : goal.returns-in-Err-clause-unspelled
returns-in-Err-clause-unspelled c =
    subst (λ (a : Result Doc Refused). IfErr a (λ r. r.why ≢ Memory → (ns : Option (List ℕ)) (o : Object) → Spells c.args.text.now ns o → ⊥)) (sym c.refused.ensures)
    (spells_nothing c.one_verdict.ensures c.only.ensures c.args.text.now c.in-Err.fault (cause_stays c.fault_stays.ensures c.args.text.now c.in-Err.fault (c.in-Err.ensures.exact [] c.new-decoder.ensures).1))
