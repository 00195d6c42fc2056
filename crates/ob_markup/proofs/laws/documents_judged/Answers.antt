use Rattle.std.proofs.Common.{◌≡◌, ℕ, true}
use Rattle.ob_xml.specs.declared.refused.Why.{Why as Cause}
use Rattle.ob_xml.specs.declared.doc.Doc.{Doc}
use Rattle.ob_xml.specs.Judged.{document, fault}
use Rattle.ob_markup.proofs.Trees.{tree_of}
use Rattle.ob_markup.proofs.Cutting.{spelled_of}
use Rattle.ob_markup.proofs.laws.documents_judged.Goals as goal

apart : (d : Doc) (place : ℕ) (why : Cause) → document d ≡ fault place why → ⊥
apart d place why e = cc

pub returns-clause-judged : goal.returns-clause-judged
returns-clause-judged c = λ bytes ns o. (λ j. tree_of bytes ns o (c.spelled.ensures bytes (record { ns = ns; root = o }) j), λ d. c.only.ensures bytes ns o (spelled_of bytes ns o d))

pub returns-clause-refused : goal.returns-clause-refused
returns-clause-refused c = λ bytes place why j ns o d.
    apart (record { ns = ns; root = o }) place why (c.one_verdict.ensures bytes true (document (record { ns = ns; root = o })) (fault place why) (c.only.ensures bytes ns o (spelled_of bytes ns o d)) j)
