use Rattle.std.proofs.Common.{sym, ◌∙◌, Some, None}
use Rattle.std.proofs.lemmas.Bool.{cond-true, cond-false}
use Rattle.ob_http.proofs.FieldLemmas.{media_by}
use Rattle.ob_http.proofs.fields.media_of.Goals as goal

pub returns-in-None : goal.returns-in-None
returns-in-None c = media_by c.args.bytes.now c.args.headers.now None c.in-None.ensures

pub returns-then-is_xml : goal.returns-then-is_xml
returns-then-is_xml c =
    sym (cond-true _ _ _ (sym c.is_xml.ensures ∙ c.if-is_xml.true)) ∙ media_by c.args.bytes.now c.args.headers.now (Some c.in-Some.value.now) c.in-Some.ensures

pub returns-else-is_xml : goal.returns-else-is_xml
returns-else-is_xml c =
    sym (cond-false _ _ _ (sym c.is_xml.ensures ∙ c.if-is_xml.false)) ∙ media_by c.args.bytes.now c.args.headers.now (Some c.in-Some.value.now) c.in-Some.ensures
