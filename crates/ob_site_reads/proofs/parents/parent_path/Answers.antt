use Rattle.std.proofs.Common.{◌≡◌, List, ℕ, ◌∷◌, ◌++◌, Some, sym, ap, ◌∙◌, subst}
use Rattle.std.specs.Prelude.{string_bytes}
use Rattle.std.proofs.lemmas.Str.{IsUtf8-string_bytes}
use Rattle.ob_values.specs.XmlText.{IsXmlText}
use Rattle.ob_site_reads.specs.Parents.{has_slash, IsParent}
use Rattle.ob_site_reads.proofs.Slashes.{none_split, last_split, xml_front}
use Rattle.ob_site_reads.proofs.parents.parent_path.Goals as goal

pub returns-in_default : goal.returns-in_default
returns-in_default c =
    ap has_slash (sym c.as_str.ensures.value) ∙ none_split c.as_str.result.now c.in_default.ensures.cases

pub from_string-requires : goal.from_string-requires
from_string-requires c =
    let cut = last_split c.as_str.result.now c.in-Some.front.now c.in-Some._name.now c.in-Some.ensures.cases in
    xml_front c.args.path.now (string_bytes c.in_ok-front.front) (47 ∷ cut.0) (IsUtf8-string_bytes c.in_ok-front.front) c.as_str.ensures.xml
    (sym c.as_str.ensures.value ∙ cut.1 ∙ ap (λ (f : List ℕ). f ++ 47 ∷ cut.0) (sym c.in_ok-front.ensures.ok))

pub returns : goal.returns
returns c =
    let cut = last_split c.as_str.result.now c.in-Some.front.now c.in-Some._name.now c.in-Some.ensures.cases in
    (cut.0, sym c.as_str.ensures.value ∙ cut.1 ∙ ap (λ (f : List ℕ). f ++ 47 ∷ cut.0) (sym c.in_ok-front.ensures.ok ∙ sym c.in_ok-parent.ensures), cut.2)
