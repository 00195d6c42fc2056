-- The worked rows.
use Rattle.std.proofs.Common.{◌≡◌, inl, inr, true, false, [], ◌∷◌, None, refl, arith}
use Rattle.std.specs.Prelude.{codes, is_some}
use Rattle.std.specs.List.{flat_map}
use Rattle.std.specs.Char.{encode_utf8}
use Rattle.ob_values.specs.XmlText.{IsXmlText}
use Rattle.ob_scan.specs.declared.character.Progress.TheVariants.{Whole}
use Rattle.ob_scan.specs.declared.piece.Place.TheVariants.{Between, InTag}
use Rattle.ob_scan.specs.declared.piece.Why.TheVariants.{Markup}
use Rattle.ob_scan.specs.Constructs.{reference_at, comment_at, attribute_at, more, refused, scan}
use Rattle.ob_scan.specs.Judgement.{IsJudgedOnce}
use Rattle.ob_markup.specs.References.{character, line_end, reference, decimal, less_than, print_items, item_text}
use Rattle.ob_markup.specs.Documents.{empty, misc_end}
use Rattle.ob_markup.specs.Scanning.{IsRefused}
use Rattle.ob_markup.specs.Rows.{PrintsSample, ReadsBareObject, NoDashes, NoXmlTarget, StandsForText, NoReferences, NeverADoctype, MayBeAnAttribute}
use Rattle.ob_markup.proofs.Walks.{chars_text}
use Rattle.ob_markup.proofs.References.{begins_again}
use Rattle.ob_markup.proofs.Answered.{asks_for_more, refuses_others}

pub prints_sample : PrintsSample
prints_sample = refl

name_obj : IsXmlText (codes "obj")
name_obj = chars_text (codes "obj") (Whole, refl, (Whole, refl, (Whole, refl, refl)))

pub reads_bare_object : ReadsBareObject
reads_bare_object = record {
  small = omega arith;
  document = record { marked = false; declaration = None; prolog = misc_end []; root = empty (record { name = codes "obj"; attributes = []; space = [] }); behind = misc_end [] };
  form = record {
    declaration = tt;
    prolog = tt;
    root = record { name = record { form = record { some = omega arith; characters = name_obj; bytes = (refl, (refl, (refl, tt))) }; begins = (λ e. absurd (omega (arith, e)), λ e. absurd (omega (arith, e))) }; attributes = tt; space = tt };
    behind = tt;
  };
  printed = refl;
  namespace = refl;
  says = (omega arith, record { name = refl; distinct = tt; said = refl; fits = refl }, refl);
}

pub no_dashes : NoDashes
no_dashes = (λ h. h.no_dashes (codes "a") (codes "b-") refl, λ h. h.no_dashes (codes "a") [] refl)

pub no_xml_target : NoXmlTarget
no_xml_target h = h.not_xml refl

printed_is : 120 ∷ 13 ∷ 10 ∷ codes "&#13;&lt;" ≡ print_items (character 120 ∷ line_end ∷ reference (decimal (codes "13")) ∷ reference less_than ∷ [])
unfolding encode_utf8
printed_is = refl

text_are : 120 ∷ 32 ∷ 13 ∷ 60 ∷ [] ≡ flat_map item_text (character 120 ∷ line_end ∷ reference (decimal (codes "13")) ∷ reference less_than ∷ [])
unfolding encode_utf8
text_are = refl

pub stands_for_text : StandsForText
stands_for_text = record {
  items = character 120 ∷ line_end ∷ reference (decimal (codes "13")) ∷ reference less_than ∷ [];
  are_items = ((inr (inr (inr (inl (omega arith, omega arith)))), refl), tt, (tt, tt, (((omega arith, (refl, (refl, tt))), inr (inr (inl refl))), tt, (tt, tt, tt))));
  printed = printed_is;
  text_is = text_are;
}

none_is : is_some (reference_at (codes "#0;")) ≡ true → ⊥
unfolding reference_at
none_is e = cc

none_named : is_some (reference_at (codes "x;")) ≡ true → ⊥
unfolding reference_at
none_named e = cc

pub no_references : NoReferences
no_references = (λ h. none_is (begins_again (codes "#0;") h), λ h. none_named (begins_again (codes "x;") h))

doctype_refused : scan Between false (codes "<!D") ≡ refused 0 Markup
unfolding comment_at
doctype_refused = refl

pub never_a_doctype : IsJudgedOnce → NeverADoctype
never_a_doctype once = on ((refuses_others once Between (codes "<!D") 0 Markup).0 doctype_refused)
  where
    on : IsRefused Between (codes "<!D") 0 Markup → NeverADoctype
    on (inl h) = h.0
    on (inr h) = absurd h.1.form.stands

attribute_asks : scan InTag false (codes " a='&x") ≡ more
unfolding attribute_at
attribute_asks = refl

pub may_be_an_attribute : IsJudgedOnce → MayBeAnAttribute
may_be_an_attribute once = ((asks_for_more once InTag (codes " a='&x")).0 attribute_asks).1
