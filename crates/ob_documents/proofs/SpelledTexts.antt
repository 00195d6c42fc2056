-- The canonical text of an object spells it.
use Rattle.std.proofs.Common.{◌≡◌, ℕ, suc, ◌<◌, ◌≤◌, Bool, true, false, ◌&&◌, ◌||◌, not, List, [], ◌∷◌, ◌++◌, length, map, Option, Some, None, refl, sym, ap, ◌∙◌, subst, arith, inl, inr}
use Rattle.std.specs.Prelude.{ℤ, IsTrue, codes, option_map}
use Rattle.std.specs.Str.{encode_utf8_all}
use Rattle.std.specs.List.{AllByRecursion, list_all}
use Rattle.std.proofs.lemmas.List.{append-nil}
use Rattle.std.proofs.lemmas.Bool.Decides.{nat_tests}
use Rattle.ob_values.specs.declared.value.Value.{Value}
use Rattle.ob_values.specs.declared.value.Value.TheVariants as value
use Rattle.ob_values.specs.Spelled.{printed}
use Rattle.ob_values.specs.XmlText.{IsXmlChar, IsXmlText}
use Rattle.ob_values.proofs.Bools.{not_true, neither_left, neither_right, and_first, and_second}
use Rattle.ob_scan.specs.Characters.{within}
use Rattle.ob_object.specs.declared.status.Status.{Status}
use Rattle.ob_object.specs.declared.status.Status.TheVariants as status
use Rattle.ob_object.specs.declared.head.Head.{Head}
use Rattle.ob_object.specs.declared.head.Slot.{Slot}
use Rattle.ob_object.specs.declared.head.Slot.TheVariants.{Absent, Null, Is}
use Rattle.ob_object.specs.Kinds.{has_of, has_input, has_output}
use Rattle.ob_object.specs.Words.{is_word}
use Rattle.ob_object.specs.Fits.{fits_words, fits_name, fits_lists, fits_slot, fits_facets, fits_head}
use Rattle.ob_object.specs.Object.{Objects, none, node, Object, empty_head}
use Rattle.ob_object.specs.WellFormed.{RowIsWellFormed}
use Rattle.ob_encoding.specs.Kinds.{same}
use Rattle.ob_encoding.specs.Names.{status_word}
use Rattle.ob_encoding.specs.Escaped.{escaped}
use Rattle.ob_encoding.specs.Canonical.{joined, null_text, val_text, attributes, canonical_text}
use Rattle.ob_documents.specs.Attributes.{has_name, AreDistinct, NamespaceBy, NamespaceIs}
use Rattle.ob_documents.specs.Spelling.{Spells}
use Rattle.ob_documents.specs.Carried.{IsTextIfThere, AreTextsIfThere, IsWrittenIfThere, IsSlotWritten, IsHeadCarried, IsRowCarried, IsCarried}
use Rattle.ob_documents.proofs.Characters.{encode_1}
use Rattle.ob_documents.proofs.Texts.{text_back}
use Rattle.ob_documents.proofs.Cutting.{present, AreWritable, IsReadable, IsRowReadable, document_cut}
use Rattle.ob_documents.proofs.Ascii.{printed_xml}
use Rattle.ob_documents.proofs.Words.{joined_xml}
use Rattle.ob_documents.proofs.Told.{stages_tell, told}

-- ---- each attribute has a name and a text that can be written

ascii_char : (c : ℕ) → within 0x20 0x7E c ≡ true → IsXmlChar c
ascii_char c h = inr (inr (inr (inl (low c h, high c h))))
  where
    low : (c : ℕ) → within 0x20 0x7E c ≡ true → 0x20 ≤ c
    low c h = grind (arith, nat_tests)

    high : (c : ℕ) → within 0x20 0x7E c ≡ true → c ≤ 0xD7FF
    high c h = grind (arith, nat_tests)

ascii_low : (c : ℕ) → within 0x20 0x7E c ≡ true → c < 128
ascii_low c h = grind (arith, nat_tests)

ascii_chars : (cs : List ℕ) → list_all (within 0x20 0x7E) cs ≡ true → AllByRecursion IsXmlChar cs
ascii_chars [] h = tt
ascii_chars (c ∷ cs) h = (ascii_char c (and_first (within 0x20 0x7E c) (list_all (within 0x20 0x7E) cs) h), ascii_chars cs (and_second (within 0x20 0x7E c) (list_all (within 0x20 0x7E) cs) h))

ascii_bytes : (cs : List ℕ) → list_all (within 0x20 0x7E) cs ≡ true → encode_utf8_all cs ≡ cs
ascii_bytes [] h = refl
ascii_bytes (c ∷ cs) h =
    ap (λ (t : List ℕ). t ++ encode_utf8_all cs) (encode_1 c (ascii_low c (and_first (within 0x20 0x7E c) (list_all (within 0x20 0x7E) cs) h)))
    ∙ ap (λ (t : List ℕ). c ∷ t) (ascii_bytes cs (and_second (within 0x20 0x7E c) (list_all (within 0x20 0x7E) cs) h))

ascii_text : (cs : List ℕ) → list_all (within 0x20 0x7E) cs ≡ true → IsXmlText cs
ascii_text cs h = (cs, ascii_chars cs h, ascii_bytes cs h)

words_text : (has : Bool) (o : Option (List (List ℕ))) → AreTextsIfThere o → fits_words has o ≡ true → IsTextIfThere (option_map joined o)
words_text has None t h = tt
words_text has (Some ws) t h = joined_xml ws t (and_second has (list_all is_word ws) h)

value_text : (o : Option Value) → IsWrittenIfThere o → IsTextIfThere (option_map printed o)
value_text None w = tt
value_text (Some v) w = printed_xml v w

number_text : (o : Option ℤ) → IsWrittenIfThere (option_map (λ z. value.Int z) o) → IsTextIfThere (option_map (λ z. printed (value.Int z)) o)
number_text None w = tt
number_text (Some z) w = printed_xml (value.Int z) w

null_is_text : (s : Slot) → IsTextIfThere (null_text s)
null_is_text Absent = tt
null_is_text Null = ascii_text (codes "true") refl
null_is_text (Is v) = tt

val_is_text : (s : Slot) → IsSlotWritten s → IsTextIfThere (val_text s)
val_is_text Absent w = tt
val_is_text Null w = tt
val_is_text (Is v) w = printed_xml v w

status_is_text : (s : Status) → IsXmlText (status_word s)
status_is_text status.Disabled = ascii_text (codes "disabled") refl
status_is_text status.Fault = ascii_text (codes "fault") refl
status_is_text status.Down = ascii_text (codes "down") refl
status_is_text status.UnackedAlarm = ascii_text (codes "unackedAlarm") refl
status_is_text status.Alarm = ascii_text (codes "alarm") refl
status_is_text status.Unacked = ascii_text (codes "unacked") refl
status_is_text status.Overridden = ascii_text (codes "overridden") refl
status_is_text status.Ok = ascii_text (codes "ok") refl

status_text : (o : Option Status) → IsTextIfThere (option_map status_word o)
status_text None = tt
status_text (Some s) = status_is_text s

truth_is_text : (b : Bool) → IsXmlText (printed (value.Bool b))
truth_is_text true = ascii_text (codes "true") refl
truth_is_text false = ascii_text (codes "false") refl

truth_text : (o : Option Bool) → IsTextIfThere (option_map (λ b. printed (value.Bool b)) o)
truth_text None = tt
truth_text (Some b) = truth_is_text b

writable : (ns : Option (List ℕ)) (h : Head) → IsTextIfThere ns → IsHeadCarried h → fits_head h ≡ true → AreWritable (attributes ns h)
writable ns h n c fits =
    let names = and_first (fits_name h.name && fits_lists h) (fits_slot h.kind h.slot && fits_facets h.kind h.facets) fits in
    let words = and_second (fits_name h.name) (fits_lists h) names in
    let is_fits = and_first (fits_words true h.is) (fits_words (has_of h.kind) h.of && (fits_words (has_input h.kind) h.input && fits_words (has_output h.kind) h.output)) words in
    let others = and_second (fits_words true h.is) (fits_words (has_of h.kind) h.of && (fits_words (has_input h.kind) h.input && fits_words (has_output h.kind) h.output)) words in
    let of_fits = and_first (fits_words (has_of h.kind) h.of) (fits_words (has_input h.kind) h.input && fits_words (has_output h.kind) h.output) others in
    let calls = and_second (fits_words (has_of h.kind) h.of) (fits_words (has_input h.kind) h.input && fits_words (has_output h.kind) h.output) others in
    let in_fits = and_first (fits_words (has_input h.kind) h.input) (fits_words (has_output h.kind) h.output) calls in
    let out_fits = and_second (fits_words (has_input h.kind) h.input) (fits_words (has_output h.kind) h.output) calls in (
      refl,
      n,
      (
        refl,
        c.name,
        (
          refl,
          c.href,
          (
            refl,
            words_text true h.is c.is is_fits,
            (
              refl,
              null_is_text h.slot,
              (
                refl,
                val_is_text h.slot c.slot,
                (
                  refl,
                  words_text (has_of h.kind) h.of c.of of_fits,
                  (
                    refl,
                    words_text (has_input h.kind) h.input c.input in_fits,
                    (
                      refl,
                      words_text (has_output h.kind) h.output c.output out_fits,
                      (
                        refl,
                        c.display,
                        (
                          refl,
                          c.display_name,
                          (
                            refl,
                            c.icon,
                            (
                              refl,
                              value_text h.facets.max c.max,
                              (
                                refl,
                                value_text h.facets.min c.min,
                                (
                                  refl,
                                  number_text h.facets.precision c.precision,
                                  (
                                    refl,
                                    c.range,
                                    (
                                      refl,
                                      status_text h.facets.status,
                                      (
                                        refl,
                                        c.tz,
                                        (
                                          refl,
                                          c.unit,
                                          (refl, truth_text h.facets.writable, tt),
                                        ),
                                      ),
                                    ),
                                  ),
                                ),
                              ),
                            ),
                          ),
                        ),
                      ),
                    ),
                  ),
                ),
              ),
            ),
          ),
        ),
      ),
    )

-- ---- the names differ

abbrev names_of : List (List ℕ × Option (List ℕ)) → List (List ℕ)
names_of = map (λ e. e.0)

abbrev is_among : List ℕ → List (List ℕ) → Bool
is_among n [] = false
is_among n (m ∷ ms) = same m n || is_among n ms

abbrev differ : List (List ℕ) → Bool
differ [] = true
differ (n ∷ ns) = not (is_among n ns) && differ ns

absent : (es : List (List ℕ × Option (List ℕ))) (n : List ℕ) → is_among n (names_of es) ≡ false → has_name (present es) n ≡ false
absent [] n h = refl
absent ((m, None) ∷ es) n h = absent es n (neither_right (same m n) (is_among n (names_of es)) h)
absent ((m, Some t) ∷ es) n h = rw (neither_left (same m n) (is_among n (names_of es)) h, absent es n (neither_right (same m n) (is_among n (names_of es)) h)) refl

distinct : (es : List (List ℕ × Option (List ℕ))) → differ (names_of es) ≡ true → AreDistinct (present es)
distinct [] h = tt
distinct ((n, None) ∷ es) h = distinct es (and_second (not (is_among n (names_of es))) (differ (names_of es)) h)
distinct ((n, Some t) ∷ es) h = (absent es n (not_true (is_among n (names_of es)) (and_first (not (is_among n (names_of es))) (differ (names_of es)) h)), distinct es (and_second (not (is_among n (names_of es))) (differ (names_of es)) h))

pub readable : (ns : Option (List ℕ)) (h : Head) → IsTextIfThere ns → IsHeadCarried h → IsTrue (fits_head h) → IsReadable ns h
readable ns h n c fits =
    let w = writable ns h n c fits in
    record {
      writable = w;
      describes = record {
        distinct = distinct (attributes ns h) refl;
        told = stages_tell h.kind (attributes ns h) (empty_head h.kind) h w (told ns h c fits);
        fits = fits;
      };
    }

row_readable : (level : ℕ) (row : Objects) → IsRowCarried level row → RowIsWellFormed row → IsRowReadable level row
row_readable level none c w = tt
row_readable level (node h below rest) c w = (c.0, readable None h tt c.1 w.0, w.1, row_readable (suc level) below c.2 w.2, row_readable level rest c.3 w.3)

-- ---- the namespace

no_namespace : (es : List (List ℕ × Option (List ℕ))) → is_among (codes "xmlns") (names_of es) ≡ false → NamespaceIs (present es) None
no_namespace [] h = refl
no_namespace ((n, None) ∷ es) h = no_namespace es (neither_right (same n (codes "xmlns")) (is_among (codes "xmlns") (names_of es)) h)
no_namespace ((n, Some t) ∷ es) h =
    let other : same n (codes "xmlns") ≡ false = neither_left (same n (codes "xmlns")) (is_among (codes "xmlns") (names_of es)) h in
    subst (λ (b : Bool). NamespaceBy b (escaped t) None (NamespaceIs (present es) None)) (sym other) (no_namespace es (neither_right (same n (codes "xmlns")) (is_among (codes "xmlns") (names_of es)) h))

abbrev drop_one : List (List ℕ × Option (List ℕ)) → List (List ℕ × Option (List ℕ))
drop_one [] = []
drop_one (e ∷ es) = es

namespace_is : (ns : Option (List ℕ)) (h : Head) → IsTextIfThere ns → NamespaceIs (present (attributes ns h)) ns
namespace_is None h n = no_namespace (drop_one (attributes None h)) refl
namespace_is (Some t) h n = (t, (text_back t n).expands, refl)

-- ---- the document

pub text_spells : (ns : Option (List ℕ)) (o : Object) → IsCarried ns o → length (canonical_text ns o) ≤ 16_777_216 → Spells (canonical_text ns o) ns o
text_spells ns o c small =
    let d = document_cut ns o (readable ns o.head c.namespace c.head c.well_formed.head_fits) c.well_formed.names_differ (row_readable 1 o.inner c.row c.well_formed.row) in
    record {
      small = small;
      constructs = d.0;
      cut = d.2;
      is_document = record {
        first = [];
        before = [];
        attributes = present (attributes ns o.head);
        element = d.0;
        after = [];
        is_mark = tt;
        before_skipped = tt;
        namespace = namespace_is ns o.head c.namespace;
        is_element = d.1;
        after_skipped = tt;
        parts = sym (append-nil d.0);
      };
    }
