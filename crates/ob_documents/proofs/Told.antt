-- What the attributes of the canonical text say is the head that they were written from.
use Rattle.std.proofs.Common.{◌≡◌, ℕ, Bool, true, false, ◌&&◌, inl, List, [], ◌∷◌, Option, Some, None, Ok, refl, sym, ap, subst}
use Rattle.std.specs.Prelude.{ℤ, codes, option_map}
use Rattle.std.specs.List.{list_all}
use Rattle.ob_values.specs.declared.value.Value.{Value}
use Rattle.ob_values.specs.declared.value.Value.TheVariants as value
use Rattle.ob_values.specs.Spelled.{printed}
use Rattle.ob_values.proofs.Bools.{and_first, and_second}
use Rattle.ob_object.specs.declared.kind.Kind.{Kind}
use Rattle.ob_object.specs.declared.status.Status.{Status}
use Rattle.ob_object.specs.declared.head.Head.{Head}
use Rattle.ob_object.specs.declared.head.Slot.{Slot}
use Rattle.ob_object.specs.declared.head.Slot.TheVariants.{Absent, Null, Is}
use Rattle.ob_object.specs.declared.facet.Facets.{Facets}
use Rattle.ob_object.specs.Kinds.{has_of, has_input, has_output, has_values}
use Rattle.ob_object.specs.Words.{is_word}
use Rattle.ob_object.specs.Fits.{fits_limit, fits_slot, fits_if_there, fits_facets, fits_name, fits_words, fits_lists, fits_head}
use Rattle.ob_object.specs.Object.{empty_head}
use Rattle.ob_encoding.specs.declared.field.TextField.{TextField}
use Rattle.ob_encoding.specs.declared.field.TextField.TheVariants as texts
use Rattle.ob_encoding.specs.declared.field.WordsField.{WordsField}
use Rattle.ob_encoding.specs.declared.field.WordsField.TheVariants as lists
use Rattle.ob_encoding.specs.declared.field.ValueField.TheVariants as reads
use Rattle.ob_encoding.specs.declared.field.Field.{Field}
use Rattle.ob_encoding.specs.declared.field.Field.TheVariants as field
use Rattle.ob_encoding.specs.declared.part.Part.{Part}
use Rattle.ob_encoding.specs.declared.part.Part.TheVariants as part
use Rattle.ob_encoding.specs.Fields.{field_of, known, has_limit}
use Rattle.ob_encoding.specs.Parts.{read_as, ReadsPart, put_part}
use Rattle.ob_encoding.specs.Names.{status_word}
use Rattle.ob_encoding.specs.Canonical.{joined, null_text, val_text, attributes}
use Rattle.ob_documents.specs.Attributes.{Says, Tell}
use Rattle.ob_documents.specs.Carried.{AreTextsIfThere, IsWrittenIfThere, IsSlotWritten, IsHeadCarried}
use Rattle.ob_documents.proofs.Texts.{text_back}
use Rattle.ob_documents.proofs.Cutting.{present, AreWritable}
use Rattle.ob_documents.proofs.Words.{words_back}
use Rattle.ob_documents.proofs.Readers.{value_read, has_value_of, limit_read, has_limit_of, status_back}

-- what each attribute that is there makes of what was said before it, one after another
abbrev pub Stages : Kind → List (List ℕ × Option (List ℕ)) → Head → Head → Type 0
Stages k [] before after = after ≡ before
Stages k ((n, None) ∷ es) before after = Stages k es before after
Stages k ((n, Some text) ∷ es) before after = (between : Head) × Says (known k n) k text before between × Stages k es between after

pub stages_tell : (k : Kind) (es : List (List ℕ × Option (List ℕ))) (before after : Head) → AreWritable es → Stages k es before after → Tell k (present es) before after
stages_tell k [] before after w s = s
stages_tell k ((n, None) ∷ es) before after w s = stages_tell k es before after w.2 s
stages_tell k ((n, Some text) ∷ es) before after w s = (s.0, (text, (text_back text w.1).expands, s.1), stages_tell k es s.0 after w.2 s.2)

says_part : (k : Kind) (n text : List ℕ) (f : Field) (p : Part) (before after : Head) → known k n ≡ Some f → ReadsPart k f text (Ok p) → put_part p before ≡ after → Says (known k n) k text before after
says_part k n text f p before after is reads put = subst (λ (o : Option Field). Says o k text before after) (sym is) (p, reads, sym put)

text_stage : (k : Kind) (n : List ℕ) (f : TextField) (o : Option (List ℕ)) (head : Option (List ℕ) → Head) (es : List (List ℕ × Option (List ℕ))) (after : Head)
    → known k n ≡ Some (field.Text f) → ((t : List ℕ) → put_part (part.Text f t) (head None) ≡ head (Some t))
    → Stages k es (head o) after → Stages k ((n, o) ∷ es) (head None) after
text_stage k n f None head es after is put s = s
text_stage k n f (Some t) head es after is put s = (head (Some t), says_part k n t (field.Text f) (part.Text f t) (head None) (head (Some t)) is refl (put t), s)

-- an attribute of any other field, by what its value is
part_stage : {X : Type 0} (k : Kind) (n : List ℕ) (f : Field) (text : X → List ℕ) (made : X → Part) (o : Option X) (head : Option X → Head) (es : List (List ℕ × Option (List ℕ))) (after : Head)
    → ((x : X) → o ≡ Some x → (known k n ≡ Some f) × ReadsPart k f (text x) (Ok (made x)))
    → ((x : X) → put_part (made x) (head None) ≡ head (Some x))
    → Stages k es (head o) after → Stages k ((n, option_map text o) ∷ es) (head None) after
part_stage k n f text made None head es after reads put s = s
part_stage k n f text made (Some x) head es after reads put s =
    let r = reads x refl in
    (head (Some x), says_part k n (text x) f (made x) (head None) (head (Some x)) r.0 r.1 (put x), s)

-- ---- the names of attributes

known_text : (k : Kind) (n : List ℕ) (f : TextField) → field_of n ≡ Some (field.Text f) → known k n ≡ Some (field.Text f)
known_text k n f e = rw e refl

known_other : (k : Kind) → known k (codes "xmlns") ≡ None
unfolding field_of
known_other k = refl

is_name : field_of (codes "name") ≡ Some (field.Text texts.Name)
unfolding field_of
is_name = refl

is_href : field_of (codes "href") ≡ Some (field.Text texts.Href)
unfolding field_of
is_href = refl

is_display : field_of (codes "display") ≡ Some (field.Text texts.Display)
unfolding field_of
is_display = refl

is_display_name : field_of (codes "displayName") ≡ Some (field.Text texts.DisplayName)
unfolding field_of
is_display_name = refl

is_icon : field_of (codes "icon") ≡ Some (field.Text texts.Icon)
unfolding field_of
is_icon = refl

is_range : field_of (codes "range") ≡ Some (field.Text texts.Range)
unfolding field_of
is_range = refl

is_tz : field_of (codes "tz") ≡ Some (field.Text texts.Tz)
unfolding field_of
is_tz = refl

is_unit : field_of (codes "unit") ≡ Some (field.Text texts.Unit)
unfolding field_of
is_unit = refl

known_is : (k : Kind) → known k (codes "is") ≡ Some (field.Words lists.Is)
unfolding field_of
known_is k = refl

known_of : (k : Kind) → has_of k ≡ true → known k (codes "of") ≡ Some (field.Words lists.Of)
unfolding field_of
known_of k e = rw e refl

known_in : (k : Kind) → has_input k ≡ true → known k (codes "in") ≡ Some (field.Words lists.In)
unfolding field_of
known_in k e = rw e refl

known_out : (k : Kind) → has_output k ≡ true → known k (codes "out") ≡ Some (field.Words lists.Out)
unfolding field_of
known_out k e = rw e refl

known_null : (k : Kind) → known k (codes "null") ≡ Some (field.Value reads.Null)
unfolding field_of
known_null k = refl

known_val : (k : Kind) → has_values k ≡ true → known k (codes "val") ≡ Some (field.Value reads.Val)
unfolding field_of
known_val k e = rw e refl

known_max : (k : Kind) → has_limit k ≡ true → known k (codes "max") ≡ Some (field.Value reads.Max)
unfolding field_of
known_max k e = rw e refl

known_min : (k : Kind) → has_limit k ≡ true → known k (codes "min") ≡ Some (field.Value reads.Min)
unfolding field_of
known_min k e = rw e refl

known_precision : (k : Kind) → known k (codes "precision") ≡ Some (field.Value reads.Precision)
unfolding field_of
known_precision k = refl

known_status : (k : Kind) → known k (codes "status") ≡ Some (field.Value reads.Status)
unfolding field_of
known_status k = refl

known_writable : (k : Kind) → known k (codes "writable") ≡ Some (field.Value reads.Writable)
unfolding field_of
known_writable k = refl

-- ---- attributes of several kinds

ns_stage : (k : Kind) (ns : Option (List ℕ)) (es : List (List ℕ × Option (List ℕ))) (before after : Head) → Stages k es before after → Stages k ((codes "xmlns", ns) ∷ es) before after
ns_stage k None es before after s = s
ns_stage k (Some t) es before after s = (before, subst (λ (o : Option Field). Says o k t before before) (sym (known_other k)) refl, s)

words_read : (k : Kind) (f : WordsField) (has : Bool) (o : Option (List (List ℕ))) (ws : List (List ℕ)) → AreTextsIfThere o → fits_words has o ≡ true → o ≡ Some ws → ReadsPart k (field.Words f) (joined ws) (Ok (part.Words f ws))
words_read k f has o ws t h e =
    let texts = subst AreTextsIfThere e t in
    let fits = subst (λ (x : Option (List (List ℕ))). fits_words has x ≡ true) e h in
    ap (λ (x : List (List ℕ)). Ok (part.Words f x)) (sym (words_back ws texts (and_second has (list_all is_word ws) fits)))

has_words : (has : Bool) (o : Option (List (List ℕ))) (ws : List (List ℕ)) → fits_words has o ≡ true → o ≡ Some ws → has ≡ true
has_words has o ws h e = and_first has (list_all is_word ws) (subst (λ (x : Option (List (List ℕ))). fits_words has x ≡ true) e h)

slot_stage : (k : Kind) (s : Slot) (head : Slot → Head) (es : List (List ℕ × Option (List ℕ))) (after : Head)
    → put_part (part.Null true) (head Absent) ≡ head Null → ((v : Value) → put_part (part.Val v) (head Absent) ≡ head (Is v))
    → fits_slot k s ≡ true → IsSlotWritten s
    → Stages k es (head s) after → Stages k ((codes "null", null_text s) ∷ (codes "val", val_text s) ∷ es) (head Absent) after
slot_stage k Absent head es after null val fits w s = s
slot_stage k Null head es after null val fits w s = (head Null, says_part k (codes "null") (codes "true") (field.Value reads.Null) (part.Null true) (head Absent) (head Null) (known_null k) (Ok true, inl refl, refl) null, s)
slot_stage k (Is v) head es after null val fits w s = (
  head (Is v),
  says_part k (codes "val") (printed v) (field.Value reads.Val) (part.Val v) (head Absent) (head (Is v)) (known_val k (has_value_of k v fits)) (Ok v, value_read k v fits w, refl) (val v),
  s,
)

max_read : (k : Kind) (o : Option Value) (v : Value) → fits_if_there k o ≡ true → IsWrittenIfThere o → o ≡ Some v → (known k (codes "max") ≡ Some (field.Value reads.Max)) × ReadsPart k (field.Value reads.Max) (printed v) (Ok (part.Max v))
max_read k o v fits w e =
    let f : fits_limit k v ≡ true = subst (λ (x : Option Value). fits_if_there k x ≡ true) e fits in
    let t = subst IsWrittenIfThere e w in
    (known_max k (has_limit_of k v f), (Ok v, limit_read k v f t, refl))

min_read : (k : Kind) (o : Option Value) (v : Value) → fits_if_there k o ≡ true → IsWrittenIfThere o → o ≡ Some v → (known k (codes "min") ≡ Some (field.Value reads.Min)) × ReadsPart k (field.Value reads.Min) (printed v) (Ok (part.Min v))
min_read k o v fits w e =
    let f : fits_limit k v ≡ true = subst (λ (x : Option Value). fits_if_there k x ≡ true) e fits in
    let t = subst IsWrittenIfThere e w in
    (known_min k (has_limit_of k v f), (Ok v, limit_read k v f t, refl))

precision_read : (k : Kind) (o : Option ℤ) (z : ℤ) → IsWrittenIfThere (option_map (λ z. value.Int z) o) → o ≡ Some z → (known k (codes "precision") ≡ Some (field.Value reads.Precision)) × ReadsPart k (field.Value reads.Precision) (printed (value.Int z)) (Ok (part.Precision z))
precision_read k o z w e =
    let t = subst (λ (x : Option ℤ). IsWrittenIfThere (option_map (λ z. value.Int z) x)) e w in
    (known_precision k, (Ok z, t, refl))

status_read_back : (k : Kind) (s : Status) → (known k (codes "status") ≡ Some (field.Value reads.Status)) × ReadsPart k (field.Value reads.Status) (status_word s) (Ok (part.Status s))
status_read_back k s = (known_status k, ap (read_as (λ x. part.Status x)) (sym (status_back s)))

writable_read : (k : Kind) (b : Bool) → (known k (codes "writable") ≡ Some (field.Value reads.Writable)) × ReadsPart k (field.Value reads.Writable) (printed (value.Bool b)) (Ok (part.Writable b))
writable_read k true = (known_writable k, (Ok true, inl refl, refl))
writable_read k false = (known_writable k, (Ok false, inl refl, refl))

-- ---- the whole head

abbrev facets_of : Option (List ℕ) → Option (List ℕ) → Option (List ℕ) → Option Value → Option Value → Option ℤ → Option (List ℕ) → Option Status → Option (List ℕ) → Option (List ℕ) → Option Bool → Facets
facets_of display display_name icon max min precision range status tz unit writable = record {
  display = display;
  display_name = display_name;
  icon = icon;
  min = min;
  max = max;
  precision = precision;
  range = range;
  status = status;
  tz = tz;
  unit = unit;
  writable = writable;
}

abbrev head_of : Kind → Option (List ℕ) → Option (List ℕ) → Option (List (List ℕ)) → Slot → Option (List (List ℕ)) → Option (List (List ℕ)) → Option (List (List ℕ)) → Facets → Head
head_of k name href is slot of input output facets = record {
  kind = k;
  name = name;
  href = href;
  is = is;
  of = of;
  input = input;
  output = output;
  slot = slot;
  facets = facets;
}

pub told : (ns : Option (List ℕ)) (h : Head) → IsHeadCarried h → fits_head h ≡ true → Stages h.kind (attributes ns h) (empty_head h.kind) h
told ns h c fits =
    let k : Kind = h.kind in
    let f : Facets = h.facets in
    let names = and_first (fits_name h.name && fits_lists h) (fits_slot k h.slot && fits_facets k f) fits in
    let values = and_second (fits_name h.name && fits_lists h) (fits_slot k h.slot && fits_facets k f) fits in
    let words = and_second (fits_name h.name) (fits_lists h) names in
    let is_fits = and_first (fits_words true h.is) (fits_words (has_of k) h.of && (fits_words (has_input k) h.input && fits_words (has_output k) h.output)) words in
    let others = and_second (fits_words true h.is) (fits_words (has_of k) h.of && (fits_words (has_input k) h.input && fits_words (has_output k) h.output)) words in
    let of_fits = and_first (fits_words (has_of k) h.of) (fits_words (has_input k) h.input && fits_words (has_output k) h.output) others in
    let calls = and_second (fits_words (has_of k) h.of) (fits_words (has_input k) h.input && fits_words (has_output k) h.output) others in
    let in_fits = and_first (fits_words (has_input k) h.input) (fits_words (has_output k) h.output) calls in
    let out_fits = and_second (fits_words (has_input k) h.input) (fits_words (has_output k) h.output) calls in
    let slot_fits = and_first (fits_slot k h.slot) (fits_facets k f) values in
    let limits = and_second (fits_slot k h.slot) (fits_facets k f) values in
    let min_fits = and_first (fits_if_there k f.min) (fits_if_there k f.max) limits in
    let max_fits = and_second (fits_if_there k f.min) (fits_if_there k f.max) limits in
    let whole = head_of k h.name h.href h.is h.slot h.of h.input h.output in
    ns_stage k ns _ (empty_head k) h
    (text_stage k (codes "name") texts.Name h.name (λ o. head_of k o None None Absent None None None (facets_of None None None None None None None None None None None)) _ h (known_text k (codes "name") texts.Name is_name) (λ t. refl)
    (text_stage k (codes "href") texts.Href h.href (λ o. head_of k h.name o None Absent None None None (facets_of None None None None None None None None None None None)) _ h (known_text k (codes "href") texts.Href is_href) (λ t. refl)
    (part_stage k (codes "is") (field.Words lists.Is) joined (λ ws. part.Words lists.Is ws) h.is (λ o. head_of k h.name h.href o Absent None None None (facets_of None None None None None None None None None None None)) _ h (λ ws e. (known_is k, words_read k lists.Is true h.is ws c.is is_fits e)) (λ ws. refl)
    (slot_stage k h.slot (λ s. head_of k h.name h.href h.is s None None None (facets_of None None None None None None None None None None None)) _ h refl (λ v. refl) slot_fits c.slot
    (part_stage k (codes "of") (field.Words lists.Of) joined (λ ws. part.Words lists.Of ws) h.of (λ o. head_of k h.name h.href h.is h.slot o None None (facets_of None None None None None None None None None None None)) _ h (λ ws e. (known_of k (has_words (has_of k) h.of ws of_fits e), words_read k lists.Of (has_of k) h.of ws c.of of_fits e)) (λ ws. refl)
    (part_stage k (codes "in") (field.Words lists.In) joined (λ ws. part.Words lists.In ws) h.input (λ o. head_of k h.name h.href h.is h.slot h.of o None (facets_of None None None None None None None None None None None)) _ h (λ ws e. (known_in k (has_words (has_input k) h.input ws in_fits e), words_read k lists.In (has_input k) h.input ws c.input in_fits e)) (λ ws. refl)
    (part_stage k (codes "out") (field.Words lists.Out) joined (λ ws. part.Words lists.Out ws) h.output (λ o. head_of k h.name h.href h.is h.slot h.of h.input o (facets_of None None None None None None None None None None None)) _ h (λ ws e. (known_out k (has_words (has_output k) h.output ws out_fits e), words_read k lists.Out (has_output k) h.output ws c.output out_fits e)) (λ ws. refl)
    (text_stage k (codes "display") texts.Display f.display (λ o. whole (facets_of o None None None None None None None None None None)) _ h (known_text k (codes "display") texts.Display is_display) (λ t. refl)
    (text_stage k (codes "displayName") texts.DisplayName f.display_name (λ o. whole (facets_of f.display o None None None None None None None None None)) _ h (known_text k (codes "displayName") texts.DisplayName is_display_name) (λ t. refl)
    (text_stage k (codes "icon") texts.Icon f.icon (λ o. whole (facets_of f.display f.display_name o None None None None None None None None)) _ h (known_text k (codes "icon") texts.Icon is_icon) (λ t. refl)
    (part_stage k (codes "max") (field.Value reads.Max) printed (λ v. part.Max v) f.max (λ o. whole (facets_of f.display f.display_name f.icon o None None None None None None None)) _ h (λ v e. max_read k f.max v max_fits c.max e) (λ v. refl)
    (part_stage k (codes "min") (field.Value reads.Min) printed (λ v. part.Min v) f.min (λ o. whole (facets_of f.display f.display_name f.icon f.max o None None None None None None)) _ h (λ v e. min_read k f.min v min_fits c.min e) (λ v. refl)
    (part_stage k (codes "precision") (field.Value reads.Precision) (λ z. printed (value.Int z)) (λ z. part.Precision z) f.precision (λ o. whole (facets_of f.display f.display_name f.icon f.max f.min o None None None None None)) _ h (λ z e. precision_read k f.precision z c.precision e) (λ z. refl)
    (text_stage k (codes "range") texts.Range f.range (λ o. whole (facets_of f.display f.display_name f.icon f.max f.min f.precision o None None None None)) _ h (known_text k (codes "range") texts.Range is_range) (λ t. refl)
    (part_stage k (codes "status") (field.Value reads.Status) status_word (λ s. part.Status s) f.status (λ o. whole (facets_of f.display f.display_name f.icon f.max f.min f.precision f.range o None None None)) _ h (λ s e. status_read_back k s) (λ s. refl)
    (text_stage k (codes "tz") texts.Tz f.tz (λ o. whole (facets_of f.display f.display_name f.icon f.max f.min f.precision f.range f.status o None None)) _ h (known_text k (codes "tz") texts.Tz is_tz) (λ t. refl)
    (text_stage k (codes "unit") texts.Unit f.unit (λ o. whole (facets_of f.display f.display_name f.icon f.max f.min f.precision f.range f.status f.tz o None)) _ h (known_text k (codes "unit") texts.Unit is_unit) (λ t. refl)
    (part_stage k (codes "writable") (field.Value reads.Writable) (λ b. printed (value.Bool b)) (λ b. part.Writable b) f.writable (λ o. whole (facets_of f.display f.display_name f.icon f.max f.min f.precision f.range f.status f.tz f.unit o)) _ h (λ b e. writable_read k b) (λ b. refl)
    refl))))))))))))))))))
