-- What an attribute says fits the kind of the object, and only one attribute says the name.
use Rattle.std.proofs.Common.{◌≡◌, ℕ, ◌+◌, ◌/◌, ◌%◌, ◌≤◌, inl, inr, Bool, true, false, ◌&&◌, not, cond, eqb, List, [], ◌∷◌, ◌++◌, length, Option, Some, None, Result, Ok, Err, refl, sym, ap, ◌∙◌, subst, arith}
use Rattle.std.specs.Prelude.{codes}
use Rattle.std.specs.Char.{encode_utf8}
use Rattle.std.specs.Str.{chars}
use Rattle.std.specs.List.{list_all}
use Rattle.std.proofs.lemmas.List.Folds.{list_all-append}
use Rattle.std.proofs.lemmas.Bool.{cases_lt, eqb-true}
use Rattle.std.proofs.lemmas.Bool.Decides.{nat_tests}
use Rattle.ob_values.specs.Faults.{ValueFault}
use Rattle.ob_values.specs.declared.value.Value.{Value}
use Rattle.ob_values.proofs.Bools.{and_true, and_first, and_second, neither_left, neither_right}
use Rattle.ob_values.specs.declared.value.Value.TheVariants as value
use Rattle.ob_object.specs.declared.kind.Kind.{Kind}
use Rattle.ob_object.specs.declared.kind.Kind.TheVariants as kind
use Rattle.ob_object.specs.declared.head.Head.{Head}
use Rattle.ob_object.specs.declared.head.Slot.{Slot}
use Rattle.ob_object.specs.declared.head.Slot.TheVariants as slots
use Rattle.ob_object.specs.Kinds.{has_of, has_input, has_output}
use Rattle.ob_object.specs.Words.{is_white, is_word}
use Rattle.ob_object.specs.Fits.{fits_value, fits_limit, fits_slot, fits_if_there, fits_facets, fits_name, fits_words, fits_lists, fits_head}
use Rattle.ob_encoding.specs.declared.field.TextField.{TextField}
use Rattle.ob_encoding.specs.declared.field.TextField.TheVariants as texts
use Rattle.ob_encoding.specs.declared.field.WordsField.{WordsField}
use Rattle.ob_encoding.specs.declared.field.WordsField.TheVariants as lists
use Rattle.ob_encoding.specs.declared.field.ValueField.{ValueField}
use Rattle.ob_encoding.specs.declared.field.ValueField.TheVariants as reads
use Rattle.ob_encoding.specs.declared.field.Field.{Field}
use Rattle.ob_encoding.specs.declared.field.Field.TheVariants as field
use Rattle.ob_encoding.specs.declared.part.Part.{Part}
use Rattle.ob_encoding.specs.declared.part.Part.TheVariants as part
use Rattle.ob_encoding.specs.Kinds.{same, or_else}
use Rattle.ob_encoding.specs.Fields.{text_field, words_field, value_field, then_read, field_of, applies, known}
use Rattle.ob_encoding.specs.Parts.{read_as, ReadAs, ReadsValue, ReadsLimit, ReadsPart, is_null, put_text, put_words, put_part}
use Rattle.ob_encoding.specs.WordLists.{is_blank, ended, words_from, words_of}
use Rattle.ob_documents.specs.Attributes.{has_name, Says, Tell}
use Rattle.ob_documents.proofs.Characters.{encode_1, encode_2, encode_3, encode_4}

-- ---- names

pub same_true : (xs ys : List ℕ) → same xs ys ≡ true → xs ≡ ys
same_true [] [] e = refl
same_true [] (y ∷ ys) e = absurd cc
same_true (x ∷ xs) [] e = absurd cc
same_true (x ∷ xs) (y ∷ ys) e =
    ap (λ (n : ℕ). n ∷ xs) (eqb-true x y (and_first (eqb x y) (same xs ys) e)) ∙ ap (λ (t : List ℕ). y ∷ t) (same_true xs ys (and_second (eqb x y) (same xs ys) e))

-- the first of eight tests
text_name : (a b c d e f g h : Bool) → cond a (Some texts.Name) (cond b (Some texts.Href) (cond c (Some texts.Display) (cond d (Some texts.DisplayName) (cond e (Some texts.Icon) (cond f (Some texts.Range) (cond g (Some texts.Tz) (cond h (Some texts.Unit) None))))))) ≡ Some texts.Name → a ≡ true
text_name true b c d e f g h i = refl
text_name false true c d e f g h i = absurd cc
text_name false false true d e f g h i = absurd cc
text_name false false false true e f g h i = absurd cc
text_name false false false false true f g h i = absurd cc
text_name false false false false false true g h i = absurd cc
text_name false false false false false false true h i = absurd cc
text_name false false false false false false false true i = absurd cc
text_name false false false false false false false false i = absurd cc

from_text : (t : Option TextField) (w : Option WordsField) (v : Option ValueField) (f : TextField)
    → or_else (then_read t (λ x. Some (field.Text x))) (or_else (then_read w (λ x. Some (field.Words x))) (then_read v (λ x. Some (field.Value x)))) ≡ Some (field.Text f) → t ≡ Some f
from_text (Some g) w v f e = cc
from_text None (Some g) v f e = absurd cc
from_text None None (Some g) f e = absurd cc
from_text None None None f e = absurd cc

pub name_only : (n : List ℕ) → field_of n ≡ Some (field.Text texts.Name) → same n (codes "name") ≡ true
unfolding field_of
name_only n e =
    text_name (same n (codes "name")) (same n (codes "href")) (same n (codes "display")) (same n (codes "displayName")) (same n (codes "icon")) (same n (codes "range")) (same n (codes "tz")) (same n (codes "unit"))
    (from_text (text_field n) (words_field n) (value_field n) texts.Name e)

pub record IsFieldOf (k : Kind) (n : List ℕ) (f : Field) : Type 0 where
  pub field_is : field_of n ≡ Some f
  pub applies_is : applies k f ≡ true

chosen : (b : Bool) (f g : Field) → cond b (Some f) None ≡ Some g → (b ≡ true) × (f ≡ g)
chosen true f g e = (refl, cc)
chosen false f g e = absurd cc

pub known_parts : (k : Kind) (n : List ℕ) (f : Field) → known k n ≡ Some f → IsFieldOf k n f
known_parts k n f e = by (field_of n) refl e
  where
    by : (o : Option Field) → field_of n ≡ o → then_read o (λ g. cond (applies k g) (Some g) None) ≡ Some f → IsFieldOf k n f
    by None i h = absurd cc
    by (Some g) i h =
        let p = chosen (applies k g) g f h in
        record { field_is = i ∙ ap (λ (x : Field). Some x) p.1; applies_is = subst (λ (x : Field). applies k x ≡ true) p.1 p.0 }

abbrev pub IsNoNameText : TextField → Type 0
IsNoNameText texts.Name = ⊥
IsNoNameText texts.Href = Unit {0}
IsNoNameText texts.Display = Unit {0}
IsNoNameText texts.DisplayName = Unit {0}
IsNoNameText texts.Icon = Unit {0}
IsNoNameText texts.Range = Unit {0}
IsNoNameText texts.Tz = Unit {0}
IsNoNameText texts.Unit = Unit {0}

-- any field but the name
abbrev pub IsNoName : Field → Type 0
IsNoName (field.Text f) = IsNoNameText f
IsNoName (field.Words f) = Unit {0}
IsNoName (field.Value f) = Unit {0}

no_name_text : (f : TextField) → ((f ≡ texts.Name) → ⊥) → IsNoNameText f
no_name_text texts.Name h = h refl
no_name_text texts.Href h = tt
no_name_text texts.Display h = tt
no_name_text texts.DisplayName h = tt
no_name_text texts.Icon h = tt
no_name_text texts.Range h = tt
no_name_text texts.Tz h = tt
no_name_text texts.Unit h = tt

pub no_name : (n : List ℕ) (f : Field) → field_of n ≡ Some f → same n (codes "name") ≡ false → IsNoName f
no_name n (field.Text f) e other =
    no_name_text f (λ i. apart (name_only n (e ∙ ap (λ (g : TextField). Some (field.Text g)) i)) other)
  where
    apart : same n (codes "name") ≡ true → same n (codes "name") ≡ false → ⊥
    apart p q = let f : true ≡ false = sym p ∙ q in absurd cc
no_name n (field.Words f) e other = tt
no_name n (field.Value f) e other = tt

-- ---- words

plain_high : (b : ℕ) → 128 ≤ b → not (is_white b) ≡ true
plain_high b h = let e : is_white b ≡ false = grind (arith, nat_tests) in rw e refl

abbrev is_plain : List ℕ → Bool
is_plain bytes = list_all (λ b. not (is_white b)) bytes

char_plain : (c : ℕ) → is_blank c ≡ false → is_plain (encode_utf8 c) ≡ true
char_plain c h =
    elim (cases_lt c 128) [
      | inl one ↦ subst (λ (bs : List ℕ). is_plain bs ≡ true) (sym (encode_1 c one)) (low c h)
      | inr more ↦ elim (cases_lt c 2048) [
        | inl two ↦ subst (λ (bs : List ℕ). is_plain bs ≡ true) (sym (encode_2 c more two)) (rw (plain_high (192 + c / 64) (omega arith), plain_high (128 + c % 64) (omega arith)) refl)
        | inr beyond ↦ elim (cases_lt c 65536) [
          | inl three ↦ subst (λ (bs : List ℕ). is_plain bs ≡ true) (sym (encode_3 c beyond three)) (rw (plain_high (224 + c / 4096) (omega arith), plain_high (128 + c / 64 % 64) (omega arith), plain_high (128 + c % 64) (omega arith)) refl)
          | inr four ↦ subst (λ (bs : List ℕ). is_plain bs ≡ true) (sym (encode_4 c four)) (rw (plain_high (240 + c / 262144) (omega arith), plain_high (128 + c / 4096 % 64) (omega arith), plain_high (128 + c / 64 % 64) (omega arith), plain_high (128 + c % 64) (omega arith)) refl)
        ]
      ]
    ]
  where
    low : (c : ℕ) → is_blank c ≡ false → is_plain (c ∷ []) ≡ true
    low c h = rw h refl

ended_words : (word : List ℕ) (words : List (List ℕ)) → is_plain word ≡ true → list_all is_word words ≡ true → list_all is_word (ended word words) ≡ true
ended_words word words p q = by (eqb (length word) 0) refl
  where
    by : (t : Bool) → eqb (length word) 0 ≡ t → list_all is_word (cond t words (word ∷ words)) ≡ true
    by true e = q
    by false e = and_true (is_word word) (list_all is_word words) (rw (e, p) refl) q

words_words : (cs word : List ℕ) → is_plain word ≡ true → list_all is_word (words_from word cs) ≡ true
words_words [] word p = ended_words word [] p refl
words_words (c ∷ cs) word p = by (is_blank c) refl (words_words cs [] refl) (λ w h. words_words cs w h)
  where
    by : (t : Bool) → is_blank c ≡ t → list_all is_word (words_from [] cs) ≡ true → ((w : List ℕ) → is_plain w ≡ true → list_all is_word (words_from w cs) ≡ true)
        → list_all is_word (cond t (ended word (words_from [] cs)) (words_from (word ++ encode_utf8 c) cs)) ≡ true
    by true e rest on = ended_words word (words_from [] cs) p rest
    by false e rest on = on (word ++ encode_utf8 c) (list_all-append (λ b. not (is_white b)) word (encode_utf8 c) ∙ and_true (is_plain word) (is_plain (encode_utf8 c)) p (char_plain c e))

pub words_good : (t : List ℕ) → list_all is_word (words_of t) ≡ true
words_good t = words_words (chars t) [] refl

-- ---- values

pub read_ok : {A B : Type 0} (view : A → B) (r : Result A ValueFault) (p : B) → Ok p ≡ read_as view r → (x : A) × (r ≡ Ok x) × (p ≡ view x)
read_ok view (Ok x) p e = (x, refl, cc)
read_ok view (Err f) p e = absurd cc

view_fits : {A : Type 0} (k : Kind) (view : A → Value) (v : Value) (Reads : Result A ValueFault → Type 0) → ((x : A) → fits_value k (view x) ≡ true) → ReadAs view Reads (Ok v) → fits_value k v ≡ true
view_fits k view v Reads fits r = let x = read_ok view r.0 v r.2 in subst (λ (w : Value). fits_value k w ≡ true) (sym x.2) (fits x.0)

ok_value : (v w : Value) (r s : Result Value ValueFault) → r ≡ Ok v → s ≡ Ok w → r ≡ s → v ≡ w
ok_value v w r s a b c = cc

pub same_value : (v w : Value) → ◌≡◌ {A = Result Value ValueFault} (Ok v) (Ok w) → v ≡ w
same_value v w e = ok_value v w (Ok v) (Ok w) refl refl e

pub value_fits : (k : Kind) (t : List ℕ) (v : Value) → ReadsValue k t (Ok v) → fits_value k v ≡ true
value_fits kind.Bool t v r = view_fits kind.Bool (λ b. value.Bool b) v _ (λ b. refl) r
value_fits kind.Int t v r = view_fits kind.Int (λ z. value.Int z) v _ (λ z. refl) r
value_fits kind.Real t v r = view_fits kind.Real (λ z. value.Real z) v _ (λ z. refl) r
value_fits kind.Str t v r = subst (λ (w : Value). fits_value kind.Str w ≡ true) (sym (same_value v (value.Str t) r)) refl
value_fits kind.Enum t v r = subst (λ (w : Value). fits_value kind.Enum w ≡ true) (sym (same_value v (value.Enum t) r)) refl
value_fits kind.Uri t v r = subst (λ (w : Value). fits_value kind.Uri w ≡ true) (sym (same_value v (value.Uri t) r)) refl
value_fits kind.Abstime t v r = view_fits kind.Abstime (λ a. value.Abstime a) v _ (λ a. refl) r
value_fits kind.Reltime t v r = view_fits kind.Reltime (λ s. value.Reltime s) v _ (λ s. refl) r
value_fits kind.Date t v r = view_fits kind.Date (λ d. value.Date d) v _ (λ d. refl) r
value_fits kind.Time t v r = view_fits kind.Time (λ n. value.Time n) v _ (λ n. refl) r
value_fits kind.Obj t v r = absurd r
value_fits kind.List t v r = absurd r
value_fits kind.Op t v r = absurd r
value_fits kind.Feed t v r = absurd r
value_fits kind.Ref t v r = absurd r
value_fits kind.Err t v r = absurd r

limit_by : {A : Type 0} (k : Kind) (view : A → Value) (v : Value) (Reads : Result A ValueFault → Type 0) → ((x : A) → fits_limit k (view x) ≡ true) → ReadAs view Reads (Ok v) → fits_limit k v ≡ true
limit_by k view v Reads fits r = let x = read_ok view r.0 v r.2 in subst (λ (w : Value). fits_limit k w ≡ true) (sym x.2) (fits x.0)

pub limit_fits : (k : Kind) (t : List ℕ) (v : Value) → applies k (field.Value reads.Max) ≡ true → ReadsLimit k t (Ok v) → fits_limit k v ≡ true
limit_fits kind.Int t v a r = limit_by kind.Int (λ z. value.Int z) v _ (λ z. refl) r
limit_fits kind.Real t v a r = limit_by kind.Real (λ z. value.Real z) v _ (λ z. refl) r
limit_fits kind.Str t v a r = limit_by kind.Str (λ z. value.Int z) v _ (λ z. refl) r
limit_fits kind.Abstime t v a r = limit_by kind.Abstime (λ x. value.Abstime x) v _ (λ x. refl) r
limit_fits kind.Reltime t v a r = limit_by kind.Reltime (λ s. value.Reltime s) v _ (λ s. refl) r
limit_fits kind.Date t v a r = limit_by kind.Date (λ d. value.Date d) v _ (λ d. refl) r
limit_fits kind.Time t v a r = limit_by kind.Time (λ n. value.Time n) v _ (λ n. refl) r
limit_fits kind.List t v a r = limit_by kind.List (λ z. value.Int z) v _ (λ z. refl) r
limit_fits kind.Bool t v a r = let f : false ≡ true = a in absurd cc
limit_fits kind.Enum t v a r = let f : false ≡ true = a in absurd cc
limit_fits kind.Uri t v a r = let f : false ≡ true = a in absurd cc
limit_fits kind.Obj t v a r = absurd r
limit_fits kind.Op t v a r = absurd r
limit_fits kind.Feed t v a r = absurd r
limit_fits kind.Ref t v a r = absurd r
limit_fits kind.Err t v a r = absurd r

-- ---- a head with one part more

pub record FitParts (h : Head) : Type 0 where
  pub name : fits_name h.name ≡ true
  pub is : fits_words true h.is ≡ true
  pub of : fits_words (has_of h.kind) h.of ≡ true
  pub input : fits_words (has_input h.kind) h.input ≡ true
  pub output : fits_words (has_output h.kind) h.output ≡ true
  pub slot : fits_slot h.kind h.slot ≡ true
  pub min : fits_if_there h.kind h.facets.min ≡ true
  pub max : fits_if_there h.kind h.facets.max ≡ true

pub fit_parts : (h : Head) → fits_head h ≡ true → FitParts h
fit_parts h fits =
    let k = h.kind in
    let f = h.facets in
    let names = and_first (fits_name h.name && fits_lists h) (fits_slot k h.slot && fits_facets k f) fits in
    let values = and_second (fits_name h.name && fits_lists h) (fits_slot k h.slot && fits_facets k f) fits in
    let words = and_second (fits_name h.name) (fits_lists h) names in
    let others = and_second (fits_words true h.is) (fits_words (has_of k) h.of && (fits_words (has_input k) h.input && fits_words (has_output k) h.output)) words in
    let calls = and_second (fits_words (has_of k) h.of) (fits_words (has_input k) h.input && fits_words (has_output k) h.output) others in
    let limits = and_second (fits_slot k h.slot) (fits_facets k f) values in
    record {
      name = and_first (fits_name h.name) (fits_lists h) names;
      is = and_first (fits_words true h.is) (fits_words (has_of k) h.of && (fits_words (has_input k) h.input && fits_words (has_output k) h.output)) words;
      of = and_first (fits_words (has_of k) h.of) (fits_words (has_input k) h.input && fits_words (has_output k) h.output) others;
      input = and_first (fits_words (has_input k) h.input) (fits_words (has_output k) h.output) calls;
      output = and_second (fits_words (has_input k) h.input) (fits_words (has_output k) h.output) calls;
      slot = and_first (fits_slot k h.slot) (fits_facets k f) values;
      min = and_first (fits_if_there k f.min) (fits_if_there k f.max) limits;
      max = and_second (fits_if_there k f.min) (fits_if_there k f.max) limits;
    }

pub fit_whole : (h : Head) → FitParts h → fits_head h ≡ true
fit_whole h p =
    let k = h.kind in
    let f = h.facets in
    let calls = and_true (fits_words (has_input k) h.input) (fits_words (has_output k) h.output) p.input p.output in
    let others = and_true (fits_words (has_of k) h.of) (fits_words (has_input k) h.input && fits_words (has_output k) h.output) p.of calls in
    let words = and_true (fits_words true h.is) (fits_words (has_of k) h.of && (fits_words (has_input k) h.input && fits_words (has_output k) h.output)) p.is others in
    and_true (fits_name h.name && fits_lists h) (fits_slot k h.slot && fits_facets k f)
    (and_true (fits_name h.name) (fits_lists h) p.name words)
    (and_true (fits_slot k h.slot) (fits_facets k f) p.slot (and_true (fits_if_there k f.min) (fits_if_there k f.max) p.min p.max))

text_keeps : (f : TextField) (t : List ℕ) (h : Head) → IsNoNameText f → fits_head h ≡ true → fits_head (put_text f h t) ≡ true
text_keeps texts.Name t h n fits = absurd n
text_keeps texts.Href t h n fits = fits
text_keeps texts.Display t h n fits = fits
text_keeps texts.DisplayName t h n fits = fits
text_keeps texts.Icon t h n fits = fits
text_keeps texts.Range t h n fits = fits
text_keeps texts.Tz t h n fits = fits
text_keeps texts.Unit t h n fits = fits

words_keeps : (f : WordsField) (ws : List (List ℕ)) (h : Head) → applies h.kind (field.Words f) ≡ true → list_all is_word ws ≡ true → fits_head h ≡ true → fits_head (put_words f h ws) ≡ true
words_keeps lists.Is ws h a w fits =
    let p = fit_parts h fits in
    fit_whole (put_words lists.Is h ws) (record { name = p.name; is = w; of = p.of; input = p.input; output = p.output; slot = p.slot; min = p.min; max = p.max })
words_keeps lists.Of ws h a w fits =
    let p = fit_parts h fits in
    fit_whole (put_words lists.Of h ws) (record { name = p.name; is = p.is; of = and_true (has_of h.kind) (list_all is_word ws) a w; input = p.input; output = p.output; slot = p.slot; min = p.min; max = p.max })
words_keeps lists.In ws h a w fits =
    let p = fit_parts h fits in
    fit_whole (put_words lists.In h ws) (record { name = p.name; is = p.is; of = p.of; input = and_true (has_input h.kind) (list_all is_word ws) a w; output = p.output; slot = p.slot; min = p.min; max = p.max })
words_keeps lists.Out ws h a w fits =
    let p = fit_parts h fits in
    fit_whole (put_words lists.Out h ws) (record { name = p.name; is = p.is; of = p.of; input = p.input; output = and_true (has_output h.kind) (list_all is_word ws) a w; slot = p.slot; min = p.min; max = p.max })

slot_keeps : (h : Head) (s : Slot) → fits_head h ≡ true → fits_slot h.kind s ≡ true → fits_head (record h { slot = s }) ≡ true
slot_keeps h s fits e =
    let p = fit_parts h fits in
    fit_whole (record h { slot = s }) (record { name = p.name; is = p.is; of = p.of; input = p.input; output = p.output; slot = e; min = p.min; max = p.max })

null_keeps : (b : Bool) (h : Head) → fits_head h ≡ true → fits_head (put_part (part.Null b) h) ≡ true
null_keeps true h fits = slot_keeps h slots.Null fits refl
null_keeps false h fits = fits

val_keeps : (v : Value) (h : Head) → fits_value h.kind v ≡ true → fits_head h ≡ true → fits_head (put_part (part.Val v) h) ≡ true
val_keeps v h e fits = by (is_null h.slot)
  where
    by : (b : Bool) → fits_head (cond b h (record h { slot = slots.Is v })) ≡ true
    by true = fits
    by false = slot_keeps h (slots.Is v) fits e

max_keeps : (v : Value) (h : Head) → fits_limit h.kind v ≡ true → fits_head h ≡ true → fits_head (put_part (part.Max v) h) ≡ true
max_keeps v h e fits =
    let p = fit_parts h fits in
    fit_whole (put_part (part.Max v) h) (record { name = p.name; is = p.is; of = p.of; input = p.input; output = p.output; slot = p.slot; min = p.min; max = e })

min_keeps : (v : Value) (h : Head) → fits_limit h.kind v ≡ true → fits_head h ≡ true → fits_head (put_part (part.Min v) h) ≡ true
min_keeps v h e fits =
    let p = fit_parts h fits in
    fit_whole (put_part (part.Min v) h) (record { name = p.name; is = p.is; of = p.of; input = p.input; output = p.output; slot = p.slot; min = e; max = p.max })

ok_part : (p q : Part) (r s : Result Part ValueFault) → r ≡ Ok p → s ≡ Ok q → r ≡ s → p ≡ q
ok_part p q r s a b c = cc

pub same_part : (p q : Part) → ◌≡◌ {A = Result Part ValueFault} (Ok p) (Ok q) → p ≡ q
same_part p q e = ok_part p q (Ok p) (Ok q) refl refl e

by_part : (p q : Part) (h : Head) → p ≡ q → fits_head (put_part q h) ≡ true → fits_head (put_part p h) ≡ true
by_part p q h e f = subst (λ (x : Part). fits_head (put_part x h) ≡ true) (sym e) f

-- what any other attribute than the name says fits
pub part_keeps : (h : Head) (f : Field) (t : List ℕ) (p : Part) → applies h.kind f ≡ true → IsNoName f → ReadsPart h.kind f t (Ok p) → fits_head h ≡ true → fits_head (put_part p h) ≡ true
part_keeps h (field.Text f) t p a n r fits = by_part p (part.Text f t) h (same_part p (part.Text f t) r) (text_keeps f t h n fits)
part_keeps h (field.Words f) t p a n r fits = by_part p (part.Words f (words_of t)) h (same_part p (part.Words f (words_of t)) r) (words_keeps f (words_of t) h a (words_good t) fits)
part_keeps h (field.Value reads.Null) t p a n r fits = let x = read_ok (λ b. part.Null b) r.0 p r.2 in by_part p (part.Null x.0) h x.2 (null_keeps x.0 h fits)
part_keeps h (field.Value reads.Val) t p a n r fits =
    let x = read_ok (λ v. part.Val v) r.0 p r.2 in
    by_part p (part.Val x.0) h x.2 (val_keeps x.0 h (value_fits h.kind t x.0 (subst (ReadsValue h.kind t) x.1 r.1)) fits)
part_keeps h (field.Value reads.Max) t p a n r fits =
    let x = read_ok (λ v. part.Max v) r.0 p r.2 in
    by_part p (part.Max x.0) h x.2 (max_keeps x.0 h (limit_fits h.kind t x.0 a (subst (ReadsLimit h.kind t) x.1 r.1)) fits)
part_keeps h (field.Value reads.Min) t p a n r fits =
    let x = read_ok (λ v. part.Min v) r.0 p r.2 in
    by_part p (part.Min x.0) h x.2 (min_keeps x.0 h (limit_fits h.kind t x.0 a (subst (ReadsLimit h.kind t) x.1 r.1)) fits)
part_keeps h (field.Value reads.Precision) t p a n r fits = let x = read_ok (λ z. part.Precision z) r.0 p r.2 in by_part p (part.Precision x.0) h x.2 fits
part_keeps h (field.Value reads.Status) t p a n r fits = let x = read_ok (λ s. part.Status s) _ p r in by_part p (part.Status x.0) h x.2 fits
part_keeps h (field.Value reads.Writable) t p a n r fits = let x = read_ok (λ b. part.Writable b) r.0 p r.2 in by_part p (part.Writable x.0) h x.2 fits

-- ---- the name, once said, stays

abbrev pub IsNoNamePart : Part → Type 0
IsNoNamePart (part.Text f t) = IsNoNameText f
IsNoNamePart (part.Words f ws) = Unit {0}
IsNoNamePart (part.Null b) = Unit {0}
IsNoNamePart (part.Val v) = Unit {0}
IsNoNamePart (part.Max v) = Unit {0}
IsNoNamePart (part.Min v) = Unit {0}
IsNoNamePart (part.Precision z) = Unit {0}
IsNoNamePart (part.Status s) = Unit {0}
IsNoNamePart (part.Writable b) = Unit {0}

pub no_name_part : (k : Kind) (f : Field) (t : List ℕ) (p : Part) → IsNoName f → ReadsPart k f t (Ok p) → IsNoNamePart p
no_name_part k (field.Text f) t p n r = subst IsNoNamePart (sym (same_part p (part.Text f t) r)) n
no_name_part k (field.Words f) t p n r = subst IsNoNamePart (sym (same_part p (part.Words f (words_of t)) r)) tt
no_name_part k (field.Value reads.Null) t p n r = let x = read_ok (λ b. part.Null b) r.0 p r.2 in subst IsNoNamePart (sym x.2) tt
no_name_part k (field.Value reads.Val) t p n r = let x = read_ok (λ v. part.Val v) r.0 p r.2 in subst IsNoNamePart (sym x.2) tt
no_name_part k (field.Value reads.Max) t p n r = let x = read_ok (λ v. part.Max v) r.0 p r.2 in subst IsNoNamePart (sym x.2) tt
no_name_part k (field.Value reads.Min) t p n r = let x = read_ok (λ v. part.Min v) r.0 p r.2 in subst IsNoNamePart (sym x.2) tt
no_name_part k (field.Value reads.Precision) t p n r = let x = read_ok (λ z. part.Precision z) r.0 p r.2 in subst IsNoNamePart (sym x.2) tt
no_name_part k (field.Value reads.Status) t p n r = let x = read_ok (λ s. part.Status s) _ p r in subst IsNoNamePart (sym x.2) tt
no_name_part k (field.Value reads.Writable) t p n r = let x = read_ok (λ b. part.Writable b) r.0 p r.2 in subst IsNoNamePart (sym x.2) tt

text_name_stays : (f : TextField) (t : List ℕ) (h : Head) → IsNoNameText f → (put_text f h t).name ≡ h.name
text_name_stays texts.Name t h n = absurd n
text_name_stays texts.Href t h n = refl
text_name_stays texts.Display t h n = refl
text_name_stays texts.DisplayName t h n = refl
text_name_stays texts.Icon t h n = refl
text_name_stays texts.Range t h n = refl
text_name_stays texts.Tz t h n = refl
text_name_stays texts.Unit t h n = refl

words_name_stays : (f : WordsField) (ws : List (List ℕ)) (h : Head) → (put_words f h ws).name ≡ h.name
words_name_stays lists.Is ws h = refl
words_name_stays lists.Of ws h = refl
words_name_stays lists.In ws h = refl
words_name_stays lists.Out ws h = refl

null_name_stays : (b : Bool) (h : Head) → (put_part (part.Null b) h).name ≡ h.name
null_name_stays true h = refl
null_name_stays false h = refl

val_name_stays : (v : Value) (h : Head) → (put_part (part.Val v) h).name ≡ h.name
val_name_stays v h = by (is_null h.slot)
  where
    by : (b : Bool) → (cond b h (record h { slot = slots.Is v })).name ≡ h.name
    by true = refl
    by false = refl

pub name_stays : (p : Part) (h : Head) → IsNoNamePart p → (put_part p h).name ≡ h.name
name_stays (part.Text f t) h n = text_name_stays f t h n
name_stays (part.Words f ws) h n = words_name_stays f ws h
name_stays (part.Null b) h n = null_name_stays b h
name_stays (part.Val v) h n = val_name_stays v h
name_stays (part.Max v) h n = refl
name_stays (part.Min v) h n = refl
name_stays (part.Precision z) h n = refl
name_stays (part.Status s) h n = refl
name_stays (part.Writable b) h n = refl

-- ---- and the kind

text_kind_stays : (f : TextField) (t : List ℕ) (h : Head) → (put_text f h t).kind ≡ h.kind
text_kind_stays texts.Name t h = refl
text_kind_stays texts.Href t h = refl
text_kind_stays texts.Display t h = refl
text_kind_stays texts.DisplayName t h = refl
text_kind_stays texts.Icon t h = refl
text_kind_stays texts.Range t h = refl
text_kind_stays texts.Tz t h = refl
text_kind_stays texts.Unit t h = refl

words_kind_stays : (f : WordsField) (ws : List (List ℕ)) (h : Head) → (put_words f h ws).kind ≡ h.kind
words_kind_stays lists.Is ws h = refl
words_kind_stays lists.Of ws h = refl
words_kind_stays lists.In ws h = refl
words_kind_stays lists.Out ws h = refl

null_kind_stays : (b : Bool) (h : Head) → (put_part (part.Null b) h).kind ≡ h.kind
null_kind_stays true h = refl
null_kind_stays false h = refl

val_kind_stays : (v : Value) (h : Head) → (put_part (part.Val v) h).kind ≡ h.kind
val_kind_stays v h = by (is_null h.slot)
  where
    by : (b : Bool) → (cond b h (record h { slot = slots.Is v })).kind ≡ h.kind
    by true = refl
    by false = refl

pub kind_stays : (p : Part) (h : Head) → (put_part p h).kind ≡ h.kind
kind_stays (part.Text f t) h = text_kind_stays f t h
kind_stays (part.Words f ws) h = words_kind_stays f ws h
kind_stays (part.Null b) h = null_kind_stays b h
kind_stays (part.Val v) h = val_kind_stays v h
kind_stays (part.Max v) h = refl
kind_stays (part.Min v) h = refl
kind_stays (part.Precision z) h = refl
kind_stays (part.Status s) h = refl
kind_stays (part.Writable b) h = refl

-- what is told behind the name leaves it
says_name : (o : Option Field) (k : Kind) (n text : List ℕ) (before after : Head) → known k n ≡ o → same n (codes "name") ≡ false → Says o k text before after → after.name ≡ before.name
says_name None k n text before after e other s = ap (λ (h : Head). h.name) s
says_name (Some f) k n text before after e other s =
    let is = known_parts k n f e in
    ap (λ (h : Head). h.name) s.2 ∙ name_stays s.0 before (no_name_part k f text s.0 (no_name n f is.field_is other) s.1)

pub tell_name : (k : Kind) (xs : List (List ℕ × List ℕ)) (before after : Head) → has_name xs (codes "name") ≡ false → Tell k xs before after → after.name ≡ before.name
tell_name k [] before after none t = ap (λ (h : Head). h.name) t
tell_name k (x ∷ xs) before after none t =
    tell_name k xs t.0 after (neither_right (same x.0 (codes "name")) (has_name xs (codes "name")) none) t.2
    ∙ says_name (known k x.0) k x.0 t.1.0 before t.0 refl (neither_left (same x.0 (codes "name")) (has_name xs (codes "name")) none) t.1.2
