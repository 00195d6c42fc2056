-- What the attributes of a tag say of a head is written in at most sixteen times their bytes.
use Rattle.std.proofs.Common.{◌≡◌, ℕ, ◌+◌, ◌*◌, ◌≤◌, Bool, true, false, cond, List, [], ◌∷◌, length, Option, Some, None, Ok, refl, ap, ◌∙◌, arith, length-append}
use Rattle.std.specs.Prelude.{codes}
use Rattle.ob_values.specs.declared.value.Value.TheVariants.{Bool as Truth, Int}
use Rattle.ob_values.specs.Spelled.{printed}
use Rattle.ob_object.specs.declared.kind.Kind.{Kind}
use Rattle.ob_object.specs.declared.head.Head.{Head}
use Rattle.ob_object.specs.declared.head.Slot.TheVariants as slots
use Rattle.ob_object.specs.Object.{empty_head}
use Rattle.ob_encoding.specs.declared.field.TextField.TheVariants as texts
use Rattle.ob_encoding.specs.declared.field.WordsField.TheVariants as lists
use Rattle.ob_encoding.specs.declared.field.Field.{Field}
use Rattle.ob_encoding.specs.declared.part.Part.{Part}
use Rattle.ob_encoding.specs.declared.part.Part.TheVariants as part
use Rattle.ob_encoding.specs.Fields.{field_of, known}
use Rattle.ob_encoding.specs.Parts.{ReadsPart, is_null, put_part, nulled}
use Rattle.ob_scan.specs.Expansion.{Expands}
use Rattle.ob_encoding.specs.Names.{status_word}
use Rattle.ob_encoding.specs.Escaped.{escaped}
use Rattle.ob_encoding.specs.Canonical.{joined, attribute_text, attributes_text, attributes}
use Rattle.ob_documents.specs.Attributes.{Says, Tell}

-- ---- what is written for a head

-- the bytes of attributes, as they are written
abbrev written : List (List ℕ × Option (List ℕ)) → ℕ
written [] = 0
written (a ∷ attrs) = length (attribute_text a) + written attrs

written_is : (attrs : List (List ℕ × Option (List ℕ))) → length (attributes_text attrs) ≡ written attrs
written_is [] = refl
written_is (a ∷ attrs) = length-append (attribute_text a) (attributes_text attrs) ∙ ap (λ (n : ℕ). length (attribute_text a) + n) (written_is attrs)

-- the bytes of the attributes of a head
abbrev pub weight : Head → ℕ
weight h = written (attributes None h)

pub weighs : (h : Head) → length (attributes_text (attributes None h)) ≡ weight h
weighs h = written_is (attributes None h)

pub empty_weight : (k : Kind) → weight (empty_head k) ≡ 0
empty_weight k = refl

-- an attribute's text and what stands round it: no name has more than eleven bytes
abbrev pub one : List ℕ → ℕ
one text = 15 + length (escaped text)

-- the most that is written for a part
abbrev pub most : Part → ℕ
most (part.Text f t) = one t
most (part.Words f ws) = one (joined ws)
most (part.Null b) = one (codes "true")
most (part.Val v) = one (printed v)
most (part.Max v) = one (printed v)
most (part.Min v) = one (printed v)
most (part.Precision z) = one (printed (Int z))
most (part.Status s) = one (status_word s)
most (part.Writable b) = one (printed (Truth b))

-- a part that is put to a head adds what is written for it
put_grows : (p : Part) (h : Head) → weight (put_part p h) ≤ weight h + most p
put_grows (part.Text texts.Name t) h = omega (arith, length-append (escaped t) (34 ∷ []))
put_grows (part.Text texts.Href t) h = omega (arith, length-append (escaped t) (34 ∷ []))
put_grows (part.Text texts.Display t) h = omega (arith, length-append (escaped t) (34 ∷ []))
put_grows (part.Text texts.DisplayName t) h = omega (arith, length-append (escaped t) (34 ∷ []))
put_grows (part.Text texts.Icon t) h = omega (arith, length-append (escaped t) (34 ∷ []))
put_grows (part.Text texts.Range t) h = omega (arith, length-append (escaped t) (34 ∷ []))
put_grows (part.Text texts.Tz t) h = omega (arith, length-append (escaped t) (34 ∷ []))
put_grows (part.Text texts.Unit t) h = omega (arith, length-append (escaped t) (34 ∷ []))
put_grows (part.Words lists.Is ws) h = omega (arith, length-append (escaped (joined ws)) (34 ∷ []))
put_grows (part.Words lists.Of ws) h = omega (arith, length-append (escaped (joined ws)) (34 ∷ []))
put_grows (part.Words lists.In ws) h = omega (arith, length-append (escaped (joined ws)) (34 ∷ []))
put_grows (part.Words lists.Out ws) h = omega (arith, length-append (escaped (joined ws)) (34 ∷ []))
put_grows (part.Null b) h = go b
  where
    go : (b : Bool) → weight (nulled h b) ≤ weight h + one (codes "true")
    go true = omega arith
    go false = omega arith
put_grows (part.Val v) h = go (is_null h.slot)
  where
    go : (b : Bool) → let after : Head = cond b h (record h { slot = slots.Is v }) in weight after ≤ weight h + one (printed v)
    go true = omega arith
    go false = omega (arith, length-append (escaped (printed v)) (34 ∷ []))
put_grows (part.Max v) h = omega (arith, length-append (escaped (printed v)) (34 ∷ []))
put_grows (part.Min v) h = omega (arith, length-append (escaped (printed v)) (34 ∷ []))
put_grows (part.Precision z) h = omega (arith, length-append (escaped (printed (Int z))) (34 ∷ []))
put_grows (part.Status s) h = omega (arith, length-append (escaped (status_word s)) (34 ∷ []))
put_grows (part.Writable b) h = omega (arith, length-append (escaped (printed (Truth b))) (34 ∷ []))

-- ---- what is read

-- what is written for a part is at most so long beside the text that says it
abbrev pub PartsAreShort : Type 0
PartsAreShort = (k : Kind) (f : Field) (raw text : List ℕ) (p : Part) → Expands raw text → ReadsPart k f text (Ok p) → most p ≤ 79 + 16 * length raw

-- each attribute, with the blank before it, its equals sign and its quotes
abbrev pub tag_size : List (List ℕ × List ℕ) → ℕ
tag_size [] = 0
tag_size (a ∷ attrs) = ((length a.0 + length a.1) + 4) + tag_size attrs

module _ (parts_are_short : PartsAreShort) where
  says_grows : (name raw text : List ℕ) (k : Kind) (before after : Head) → Expands raw text → Says (known k name) k text before after → weight after ≤ weight before + 16 * ((length name + length raw) + 4)
  unfolding field_of
  says_grows [] raw text k before after x says = (let same : weight after ≡ weight before = ap weight says in omega (arith, same))
  says_grows (b ∷ name) raw text k before after x says = go (known k (b ∷ name)) says
    where
      go : (f : Option Field) → Says f k text before after → weight after ≤ weight before + 16 * ((length (b ∷ name) + length raw) + 4)
      go None says = (let same : weight after ≡ weight before = ap weight says in omega (arith, same))
      go (Some f) says =
          let p = says.0 in
          let same : weight after ≡ weight (put_part p before) = ap weight says.2 in
          omega (arith, same, put_grows p before, parts_are_short k f raw text p x says.1)

  pub tell_grows : (k : Kind) (attrs : List (List ℕ × List ℕ)) (before after : Head) → Tell k attrs before after → weight after ≤ weight before + 16 * tag_size attrs
  tell_grows k [] before after told = (let same : weight after ≡ weight before = ap weight told in omega (arith, same))
  tell_grows k (a ∷ attrs) before after told =
      let here = says_grows a.0 a.1 told.1.0 k before told.0 told.1.1 told.1.2 in
      omega (arith, here, tell_grows k attrs told.0 after told.2)
