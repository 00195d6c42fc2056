-- What an attribute says of an object.
use Rattle.std.specs.Prelude.{◌≡◌, ℕ, ℤ, Bool, true, false, List, Option, Some, None, Result, Ok, Err, if◌then◌else◌}
use Rattle.ob_values.specs.declared.value.Value.{Value}
use Rattle.ob_values.specs.declared.value.Value.TheVariants as values
use Rattle.ob_values.specs.Readers.{ReadsBool, ReadsInt, ReadsDec}
use Rattle.ob_values.specs.Times.{ReadsDate, ReadsTime, ReadsAbstime, ReadsReltime}
use Rattle.ob_values.specs.Faults.{ValueFault}
use Rattle.ob_object.specs.declared.kind.Kind.{Kind}
use Rattle.ob_object.specs.declared.kind.Kind.TheVariants as kind
use Rattle.ob_object.specs.declared.head.Head.{Head}
use Rattle.ob_object.specs.declared.head.Slot.{Slot}
use Rattle.ob_object.specs.declared.head.Slot.TheVariants as slots
use Rattle.ob_object.specs.declared.facet.Facets.{Facets}
use Rattle.ob_encoding.specs.declared.field.TextField.{TextField}
use Rattle.ob_encoding.specs.declared.field.TextField.TheVariants as texts
use Rattle.ob_encoding.specs.declared.field.WordsField.{WordsField}
use Rattle.ob_encoding.specs.declared.field.WordsField.TheVariants as lists
use Rattle.ob_encoding.specs.declared.field.ValueField.TheVariants as reads
use Rattle.ob_encoding.specs.declared.field.Field.{Field}
use Rattle.ob_encoding.specs.declared.field.Field.TheVariants as field
use Rattle.ob_encoding.specs.declared.part.Part.{Part}
use Rattle.ob_encoding.specs.declared.part.Part.TheVariants as part
use Rattle.ob_encoding.specs.declared.part.PartFault.{PartFault}
use Rattle.ob_encoding.specs.declared.part.PartFault.TheVariants as faults
use Rattle.ob_encoding.specs.Statuses.{status_read}
use Rattle.ob_encoding.specs.WordLists.{words_of}

abbrev pub read_as : {A B : Type 0} → (A → B) → Result A ValueFault → Result B ValueFault
read_as f (Ok x) = Ok (f x)
read_as f (Err e) = Err e

-- what is read, as the value or the part that it makes
abbrev pub ReadAs : {A B : Type 0} → (A → B) → (Result A ValueFault → Type 0) → Result B ValueFault → Type 0
ReadAs {A} view Reads answer = (read : Result A ValueFault) × Reads read × (answer ≡ read_as view read)

-- the value of this kind that the text spells; the other kinds have none
abbrev pub ReadsValue : Kind → List ℕ → Result Value ValueFault → Type 0
ReadsValue kind.Bool t answer = ReadAs (λ b. values.Bool b) (ReadsBool t) answer
ReadsValue kind.Int t answer = ReadAs (λ z. values.Int z) (ReadsInt t) answer
ReadsValue kind.Real t answer = ReadAs (λ z. values.Real z) (ReadsDec t) answer
ReadsValue kind.Str t answer = answer ≡ Ok (values.Str t)
ReadsValue kind.Enum t answer = answer ≡ Ok (values.Enum t)
ReadsValue kind.Uri t answer = answer ≡ Ok (values.Uri t)
ReadsValue kind.Abstime t answer = ReadAs (λ a. values.Abstime a) (ReadsAbstime t) answer
ReadsValue kind.Reltime t answer = ReadAs (λ s. values.Reltime s) (ReadsReltime t) answer
ReadsValue kind.Date t answer = ReadAs (λ d. values.Date d) (ReadsDate t) answer
ReadsValue kind.Time t answer = ReadAs (λ n. values.Time n) (ReadsTime t) answer
ReadsValue _ t answer = ⊥

-- the least or the greatest of the values of this kind, or of the lengths of what is counted
abbrev pub ReadsLimit : Kind → List ℕ → Result Value ValueFault → Type 0
ReadsLimit kind.Str t answer = ReadAs (λ z. values.Int z) (ReadsInt t) answer
ReadsLimit kind.List t answer = ReadAs (λ z. values.Int z) (ReadsInt t) answer
ReadsLimit k t answer = ReadsValue k t answer

-- what the attribute of an object of this kind says by this text
abbrev pub ReadsPart : Kind → Field → List ℕ → Result Part ValueFault → Type 0
ReadsPart k (field.Text f) t answer = answer ≡ Ok (part.Text f t)
ReadsPart k (field.Words f) t answer = answer ≡ Ok (part.Words f (words_of t))
ReadsPart k (field.Value reads.Null) t answer = ReadAs (λ b. part.Null b) (ReadsBool t) answer
ReadsPart k (field.Value reads.Val) t answer = ReadAs (λ v. part.Val v) (ReadsValue k t) answer
ReadsPart k (field.Value reads.Max) t answer = ReadAs (λ v. part.Max v) (ReadsLimit k t) answer
ReadsPart k (field.Value reads.Min) t answer = ReadAs (λ v. part.Min v) (ReadsLimit k t) answer
ReadsPart k (field.Value reads.Precision) t answer = ReadAs (λ z. part.Precision z) (ReadsInt t) answer
ReadsPart k (field.Value reads.Status) t answer = answer ≡ read_as (λ s. part.Status s) (status_read t)
ReadsPart k (field.Value reads.Writable) t answer = ReadAs (λ b. part.Writable b) (ReadsBool t) answer

-- ---- what a part makes of a head

abbrev pub with_facets : Head → Facets → Head
with_facets h f = record h { facets = f }

abbrev pub put_text : TextField → Head → List ℕ → Head
put_text texts.Name h t = record h { name = Some t }
put_text texts.Href h t = record h { href = Some t }
put_text texts.Display h t = with_facets h (record h.facets { display = Some t })
put_text texts.DisplayName h t = with_facets h (record h.facets { display_name = Some t })
put_text texts.Icon h t = with_facets h (record h.facets { icon = Some t })
put_text texts.Range h t = with_facets h (record h.facets { range = Some t })
put_text texts.Tz h t = with_facets h (record h.facets { tz = Some t })
put_text texts.Unit h t = with_facets h (record h.facets { unit = Some t })

abbrev pub put_words : WordsField → Head → List (List ℕ) → Head
put_words lists.Is h ws = record h { is = Some ws }
put_words lists.Of h ws = record h { of = Some ws }
put_words lists.In h ws = record h { input = Some ws }
put_words lists.Out h ws = record h { output = Some ws }

abbrev pub is_null : Slot → Bool
is_null slots.Null = true
is_null slots.Absent = false
is_null (slots.Is v) = false

-- null goes before a value, whichever comes first
abbrev pub nulled : Head → Bool → Head
nulled h b = if b then record h { slot = slots.Null } else h

abbrev pub valued : Head → Value → Head
valued h v = if is_null h.slot then h else record h { slot = slots.Is v }

abbrev pub put_part : Part → Head → Head
put_part (part.Text f t) h = put_text f h t
put_part (part.Words f ws) h = put_words f h ws
put_part (part.Null b) h = nulled h b
put_part (part.Val v) h = valued h v
put_part (part.Max v) h = with_facets h (record h.facets { max = Some v })
put_part (part.Min v) h = with_facets h (record h.facets { min = Some v })
put_part (part.Precision z) h = with_facets h (record h.facets { precision = Some z })
put_part (part.Status s) h = with_facets h (record h.facets { status = Some s })
put_part (part.Writable b) h = with_facets h (record h.facets { writable = Some b })

-- the part that was read, or why there is none, unless memory ran out
abbrev pub PartRead : Kind → Field → List ℕ → Result Part PartFault → Type 0
PartRead k f t (Ok p) = ReadsPart k f t (Ok p)
PartRead k f t (Err (faults.Value fault)) = ReadsPart k f t (Err fault)
PartRead k f t (Err faults.Memory) = Unit {0}
