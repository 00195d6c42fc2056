-- A name stays free with a part that is no name of a sibling.
use Rattle.std.proofs.Common.{◌≡◌, Bool, true, false, cond, List}
use Rattle.ob_values.specs.declared.value.Value.{Value}
use Rattle.ob_object.specs.declared.head.Head.{Head}
use Rattle.ob_object.specs.declared.head.Slot.TheVariants as slots
use Rattle.ob_object.specs.Object.{Object}
use Rattle.ob_object.specs.WellFormed.{is_taken}
use Rattle.ob_encoding.specs.declared.field.TextField.TheVariants as texts
use Rattle.ob_encoding.specs.declared.field.WordsField.TheVariants as lists
use Rattle.ob_encoding.specs.declared.part.Part.{Part}
use Rattle.ob_encoding.specs.declared.part.Part.TheVariants as part
use Rattle.ob_encoding.specs.Parts.{is_null, put_part}
use Rattle.ob_xml.specs.Structure.{is_twice}

nulled_free : (b : Bool) (h : Head) (os : List Object) → is_taken h.name os ≡ false → is_taken (put_part (part.Null b) h).name os ≡ false
nulled_free true h os f = f
nulled_free false h os f = f

valued_free : (v : Value) (h : Head) (os : List Object) → is_taken h.name os ≡ false → is_taken (put_part (part.Val v) h).name os ≡ false
valued_free v h os f = elim (is_null h.slot) as (λ b. is_taken (cond b h (record h { slot = slots.Is v })).name os ≡ false) [ true ↦ f | false ↦ f ]

pub still_free : (p : Part) (h : Head) (os : List Object) → is_taken h.name os ≡ false → is_twice p os ≡ false → is_taken (put_part p h).name os ≡ false
still_free (part.Text texts.Name t) h os f n = n
still_free (part.Text texts.Href t) h os f n = f
still_free (part.Text texts.Display t) h os f n = f
still_free (part.Text texts.DisplayName t) h os f n = f
still_free (part.Text texts.Icon t) h os f n = f
still_free (part.Text texts.Range t) h os f n = f
still_free (part.Text texts.Tz t) h os f n = f
still_free (part.Text texts.Unit t) h os f n = f
still_free (part.Words lists.Is ws) h os f n = f
still_free (part.Words lists.Of ws) h os f n = f
still_free (part.Words lists.In ws) h os f n = f
still_free (part.Words lists.Out ws) h os f n = f
still_free (part.Null b) h os f n = nulled_free b h os f
still_free (part.Val v) h os f n = valued_free v h os f
still_free (part.Max v) h os f n = f
still_free (part.Min v) h os f n = f
still_free (part.Precision z) h os f n = f
still_free (part.Status s) h os f n = f
still_free (part.Writable b) h os f n = f
