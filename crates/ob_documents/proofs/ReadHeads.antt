-- The head that attributes describe is one that a document can carry.
use Rattle.std.proofs.Common.{ℕ, Bool, true, false, cond, List, [], ◌∷◌, Option, Some, None, Result, Ok, sym, subst}
use Rattle.std.specs.Prelude.{codes}
use Rattle.std.specs.List.{AllByRecursion}
use Rattle.ob_values.specs.Faults.{ValueFault}
use Rattle.ob_values.specs.XmlText.{IsXmlText}
use Rattle.ob_values.specs.declared.value.Value.TheVariants as value
use Rattle.ob_object.specs.declared.kind.Kind.{Kind}
use Rattle.ob_object.specs.declared.head.Head.{Head}
use Rattle.ob_object.specs.declared.head.Slot.TheVariants as slots
use Rattle.ob_object.specs.Object.{empty_head}
use Rattle.ob_encoding.specs.declared.field.TextField.TheVariants as texts
use Rattle.ob_encoding.specs.declared.field.WordsField.TheVariants as lists
use Rattle.ob_encoding.specs.declared.field.ValueField.TheVariants as reads
use Rattle.ob_encoding.specs.declared.field.Field.{Field}
use Rattle.ob_encoding.specs.declared.field.Field.TheVariants as field
use Rattle.ob_encoding.specs.declared.part.Part.{Part}
use Rattle.ob_encoding.specs.declared.part.Part.TheVariants as part
use Rattle.ob_encoding.specs.Kinds.{same}
use Rattle.ob_encoding.specs.Fields.{known}
use Rattle.ob_encoding.specs.Parts.{ReadAs, ReadsPart, is_null, put_part}
use Rattle.ob_encoding.specs.WordLists.{words_of}
use Rattle.ob_documents.specs.Attributes.{Says, Tell, Describe, NamespaceBy, NamespaceIs}
use Rattle.ob_documents.specs.Carried.{IsTextIfThere, IsWritten, IsHeadCarried}
use Rattle.ob_documents.proofs.Fitting.{read_ok, same_part}
use Rattle.ob_documents.proofs.ReadTexts.{expands_xml, words_xml}
use Rattle.ob_documents.proofs.Written.{int_written, value_written, limit_written}

abbrev IsPartCarried : Part → Type 0
IsPartCarried (part.Text f t) = IsXmlText t
IsPartCarried (part.Words f ws) = AllByRecursion IsXmlText ws
IsPartCarried (part.Null b) = Unit {0}
IsPartCarried (part.Val v) = IsWritten v
IsPartCarried (part.Max v) = IsWritten v
IsPartCarried (part.Min v) = IsWritten v
IsPartCarried (part.Precision z) = IsWritten (value.Int z)
IsPartCarried (part.Status s) = Unit {0}
IsPartCarried (part.Writable b) = Unit {0}

empty_carried : (k : Kind) → IsHeadCarried (empty_head k)
empty_carried k = record { name = tt; href = tt; is = tt; of = tt; input = tt; output = tt; slot = tt; display = tt; display_name = tt; icon = tt; max = tt; min = tt; precision = tt; range = tt; tz = tt; unit = tt }

put_carried : (p : Part) (h : Head) → IsPartCarried p → IsHeadCarried h → IsHeadCarried (put_part p h)
put_carried (part.Text texts.Name t) h x c = record { name = x; href = c.href; is = c.is; of = c.of; input = c.input; output = c.output; slot = c.slot; display = c.display; display_name = c.display_name; icon = c.icon; max = c.max; min = c.min; precision = c.precision; range = c.range; tz = c.tz; unit = c.unit }
put_carried (part.Text texts.Href t) h x c = record { name = c.name; href = x; is = c.is; of = c.of; input = c.input; output = c.output; slot = c.slot; display = c.display; display_name = c.display_name; icon = c.icon; max = c.max; min = c.min; precision = c.precision; range = c.range; tz = c.tz; unit = c.unit }
put_carried (part.Text texts.Display t) h x c = record { name = c.name; href = c.href; is = c.is; of = c.of; input = c.input; output = c.output; slot = c.slot; display = x; display_name = c.display_name; icon = c.icon; max = c.max; min = c.min; precision = c.precision; range = c.range; tz = c.tz; unit = c.unit }
put_carried (part.Text texts.DisplayName t) h x c = record { name = c.name; href = c.href; is = c.is; of = c.of; input = c.input; output = c.output; slot = c.slot; display = c.display; display_name = x; icon = c.icon; max = c.max; min = c.min; precision = c.precision; range = c.range; tz = c.tz; unit = c.unit }
put_carried (part.Text texts.Icon t) h x c = record { name = c.name; href = c.href; is = c.is; of = c.of; input = c.input; output = c.output; slot = c.slot; display = c.display; display_name = c.display_name; icon = x; max = c.max; min = c.min; precision = c.precision; range = c.range; tz = c.tz; unit = c.unit }
put_carried (part.Text texts.Range t) h x c = record { name = c.name; href = c.href; is = c.is; of = c.of; input = c.input; output = c.output; slot = c.slot; display = c.display; display_name = c.display_name; icon = c.icon; max = c.max; min = c.min; precision = c.precision; range = x; tz = c.tz; unit = c.unit }
put_carried (part.Text texts.Tz t) h x c = record { name = c.name; href = c.href; is = c.is; of = c.of; input = c.input; output = c.output; slot = c.slot; display = c.display; display_name = c.display_name; icon = c.icon; max = c.max; min = c.min; precision = c.precision; range = c.range; tz = x; unit = c.unit }
put_carried (part.Text texts.Unit t) h x c = record { name = c.name; href = c.href; is = c.is; of = c.of; input = c.input; output = c.output; slot = c.slot; display = c.display; display_name = c.display_name; icon = c.icon; max = c.max; min = c.min; precision = c.precision; range = c.range; tz = c.tz; unit = x }
put_carried (part.Words lists.Is ws) h x c = record { name = c.name; href = c.href; is = x; of = c.of; input = c.input; output = c.output; slot = c.slot; display = c.display; display_name = c.display_name; icon = c.icon; max = c.max; min = c.min; precision = c.precision; range = c.range; tz = c.tz; unit = c.unit }
put_carried (part.Words lists.Of ws) h x c = record { name = c.name; href = c.href; is = c.is; of = x; input = c.input; output = c.output; slot = c.slot; display = c.display; display_name = c.display_name; icon = c.icon; max = c.max; min = c.min; precision = c.precision; range = c.range; tz = c.tz; unit = c.unit }
put_carried (part.Words lists.In ws) h x c = record { name = c.name; href = c.href; is = c.is; of = c.of; input = x; output = c.output; slot = c.slot; display = c.display; display_name = c.display_name; icon = c.icon; max = c.max; min = c.min; precision = c.precision; range = c.range; tz = c.tz; unit = c.unit }
put_carried (part.Words lists.Out ws) h x c = record { name = c.name; href = c.href; is = c.is; of = c.of; input = c.input; output = x; slot = c.slot; display = c.display; display_name = c.display_name; icon = c.icon; max = c.max; min = c.min; precision = c.precision; range = c.range; tz = c.tz; unit = c.unit }
put_carried (part.Null b) h x c = by b
  where
    slotless : IsHeadCarried (record h { slot = slots.Null })
    slotless = record { name = c.name; href = c.href; is = c.is; of = c.of; input = c.input; output = c.output; slot = tt; display = c.display; display_name = c.display_name; icon = c.icon; max = c.max; min = c.min; precision = c.precision; range = c.range; tz = c.tz; unit = c.unit }

    by : (b : Bool) → IsHeadCarried (cond b (record h { slot = slots.Null }) h)
    by true = slotless
    by false = c
put_carried (part.Val v) h x c = by (is_null h.slot)
  where
    valued : IsHeadCarried (record h { slot = slots.Is v })
    valued = record { name = c.name; href = c.href; is = c.is; of = c.of; input = c.input; output = c.output; slot = x; display = c.display; display_name = c.display_name; icon = c.icon; max = c.max; min = c.min; precision = c.precision; range = c.range; tz = c.tz; unit = c.unit }

    by : (b : Bool) → IsHeadCarried (cond b h (record h { slot = slots.Is v }))
    by true = c
    by false = valued
put_carried (part.Max v) h x c = record { name = c.name; href = c.href; is = c.is; of = c.of; input = c.input; output = c.output; slot = c.slot; display = c.display; display_name = c.display_name; icon = c.icon; max = x; min = c.min; precision = c.precision; range = c.range; tz = c.tz; unit = c.unit }
put_carried (part.Min v) h x c = record { name = c.name; href = c.href; is = c.is; of = c.of; input = c.input; output = c.output; slot = c.slot; display = c.display; display_name = c.display_name; icon = c.icon; max = c.max; min = x; precision = c.precision; range = c.range; tz = c.tz; unit = c.unit }
put_carried (part.Precision z) h x c = record { name = c.name; href = c.href; is = c.is; of = c.of; input = c.input; output = c.output; slot = c.slot; display = c.display; display_name = c.display_name; icon = c.icon; max = c.max; min = c.min; precision = x; range = c.range; tz = c.tz; unit = c.unit }
put_carried (part.Status s) h x c = record { name = c.name; href = c.href; is = c.is; of = c.of; input = c.input; output = c.output; slot = c.slot; display = c.display; display_name = c.display_name; icon = c.icon; max = c.max; min = c.min; precision = c.precision; range = c.range; tz = c.tz; unit = c.unit }
put_carried (part.Writable b) h x c = record { name = c.name; href = c.href; is = c.is; of = c.of; input = c.input; output = c.output; slot = c.slot; display = c.display; display_name = c.display_name; icon = c.icon; max = c.max; min = c.min; precision = c.precision; range = c.range; tz = c.tz; unit = c.unit }

part_by : {A : Type 0} (view : A → Part) (p : Part) (Reads : Result A ValueFault → Type 0) → ((x : A) → Reads (Ok x) → IsPartCarried (view x)) → ReadAs view Reads (Ok p) → IsPartCarried p
part_by view p Reads each r = let x = read_ok view r.0 p r.2 in subst IsPartCarried (sym x.2) (each x.0 (subst Reads x.1 r.1))

read_carried : (k : Kind) (f : Field) (text : List ℕ) (p : Part) → IsXmlText text → ReadsPart k f text (Ok p) → IsPartCarried p
read_carried k (field.Text f) t p h r = subst IsPartCarried (sym (same_part p (part.Text f t) r)) h
read_carried k (field.Words f) t p h r = subst IsPartCarried (sym (same_part p (part.Words f (words_of t)) r)) (words_xml t h)
read_carried k (field.Value reads.Null) t p h r = part_by (λ b. part.Null b) p _ (λ b _. tt) r
read_carried k (field.Value reads.Val) t p h r = part_by (λ v. part.Val v) p _ (λ v s. value_written k t v h s) r
read_carried k (field.Value reads.Max) t p h r = part_by (λ v. part.Max v) p _ (λ v s. limit_written k t v h s) r
read_carried k (field.Value reads.Min) t p h r = part_by (λ v. part.Min v) p _ (λ v s. limit_written k t v h s) r
read_carried k (field.Value reads.Precision) t p h r = part_by (λ z. part.Precision z) p _ (λ z s. int_written z s.1) r
read_carried k (field.Value reads.Status) t p h r = let x = read_ok (λ s. part.Status s) _ p r in subst IsPartCarried (sym x.2) tt
read_carried k (field.Value reads.Writable) t p h r = part_by (λ b. part.Writable b) p _ (λ b _. tt) r

says_carried : (o : Option Field) (k : Kind) (text : List ℕ) (before after : Head) → IsXmlText text → IsHeadCarried before → Says o k text before after → IsHeadCarried after
says_carried None k text before after h c s = subst IsHeadCarried (sym s) c
says_carried (Some f) k text before after h c s = subst IsHeadCarried (sym s.2) (put_carried s.0 before (read_carried k f text s.0 h s.1) c)

tell_carried : (k : Kind) (attributes : List (List ℕ × List ℕ)) (before after : Head) → IsHeadCarried before → Tell k attributes before after → IsHeadCarried after
tell_carried k [] before after c t = subst IsHeadCarried (sym t) c
tell_carried k (a ∷ attributes) before after c t =
    tell_carried k attributes t.0 after (says_carried (known k a.0) k t.1.0 before t.0 (expands_xml a.1 t.1.0 t.1.1) c t.1.2) t.2

pub described : (attributes : List (List ℕ × List ℕ)) (h : Head) → Describe attributes h → IsHeadCarried h
described attributes h d = tell_carried h.kind attributes (empty_head h.kind) h (empty_carried h.kind) d.told

pub namespace_carried : (attributes : List (List ℕ × List ℕ)) (ns : Option (List ℕ)) → NamespaceIs attributes ns → IsTextIfThere ns
namespace_carried [] ns h = subst IsTextIfThere (sym h) tt
namespace_carried (a ∷ attributes) ns h = by (same a.0 (codes "xmlns")) h (namespace_carried attributes ns)
  where
    by : (b : Bool) → NamespaceBy b a.1 ns (NamespaceIs attributes ns) → (NamespaceIs attributes ns → IsTextIfThere ns) → IsTextIfThere ns
    by true k behind = subst IsTextIfThere (sym k.2) (expands_xml a.1 k.0 k.1)
    by false k behind = behind k
