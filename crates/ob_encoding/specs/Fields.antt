-- The attributes of objects, by their names, and the kinds that have each.
use Rattle.std.specs.Prelude.{ℕ, Bool, true, false, List, Option, Some, None, if◌then◌else◌, codes}
use Rattle.ob_object.specs.declared.kind.Kind.{Kind}
use Rattle.ob_object.specs.declared.kind.Kind.TheVariants as kind
use Rattle.ob_object.specs.Kinds.{has_of, has_input, has_output, has_values}
use Rattle.ob_encoding.specs.declared.field.TextField.{TextField}
use Rattle.ob_encoding.specs.declared.field.TextField.TheVariants as texts
use Rattle.ob_encoding.specs.declared.field.WordsField.{WordsField}
use Rattle.ob_encoding.specs.declared.field.WordsField.TheVariants as lists
use Rattle.ob_encoding.specs.declared.field.ValueField.{ValueField}
use Rattle.ob_encoding.specs.declared.field.ValueField.TheVariants as reads
use Rattle.ob_encoding.specs.declared.field.Field.{Field}
use Rattle.ob_encoding.specs.declared.field.Field.TheVariants as field
use Rattle.ob_encoding.specs.Kinds.{same, or_else}

abbrev pub text_field : List ℕ → Option TextField
text_field n =
    if same n (codes "name") then Some texts.Name
    else if same n (codes "href") then Some texts.Href
    else if same n (codes "display") then Some texts.Display
    else if same n (codes "displayName") then Some texts.DisplayName
    else if same n (codes "icon") then Some texts.Icon
    else if same n (codes "range") then Some texts.Range
    else if same n (codes "tz") then Some texts.Tz
    else if same n (codes "unit") then Some texts.Unit
    else None

abbrev pub words_field : List ℕ → Option WordsField
words_field n =
    if same n (codes "is") then Some lists.Is
    else if same n (codes "of") then Some lists.Of
    else if same n (codes "in") then Some lists.In
    else if same n (codes "out") then Some lists.Out
    else None

abbrev pub value_field : List ℕ → Option ValueField
value_field n =
    if same n (codes "null") then Some reads.Null
    else if same n (codes "val") then Some reads.Val
    else if same n (codes "max") then Some reads.Max
    else if same n (codes "min") then Some reads.Min
    else if same n (codes "precision") then Some reads.Precision
    else if same n (codes "status") then Some reads.Status
    else if same n (codes "writable") then Some reads.Writable
    else None

abbrev pub then_read : {A B : Type 0} → Option A → (A → Option B) → Option B
then_read None f = None
then_read (Some x) f = f x

unfoldable pub field_of : List ℕ → Option Field
field_of n =
    or_else (then_read (text_field n) (λ f. Some (field.Text f)))
    (or_else (then_read (words_field n) (λ f. Some (field.Words f)))
    (then_read (value_field n) (λ f. Some (field.Value f))))

-- the kinds whose values, or whose lengths, are bounded by a least and a greatest
abbrev pub has_limit : Kind → Bool
has_limit kind.Int = true
has_limit kind.Real = true
has_limit kind.Str = true
has_limit kind.Abstime = true
has_limit kind.Reltime = true
has_limit kind.Date = true
has_limit kind.Time = true
has_limit kind.List = true
has_limit _ = false

-- the kinds that have the attribute
abbrev pub applies : Kind → Field → Bool
applies k (field.Text f) = true
applies k (field.Words lists.Is) = true
applies k (field.Words lists.Of) = has_of k
applies k (field.Words lists.In) = has_input k
applies k (field.Words lists.Out) = has_output k
applies k (field.Value reads.Null) = true
applies k (field.Value reads.Val) = has_values k
applies k (field.Value reads.Max) = has_limit k
applies k (field.Value reads.Min) = has_limit k
applies k (field.Value reads.Precision) = true
applies k (field.Value reads.Status) = true
applies k (field.Value reads.Writable) = true

abbrev pub known : Kind → List ℕ → Option Field
known k n = then_read (field_of n) (λ f. if applies k f then Some f else None)
