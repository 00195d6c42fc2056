-- The canonical text of an object.
use Rattle.std.specs.Prelude.{ℕ, List, [], ◌∷◌, ◌++◌, Option, Some, None, option_map, codes}
use Rattle.ob_values.specs.declared.value.Value.TheVariants.{Bool as Truth, Int}
use Rattle.ob_values.specs.Spelled.{printed}
use Rattle.ob_object.specs.declared.facet.Facets.{Facets}
use Rattle.ob_object.specs.declared.head.Head.{Head}
use Rattle.ob_object.specs.declared.head.Slot.{Slot}
use Rattle.ob_object.specs.declared.head.Slot.TheVariants.{Absent, Null, Is}
use Rattle.ob_object.specs.declared.kind.Kind.{Kind}
use Rattle.ob_object.specs.Object.{Objects, none, node, Object}
use Rattle.ob_encoding.specs.Names.{kind_name, status_word}
use Rattle.ob_encoding.specs.Escaped.{escaped}

-- words, with a space between two
abbrev pub joined : List (List ℕ) → List ℕ
joined [] = []
joined (word ∷ []) = word
joined (word ∷ words) = word ++ 32 ∷ joined words

-- true for a null
abbrev pub null_text : Slot → Option (List ℕ)
null_text Absent = None
null_text Null = Some (codes "true")
null_text (Is value) = None

abbrev pub val_text : Slot → Option (List ℕ)
val_text Absent = None
val_text Null = None
val_text (Is value) = Some (printed value)

-- The attributes that an object may have, in their order, each with its text where the object has it.
abbrev pub facet_attributes : Facets → List (List ℕ × Option (List ℕ))
facet_attributes f =
    (codes "display", f.display)
    ∷ (codes "displayName", f.display_name)
    ∷ (codes "icon", f.icon)
    ∷ (codes "max", option_map printed f.max)
    ∷ (codes "min", option_map printed f.min)
    ∷ (codes "precision", option_map (λ n. printed (Int n)) f.precision)
    ∷ (codes "range", f.range)
    ∷ (codes "status", option_map status_word f.status)
    ∷ (codes "tz", f.tz)
    ∷ (codes "unit", f.unit)
    ∷ (codes "writable", option_map (λ b. printed (Truth b)) f.writable)
    ∷ []

abbrev pub attributes : Option (List ℕ) → Head → List (List ℕ × Option (List ℕ))
attributes ns h =
    (codes "xmlns", ns)
    ∷ (codes "name", h.name)
    ∷ (codes "href", h.href)
    ∷ (codes "is", option_map joined h.is)
    ∷ (codes "null", null_text h.slot)
    ∷ (codes "val", val_text h.slot)
    ∷ (codes "of", option_map joined h.of)
    ∷ (codes "in", option_map joined h.input)
    ∷ (codes "out", option_map joined h.output)
    ∷ facet_attributes h.facets

-- nothing, or what leads to a value, the value and its closing quote
abbrev pub quoted : List ℕ → Option (List ℕ) → List ℕ
quoted lead None = []
quoted lead (Some text) = lead ++ (escaped text ++ 34 ∷ [])

-- ` name="value"`, if the object has it
abbrev pub attribute_text : List ℕ × Option (List ℕ) → List ℕ
attribute_text a = quoted (32 ∷ (a.0 ++ 61 ∷ 34 ∷ [])) a.1

abbrev pub attributes_text : List (List ℕ × Option (List ℕ)) → List ℕ
attributes_text [] = []
attributes_text (a ∷ more) = attribute_text a ++ attributes_text more

-- `<`, the kind and the attributes
abbrev pub start_text : Option (List ℕ) → Head → List ℕ
start_text ns h = 60 ∷ (kind_name h.kind ++ attributes_text (attributes ns h))

-- `/>`, or `>`, the text of the children, `</`, the kind and `>`
abbrev pub end_text : Kind → Objects → List ℕ → List ℕ
end_text k none inner = 47 ∷ 62 ∷ []
end_text k (node h below rest) inner = 62 ∷ (inner ++ 60 ∷ 47 ∷ (kind_name k ++ 62 ∷ []))

-- the objects of a row, one after another
abbrev pub row_text : Objects → List ℕ
row_text none = []
row_text (node h below rest) = (start_text None h ++ end_text h.kind below (row_text below)) ++ row_text rest

-- The text of an object, whose root element has the namespace, if there is one.
abbrev pub canonical_text : Option (List ℕ) → Object → List ℕ
canonical_text ns o = start_text ns o.head ++ end_text o.head.kind o.inner (row_text o.inner)
