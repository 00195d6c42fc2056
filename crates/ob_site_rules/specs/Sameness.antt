-- Objects that are the same, told by computing.
use Rattle.std.specs.Prelude.{ℤ, pos, Bool, true, false, not, ◌&&◌, nat_eq, List, [], ◌∷◌, Option, Some, None}
use Rattle.std.specs.Str.{bytes_eq}
use Rattle.std.specs.Ordering.{int_eq}
use Rattle.ob_values.specs.declared.value.Value.{Value}
use Rattle.ob_values.specs.declared.value.Value.TheVariants.{Bool as IsBool, Int, Real, Str, Enum, Uri, Abstime, Reltime, Date, Time}
use Rattle.ob_object.specs.declared.head.Slot.{Slot}
use Rattle.ob_object.specs.declared.head.Slot.TheVariants.{Absent, Null, Is}
use Rattle.ob_object.specs.declared.status.Status.{Status}
use Rattle.ob_object.specs.declared.facet.Facets.{Facets}
use Rattle.ob_object.specs.declared.head.Head.{Head}
use Rattle.ob_object.specs.Kinds.{same_kind, kind_of}
use Rattle.ob_object.specs.Status.{rank}
use Rattle.ob_object.specs.Object.{Objects, none, node, Object}
use Rattle.ob_site_rules.specs.Build.{Text}

-- both true, or both false
abbrev pub same_bool : Bool → Bool → Bool
same_bool true b = b
same_bool false b = not b

-- the numbers of a value that has no text
abbrev pub numbers : Value → List ℤ
numbers (IsBool b) = []
numbers (Int i) = i ∷ []
numbers (Real r) = r ∷ []
numbers (Str t) = []
numbers (Enum t) = []
numbers (Uri t) = []
numbers (Abstime a) = a.seconds ∷ pos a.nanos ∷ a.offset ∷ []
numbers (Reltime r) = r.months ∷ r.nanos ∷ []
numbers (Date d) = d.year ∷ pos d.month ∷ pos d.day ∷ []
numbers (Time t) = pos t ∷ []

-- the same numbers in the same order
abbrev pub same_numbers : List ℤ → List ℤ → Bool
same_numbers [] [] = true
same_numbers [] (y ∷ ys) = false
same_numbers (x ∷ xs) [] = false
same_numbers (x ∷ xs) (y ∷ ys) = int_eq x y && same_numbers xs ys

-- the same value of the same kind; times with an offset are the same where the offset is the same too
abbrev pub same_value : Value → Value → Bool
same_value (IsBool a) (IsBool b) = same_bool a b
same_value (Str s) (Str t) = bytes_eq s t
same_value (Enum s) (Enum t) = bytes_eq s t
same_value (Uri s) (Uri t) = bytes_eq s t
same_value v w = same_kind (kind_of v) (kind_of w) && same_numbers (numbers v) (numbers w)

-- both absent, both null, or the same value
abbrev pub same_slot : Slot → Slot → Bool
same_slot Absent Absent = true
same_slot Null Null = true
same_slot (Is v) (Is w) = same_value v w
same_slot _ _ = false

-- neither is there, or both are and are the same
abbrev pub same_option : {A : Type 0} → (A → A → Bool) → Option A → Option A → Bool
same_option same None None = true
same_option same None (Some b) = false
same_option same (Some a) None = false
same_option same (Some a) (Some b) = same a b

-- as many on both sides, the same in the same order
abbrev pub same_list : {A : Type 0} → (A → A → Bool) → List A → List A → Bool
same_list same [] [] = true
same_list same [] (b ∷ bs) = false
same_list same (a ∷ xs) [] = false
same_list same (a ∷ xs) (b ∷ bs) = same a b && same_list same xs bs

-- no text, or the same bytes
abbrev pub same_text : Option Text → Option Text → Bool
same_text = same_option bytes_eq

-- no words, or the same in the same order
abbrev pub same_words : Option (List Text) → Option (List Text) → Bool
same_words = same_option (same_list bytes_eq)

-- the same of the eight statuses, told by their rank
abbrev pub same_status : Status → Status → Bool
same_status s t = nat_eq (rank s) (rank t)

-- each of the eleven facets is the same
abbrev pub same_facets : Facets → Facets → Bool
same_facets f g =
    same_text f.display g.display && (same_text f.display_name g.display_name && (same_text f.icon g.icon
    && (same_option same_value f.min g.min && (same_option same_value f.max g.max && (same_option int_eq f.precision g.precision
    && (same_text f.range g.range && (same_option same_status f.status g.status && (same_text f.tz g.tz
    && (same_text f.unit g.unit && same_option same_bool f.writable g.writable)))))))))

-- the same kind, name, href, words, slot and facets
abbrev pub same_head : Head → Head → Bool
same_head h k =
    same_kind h.kind k.kind && (same_text h.name k.name && (same_text h.href k.href
    && (same_words h.is k.is && (same_words h.of k.of && (same_words h.input k.input && (same_words h.output k.output
    && (same_slot h.slot k.slot && same_facets h.facets k.facets)))))))

-- the same objects in the same order, with the same in them
abbrev pub same_row : Objects → Objects → Bool
same_row none none = true
same_row none (node k below rest) = false
same_row (node h inner more) none = false
same_row (node h inner more) (node k below rest) = same_head h k && (same_row inner below && same_row more rest)

-- the same heads, and the same children in the same order
abbrev pub same_object : Object → Object → Bool
same_object a b = same_head a.head b.head && same_row a.inner b.inner
