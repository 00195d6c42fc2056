-- The test of sameness decides whether objects are equal.
use Rattle.std.proofs.Common.{ℕ, ◌≡◌, Bool, true, false, cond, ◌&&◌, List, [], ◌∷◌, Option, Some, None, refl, sym, ap, ◌∙◌, ap₂, subst}
use Rattle.std.specs.Prelude.{ℤ, pos, nat_abs, ◌==◌}
use Rattle.std.proofs.lemmas.Slice.Eq.{bytes_eq-Decides}
use Rattle.std.specs.Str.{bytes_eq}
use Rattle.std.specs.Bool.{Decides}
use Rattle.std.specs.Ordering.{int_eq}
use Rattle.std.proofs.lemmas.Bool.Decides.{Decides-int_eq, Decides-eqb}
use Rattle.jiff.proofs.Family.{same_date}
use Rattle.jiff_core.proofs.DateLemmas.{epoch_day_same}
use Rattle.ob_values.specs.Times.{Date as Plain}
use Rattle.ob_values.specs.declared.value.Value.{Value}
use Rattle.ob_values.specs.declared.value.Value.TheVariants.{Bool as IsBool, Int, Real, Str, Enum, Uri, Abstime, Reltime, Date, Time}
use Rattle.ob_values.proofs.Bools.{both_true, and_true}
use Rattle.ob_object.specs.declared.kind.Kind.{Kind}
use Rattle.ob_object.specs.declared.kind.Kind.TheVariants as kind
use Rattle.ob_object.specs.declared.head.Slot.{Slot}
use Rattle.ob_object.specs.declared.head.Slot.TheVariants.{Absent, Null, Is}
use Rattle.ob_object.specs.declared.status.Status.{Status}
use Rattle.ob_object.specs.declared.status.Status.TheVariants as status
use Rattle.ob_object.specs.declared.facet.Facets.{Facets}
use Rattle.ob_object.specs.declared.head.Head.{Head}
use Rattle.ob_object.specs.Kinds.{number, same_kind}
use Rattle.ob_object.specs.Status.{rank}
use Rattle.ob_object.specs.Object.{Objects, none, node, Object}
use Rattle.ob_site_rules.specs.Sameness.{numbers, same_value, same_slot, same_bool, same_numbers, same_option, same_list, same_text, same_words, same_status, same_facets, same_head, same_row, same_object}

-- a test that holds only of equal things, and of each thing and itself
pub record Tells {A : Type 0} (same : A → A → Bool) : Type 0 where
  pub equal : (a b : A) → same a b ≡ true → a ≡ b
  pub itself : (a : A) → same a a ≡ true

pub tells_option : {A : Type 0} (same : A → A → Bool) → Tells same → Tells (same_option same)
tells_option {A} same t = record { equal = equal; itself = itself }
  where
    equal : (a b : Option A) → same_option same a b ≡ true → a ≡ b
    equal None None h = refl
    equal None (Some b) h = absurd cc
    equal (Some a) None h = absurd cc
    equal (Some a) (Some b) h = ap Some (t.equal a b h)

    itself : (a : Option A) → same_option same a a ≡ true
    itself None = refl
    itself (Some a) = t.itself a

list_equal : {A : Type 0} (same : A → A → Bool) → Tells same → (xs ys : List A) → same_list same xs ys ≡ true → xs ≡ ys
list_equal same t [] [] h = refl
list_equal same t [] (y ∷ ys) h = absurd cc
list_equal same t (x ∷ xs) [] h = absurd cc
list_equal {A} same t (x ∷ xs) (y ∷ ys) h =
    let hs = both_true (same x y) (same_list same xs ys) h in
    ap₂ (λ (z : A) (zs : List A). z ∷ zs) (t.equal x y hs.0) (list_equal same t xs ys hs.1)

list_itself : {A : Type 0} (same : A → A → Bool) → Tells same → (xs : List A) → same_list same xs xs ≡ true
list_itself same t [] = refl
list_itself same t (x ∷ xs) = and_true (same x x) (same_list same xs xs) (t.itself x) (list_itself same t xs)

pub tells_list : {A : Type 0} (same : A → A → Bool) → Tells same → Tells (same_list same)
tells_list same t = record { equal = list_equal same t; itself = list_itself same t }

from_decides : {A : Type 0} (same : A → A → Bool) → ((a b : A) → Decides (same a b) (a ≡ b)) → Tells same
from_decides same d = record { equal = λ a b. (d a b).0; itself = λ a. (d a a).1 refl }

pub tells_int : Tells int_eq
tells_int = from_decides int_eq Decides-int_eq

pub tells_text : Tells bytes_eq
tells_text = from_decides bytes_eq bytes_eq-Decides

numbers_equal : (xs ys : List ℤ) → same_numbers xs ys ≡ true → xs ≡ ys
numbers_equal [] [] h = refl
numbers_equal [] (y ∷ ys) h = absurd cc
numbers_equal (x ∷ xs) [] h = absurd cc
numbers_equal (x ∷ xs) (y ∷ ys) h =
    let hs = both_true (int_eq x y) (same_numbers xs ys) h in
    ap₂ (λ (z : ℤ) (zs : List ℤ). z ∷ zs) (tells_int.equal x y hs.0) (numbers_equal xs ys hs.1)

numbers_itself : (xs : List ℤ) → same_numbers xs xs ≡ true
numbers_itself [] = refl
numbers_itself (x ∷ xs) = and_true (int_eq x x) (same_numbers xs xs) (tells_int.itself x) (numbers_itself xs)

bool_equal : (a b : Bool) → same_bool a b ≡ true → a ≡ b
bool_equal true b h = sym h
bool_equal false true h = absurd cc
bool_equal false false h = refl

bool_itself : (a : Bool) → same_bool a a ≡ true
bool_itself true = refl
bool_itself false = refl

pub tells_bool : Tells same_bool
tells_bool = record { equal = bool_equal; itself = bool_itself }

abbrev first : List ℤ → ℤ
first [] = pos 0
first (x ∷ xs) = x

abbrev second : List ℤ → ℤ
second [] = pos 0
second (x ∷ xs) = first xs

abbrev third : List ℤ → ℤ
third [] = pos 0
third (x ∷ xs) = second xs

-- a date has proofs in it, and is told by its day
date_equal : (a b : Plain) → numbers (Date a) ≡ numbers (Date b) → a ≡ b
date_equal a b h = same_date a b (epoch_day_same a b (ap first h) (ap (λ xs. nat_abs (second xs)) h) (ap (λ xs. nat_abs (third xs)) h))

value_equal : (v w : Value) → same_value v w ≡ true → v ≡ w
value_equal (IsBool a) (IsBool b) h = ap IsBool (bool_equal a b h)
value_equal (Int a) (Int b) h = ap (λ xs. Int (first xs)) (numbers_equal (numbers (Int a)) (numbers (Int b)) h)
value_equal (Real a) (Real b) h = ap (λ xs. Real (first xs)) (numbers_equal (numbers (Real a)) (numbers (Real b)) h)
value_equal (Str a) (Str b) h = ap Str (tells_text.equal a b h)
value_equal (Enum a) (Enum b) h = ap Enum (tells_text.equal a b h)
value_equal (Uri a) (Uri b) h = ap Uri (tells_text.equal a b h)
value_equal (Abstime a) (Abstime b) h = ap (λ xs. Abstime (record { seconds = first xs; nanos = nat_abs (second xs); offset = third xs })) (numbers_equal (numbers (Abstime a)) (numbers (Abstime b)) h)
value_equal (Reltime a) (Reltime b) h = ap (λ xs. Reltime (record { months = first xs; nanos = second xs })) (numbers_equal (numbers (Reltime a)) (numbers (Reltime b)) h)
value_equal (Date a) (Date b) h = ap (λ (d : Plain). Date d) (date_equal a b (numbers_equal (numbers (Date a)) (numbers (Date b)) h))
value_equal (Time a) (Time b) h = ap (λ xs. Time (nat_abs (first xs))) (numbers_equal (numbers (Time a)) (numbers (Time b)) h)
value_equal _ _ h = absurd cc

value_itself : (v : Value) → same_value v v ≡ true
value_itself (IsBool a) = bool_itself a
value_itself (Str a) = tells_text.itself a
value_itself (Enum a) = tells_text.itself a
value_itself (Uri a) = tells_text.itself a
value_itself (Int a) = numbers_itself (numbers (Int a))
value_itself (Real a) = numbers_itself (numbers (Real a))
value_itself (Abstime a) = numbers_itself (numbers (Abstime a))
value_itself (Reltime a) = numbers_itself (numbers (Reltime a))
value_itself (Date a) = numbers_itself (numbers (Date a))
value_itself (Time a) = numbers_itself (numbers (Time a))

pub tells_value : Tells same_value
tells_value = record { equal = value_equal; itself = value_itself }

slot_equal : (v w : Slot) → same_slot v w ≡ true → v ≡ w
slot_equal Absent Absent h = refl
slot_equal Null Null h = refl
slot_equal (Is v) (Is w) h = ap Is (value_equal v w h)
slot_equal _ _ h = absurd cc

slot_itself : (v : Slot) → same_slot v v ≡ true
slot_itself Absent = refl
slot_itself Null = refl
slot_itself (Is v) = value_itself v

pub tells_slot : Tells same_slot
tells_slot = record { equal = slot_equal; itself = slot_itself }

abbrev kind_numbered : ℕ → Kind
kind_numbered n = cond (n == 0) kind.Obj (cond (n == 1) kind.Bool (cond (n == 2) kind.Int (cond (n == 3) kind.Real (cond (n == 4) kind.Str (cond (n == 5) kind.Enum (cond (n == 6) kind.Uri (cond (n == 7) kind.Abstime (cond (n == 8) kind.Reltime (cond (n == 9) kind.Date (cond (n == 10) kind.Time (cond (n == 11) kind.List (cond (n == 12) kind.Op (cond (n == 13) kind.Feed (cond (n == 14) kind.Ref kind.Err))))))))))))))

kind_back : (k : Kind) → kind_numbered (number k) ≡ k
kind_back kind.Obj = refl
kind_back kind.Bool = refl
kind_back kind.Int = refl
kind_back kind.Real = refl
kind_back kind.Str = refl
kind_back kind.Enum = refl
kind_back kind.Uri = refl
kind_back kind.Abstime = refl
kind_back kind.Reltime = refl
kind_back kind.Date = refl
kind_back kind.Time = refl
kind_back kind.List = refl
kind_back kind.Op = refl
kind_back kind.Feed = refl
kind_back kind.Ref = refl
kind_back kind.Err = refl

pub tells_kind : Tells same_kind
tells_kind = record {
  equal = λ a b h. sym (kind_back a) ∙ ap kind_numbered ((Decides-eqb (number a) (number b)).0 h) ∙ kind_back b;
  itself = λ a. (Decides-eqb (number a) (number a)).1 refl;
}

abbrev status_numbered : ℕ → Status
status_numbered n = cond (n == 0) status.Disabled (cond (n == 1) status.Fault (cond (n == 2) status.Down (cond (n == 3) status.UnackedAlarm (cond (n == 4) status.Alarm (cond (n == 5) status.Unacked (cond (n == 6) status.Overridden status.Ok))))))

status_back : (k : Status) → status_numbered (rank k) ≡ k
status_back status.Disabled = refl
status_back status.Fault = refl
status_back status.Down = refl
status_back status.UnackedAlarm = refl
status_back status.Alarm = refl
status_back status.Unacked = refl
status_back status.Overridden = refl
status_back status.Ok = refl

pub tells_status : Tells same_status
tells_status = record {
  equal = λ a b h. sym (status_back a) ∙ ap status_numbered ((Decides-eqb (rank a) (rank b)).0 h) ∙ status_back b;
  itself = λ a. (Decides-eqb (rank a) (rank a)).1 refl;
}

tells_optional_text : Tells same_text
tells_optional_text = tells_option bytes_eq tells_text

tells_words : Tells same_words
tells_words = tells_option (same_list bytes_eq) (tells_list bytes_eq tells_text)

tells_limit : Tells (same_option same_value)
tells_limit = tells_option same_value tells_value

tells_precision : Tells (same_option int_eq)
tells_precision = tells_option int_eq tells_int

tells_some_status : Tells (same_option same_status)
tells_some_status = tells_option same_status tells_status

tells_truth : Tells (same_option same_bool)
tells_truth = tells_option same_bool tells_bool

facets_equal : (f g : Facets) → same_facets f g ≡ true → f ≡ g
facets_equal f g h0 =
    let h1 = both_true (same_text f.display g.display) (same_text f.display_name g.display_name && (same_text f.icon g.icon && (same_option same_value f.min g.min && (same_option same_value f.max g.max && (same_option int_eq f.precision g.precision && (same_text f.range g.range && (same_option same_status f.status g.status && (same_text f.tz g.tz && (same_text f.unit g.unit && same_option same_bool f.writable g.writable))))))))) h0 in
    let h2 = both_true (same_text f.display_name g.display_name) (same_text f.icon g.icon && (same_option same_value f.min g.min && (same_option same_value f.max g.max && (same_option int_eq f.precision g.precision && (same_text f.range g.range && (same_option same_status f.status g.status && (same_text f.tz g.tz && (same_text f.unit g.unit && same_option same_bool f.writable g.writable)))))))) h1.1 in
    let h3 = both_true (same_text f.icon g.icon) (same_option same_value f.min g.min && (same_option same_value f.max g.max && (same_option int_eq f.precision g.precision && (same_text f.range g.range && (same_option same_status f.status g.status && (same_text f.tz g.tz && (same_text f.unit g.unit && same_option same_bool f.writable g.writable))))))) h2.1 in
    let h4 = both_true (same_option same_value f.min g.min) (same_option same_value f.max g.max && (same_option int_eq f.precision g.precision && (same_text f.range g.range && (same_option same_status f.status g.status && (same_text f.tz g.tz && (same_text f.unit g.unit && same_option same_bool f.writable g.writable)))))) h3.1 in
    let h5 = both_true (same_option same_value f.max g.max) (same_option int_eq f.precision g.precision && (same_text f.range g.range && (same_option same_status f.status g.status && (same_text f.tz g.tz && (same_text f.unit g.unit && same_option same_bool f.writable g.writable))))) h4.1 in
    let h6 = both_true (same_option int_eq f.precision g.precision) (same_text f.range g.range && (same_option same_status f.status g.status && (same_text f.tz g.tz && (same_text f.unit g.unit && same_option same_bool f.writable g.writable)))) h5.1 in
    let h7 = both_true (same_text f.range g.range) (same_option same_status f.status g.status && (same_text f.tz g.tz && (same_text f.unit g.unit && same_option same_bool f.writable g.writable))) h6.1 in
    let h8 = both_true (same_option same_status f.status g.status) (same_text f.tz g.tz && (same_text f.unit g.unit && same_option same_bool f.writable g.writable)) h7.1 in
    let h9 = both_true (same_text f.tz g.tz) (same_text f.unit g.unit && same_option same_bool f.writable g.writable) h8.1 in
    let h10 = both_true (same_text f.unit g.unit) (same_option same_bool f.writable g.writable) h9.1 in
    let e0 : f.display ≡ g.display = tells_optional_text.equal f.display g.display h1.0 in
    let e1 : f.display_name ≡ g.display_name = tells_optional_text.equal f.display_name g.display_name h2.0 in
    let e2 : f.icon ≡ g.icon = tells_optional_text.equal f.icon g.icon h3.0 in
    let e3 : f.min ≡ g.min = tells_limit.equal f.min g.min h4.0 in
    let e4 : f.max ≡ g.max = tells_limit.equal f.max g.max h5.0 in
    let e5 : f.precision ≡ g.precision = tells_precision.equal f.precision g.precision h6.0 in
    let e6 : f.range ≡ g.range = tells_optional_text.equal f.range g.range h7.0 in
    let e7 : f.status ≡ g.status = tells_some_status.equal f.status g.status h8.0 in
    let e8 : f.tz ≡ g.tz = tells_optional_text.equal f.tz g.tz h9.0 in
    let e9 : f.unit ≡ g.unit = tells_optional_text.equal f.unit g.unit h10.0 in
    let e10 : f.writable ≡ g.writable = tells_truth.equal f.writable g.writable h10.1 in
    λ i. record { display = e0 i; display_name = e1 i; icon = e2 i; min = e3 i; max = e4 i; precision = e5 i; range = e6 i; status = e7 i; tz = e8 i; unit = e9 i; writable = e10 i }

facets_itself : (f : Facets) → same_facets f f ≡ true
facets_itself f =
    and_true (same_text f.display f.display) (same_text f.display_name f.display_name && (same_text f.icon f.icon && (same_option same_value f.min f.min && (same_option same_value f.max f.max && (same_option int_eq f.precision f.precision && (same_text f.range f.range && (same_option same_status f.status f.status && (same_text f.tz f.tz && (same_text f.unit f.unit && same_option same_bool f.writable f.writable))))))))) (tells_optional_text.itself f.display)
    (and_true (same_text f.display_name f.display_name) (same_text f.icon f.icon && (same_option same_value f.min f.min && (same_option same_value f.max f.max && (same_option int_eq f.precision f.precision && (same_text f.range f.range && (same_option same_status f.status f.status && (same_text f.tz f.tz && (same_text f.unit f.unit && same_option same_bool f.writable f.writable)))))))) (tells_optional_text.itself f.display_name)
    (and_true (same_text f.icon f.icon) (same_option same_value f.min f.min && (same_option same_value f.max f.max && (same_option int_eq f.precision f.precision && (same_text f.range f.range && (same_option same_status f.status f.status && (same_text f.tz f.tz && (same_text f.unit f.unit && same_option same_bool f.writable f.writable))))))) (tells_optional_text.itself f.icon)
    (and_true (same_option same_value f.min f.min) (same_option same_value f.max f.max && (same_option int_eq f.precision f.precision && (same_text f.range f.range && (same_option same_status f.status f.status && (same_text f.tz f.tz && (same_text f.unit f.unit && same_option same_bool f.writable f.writable)))))) (tells_limit.itself f.min)
    (and_true (same_option same_value f.max f.max) (same_option int_eq f.precision f.precision && (same_text f.range f.range && (same_option same_status f.status f.status && (same_text f.tz f.tz && (same_text f.unit f.unit && same_option same_bool f.writable f.writable))))) (tells_limit.itself f.max)
    (and_true (same_option int_eq f.precision f.precision) (same_text f.range f.range && (same_option same_status f.status f.status && (same_text f.tz f.tz && (same_text f.unit f.unit && same_option same_bool f.writable f.writable)))) (tells_precision.itself f.precision)
    (and_true (same_text f.range f.range) (same_option same_status f.status f.status && (same_text f.tz f.tz && (same_text f.unit f.unit && same_option same_bool f.writable f.writable))) (tells_optional_text.itself f.range)
    (and_true (same_option same_status f.status f.status) (same_text f.tz f.tz && (same_text f.unit f.unit && same_option same_bool f.writable f.writable)) (tells_some_status.itself f.status)
    (and_true (same_text f.tz f.tz) (same_text f.unit f.unit && same_option same_bool f.writable f.writable) (tells_optional_text.itself f.tz)
    (and_true (same_text f.unit f.unit) (same_option same_bool f.writable f.writable) (tells_optional_text.itself f.unit)
    (tells_truth.itself f.writable))))))))))

pub tells_facets : Tells same_facets
tells_facets = record { equal = facets_equal; itself = facets_itself }

head_equal : (h k : Head) → same_head h k ≡ true → h ≡ k
head_equal h k h0 =
    let h1 = both_true (same_kind h.kind k.kind) (same_text h.name k.name && (same_text h.href k.href && (same_words h.is k.is && (same_words h.of k.of && (same_words h.input k.input && (same_words h.output k.output && (same_slot h.slot k.slot && same_facets h.facets k.facets))))))) h0 in
    let h2 = both_true (same_text h.name k.name) (same_text h.href k.href && (same_words h.is k.is && (same_words h.of k.of && (same_words h.input k.input && (same_words h.output k.output && (same_slot h.slot k.slot && same_facets h.facets k.facets)))))) h1.1 in
    let h3 = both_true (same_text h.href k.href) (same_words h.is k.is && (same_words h.of k.of && (same_words h.input k.input && (same_words h.output k.output && (same_slot h.slot k.slot && same_facets h.facets k.facets))))) h2.1 in
    let h4 = both_true (same_words h.is k.is) (same_words h.of k.of && (same_words h.input k.input && (same_words h.output k.output && (same_slot h.slot k.slot && same_facets h.facets k.facets)))) h3.1 in
    let h5 = both_true (same_words h.of k.of) (same_words h.input k.input && (same_words h.output k.output && (same_slot h.slot k.slot && same_facets h.facets k.facets))) h4.1 in
    let h6 = both_true (same_words h.input k.input) (same_words h.output k.output && (same_slot h.slot k.slot && same_facets h.facets k.facets)) h5.1 in
    let h7 = both_true (same_words h.output k.output) (same_slot h.slot k.slot && same_facets h.facets k.facets) h6.1 in
    let h8 = both_true (same_slot h.slot k.slot) (same_facets h.facets k.facets) h7.1 in
    let e0 : h.kind ≡ k.kind = tells_kind.equal h.kind k.kind h1.0 in
    let e1 : h.name ≡ k.name = tells_optional_text.equal h.name k.name h2.0 in
    let e2 : h.href ≡ k.href = tells_optional_text.equal h.href k.href h3.0 in
    let e3 : h.is ≡ k.is = tells_words.equal h.is k.is h4.0 in
    let e4 : h.of ≡ k.of = tells_words.equal h.of k.of h5.0 in
    let e5 : h.input ≡ k.input = tells_words.equal h.input k.input h6.0 in
    let e6 : h.output ≡ k.output = tells_words.equal h.output k.output h7.0 in
    let e7 : h.slot ≡ k.slot = tells_slot.equal h.slot k.slot h8.0 in
    let e8 : h.facets ≡ k.facets = tells_facets.equal h.facets k.facets h8.1 in
    λ i. record { kind = e0 i; name = e1 i; href = e2 i; is = e3 i; of = e4 i; input = e5 i; output = e6 i; slot = e7 i; facets = e8 i }

head_itself : (h : Head) → same_head h h ≡ true
head_itself h =
    and_true (same_kind h.kind h.kind) (same_text h.name h.name && (same_text h.href h.href && (same_words h.is h.is && (same_words h.of h.of && (same_words h.input h.input && (same_words h.output h.output && (same_slot h.slot h.slot && same_facets h.facets h.facets))))))) (tells_kind.itself h.kind)
    (and_true (same_text h.name h.name) (same_text h.href h.href && (same_words h.is h.is && (same_words h.of h.of && (same_words h.input h.input && (same_words h.output h.output && (same_slot h.slot h.slot && same_facets h.facets h.facets)))))) (tells_optional_text.itself h.name)
    (and_true (same_text h.href h.href) (same_words h.is h.is && (same_words h.of h.of && (same_words h.input h.input && (same_words h.output h.output && (same_slot h.slot h.slot && same_facets h.facets h.facets))))) (tells_optional_text.itself h.href)
    (and_true (same_words h.is h.is) (same_words h.of h.of && (same_words h.input h.input && (same_words h.output h.output && (same_slot h.slot h.slot && same_facets h.facets h.facets)))) (tells_words.itself h.is)
    (and_true (same_words h.of h.of) (same_words h.input h.input && (same_words h.output h.output && (same_slot h.slot h.slot && same_facets h.facets h.facets))) (tells_words.itself h.of)
    (and_true (same_words h.input h.input) (same_words h.output h.output && (same_slot h.slot h.slot && same_facets h.facets h.facets)) (tells_words.itself h.input)
    (and_true (same_words h.output h.output) (same_slot h.slot h.slot && same_facets h.facets h.facets) (tells_words.itself h.output)
    (and_true (same_slot h.slot h.slot) (same_facets h.facets h.facets) (tells_slot.itself h.slot)
    (tells_facets.itself h.facets))))))))

pub tells_head : Tells same_head
tells_head = record { equal = head_equal; itself = head_itself }

row_equal : (r q : Objects) → same_row r q ≡ true → r ≡ q
row_equal none none h = refl
row_equal none (node k below rest) h = absurd cc
row_equal (node g inner more) none h = absurd cc
row_equal (node g inner more) (node k below rest) h =
    let hs = both_true (same_head g k) (same_row inner below && same_row more rest) h in
    let rs = both_true (same_row inner below) (same_row more rest) hs.1 in
    ap₂ (λ (g : Head) (r : Objects). node g r more) (head_equal g k hs.0) (row_equal inner below rs.0)
    ∙ ap (node k below) (row_equal more rest rs.1)

row_itself : (r : Objects) → same_row r r ≡ true
row_itself none = refl
row_itself (node h inner more) =
    and_true (same_head h h) (same_row inner inner && same_row more more) (head_itself h)
    (and_true (same_row inner inner) (same_row more more) (row_itself inner) (row_itself more))

-- objects are told apart where their heads are
pub tells_object : Tells same_object
tells_object = record {
  equal = λ a b h.
      (let hs = both_true (same_head a.head b.head) (same_row a.inner b.inner) h in
      ap₂ (λ (g : Head) (r : Objects). let o : Object = record { head = g; inner = r } in o) (head_equal a.head b.head hs.0) (row_equal a.inner b.inner hs.1));
  itself = λ a. and_true (same_head a.head a.head) (same_row a.inner a.inner) (head_itself a.head) (row_itself a.inner);
}

pub object_decides : (a b : Object) → Decides (same_object a b) (a ≡ b)
object_decides a b = (tells_object.equal a b, λ e. subst (λ o. same_object a o ≡ true) e (tells_object.itself a))
