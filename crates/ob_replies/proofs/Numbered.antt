-- Alarms by their numbers, gone through one by one.
use Rattle.std.proofs.Common.{◌≡◌, ℕ, ◌+◌, ◌-◌, ◌<◌, ◌≤◌, zero, suc, inl, inr, Bool, true, false, not, cond, ◌&&◌, nat_lt, List, [], ◌∷◌, ◌++◌, length, take, drop, get_or, refl, sym, ap, ◌∙◌, subst, arith}
use Rattle.std.specs.Prelude.{codes, is_none, filter, Option, Some, None, option_map, slice_get}
use Rattle.std.specs.List.{list_all, AllWithin}
use Rattle.std.proofs.lemmas.Bool.{ltb-false}
use Rattle.std.proofs.lemmas.Bool.Decides.{eqb_tells}
use Rattle.ob_times.specs.Times.{Instant}
use Rattle.ob_values.proofs.Bools.{not_true}
use Rattle.ob_object.specs.Object.{Object}
use Rattle.ob_object.specs.declared.kind.Kind.TheVariants as kind
use Rattle.ob_object.specs.declared.head.Slot.TheVariants.{Null}
use Rattle.ob_history.specs.declared.records.Record.{Record}
use Rattle.ob_history.specs.declared.records.Filter.{Filter}
use Rattle.ob_history.specs.Records.{is_before, is_after}
use Rattle.ob_alarms.specs.declared.alarm.Alarm.{Alarm}
use Rattle.ob_alarms.specs.Changes.{State as Board, alarm_of}
use Rattle.ob_alarms.specs.Within.{HasAllWithin, is_before as raised_before, is_after as raised_after}
use Rattle.ob_site_rules.specs.Entries.{alarm_object, alarms_out, numbered, query_out, raised_at, is_within}
use Rattle.ob_replies.proofs.Asked.{IsGiven, given_more, given_same, given_as, given_none, given_rest, given_enough, firsts, same_answer}
use Rattle.ob_replies.proofs.Nameless.{alarms_nameless}

-- the alarms that a filter gives among those that were gone through
abbrev pub IsGivenOf : Filter → Board → List (ℕ × Alarm) → List Instant → List Object → Type 0
IsGivenOf f b es times objects = IsGiven f.limit (λ e. is_within f (raised_at e.1)) (λ e. raised_at e.1) (λ e. alarm_object b e.0) es times objects

pub length-numbered : (n : ℕ) (alarms : List Alarm) → length (numbered n alarms) ≡ length alarms
length-numbered n [] = refl
length-numbered n (a ∷ alarms) = ap suc (length-numbered (n + 1) alarms)

pair : (n k : ℕ) (a b : Alarm) → n ≡ k → a ≡ b → let x : ℕ × Alarm = (n, a) in let y : ℕ × Alarm = (k, b) in x ≡ y
pair n k a b e h = ap (λ (m : ℕ). let x : ℕ × Alarm = (m, a) in x) e ∙ ap (λ (c : Alarm). let x : ℕ × Alarm = (k, c) in x) h

numbered_at : (n : ℕ) (alarms : List Alarm) (i k : ℕ) (d : ℕ × Alarm) (a : Alarm) → slice_get alarms i ≡ Some a → n + i ≡ k → let x : ℕ × Alarm = (k, a) in x ≡ get_or (numbered n alarms) i d
numbered_at n [] i k d a there at = absurd (let e : None ≡ Some a = there in cc)
numbered_at n (x ∷ alarms) zero k d a there at =
    let same : x ≡ a = cc in
    pair k n a x (omega arith) (sym same)
numbered_at n (x ∷ alarms) (suc i) k d a there at = numbered_at (n + 1) alarms i k d a there (omega arith)

alarm_there : (alarms : List Alarm) (i : ℕ) → i < length alarms → (a : Alarm) × (slice_get alarms i ≡ Some a)
alarm_there [] i lt = absurd (omega arith)
alarm_there (a ∷ alarms) zero lt = (a, refl)
alarm_there (a ∷ alarms) (suc i) lt = alarm_there alarms i (omega arith)

pub alarm_more : (f : Filter) (b : Board) (times : List Instant) (objects : List Object) (i : ℕ) (t : Instant) → IsGivenOf f b (take i (numbered 1 b.alarms)) times objects → i < length b.alarms → ((a : Alarm) → slice_get b.alarms i ≡ Some a → t ≡ raised_at a) → (nat_lt (length objects) f.limit && is_within f t) ≡ true → IsGivenOf f b (take (i + 1) (numbered 1 b.alarms)) (times ++ t ∷ []) (objects ++ alarm_object b (i + 1) ∷ [])
alarm_more f b times objects i t g lt told is =
    let there = alarm_there b.alarms i lt in
    let x : ℕ × Alarm = (i + 1, there.0) in
    let same : t ≡ raised_at there.0 = told there.0 there.1 in
    let many = length-numbered 1 b.alarms in
    let P : Instant → Type 0 = λ u. IsGivenOf f b (take (i + 1) (numbered 1 b.alarms)) (times ++ u ∷ []) (objects ++ alarm_object b (i + 1) ∷ []) in
    subst P (sym same)
    (given_more f.limit (λ e. is_within f (raised_at e.1)) (λ e. raised_at e.1) (λ e. alarm_object b e.0) (numbered 1 b.alarms) times objects i x g (omega arith) (numbered_at 1 b.alarms i (i + 1) x there.0 there.1 (omega arith)) (ap (λ u. nat_lt (length objects) f.limit && is_within f u) (sym same) ∙ is))

pub alarm_same : (f : Filter) (b : Board) (times : List Instant) (objects : List Object) (i : ℕ) (t : Instant) → IsGivenOf f b (take i (numbered 1 b.alarms)) times objects → i < length b.alarms → ((a : Alarm) → slice_get b.alarms i ≡ Some a → t ≡ raised_at a) → (nat_lt (length objects) f.limit && is_within f t) ≡ false → IsGivenOf f b (take (i + 1) (numbered 1 b.alarms)) times objects
alarm_same f b times objects i t g lt told is =
    let there = alarm_there b.alarms i lt in
    let x : ℕ × Alarm = (i + 1, there.0) in
    let same : t ≡ raised_at there.0 = told there.0 there.1 in
    let many = length-numbered 1 b.alarms in
    given_same f.limit (λ e. is_within f (raised_at e.1)) (λ e. raised_at e.1) (λ e. alarm_object b e.0) (numbered 1 b.alarms) times objects i x g (omega arith) (numbered_at 1 b.alarms i (i + 1) x there.0 there.1 (omega arith)) (ap (λ u. nat_lt (length objects) f.limit && is_within f u) (sym same) ∙ is)

pub alarm_put : (f : Filter) (b : Board) (times ts : List Instant) (objects given os : List Object) (i : ℕ) (t : Instant) (asked : Bool) → IsGivenOf f b (take i (numbered 1 b.alarms)) times objects → i < length b.alarms → ((a : Alarm) → slice_get b.alarms i ≡ Some a → t ≡ raised_at a) → asked ≡ (nat_lt (length given) f.limit && is_within f t) → given ≡ objects → asked ≡ true → ts ≡ times ++ t ∷ [] → os ≡ objects ++ alarm_object b (i + 1) ∷ [] → IsGivenOf f b (take (i + 1) (numbered 1 b.alarms)) ts os
alarm_put f b times ts objects given os i t asked g lt told e same is te oe =
    given_as f.limit (λ x. is_within f (raised_at x.1)) (λ x. raised_at x.1) (λ x. alarm_object b x.0) (take (i + 1) (numbered 1 b.alarms)) _ ts _ os te oe
    (alarm_more f b times objects i t g lt told (ap (λ (xs : List Object). nat_lt (length xs) f.limit && is_within f t) (sym same) ∙ (sym e ∙ is)))

pub alarm_passed : (f : Filter) (b : Board) (times ts : List Instant) (objects given os : List Object) (i : ℕ) (t : Instant) (asked : Bool) → IsGivenOf f b (take i (numbered 1 b.alarms)) times objects → i < length b.alarms → ((a : Alarm) → slice_get b.alarms i ≡ Some a → t ≡ raised_at a) → asked ≡ (nat_lt (length given) f.limit && is_within f t) → given ≡ objects → asked ≡ false → ts ≡ times → os ≡ objects → IsGivenOf f b (take (i + 1) (numbered 1 b.alarms)) ts os
alarm_passed f b times ts objects given os i t asked g lt told e same is te oe =
    given_as f.limit (λ x. is_within f (raised_at x.1)) (λ x. raised_at x.1) (λ x. alarm_object b x.0) (take (i + 1) (numbered 1 b.alarms)) times ts objects os te oe
    (alarm_same f b times objects i t g lt told (ap (λ (xs : List Object). nat_lt (length xs) f.limit && is_within f t) (sym same) ∙ (sym e ∙ is)))

alarm_of_next : (alarms : List Alarm) (i : ℕ) → alarm_of (i + 1) alarms ≡ slice_get alarms i
alarm_of_next alarms i =
    let e : i + 1 - 1 ≡ i = omega arith in
    elim (eqb_tells (i + 1) 0) [
      | inl t ↦ absurd (let n : i + 1 ≡ 0 = t.1 in omega arith)
      | inr f ↦ ap (λ (b : Bool). cond b None (slice_get alarms (i + 1 - 1))) f.0 ∙ ap (λ (k : ℕ). slice_get alarms k) e
    ]

-- each number up to that of the last alarm has one
pub raised_there : (alarms : List Alarm) (i : ℕ) (r : Option ℕ) → i < length alarms → r ≡ option_map (λ a. a.raised.at) (alarm_of (i + 1) alarms) → r ≡ None → ⊥
raised_there alarms i r lt told none =
    let there = alarm_there alarms i lt in
    let e : alarm_of (i + 1) alarms ≡ Some there.0 = alarm_of_next alarms i ∙ there.1 in
    let bad : None ≡ Some there.0.raised.at = sym none ∙ (told ∙ ap (option_map (λ (a : Alarm). a.raised.at)) e) in
    cc

-- what is given has no names
pub alarms_plain : (f : Filter) (b : Board) (es : List (ℕ × Alarm)) (ts : List Instant) (os : List Object) → IsGivenOf f b es ts os → list_all (λ o. is_none o.head.name) os ≡ true
alarms_plain f b es ts os g =
    ap (λ (ps : List Object). list_all (λ o. is_none o.head.name) ps) g.objects
    ∙ alarms_nameless b (firsts f.limit (λ e. is_within f (raised_at e.1)) es)

-- a record of the moment of an alarm
abbrev stamp : Alarm → Record
stamp a = record { time = raised_at a; kind = kind.Abstime; slot = Null }

before_same : (o : Option Instant) (a : Alarm) → is_before o (stamp a) ≡ raised_before o a
before_same None a = refl
before_same (Some start) a = refl

after_same : (o : Option Instant) (a : Alarm) → is_after o (stamp a) ≡ raised_after o a
after_same None a = refl
after_same (Some end) a = refl

-- an alarm that was raised before the start or after the end doesn't pass
pub early_out : (f : Filter) (a : Alarm) → raised_before f.start a ≡ true → is_within f (raised_at a) ≡ false
early_out f a h = ap (λ b. not b && not (is_after f.end (stamp a))) (before_same f.start a ∙ h)

pub late_out : (f : Filter) (a : Alarm) → raised_after f.end a ≡ true → is_within f (raised_at a) ≡ false
late_out f a h = second (not (is_before f.start (stamp a))) _ (after_same f.end a ∙ h)
  where
    second : (b c : Bool) → c ≡ true → (b && not c) ≡ false
    second true c h = ap not h
    second false c h = refl

abbrev passing : Filter → List (ℕ × Alarm) → List (ℕ × Alarm)
passing f es = filter (λ e. is_within f (raised_at e.1)) es

left_out : (f : Filter) (n : ℕ) (a : Alarm) (es : List (ℕ × Alarm)) → is_within f (raised_at a) ≡ false → passing f ((n, a) ∷ es) ≡ passing f es
left_out f n a es out = ap (λ b. cond b ((n, a) ∷ passing f es) (passing f es)) out

none_in_front : (f : Filter) (n : ℕ) (alarms : List Alarm) (from : ℕ) → AllWithin (λ (a : Alarm). raised_before f.start a ≡ true) alarms 0 from → passing f (take from (numbered n alarms)) ≡ []
none_in_front f n alarms zero h = refl
none_in_front f n [] (suc from) h = refl
none_in_front f n (a ∷ alarms) (suc from) h =
    left_out f n a (take from (numbered (n + 1) alarms)) (early_out f a (h 0 a (omega arith) (omega arith)))
    ∙ none_in_front f (n + 1) alarms from (λ k d low high. h (suc k) d (omega arith) (omega arith))

none_at_all : (f : Filter) (n : ℕ) (alarms : List Alarm) → AllWithin (λ (a : Alarm). raised_after f.end a ≡ true) alarms 0 (length alarms) → passing f (numbered n alarms) ≡ []
none_at_all f n [] h = refl
none_at_all f n (a ∷ alarms) h =
    left_out f n a (numbered (n + 1) alarms) (late_out f a (h 0 a (omega arith) (omega arith)))
    ∙ none_at_all f (n + 1) alarms (λ k d low high. h (suc k) d (omega arith) (omega arith))

none_behind : (f : Filter) (n : ℕ) (alarms : List Alarm) (to : ℕ) → AllWithin (λ (a : Alarm). raised_after f.end a ≡ true) alarms to (length alarms) → passing f (drop to (numbered n alarms)) ≡ []
none_behind f n alarms zero h = none_at_all f n alarms h
none_behind f n [] (suc to) h = refl
none_behind f n (a ∷ alarms) (suc to) h = none_behind f (n + 1) alarms to (λ k d low high. h (suc k) d (omega arith) (omega arith))

-- those in front of a part that has all within the bounds don't pass
pub alarms_begun : (f : Filter) (b : Board) (from to : ℕ) → HasAllWithin f.start f.end b.alarms from to → IsGivenOf f b (take from (numbered 1 b.alarms)) [] []
alarms_begun f b from to has =
    given_none f.limit (λ e. is_within f (raised_at e.1)) (λ e. raised_at e.1) (λ e. alarm_object b e.0) (numbered 1 b.alarms) from (none_in_front f 1 b.alarms from has.before)

-- and those behind it don't either
pub alarms_gone : (f : Filter) (b : Board) (ts : List Instant) (os : List Object) (from to k : ℕ) → HasAllWithin f.start f.end b.alarms from to → IsGivenOf f b (take k (numbered 1 b.alarms)) ts os → to ≤ k → IsGivenOf f b (numbered 1 b.alarms) ts os
alarms_gone f b ts os from to k has g le =
    given_rest f.limit (λ e. is_within f (raised_at e.1)) (λ e. raised_at e.1) (λ e. alarm_object b e.0) (numbered 1 b.alarms) ts os k g
    (none_behind f 1 b.alarms k (λ place d low high. has.after place d (omega arith) high))

-- as many were given as are asked for
pub alarms_enough : (f : Filter) (b : Board) (ts : List Instant) (objects given : List Object) (k : ℕ) (all : Bool) → IsGivenOf f b (take k (numbered 1 b.alarms)) ts objects → all ≡ not (nat_lt (length given) f.limit) → given ≡ objects → all ≡ true → IsGivenOf f b (numbered 1 b.alarms) ts objects
alarms_enough f b ts objects given k all g e same is =
    let few : nat_lt (length objects) f.limit ≡ false = not_true _ (ap (λ (os : List Object). not (nat_lt (length os) f.limit)) (sym same) ∙ (sym e ∙ is)) in
    given_enough f.limit (λ x. is_within f (raised_at x.1)) (λ x. raised_at x.1) (λ x. alarm_object b x.0) (numbered 1 b.alarms) ts objects k g (ltb-false (length objects) f.limit few)

-- the answer, once all that are asked for were given
pub alarms_answer : (f : Filter) (b : Board) (seen ts : List Instant) (os : List Object) → IsGivenOf f b (numbered 1 b.alarms) ts os → seen ≡ ts → query_out (codes "obix:AlarmQueryOut") (codes "obix:Alarm") [] seen os ≡ alarms_out b f
alarms_answer f b seen ts os all same = same_answer (codes "obix:AlarmQueryOut") (codes "obix:Alarm") [] seen _ os _ (same ∙ all.times) all.objects
