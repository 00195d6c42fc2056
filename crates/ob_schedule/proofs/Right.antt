-- What holds of the parts of a document of the form.
use Rattle.std.proofs.Common.{◌≡◌, ℕ, zero, suc, ◌+◌, ◌<◌, ◌≤◌, ◌/◌, ◌%◌, true, false, ◌&&◌, nat_lt, nat_le, List, [], ◌∷◌, ◌++◌, map, length, Option, Some, None, refl, ap, sym, subst, ◌∙◌, arith, pos, ℤ, codes}
use Rattle.std.specs.Prelude.{option_map, unwrap_or, unsigned_abs, int_le, is_some, not, ◌==◌}
use Rattle.std.specs.List.{All, list_any}
use Rattle.std.proofs.lemmas.Bool.{leb-true, ltb-true}
use Rattle.std.proofs.lemmas.Int.{ints}
use Rattle.jiff_tz.specs.PosixReader.{read_whole}
use Rattle.ob_values.proofs.Bools.{both_true}
use Rattle.ob_object.specs.Object.{Object, children, parts}
use Rattle.ob_object.specs.Kinds.{same_kind}
use Rattle.ob_object.specs.declared.kind.Kind.{Kind}
use Rattle.ob_object.specs.declared.kind.Kind.TheVariants as kind
use Rattle.ob_weekly.specs.Schedules.{IsEntry, IsWeekly}
use Rattle.ob_weekly.specs.declared.schedule.Schedule.{Schedule}
use Rattle.ob_schedule.specs.declared.rule.ScheduleRule.{ScheduleRule}
use Rattle.ob_schedule.specs.declared.rule.ScheduleRule.TheVariants as rule
use Rattle.ob_parts.specs.declared.offence.Offence.{Offence}
use Rattle.ob_schedule.specs.Forms.{holds, zone_text, day_value, time_value, is_zone, is_day, is_time, is_list, is_point, is_value, point_rule, value_rule, is_same_time, week_time, entry_offences, schedule_offences, offences, point_of}
use Rattle.ob_parts.specs.Numbered.{Part, plus, numbered_from, inside, child, inside_child, root}
use Rattle.ob_parts.specs.Offences.{unless, needs, said, each}
use Rattle.ob_parts.proofs.Needed.{said_some, judged_nil}
use Rattle.ob_schedule.specs.PointRules.{PointRules, Text}
use Rattle.ob_schedule.specs.Right.{IsRightEntry, IsRightSchedule, IsRightFile}
use Rattle.ob_schedule.specs.Weeks.{week, week_of, entry_of, listed_in}

pub append_nil : {A : Type 0} (xs ys : List A) → xs ++ ys ≡ [] → (xs ≡ []) × (ys ≡ [])
append_nil [] ys e = (refl, e)
append_nil (x ∷ xs) ys e = absurd (let f : x ∷ (xs ++ ys) ≡ [] = e in cc)

pub right_entry : (site : PointRules) (point : Option (Text × Kind)) (before : List Object) (p : Part) → entry_offences site point before p ≡ [] → IsRightEntry p.object
right_entry site point before p e =
    let value = needs (codes "value") (value_rule point) (is_value site point) p ++ unless (not (list_any (λ other. is_same_time (week_time other) (week_time p.object)) before)) rule.TimeTwice p in
    let day = append_nil (needs (codes "day") (λ _. rule.Day) is_day p) (needs (codes "at") (λ _. rule.At) is_time p ++ value)
    (append_nil (unless (same_kind p.object.head.kind kind.Obj) rule.Kind p) (needs (codes "day") (λ _. rule.Day) is_day p ++ (needs (codes "at") (λ _. rule.At) is_time p ++ value)) e).1 in
    let time = append_nil (needs (codes "at") (λ _. rule.At) is_time p) value day.1 in
    let d = judged_nil (λ _. rule.Day) is_day p (child (codes "day") p) day.0 in
    let t = judged_nil (λ _. rule.At) is_time p (child (codes "at") p) time.0 in
    record {
      day = ap (holds (λ i. int_le (pos 1) i && int_le i (pos 7))) (said_some (codes "day") day_value p d.0 d.1) ∙ d.2;
      time = ap (holds (λ t. nat_lt t 86_400_000_000_000 && (t % 1_000_000 == 0))) (said_some (codes "at") time_value p t.0 t.1) ∙ t.2;
    }

all_cons : {A : Type 0} (P : A → Type 0) (x : A) (xs : List A) → P x → All P xs → All P (x ∷ xs)
all_cons P x xs is all zero d h = is
all_cons P x xs is all (suc k) d h = all k d (omega (arith, h))

-- where no part offends each is right
each_nil : (judge : List Object → Part → List (Offence ScheduleRule)) (P : Object → Type 0) → ((b : List Object) (p : Part) → judge b p ≡ [] → P p.object)
    → (b : List Object) (n : ℕ) (os : List Object) → each judge b (numbered_from n os) ≡ [] → All P os
each_nil judge P right b n [] e = λ k d h. absurd (omega (arith, h))
each_nil judge P right b n (o ∷ os) e =
    let p : Part = record { number = n; object = o } in
    let two = append_nil (judge b p) (each judge (b ++ o ∷ []) (numbered_from (plus n (parts o)) os)) e in
    all_cons P o os (right b p two.0) (each_nil judge P right (b ++ o ∷ []) (plus n (parts o)) os two.1)

pub listed_is : (name : List ℕ) (p d : Part) → child name p ≡ Some d → listed_in name p.object ≡ children d.object
listed_is name p d e = ap (λ r. unwrap_or r []) (said_some name (λ c. Some (children c)) p d e)

all_listed : (judge : List Object → Part → List (Offence ScheduleRule)) (P : Object → Type 0) → ((b : List Object) (p : Part) → judge b p ≡ [] → P p.object)
    → (name : List ℕ) (p d : Part) → child name p ≡ Some d → each judge [] (inside_child name p) ≡ [] → All P (listed_in name p.object)
all_listed judge P right name p d e none =
    subst (All P) (sym (listed_is name p d e))
    (each_nil judge P right [] (plus d.number 1) (children d.object) (sym (ap (λ c. each judge [] (unwrap_or (option_map inside c) [])) e) ∙ none))

least_of : (a b : ℕ) → nat_le a b ≡ true → a ≤ b
least_of a b e = leb-true a b e

-- a list has so many children
few_listed : (least most : ℕ) (name : List ℕ) (p d : Part) → child name p ≡ Some d → is_list least most d.object ≡ true
    → (least ≤ length (listed_in name p.object)) × (length (listed_in name p.object) ≤ most)
few_listed least most name p d e is =
    let bounds = both_true (nat_le least (length (children d.object))) (nat_le (length (children d.object)) most)
    (both_true (same_kind d.object.head.kind kind.List) (nat_le least (length (children d.object)) && nat_le (length (children d.object)) most) is).1 in
    let same = listed_is name p d e in
    (subst (λ (l : List Object). least ≤ length l) (sym same) (least_of least _ bounds.0), subst (λ (l : List Object). length l ≤ most) (sym same) (least_of _ most bounds.1))

pub right_schedule : (site : PointRules) (before : List Object) (p : Part) → schedule_offences site before p ≡ [] → IsRightSchedule p.object
right_schedule site before p e =
    let judge = entry_offences site (point_of site before p.object) in
    let listed = each judge [] (inside_child (codes "entries") p) in
    let list = append_nil (needs (codes "entries") (λ _. rule.Entries) (is_list 1 100) p) listed
    (append_nil (needs (codes "point") (point_rule site) (is_point site before) p) (needs (codes "entries") (λ _. rule.Entries) (is_list 1 100) p ++ listed)
    (append_nil (unless (same_kind p.object.head.kind kind.Obj) rule.Kind p) (needs (codes "point") (point_rule site) (is_point site before) p ++ (needs (codes "entries") (λ _. rule.Entries) (is_list 1 100) p ++ listed)) e).1).1 in
    let d = judged_nil (λ _. rule.Entries) (is_list 1 100) p (child (codes "entries") p) list.0 in
    let few = few_listed 1 100 (codes "entries") p d.0 d.1 d.2 in
    record {
      some = few.0;
      few = few.1;
      entries = all_listed judge IsRightEntry (right_entry site (point_of site before p.object)) (codes "entries") p d.0 d.1 list.1;
    }

pub right_file : (site : PointRules) (doc : Object) → offences site doc ≡ [] → IsRightFile doc
right_file site doc e =
    let p = root doc in
    let listed = each (schedule_offences site) [] (inside_child (codes "schedules") p) in
    let zone = append_nil (needs (codes "zone") (λ _. rule.Zone) is_zone p) (needs (codes "schedules") (λ _. rule.Schedules) (is_list 0 1_000) p ++ listed)
    (append_nil (unless (same_kind doc.head.kind kind.Obj) rule.Kind p) (needs (codes "zone") (λ _. rule.Zone) is_zone p ++ (needs (codes "schedules") (λ _. rule.Schedules) (is_list 0 1_000) p ++ listed)) e).1 in
    let list = append_nil (needs (codes "schedules") (λ _. rule.Schedules) (is_list 0 1_000) p) listed zone.1 in
    let z = judged_nil (λ _. rule.Zone) is_zone p (child (codes "zone") p) zone.0 in
    let d = judged_nil (λ _. rule.Schedules) (is_list 0 1_000) p (child (codes "schedules") p) list.0 in
    record {
      zone = ap (holds (λ t. is_some (read_whole t))) (said_some (codes "zone") zone_text p z.0 z.1) ∙ z.2;
      few = (few_listed 0 1_000 (codes "schedules") p d.0 d.1 d.2).1;
      schedules = all_listed (schedule_offences site) IsRightSchedule (right_schedule site) (codes "schedules") p d.0 d.1 list.1;
    }

day_fits : (d : Option ℤ) → holds (λ i. int_le (pos 1) i && int_le i (pos 7)) d ≡ true → (1 ≤ unsigned_abs (unwrap_or d (pos 0))) × (unsigned_abs (unwrap_or d (pos 0)) ≤ 7)
day_fits None e = absurd (let f : false ≡ true = e in cc)
day_fits (Some i) e = let t = both_true (int_le (pos 1) i) (int_le i (pos 7)) e in let low = t.0 in let high = t.1 in (omega (arith, ints, low, high), omega (arith, ints, low, high))

time_fits : (t : Option ℕ) → holds (λ t. nat_lt t 86_400_000_000_000 && (t % 1_000_000 == 0)) t ≡ true → unwrap_or t 0 / 1_000_000 < 86_400_000
time_fits None e = absurd (let f : false ≡ true = e in cc)
time_fits (Some t) e = let small = ltb-true t 86_400_000_000_000 (both_true (nat_lt t 86_400_000_000_000) (t % 1_000_000 == 0) e).0 in omega (arith, small)

entry_fits : (e : Object) → IsRightEntry e → IsEntry (entry_of e)
entry_fits e right =
    let day = day_fits (said (codes "day") day_value e) right.day in
    record { day_from = day.0; day_to = day.1; time = time_fits (said (codes "at") time_value e) right.time }

all_map : {A B : Type 0} (P : A → Type 0) (Q : B → Type 0) (f : A → B) → ((x : A) → P x → Q (f x)) → (xs : List A) → All P xs → All Q (map f xs)
all_map P Q f right [] all = λ k d h. absurd (omega (arith, h))
all_map P Q f right (x ∷ xs) all = all_cons Q (f x) (map f xs) (right x (all 0 x (omega arith))) (all_map P Q f right xs (λ k d h. all (suc k) d (omega (arith, h))))

same_length : {A B : Type 0} (f : A → B) (xs : List A) → length (map f xs) ≡ length xs
same_length f [] = refl
same_length f (x ∷ xs) = ap suc (same_length f xs)

weekly : (o : Object) (s : Schedule) → IsRightSchedule o → week s ≡ week_of o → IsWeekly s
weekly o s right e =
    let entries : s.entries.items ≡ map entry_of (listed_in (codes "entries") o) = ap (λ w. w.entries) e in
    let count : length s.entries.items ≡ length (listed_in (codes "entries") o) = ap length entries ∙ same_length entry_of (listed_in (codes "entries") o) in
    record {
      some = subst (λ (n : ℕ). 1 ≤ n) (sym count) right.some;
      few = subst (λ (n : ℕ). n ≤ 100) (sym count) right.few;
      entries = subst (All IsEntry) (sym entries) (all_map IsRightEntry IsEntry entry_of entry_fits (listed_in (codes "entries") o) right.entries);
    }

pub first_of : {A : Type 0} (x y : A) (xs ys : List A) → x ∷ xs ≡ y ∷ ys → x ≡ y
first_of x y xs ys e = cc

pub rest_of : {A : Type 0} (x y : A) (xs ys : List A) → x ∷ xs ≡ y ∷ ys → xs ≡ ys
rest_of x y xs ys e = cc

-- the schedules that were read are weekly
pub all_weekly : (made : List Schedule) (os : List Object) → map week made ≡ map week_of os → All IsRightSchedule os → All IsWeekly made
all_weekly [] os e all = λ k d h. absurd (omega (arith, h))
all_weekly (s ∷ ss) [] e all = absurd (let f : week s ∷ map week ss ≡ [] = e in cc)
all_weekly (s ∷ ss) (o ∷ os) e all =
    all_cons IsWeekly s ss (weekly o s (all 0 o (omega arith)) (first_of (week s) (week_of o) (map week ss) (map week_of os) e))
    (all_weekly ss os (rest_of (week s) (week_of o) (map week ss) (map week_of os) e) (λ k d h. all (suc k) d (omega (arith, h))))

-- and as many as the document has
pub as_many : (made : List Schedule) (os : List Object) → map week made ≡ map week_of os → length made ≡ length os
as_many made os e = sym (same_length week made) ∙ (ap length e ∙ same_length week_of os)
