-- The records of histories that aren't bad.
use Rattle.std.proofs.Common.{◌≡◌, ℕ, zero, suc, ◌-◌, ◌≤◌, ◌≤ℤ◌, Bool, true, false, cond, ◌||◌, codes, List, [], ◌∷◌, ◌++◌, length, drop, filter_map, flat_map, Option, Some, None, refl, subst}
use Rattle.std.specs.List.{AllByRecursion, cons_option}
use Rattle.ob_times.specs.Times.{Instant, instant, moment_instant}
use Rattle.ob_object.specs.Object.{Object}
use Rattle.ob_parts.specs.declared.offence.Offence.{Offence}
use Rattle.ob_history.specs.declared.records.Record.{Record}
use Rattle.ob_history.specs.Records.{InOrder, IsNotBefore}
use Rattle.ob_site_rules.specs.State.{rolled}
use Rattle.ob_site_rules.specs.Loading.{Part, items_of, record_in, records_of, bad_records, bad_history, bad_part, after_item, is_bad_item, is_late, is_earlier, has_bad_source, has_bad_capacity, histories_in, ms_up, last_moment, breaks, record_rule, setting_rule}
use Rattle.ob_site_rules.specs.declared.site_rule.SiteRule.{SiteRule}
use Rattle.ob_values.proofs.Bools.{neither_left, neither_right}
use Rattle.ob_step_laws.proofs.Inverted.{all_good, first_none, second_none}
use Rattle.ob_step_laws.proofs.Times.{ms_up_most, not_before}

-- the first record, if there is one, isn't before an instant, if there is one
abbrev pub IsBehind : Option Instant → List Record → Type 0
IsBehind None rs = Unit {0}
IsBehind (Some t) [] = Unit {0}
IsBehind (Some t) (r ∷ rs) = instant t ≤ℤ instant r.time

abbrev pub IsTimely : Record → Type 0
IsTimely r = ms_up r.time ≤ last_moment

-- records in order, behind an instant, and none after the last moment
pub record AreGood (before : Option Instant) (rs : List Record) : Type 0 where
  pub order : InOrder rs
  pub behind : IsBehind before rs
  pub timely : AllByRecursion IsTimely rs

none_behind : (before : Option Instant) → IsBehind before []
none_behind None = tt
none_behind (Some t) = tt

not_late : (before : Option Instant) (r : Record) (rs : List Record) → is_late before r ≡ false → IsBehind before (r ∷ rs) × (is_earlier (moment_instant last_moment) r.time ≡ false)
not_late None r rs h = (tt, h)
not_late (Some t) r rs h = (
  not_before t r.time (neither_left (is_earlier r.time t) (is_earlier (moment_instant last_moment) r.time) h),
  neither_right (is_earlier r.time t) (is_earlier (moment_instant last_moment) r.time) h,
)

first_in_order : (r : Record) (rs : List Record) → IsBehind (Some r.time) rs → IsNotBefore r rs
first_in_order r [] h = tt
first_in_order r (s ∷ rs) h = h

pub none_if : {A : Type 0} (b : Bool) (n : A) → cond b (n ∷ []) [] ≡ [] → b ≡ false
none_if true n h = absurd (let e : n ∷ [] ≡ [] = h in cc)
none_if false n h = refl

abbrev read : List (ℕ × Object) → List Record
read items = filter_map (λ (i : ℕ × Object). record_in i.1) items

good_items : (before : Option Instant) (items : List (ℕ × Object)) → bad_records before items ≡ [] → AreGood before (read items)
good_items before [] h = record { order = tt; behind = none_behind before; timely = tt }
good_items before (i ∷ items) h = go (record_in i.1) h (λ b g. good_items b items g)
  where
    at : Option Record → Offence SiteRule
    at o = breaks (record_rule before i.1 o) i.0

    go : (o : Option Record) → cond (is_bad_item before o) (at o ∷ []) [] ++ bad_records (after_item before o) items ≡ []
        → ((b : Option Instant) → bad_records b items ≡ [] → AreGood b (read items)) → AreGood before (cons_option o (read items))
    go None g later = absurd (let e : at None ∷ bad_records before items ≡ [] = g in cc)
    go (Some r) g later =
        let late : is_late before r ≡ false = none_if (is_late before r) (at (Some r)) (first_none (cond (is_late before r) (at (Some r) ∷ []) []) (bad_records (Some r.time) items) g) in
        let rest : AreGood (Some r.time) (read items) = later (Some r.time) (second_none (cond (is_late before r) (at (Some r) ∷ []) []) (bad_records (Some r.time) items) g) in
        let two = not_late before r (read items) late in
        record {
          order = (first_in_order r (read items) rest.behind, rest.order);
          behind = two.0;
          timely = (ms_up_most r.time two.1, rest.timely);
        }

each_none : {A B : Type 0} (f : A → List B) (xs : List A) → flat_map f xs ≡ [] → AllByRecursion (λ x. f x ≡ []) xs
each_none f [] h = tt
each_none f (x ∷ xs) h = (first_none (f x) (flat_map f xs) h, each_none f xs (second_none (f x) (flat_map f xs) h))

abbrev pub HasGood : Part → Type 0
HasGood q = AreGood None (records_of q)

good_history : (ps : List Part) (q : Part) → bad_history ps q ≡ [] → q.roles.history ≡ true → HasGood q
good_history ps q h is =
    let wrong : List (Offence SiteRule) = cond (has_bad_source ps q || has_bad_capacity q) (breaks (setting_rule ps q) q.number ∷ []) [] in
    let items = bad_records None (items_of (codes "data") q) in
    let both : wrong ++ items ≡ [] = subst (λ (b : Bool). cond b (wrong ++ items) [] ≡ []) is h in
    good_items None (items_of (codes "data") q) (second_none wrong items both)

histories_good : (ps qs : List Part) → AllByRecursion (λ (q : Part). bad_history ps q ≡ []) qs → AllByRecursion HasGood (histories_in qs)
histories_good ps [] e = tt
histories_good ps (q ∷ qs) e = go q.roles.history refl (histories_good ps qs e.1)
  where
    go : (b : Bool) → q.roles.history ≡ b → AllByRecursion HasGood (histories_in qs) → AllByRecursion HasGood (cond b (q ∷ histories_in qs) (histories_in qs))
    go true is rest = (good_history ps q e.0 is, rest)
    go false is rest = rest

-- where no part is bad, the records of each history are good
pub records_good : (ps : List Part) → bad_part ps ≡ None → AllByRecursion HasGood (histories_in ps)
records_good ps h = histories_good ps ps (each_none (bad_history ps) ps (all_good ps h).histories)

-- what a log keeps once it has rolled is the end of what it had
pub rolled_kept : (P : List Record → Type 0) → ((n : ℕ) (rs : List Record) → P rs → P (drop n rs)) → (o : Option ℕ) (rs : List Record) → P rs
    → P (rolled (record { capacity = o; gone = 0; kept = rs })).kept
rolled_kept P f None rs p = p
rolled_kept P f (Some c) rs p = f (length rs - c) rs p

pub order_drop : (n : ℕ) (rs : List Record) → InOrder rs → InOrder (drop n rs)
order_drop zero rs o = o
order_drop (suc n) [] o = o
order_drop (suc n) (r ∷ rs) o = order_drop n rs o.1

pub each_drop : (P : Record → Type 0) (n : ℕ) (rs : List Record) → AllByRecursion P rs → AllByRecursion P (drop n rs)
each_drop P zero rs e = e
each_drop P (suc n) [] e = e
each_drop P (suc n) (r ∷ rs) e = each_drop P n rs e.1
