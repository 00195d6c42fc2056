-- The items of `data`, one after the other.
use Rattle.std.proofs.Common.{◌≡◌, ℕ, ◌+◌, ◌<◌, ◌≤◌, Bool, true, false, cond, List, [], ◌∷◌, ◌++◌, length, drop, get_or, Option, Some, None, refl, sym, ap, ap₂, ◌∙◌, subst, append_assoc, arith, true≢false}
use Rattle.std.specs.Prelude.{is_some, ◌||◌, Result, Ok, Err, IfOk, IfErr}
use Rattle.std.specs.List.{filter_map, cons_option}
use Rattle.std.proofs.lemmas.List.{append-nil}
use Rattle.ob_times.specs.Times.{Instant, moment_instant}
use Rattle.ob_object.specs.Object.{Object, parts}
use Rattle.ob_history.specs.declared.records.Record.{Record}
use Rattle.ob_parts.specs.Least.{least}
use Rattle.ob_site_rules.specs.Loading.{numbered, record_in, is_bad_item, after_item, bad_records, breaks, record_rule, is_late, falls, is_earlier, last_moment}
use Rattle.ob_site_rules.specs.declared.site_rule.SiteRule.{SiteRule}
use Rattle.ob_site_rules.specs.declared.site_rule.SiteRule.TheVariants as site_rule
use Rattle.ob_roles.proofs.PartRows.{Numbers, numbers_more}
use Rattle.ob_site_file.proofs.Firsts.{From, from_below, from_if, least_from}
use Rattle.ob_values.proofs.Lists.{drop_all}
use Rattle.ob_site_file.proofs.Rests.{rest_more}

records_from : (before : Option Instant) (n : ℕ) (os : List Object) → From n (bad_records before (numbered n os))
records_from before n [] = tt
records_from before n (o ∷ os) =
    from_if (is_bad_item before (record_in o)) (record_rule before o (record_in o)) n _ (from_below n (n + parts o) _ (omega arith) (records_from (after_item before (record_in o)) (n + parts o) os))

-- what is wrong from a place on is what is wrong
pub record RecordsLeft (n : ℕ) (all : List Object) (i : ℕ) (before : Option Instant) (number : ℕ) : Type 0 where
  pub same : least (bad_records before (numbered number (drop i all))) ≡ least (bad_records None (numbered n all))
  pub numbers : Numbers n number all i

pub records_first : (n : ℕ) (all : List Object) → RecordsLeft n all 0 None n
records_first n all = record { same = refl; numbers = refl }

at_item : (before : Option Instant) (n : ℕ) (x : Object) (os : List Object) (b : Bool) → is_bad_item before (record_in x) ≡ b
    → bad_records before (numbered n (x ∷ os)) ≡ cond b (breaks (record_rule before x (record_in x)) n ∷ []) [] ++ bad_records (after_item before (record_in x)) (numbered (n + parts x) os)
at_item before n x os b e = ap (λ (c : Bool). cond c (breaks (record_rule before x (record_in x)) n ∷ []) [] ++ bad_records (after_item before (record_in x)) (numbered (n + parts x) os)) e

pub records_more : (n : ℕ) (all : List Object) (i : ℕ) (before after : Option Instant) (number next : ℕ) (x : Object) → i < length all → x ≡ get_or all i x → is_bad_item before (record_in x) ≡ false → after_item before (record_in x) ≡ after
    → next ≡ number + parts x → RecordsLeft n all i before number → RecordsLeft n all (i + 1) after next
records_more n all i before after number next x h is good step number_step l = record {
  same = ap₂ (λ (a : Option Instant) m. least (bad_records a (numbered m (drop (i + 1) all)))) (sym step) number_step
      ∙ sym (ap (λ os. least (bad_records before (numbered number os))) (rest_more all i x h is) ∙ ap least (at_item before number x (drop (i + 1) all) false good))
      ∙ l.same;
  numbers = subst (λ m. Numbers n m all (i + 1)) (sym number_step) (numbers_more n number all i x h is l.numbers);
}

pub records_bad : (n : ℕ) (all : List Object) (i : ℕ) (before : Option Instant) (number : ℕ) (x : Object) (rule : SiteRule) → i < length all → x ≡ get_or all i x → is_bad_item before (record_in x) ≡ true → record_rule before x (record_in x) ≡ rule
    → RecordsLeft n all i before number → Some (breaks rule number) ≡ least (bad_records None (numbered n all))
records_bad n all i before number x rule h is bad told l =
    let rest = bad_records (after_item before (record_in x)) (numbered (number + parts x) (drop (i + 1) all)) in
    let behind : From number rest = from_below number (number + parts x) rest (omega arith) (records_from (after_item before (record_in x)) (number + parts x) (drop (i + 1) all)) in
    sym (ap (λ os. least (bad_records before (numbered number os))) (rest_more all i x h is) ∙ ap least (at_item before number x (drop (i + 1) all) true bad)
    ∙ least_from (breaks (record_rule before x (record_in x)) number) rest behind ∙ ap (λ (r : SiteRule). Some (breaks r number)) told) ∙ l.same

pub records_all : (n : ℕ) (all : List Object) (i : ℕ) (before : Option Instant) (number : ℕ) → length all ≤ i → RecordsLeft n all i before number → None ≡ least (bad_records None (numbered n all))
records_all n all i before number h l = sym (ap (λ os. least (bad_records before (numbered number os))) (drop_all all i h)) ∙ l.same

-- the two rules of order
late_is : (before : Option Instant) (r : Record) → is_late before r ≡ (falls before r || is_earlier (moment_instant last_moment) r.time)
late_is None r = refl
late_is (Some b) r = refl

pub falls_late : (before : Option Instant) (r : Record) (b : Bool) → b ≡ falls before r → b ≡ true → (is_late before r ≡ true) × (cond (falls before r) site_rule.Order site_rule.Late ≡ site_rule.Order)
falls_late before r b is on =
    let first : falls before r ≡ true = sym is ∙ on in
    (late_is before r ∙ ap (λ c. c || is_earlier (moment_instant last_moment) r.time) first, ap (λ c. cond c site_rule.Order site_rule.Late) first)

pub after_late : (before : Option Instant) (r : Record) (b l : Bool) → b ≡ falls before r → b ≡ false → l ≡ is_earlier (moment_instant last_moment) r.time → l ≡ true
    → (is_late before r ≡ true) × (cond (falls before r) site_rule.Order site_rule.Late ≡ site_rule.Late)
after_late before r b l is off then on =
    let first : falls before r ≡ false = sym is ∙ off in
    (late_is before r ∙ (ap (λ c. c || is_earlier (moment_instant last_moment) r.time) first ∙ (sym then ∙ on)), ap (λ c. cond c site_rule.Order site_rule.Late) first)

pub not_late : (before : Option Instant) (r : Record) (b l : Bool) → b ≡ falls before r → b ≡ false → l ≡ is_earlier (moment_instant last_moment) r.time → l ≡ false → is_late before r ≡ false
not_late before r b l is off then late =
    late_is before r ∙ (ap (λ c. c || is_earlier (moment_instant last_moment) r.time) (sym is ∙ off) ∙ (sym then ∙ late))

-- and what they say of an item
pub next_ok : (before : Option Instant) (o : Object) (r : Record) (result : Result Instant SiteRule) → record_in o ≡ Some r
    → IfOk result (λ t. (t ≡ r.time) × ((s : Record) → s.time ≡ r.time → is_late before s ≡ false))
    → IfOk result (λ t. (is_bad_item before (record_in o) ≡ false) × (after_item before (record_in o) ≡ Some t))
next_ok before o r (Ok t) e h = (ap (is_bad_item before) e ∙ h.1 r refl, ap (after_item before) e ∙ ap Some (sym h.0))
next_ok before o r (Err rule) e h = tt

pub next_err : (before : Option Instant) (o : Object) (r : Record) (result : Result Instant SiteRule) → record_in o ≡ Some r
    → IfErr result (λ rule. (s : Record) → s.time ≡ r.time → (is_late before s ≡ true) × (cond (falls before s) site_rule.Order site_rule.Late ≡ rule))
    → IfErr result (λ rule. (is_bad_item before (record_in o) ≡ true) × (record_rule before o (record_in o) ≡ rule))
next_err before o r (Ok t) e h = tt
next_err before o r (Err rule) e h = (ap (is_bad_item before) e ∙ (h r refl).0, ap (record_rule before o) e ∙ (h r refl).1)

-- an item that is no record
pub none_err : (before : Option Instant) (o : Object) (rule : SiteRule) → record_in o ≡ None → record_rule before o None ≡ rule
    → (is_bad_item before (record_in o) ≡ true) × (record_rule before o (record_in o) ≡ rule)
none_err before o rule e told = (ap (is_bad_item before) e, ap (record_rule before o) e ∙ told)

-- the records that are counted, one item more
pub counted_one : (all : List Object) (i : ℕ) (x : Object) (count next : ℕ) → i < length all → x ≡ get_or all i x → is_some (record_in x) ≡ true → next ≡ count + 1
    → count + length (filter_map record_in (drop i all)) ≡ length (filter_map record_in all) → next + length (filter_map record_in (drop (i + 1) all)) ≡ length (filter_map record_in all)
counted_one all i x count next h is some step held =
    let one = ap (λ os. length (filter_map record_in os)) (rest_more all i x h is) ∙ at_some (record_in x) some in
    omega (arith, one, step, held)
  where
    at_some : (o : Option Record) → is_some o ≡ true → length (cons_option o (filter_map record_in (drop (i + 1) all))) ≡ length (filter_map record_in (drop (i + 1) all)) + 1
    at_some (Some r) e = omega arith
    at_some None e = absurd (true≢false (sym e))

pub counted_none : (all : List Object) (i : ℕ) (x : Object) (count next : ℕ) → i < length all → x ≡ get_or all i x → is_some (record_in x) ≡ false → next ≡ count
    → count + length (filter_map record_in (drop i all)) ≡ length (filter_map record_in all) → next + length (filter_map record_in (drop (i + 1) all)) ≡ length (filter_map record_in all)
counted_none all i x count next h is none step held =
    let one = ap (λ os. length (filter_map record_in os)) (rest_more all i x h is) ∙ at_none (record_in x) none in
    omega (arith, one, step, held)
  where
    at_none : (o : Option Record) → is_some o ≡ false → length (cons_option o (filter_map record_in (drop (i + 1) all))) ≡ length (filter_map record_in (drop (i + 1) all))
    at_none (Some r) e = absurd (true≢false e)
    at_none None e = refl

cons_is : (r : Option Record) (rs : List Record) → cons_option r rs ≡ cons_option r [] ++ rs
cons_is None rs = refl
cons_is (Some r) rs = refl

-- the records so far, one item more
abbrev pub RecordsMade : List Object → ℕ → List Record → Type 0
RecordsMade all i made = made ++ filter_map record_in (drop i all) ≡ filter_map record_in all

pub made_more : (all : List Object) (i : ℕ) (x : Object) (made new : List Record) → i < length all → x ≡ get_or all i x → new ≡ made ++ cons_option (record_in x) [] → RecordsMade all i made → RecordsMade all (i + 1) new
made_more all i x made new h is put held =
    let rest = filter_map record_in (drop (i + 1) all) in
    ap (λ l. l ++ rest) put ∙ append_assoc made (cons_option (record_in x) []) rest
    ∙ ap (λ l. made ++ l) (sym (ap (filter_map record_in) (rest_more all i x h is) ∙ cons_is (record_in x) rest)) ∙ held

pub made_all : (all : List Object) (i : ℕ) (made : List Record) → length all ≤ i → RecordsMade all i made → made ≡ filter_map record_in all
made_all all i made h held = sym (append-nil made) ∙ ap (λ os. made ++ filter_map record_in os) (sym (drop_all all i h)) ∙ held
