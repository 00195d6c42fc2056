-- What parts open of which none breaks a rule, by the definition.
use Rattle.std.proofs.Common.{◌≡◌, ℕ, ℤ, pos, ◌+◌, ◌*◌, ◌/◌, ◌≤◌, negsuc, div-add-mod', Bool, true, false, cond, ◌||◌, codes, List, [], ◌∷◌, ◌++◌, map, Option, Some, None, refl, sym, ap, ap₂, ◌∙◌, arith, true≢false}
use Rattle.std.specs.Prelude.{min, find, option_map, int_lt, is_some, bytes_eq}
use Rattle.std.specs.List.{filter_map, flat_map, cons_option}
use Rattle.std.proofs.lemmas.Int.{ints}
use Rattle.url.specs.Parts.{Parts}
use Rattle.ob_times.specs.Times.{Instant, instant, moment_instant}
use Rattle.ob_object.specs.Object.{Object}
use Rattle.ob_contracts.specs.Inherit.{Contracts}
use Rattle.ob_history.specs.declared.records.Record.{Record}
use Rattle.ob_site_rules.specs.Build.{Path}
use Rattle.ob_site_rules.specs.declared.plan.PointRule.{PointRule}
use Rattle.ob_site_rules.specs.declared.plan.Plan.{Plan}
use Rattle.ob_site_rules.specs.State.{Log, rolled, rolled_logs, at}
use Rattle.ob_site_rules.specs.Sites.{SiteState}
use Rattle.ob_plain_state.specs.States.{entry_of}
use Rattle.ob_site_rules.specs.Loading.{Part, path_of, capacity_of, records_of, histories_in, items_of, rule_in, subjects, bad_part, bad_history, bad_subjects, bad_records, bad_rules, overfull, record_in, is_bad_item, after_item, is_late, is_earlier, has_bad_source, has_bad_capacity, ms_up, last_moment, greatest, opened, kept_root, breaks, record_rule, setting_rule}
use Rattle.ob_site_rules.specs.declared.site_rule.SiteRule.{SiteRule}
use Rattle.ob_site_rules.specs.declared.site_rule.SiteRule.TheVariants as site_rule
use Rattle.ob_parts.specs.declared.offence.Offence.{Offence}
use Rattle.ob_parts.proofs.Earliest.{least_none}
use Rattle.ob_site_file.specs.Opened.{whole_log, rules_at, subject_of, plan_with, state_with, site_with, site_of, Plans}
use Rattle.ob_site_file.specs.Passes.{site_roles, site_parts}
use Rattle.ob_site_file.specs.declared.document.Opened.{Opened}

second_none : {A : Type 0} (xs ys : List A) → xs ++ ys ≡ [] → ys ≡ []
second_none [] ys e = e
second_none (x ∷ xs) ys e = absurd cc

first_none : {A : Type 0} (xs ys : List A) → xs ++ ys ≡ [] → xs ≡ []
first_none [] ys e = refl
first_none (x ∷ xs) ys e = absurd cc

-- the subject

abbrev first_of : List Part → Option Part
first_of [] = None
first_of (p ∷ ps) = Some p

found_first : (ps : List Part) → subject_of ps ≡ first_of (subjects ps)
found_first [] = refl
found_first (p ∷ ps) = go p.roles.subject (found_first ps)
  where
    go : (b : Bool) → subject_of ps ≡ first_of (subjects ps) → cond b (Some p) (subject_of ps) ≡ first_of (cond b (p ∷ subjects ps) (subjects ps))
    go true rest = refl
    go false rest = rest

abbrev rules_of : List Part → Part → List PointRule
rules_of ps p = filter_map (λ i. rule_in ps i.1) (items_of (codes "rules") p)

one_subject : (ps qs : List Part) → bad_subjects ps qs ≡ [] → flat_map (rules_of ps) qs ≡ rules_at ps (first_of qs)
one_subject ps [] e = refl
one_subject ps (p ∷ []) e = append_none (rules_of ps p)
  where
    append_none : (xs : List PointRule) → xs ++ [] ≡ xs
    append_none [] = refl
    append_none (x ∷ xs) = ap (λ l. x ∷ l) (append_none xs)
one_subject ps (p ∷ q ∷ others) e = absurd (let f : map (λ (q : Part). breaks site_rule.SecondSubject q.number) (q ∷ others) ≡ [] = second_none (bad_rules ps [] (items_of (codes "rules") p)) (map (λ (q : Part). breaks site_rule.SecondSubject q.number) (q ∷ others)) e in cc)

-- the times of records

rounded : (n : ℕ) → (n + 999_999) / 1_000_000 * 1_000_000 ≤ n + 999_999
rounded n = omega (arith, div-add-mod' (n + 999_999) 1_000_000)

no_later : (s n : ℕ) → int_lt (pos 253_402_300_799_999_000_000) (pos (s * 1_000_000_000 + n)) ≡ false → s * 1_000_000_000 + n ≤ 253_402_300_799_999_000_000
no_later s n h = grind (arith, ints)

up_most : (s : ℤ) (n : ℕ) (o : ℤ) → int_lt (instant (moment_instant last_moment)) (instant (record { seconds = s; nanos = n; offset = o })) ≡ false → ms_up (record { seconds = s; nanos = n; offset = o }) ≤ last_moment
up_most (pos s) n o h = omega (arith, rounded n, no_later s n h)
up_most (negsuc s) n o h = omega arith

not_late : (t : Instant) → is_earlier (moment_instant last_moment) t ≡ false → ms_up t ≡ min (ms_up t) last_moment
not_late t h = lesser (ms_up t) last_moment (up_most t.seconds t.nanos t.offset h)
  where
    lesser : (a b : ℕ) → a ≤ b → a ≡ min a b
    lesser a b h = omega arith

-- the record of an item that isn't bad is by the last moment
in_time : (before : Option Instant) (r : Record) → is_late before r ≡ false → ms_up r.time ≡ min (ms_up r.time) last_moment
in_time None r h = not_late r.time h
in_time (Some b) r h = not_late r.time (or_second (is_earlier r.time b) (is_earlier (moment_instant last_moment) r.time) h)
  where
    or_second : (a b : Bool) → (a || b) ≡ false → b ≡ false
    or_second true b e = absurd (true≢false e)
    or_second false b e = e

abbrev up : Record → ℕ
up r = ms_up r.time

abbrev by_last : Record → ℕ
by_last r = min (ms_up r.time) last_moment

item_times : (before : Option Instant) (r : Option Record) → is_bad_item before r ≡ false → map up (cons_option r []) ≡ map by_last (cons_option r [])
item_times before None h = refl
item_times before (Some r) h = ap (λ n. n ∷ []) (in_time before r h)

if_none : {A : Type 0} (b : Bool) (n : A) → cond b (n ∷ []) [] ≡ [] → b ≡ false
if_none true n e = absurd cc
if_none false n e = refl

cons_map : (f : Record → ℕ) (r : Option Record) (rs : List Record) → map f (cons_option r rs) ≡ map f (cons_option r []) ++ map f rs
cons_map f None rs = refl
cons_map f (Some r) rs = refl

records_times : (before : Option Instant) (items : List (ℕ × Object)) → bad_records before items ≡ [] → map up (filter_map (λ i. record_in i.1) items) ≡ map by_last (filter_map (λ i. record_in i.1) items)
records_times before [] e = refl
records_times before (i ∷ items) e =
    let here = cond (is_bad_item before (record_in i.1)) (breaks (record_rule before i.1 (record_in i.1)) i.0 ∷ []) [] in
    let rest = bad_records (after_item before (record_in i.1)) items in
    let good : is_bad_item before (record_in i.1) ≡ false = if_none (is_bad_item before (record_in i.1)) (breaks (record_rule before i.1 (record_in i.1)) i.0) (first_none here rest e) in
    cons_map up (record_in i.1) (filter_map (λ j. record_in j.1) items)
    ∙ ap₂ (λ a b. a ++ b) (item_times before (record_in i.1) good) (records_times (after_item before (record_in i.1)) items (second_none here rest e))
    ∙ sym (cons_map by_last (record_in i.1) (filter_map (λ j. record_in j.1) items))

map_append : {A B : Type 0} (f : A → B) (xs ys : List A) → map f (xs ++ ys) ≡ map f xs ++ map f ys
map_append f [] ys = refl
map_append f (x ∷ xs) ys = ap (λ l. f x ∷ l) (map_append f xs ys)

abbrev times_in : Path × Log → List ℕ
times_in l = map by_last l.1.kept

history_times : (ps qs : List Part) → flat_map (bad_history ps) qs ≡ [] → map up (flat_map records_of (histories_in qs)) ≡ flat_map times_in (map whole_log (histories_in qs))
history_times ps [] e = refl
history_times ps (p ∷ qs) e = go p.roles.history refl (history_times ps qs (second_none (bad_history ps p) (flat_map (bad_history ps) qs) e))
  where
    inner : List (Offence SiteRule)
    inner = cond (has_bad_source ps p || has_bad_capacity p) (breaks (setting_rule ps p) p.number ∷ []) []

    mine : (b : Bool) → p.roles.history ≡ b → b ≡ true → bad_records None (items_of (codes "data") p) ≡ []
    mine b is on =
        second_none inner (bad_records None (items_of (codes "data") p))
        (sym (ap (λ c. cond c (inner ++ bad_records None (items_of (codes "data") p)) []) (is ∙ on)) ∙ first_none (bad_history ps p) (flat_map (bad_history ps) qs) e)

    go : (b : Bool) → p.roles.history ≡ b → map up (flat_map records_of (histories_in qs)) ≡ flat_map times_in (map whole_log (histories_in qs))
        → map up (flat_map records_of (cond b (p ∷ histories_in qs) (histories_in qs))) ≡ flat_map times_in (map whole_log (cond b (p ∷ histories_in qs) (histories_in qs)))
    go true is rest =
        map_append up (records_of p) (flat_map records_of (histories_in qs))
        ∙ ap₂ (λ a b. a ++ b) (records_times None (items_of (codes "data") p) (mine true is refl)) rest
    go false is rest = rest

map_map : {A B C : Type 0} (f : B → C) (g : A → B) (xs : List A) → map f (map g xs) ≡ map (λ x. f (g x)) xs
map_map f g [] = refl
map_map f g (x ∷ xs) = ap (λ l. f (g x) ∷ l) (map_map f g xs)

-- what parts open of which none breaks a rule, is what the definition opens
pub opens : (base : Parts) (boot : ℕ) (lib : Contracts) (root tree : Object) (ps : List Part) → bad_part ps ≡ None
    → site_with (plan_with base boot root ps) (state_with lib tree (map whole_log (histories_in ps))) ≡ opened base base.path boot lib root tree ps
opens base boot lib root tree ps sound =
    let all : flat_map (bad_history ps) ps ++ (overfull 0 (histories_in ps) ++ bad_subjects ps (subjects ps)) ≡ [] =
    least_none (flat_map (bad_history ps) ps ++ (overfull 0 (histories_in ps) ++ bad_subjects ps (subjects ps))) sound in
    let behind : overfull 0 (histories_in ps) ++ bad_subjects ps (subjects ps) ≡ [] = second_none (flat_map (bad_history ps) ps) (overfull 0 (histories_in ps) ++ bad_subjects ps (subjects ps)) all in
    let rules : rules_at ps (subject_of ps) ≡ flat_map (rules_of ps) (subjects ps) =
    ap (rules_at ps) (found_first ps) ∙ sym (one_subject ps (subjects ps) (second_none (overfull 0 (histories_in ps)) (bad_subjects ps (subjects ps)) behind)) in
    let times : flat_map times_in (map whole_log (histories_in ps)) ≡ map up (flat_map records_of (histories_in ps)) =
    sym (history_times ps ps (first_none (flat_map (bad_history ps) ps) (overfull 0 (histories_in ps) ++ bad_subjects ps (subjects ps)) all)) in
    let logs : map (λ (l : Path × Log). (l.0, rolled l.1)) (map whole_log (histories_in ps)) ≡ map (λ (p : Part). (path_of p, rolled (record { capacity = capacity_of p; gone = 0; kept = records_of p }))) (histories_in ps) =
    map_map (λ (l : Path × Log). (l.0, rolled l.1)) whole_log (histories_in ps) in
    let site : List PointRule → List ℕ → List (Path × Log) → SiteState = λ rs ts ls. record {
      plan = record (opened base base.path boot lib root tree ps).plan { rules = rs };
      world = record (opened base base.path boot lib root tree ps).world { time = greatest boot ts; site = record (opened base base.path boot lib root tree ps).world.site { logs = ls } };
    } in
    ap (λ rs. site rs (flat_map times_in (map whole_log (histories_in ps))) (map (λ (l : Path × Log). (l.0, rolled l.1)) (map whole_log (histories_in ps)))) rules
    ∙ ap₂ (λ ts ls. site (flat_map (rules_of ps) (subjects ps)) ts ls) times logs

-- what stands opened, as far as it is planned
pub site_is : (base : Parts) (boot : ℕ) (root : Object) (lib : Contracts) (o : Opened) → Plans base boot root lib o → bad_part (site_parts root) ≡ None
    → site_of o ≡ opened base base.path boot lib root (kept_root (site_roles root) root) (site_parts root)
site_is base boot root lib o p sound =
    let ps = site_parts root in
    ap (λ (q : Plan). site_with q (state_with o.library o.tree (map entry_of o.logs.items))) p.plan
    ∙ ap (λ (l : Contracts). site_with (plan_with base boot root ps) (state_with l o.tree (map entry_of o.logs.items))) p.library
    ∙ ap (λ (t : Object). site_with (plan_with base boot root ps) (state_with lib t (map entry_of o.logs.items))) p.tree
    ∙ ap (λ (ls : List (Path × Log)). site_with (plan_with base boot root ps) (state_with lib (kept_root (site_roles root) root) ls)) p.logs
    ∙ opens base boot lib root (kept_root (site_roles root) root) ps sound

there_first : (t : List ℕ) (e : Path × Log) (es : List (Path × Log)) → is_some (at t (e ∷ es)) ≡ (bytes_eq e.0 t || is_some (at t es))
there_first t e es = go (bytes_eq e.0 t)
  where
    go : (b : Bool) → is_some (option_map (λ (e : Path × Log). e.1) (cond b (Some e) (find (λ (e : Path × Log). bytes_eq e.0 t) es))) ≡ (b || is_some (at t es))
    go true = refl
    go false = refl

-- the logs that roll stay under their paths
pub rolled_there : (t : List ℕ) (ls : List (Path × Log)) → is_some (at t ls) ≡ is_some (at t (rolled_logs ls))
rolled_there t [] = refl
rolled_there t (l ∷ ls) =
    there_first t l ls ∙ ap (λ b. bytes_eq l.0 t || b) (rolled_there t ls) ∙ sym (there_first t (l.0, rolled l.1) (rolled_logs ls))
