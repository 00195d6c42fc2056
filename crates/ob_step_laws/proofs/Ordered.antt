-- What else holds of a state that a document opens.
use Rattle.std.proofs.Common.{◌≡◌, ℕ, ◌+◌, ◌≤◌, min, max, Bool, true, false, cond, ◌||◌, codes, bytes_eq, List, [], ◌∷◌, ◌++◌, map, length, filter, filter_map, flat_map, Option, Some, None, refl, sym, ap, ap₂, ◌∙◌, subst, append-nil, nat_lt, arith, true≢false}
use Rattle.std.specs.Prelude.{is_some, unwrap_or}
use Rattle.std.specs.List.{AllByRecursion, cons_option}
use Rattle.std.proofs.lemmas.List.{map-append}
use Rattle.std.proofs.lemmas.Bool.Decides.{nat_tests}
use Rattle.std.proofs.lemmas.Slice.Eq.{bytes_eq-Decides}
use Rattle.url.specs.Parts.{Parts}
use Rattle.ob_object.specs.Object.{Object}
use Rattle.ob_object.specs.Paths.{node_path}
use Rattle.ob_contracts.specs.Inherit.{Contracts}
use Rattle.ob_history.specs.declared.records.Record.{Record}
use Rattle.ob_history.specs.Records.{InOrder}
use Rattle.ob_site_rules.specs.Build.{Path}
use Rattle.ob_site_rules.specs.State.{Log, is_among, rolled}
use Rattle.ob_site_rules.specs.declared.plan.PointRule.{PointRule}
use Rattle.ob_site_rules.specs.Writes.{stored_in, stored_logs}
use Rattle.ob_site_rules.specs.Sites.{SiteState}
use Rattle.ob_site_rules.specs.declared.roles.Roles.{Roles}
use Rattle.ob_site_rules.specs.Roles.{no_roles, all_roles}
use Rattle.ob_parts.specs.declared.offence.Offence.{Offence}
use Rattle.ob_site_rules.specs.declared.site_rule.SiteRule.{SiteRule}
use Rattle.ob_site_rules.specs.declared.site_rule.SiteRule.TheVariants as site_rule
use Rattle.ob_site_rules.specs.Loading.{breaks, alarm_rule, Part, row_of, kept_root, parts_of, paths_in, path_of, listed_path, is_computed, taken_twice, items_of, rule_in, bad_rules, is_bad_rule, after_rule, bad_subjects, subjects, histories_in, capacity_of, records_of, overfull, bad_part, ms_up, greatest, last_moment, opened}
use Rattle.ob_step_laws.specs.Laws.{Apart, row_paths}
use Rattle.ob_step_laws.specs.Ordered.{IsBy, IsOrdered, whole_log, moment_from, OpensInTime, OpensOrdered}
use Rattle.ob_step_laws.proofs.Lists.{each_more, each_map, each_first, each_second}
use Rattle.ob_values.proofs.Bools.{neither_left}
use Rattle.ob_step_laws.proofs.Once.{cond_none, Free, free_less, taken_once}
use Rattle.ob_values.proofs.Lists.{bytes_itself}
use Rattle.ob_step_laws.proofs.Kept.{part_paths, root_paths, root_among, root_apart, Under, under_same, under_both, under_behind}
use Rattle.ob_step_laws.proofs.Fit.{all_fit}
use Rattle.ob_step_laws.proofs.Found.{IsNodeIf}
use Rattle.ob_step_laws.proofs.Roled.{is_history, IsPlaced, all_placed}
use Rattle.ob_step_laws.proofs.Inverted.{Opens, all_good, first_none, second_none, one_subject}
use Rattle.ob_step_laws.proofs.Records.{HasGood, IsTimely, none_if, records_good, rolled_kept, order_drop, each_drop}
use Rattle.ob_step_laws.proofs.Flags.{IsOneAtMost}
use Rattle.ob_step_laws.proofs.Times.{not_after}
use Rattle.ob_step_laws.proofs.Begins.{Begins, begins, words_of}
use Rattle.ob_hrefs.specs.Hrefs.{site_path, made_object}
use Rattle.ob_site_rules.specs.Opening.{standard_words}

-- paths of which none is refused aren't computed
none_computed : (r : Path) (seen ps : List Path) → taken_twice r seen ps ≡ None → AllByRecursion (λ p. is_computed r p ≡ false) ps
none_computed r seen [] h = tt
none_computed r seen (p ∷ ps) h =
    let t = cond_none (is_computed r p || is_among p seen) p (taken_twice r (p ∷ seen) ps) h in
    (neither_left (is_computed r p) (is_among p seen) t.0, none_computed r (p ∷ seen) ps t.1)

each_at : (P : Path → Type 0) (ys : List Path) (p : Path) → AllByRecursion P ys → is_among p ys ≡ true → P p
each_at P [] p e h = absurd (true≢false (sym h))
each_at P (y ∷ ys) p e h = go (bytes_eq y p) refl h (λ g. each_at P ys p e.1 g)
  where
    go : (b : Bool) → bytes_eq y p ≡ b → (b || is_among p ys) ≡ true → (is_among p ys ≡ true → P p) → P p
    go true is g later = subst P ((bytes_eq-Decides y p).0 is) e.0
    go false is g later = later g

each_among : (P : Path → Type 0) (xs ys : List Path) → ((p : Path) → is_among p xs ≡ true → is_among p ys ≡ true) → AllByRecursion P ys → AllByRecursion P xs
each_among P [] ys f e = tt
each_among P (x ∷ xs) ys f e = (
  each_at P ys x e (f x (ap (λ b. b || is_among x xs) (bytes_itself x))),
  each_among P xs ys (λ p h. f p (ap (λ b. bytes_eq x p || b) h ∙ or_true (bytes_eq x p))) e,
)
  where
    or_true : (a : Bool) → (a || true) ≡ true
    or_true true = refl
    or_true false = refl

-- the paths of parts that are nodes are among the paths of all
one_under : (o : Option Path) → is_some o ≡ true → Under (unwrap_or o [] ∷ []) (listed_path o)
one_under None h = absurd (true≢false (sym h))
one_under (Some p) h = under_same (p ∷ [])

filter_under : (F : Part → Bool) (ps : List Part) → AllByRecursion (IsNodeIf F) ps → Under (map path_of (filter F ps)) (part_paths ps)
filter_under F [] e = under_same []
filter_under F (q ∷ ps) e = go (F q) refl (filter_under F ps e.1)
  where
    go : (b : Bool) → F q ≡ b → Under (map path_of (filter F ps)) (part_paths ps) → Under (map path_of (cond b (q ∷ filter F ps) (filter F ps))) (listed_path (node_path q.own.head) ++ part_paths ps)
    go true is u = under_both (path_of q ∷ []) (listed_path (node_path q.own.head)) (map path_of (filter F ps)) (part_paths ps) (one_under (node_path q.own.head) (e.0 is)) u
    go false is u = under_behind (map path_of (filter F ps)) (listed_path (node_path q.own.head)) (part_paths ps) u

keys_same : {A B : Type 0} (f : Part → A) (g : Part → B) (hs : List Part) → map (λ (l : Path × A). l.0) (map (λ q. (path_of q, f q)) hs) ≡ map (λ (l : Path × B). l.0) (map (λ q. (path_of q, g q)) hs)
keys_same f g [] = refl
keys_same f g (q ∷ hs) = ap (λ l. path_of q ∷ l) (keys_same f g hs)

keys_are : {A : Type 0} (f : Part → A) (hs : List Part) → map (λ (l : Path × A). l.0) (map (λ q. (path_of q, f q)) hs) ≡ map path_of hs
keys_are f [] = refl
keys_are f (q ∷ hs) = ap (λ l. path_of q ∷ l) (keys_are f hs)

-- the sources of rules that aren't bad
abbrev sources : List PointRule → List Path
sources rules = map (λ r. r.source) rules

abbrev made_rules : List Part → List (ℕ × Object) → List PointRule
made_rules ps items = filter_map (λ (i : ℕ × Object). rule_in ps i.1) items

rules_apart : (ps : List Part) (seen : List Path) (items : List (ℕ × Object)) → bad_rules ps seen items ≡ [] → Apart (sources (made_rules ps items)) × Free seen (sources (made_rules ps items))
rules_apart ps seen [] h = (tt, tt)
rules_apart ps seen (i ∷ items) h = go (rule_in ps i.1) h (λ s g. rules_apart ps s items g)
  where
    at : Option PointRule → Offence SiteRule
    at o = breaks (alarm_rule ps i.1 o) i.0

    go : (o : Option PointRule) → cond (is_bad_rule seen o) (at o ∷ []) [] ++ bad_rules ps (after_rule seen o) items ≡ []
        → ((s : List Path) → bad_rules ps s items ≡ [] → Apart (sources (made_rules ps items)) × Free s (sources (made_rules ps items)))
        → Apart (sources (cons_option o (made_rules ps items))) × Free seen (sources (cons_option o (made_rules ps items)))
    go None g later = absurd (let e : at None ∷ bad_rules ps seen items ≡ [] = g in cc)
    go (Some r) g later =
        let wrong : List (Offence SiteRule) = cond (is_among r.source seen) (at (Some r) ∷ []) [] in
        let behind = bad_rules ps (r.source ∷ seen) items in
        let new : is_among r.source seen ≡ false = none_if (is_among r.source seen) (at (Some r)) (first_none wrong behind g) in
        let rest = later (r.source ∷ seen) (second_none wrong behind g) in
        let less = free_less r.source seen (sources (made_rules ps items)) rest.1 in
        ((less.0, rest.0), (new, less.1))

subject_rules : (ps qs : List Part) → IsOneAtMost qs → bad_subjects ps qs ≡ [] → Apart (sources (flat_map (λ (q : Part). made_rules ps (items_of (codes "rules") q)) qs))
subject_rules ps [] one h = tt
subject_rules ps (q ∷ rest) one h =
    let own = made_rules ps (items_of (codes "rules") q) in
    let good : bad_rules ps [] (items_of (codes "rules") q) ≡ [] = first_none (bad_rules ps [] (items_of (codes "rules") q)) (map (λ (p : Part). breaks site_rule.SecondSubject p.number) rest) h in
    let same : own ++ flat_map (λ (q : Part). made_rules ps (items_of (codes "rules") q)) rest ≡ own =
    ap (λ l. own ++ flat_map (λ (q : Part). made_rules ps (items_of (codes "rules") q)) l) one ∙ append-nil own in
    subst (λ l. Apart (sources l)) (sym same) (rules_apart ps [] (items_of (codes "rules") q) good).0

-- what is stored
stored_rolled : (o : Option ℕ) (rs : List Record) → stored_in (rolled (record { capacity = o; gone = 0; kept = rs })).capacity (length (rolled (record { capacity = o; gone = 0; kept = rs })).kept) ≡ stored_in o (length rs)
stored_rolled None rs = refl
stored_rolled (Some c) rs = refl

no_more : (a b : ℕ) → nat_lt a b ≡ false → b ≤ a
no_more a b h = grind (arith, nat_tests)

stored_most : (hs : List Part) (sum : ℕ) → sum ≤ 1_000_000 → overfull sum hs ≡ [] → sum + stored_logs (map (λ q. (path_of q, rolled (whole_log q))) hs) ≤ 1_000_000
stored_most [] sum s h = omega (arith, s)
stored_most (q ∷ hs) sum s h =
    go (nat_lt 1_000_000 (sum + stored_in (capacity_of q) (length (records_of q)))) refl h (λ f g. stored_most hs (sum + stored_in (capacity_of q) (length (records_of q))) f g)
  where
    go : (b : Bool) → nat_lt 1_000_000 (sum + stored_in (capacity_of q) (length (records_of q))) ≡ b
        → cond b (breaks site_rule.Total q.number ∷ []) (overfull (sum + stored_in (capacity_of q) (length (records_of q))) hs) ≡ []
        → (sum + stored_in (capacity_of q) (length (records_of q)) ≤ 1_000_000 → overfull (sum + stored_in (capacity_of q) (length (records_of q))) hs ≡ []
        → sum + stored_in (capacity_of q) (length (records_of q)) + stored_logs (map (λ q. (path_of q, rolled (whole_log q))) hs) ≤ 1_000_000)
        → sum + stored_logs (map (λ q. (path_of q, rolled (whole_log q))) (q ∷ hs)) ≤ 1_000_000
    go true e g later = absurd (let f : breaks site_rule.Total q.number ∷ [] ≡ [] = g in cc)
    go false e g later =
        let more : sum + stored_in (capacity_of q) (length (records_of q)) ≤ 1_000_000 = no_more 1_000_000 (sum + stored_in (capacity_of q) (length (records_of q))) e in
        let all = later more g in
        let one = stored_rolled (capacity_of q) (records_of q) in
        omega (arith, all, one)

-- the greatest of numbers
pub greatest_first : (n : ℕ) (ks : List ℕ) → n ≤ greatest n ks
greatest_first n [] = omega arith
greatest_first n (k ∷ ks) = omega (arith, greatest_first (max n k) ks)

greatest_each : (n : ℕ) (ks : List ℕ) → AllByRecursion (λ k. k ≤ greatest n ks) ks
greatest_each n [] = tt
greatest_each n (k ∷ ks) =
    let e : max n k ≤ greatest (max n k) ks = greatest_first (max n k) ks in
    let f : k ≤ greatest (max n k) ks = omega (arith, e) in
    (f, greatest_each (max n k) ks)

each_of_map : {A : Type 0} (P : ℕ → Type 0) (f : A → ℕ) (xs : List A) → AllByRecursion P (map f xs) → AllByRecursion (λ x. P (f x)) xs
each_of_map P f [] e = tt
each_of_map P f (x ∷ xs) e = (e.0, each_of_map P f xs e.1)

each_of_flat : {A B : Type 0} (P : B → Type 0) (f : A → List B) (xs : List A) → AllByRecursion P (flat_map f xs) → AllByRecursion (λ x. AllByRecursion P (f x)) xs
each_of_flat P f [] e = tt
each_of_flat P f (x ∷ xs) e = (each_first P (f x) (flat_map f xs) e, each_of_flat P f xs (each_second P (f x) (flat_map f xs) e))

all_by : (boot : ℕ) (hs : List Part)
    → AllByRecursion (λ (q : Part). AllByRecursion (IsBy (greatest boot (map (λ (r : Record). ms_up r.time) (flat_map records_of hs)))) (records_of q)) hs
all_by boot hs =
    let now : ℕ = greatest boot (map (λ (r : Record). ms_up r.time) (flat_map records_of hs)) in
    let below : AllByRecursion (λ (r : Record). ms_up r.time ≤ now) (flat_map records_of hs) =
    each_of_map (λ k. k ≤ now) (λ (r : Record). ms_up r.time) (flat_map records_of hs) (greatest_each boot (map (λ (r : Record). ms_up r.time) (flat_map records_of hs))) in
    each_of_flat (IsBy now) records_of hs (each_more (λ (r : Record). ms_up r.time ≤ now) (IsBy now) (flat_map records_of hs) (λ r h small. not_after r.time now small h) below)

-- the time of the opening, by logs
same_moments : (rs : List Record) → AllByRecursion IsTimely rs → map (λ (r : Record). moment_from r.time) rs ≡ map (λ (r : Record). ms_up r.time) rs
same_moments [] e = refl
same_moments (r ∷ rs) e =
    let same : moment_from r.time ≡ ms_up r.time = lesser (ms_up r.time) last_moment e.0 in
    ap₂ (λ k ks. k ∷ ks) same (same_moments rs e.1)
  where
    lesser : (a b : ℕ) → a ≤ b → min a b ≡ a
    lesser a b h = omega (arith, h)

same_times : (hs : List Part) → AllByRecursion HasGood hs
    → flat_map (λ (l : Path × Log). map (λ (r : Record). moment_from r.time) l.1.kept) (map (λ q. (path_of q, whole_log q)) hs) ≡ map (λ (r : Record). ms_up r.time) (flat_map records_of hs)
same_times [] e = refl
same_times (q ∷ hs) e = ap₂ (λ a b. a ++ b) (same_moments (records_of q) e.0.timely) (same_times hs e.1) ∙ sym (map-append (λ (r : Record). ms_up r.time) (records_of q) (flat_map records_of hs))

pub opens_in_time : OpensInTime
opens_in_time ps good boot = ap (greatest boot) (same_times (histories_in ps) (records_good ps good))

module _ (base : Parts) (boot : ℕ) (lib words : Contracts) (root : Object) where
  abbrev rs : List Roles
  rs = all_roles words root

  abbrev ps : List Part
  ps = parts_of rs 0 false no_roles (row_of root)

  abbrev tree : Object
  tree = kept_root rs root

  abbrev made : SiteState
  made = opened base base.path boot lib root tree ps

  ordered : node_path root.head ≡ Some base.path → taken_twice base.path [] (paths_in rs 0 no_roles (row_of root)) ≡ None → bad_part ps ≡ None → IsOrdered made
  ordered is once good =
      let all : List Path = paths_in rs 0 no_roles (row_of root) in
      let apart : Apart (row_paths (row_of tree)) = root_apart rs root (taken_once base.path all once) in
      let placed : AllByRecursion (IsNodeIf is_history) ps = each_more IsPlaced (IsNodeIf is_history) ps (λ q t. t.history) (all_placed rs root (all_fit words root)) in
      let under : Under (map path_of (histories_in ps)) (row_paths (row_of tree)) = subst (Under (map path_of (histories_in ps))) (sym (root_paths rs root)) (filter_under is_history ps placed) in
      let histories : map (λ h. h.0) made.plan.histories ≡ map path_of (histories_in ps) = keys_are _ (histories_in ps) in
      let now : ℕ = made.world.time in
      let hs : List Part = histories_in ps in
      let one : IsOneAtMost (subjects ps) = one_subject ps (subjects ps) (all_good ps good).subjects in
      record {
        base = refl;
        root = is;
        apart = apart;
        free = each_among (λ p. is_computed base.path p ≡ false) (row_paths (row_of tree)) all (root_among rs root) (none_computed base.path [] all once);
        histories = subst Apart (sym histories) (under.apart apart);
        nodes = λ p h. under.among p (ap (is_among p) (sym histories) ∙ h);
        logs = keys_same _ _ hs;
        sources = subject_rules ps (subjects ps) one (all_good ps good).subjects;
        stored = plus_none (stored_logs made.world.site.logs) 1_000_000 (stored_most hs 0 (omega arith) (all_good ps good).stored);
        in_order = each_map (λ (l : Path × Log). InOrder l.1.kept) (λ q. (path_of q, rolled (whole_log q))) hs
            (each_more HasGood (λ q. InOrder (rolled (whole_log q)).kept) hs (λ q g. rolled_kept InOrder order_drop (capacity_of q) (records_of q) g.order) (records_good ps good));
        in_time = each_map (λ (l : Path × Log). AllByRecursion (IsBy now) l.1.kept) (λ q. (path_of q, rolled (whole_log q))) hs
            (each_more (λ (q : Part). AllByRecursion (IsBy now) (records_of q)) (λ q. AllByRecursion (IsBy now) (rolled (whole_log q)).kept) hs
            (λ q g. rolled_kept (AllByRecursion (IsBy now)) (each_drop (IsBy now)) (capacity_of q) (records_of q) g) (all_by boot hs));
      }
    where
      plus_none : (n m : ℕ) → 0 + n ≤ m → n + 0 ≤ m
      plus_none n m h = omega (arith, h)

  pub opened_ordered : (st : SiteState) → node_path root.head ≡ Some base.path → Opens base base.path boot lib words root st → IsOrdered st
  opened_ordered st is o = subst IsOrdered o.is (ordered is o.once o.good)

pub opens_ordered : OpensOrdered
opens_ordered root boot st h =
    let b : Begins root boot st = begins root boot st h in
    let m : Object = made_object (site_path b.base) (Some b.base.path) root in
    opened_ordered b.base boot b.lib (words_of standard_words m) m st b.path b.opens
