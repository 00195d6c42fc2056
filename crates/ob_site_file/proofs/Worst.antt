-- What is wrong in parts, one part after the other.
use Rattle.std.proofs.Common.{◌≡◌, ℕ, zero, suc, ◌+◌, ◌<◌, ◌≤◌, ◌^◌, Bool, true, false, cond, ◌||◌, codes, List, [], ◌∷◌, ◌++◌, map, length, drop, get_or, Option, Some, None, refl, sym, ap, ap₂, ◌∙◌, subst, arith}
use Rattle.std.specs.Prelude.{find, nat_lt}
use Rattle.std.specs.List.{flat_map}
use Rattle.std.proofs.lemmas.Bool.Decides.{nat_tests}
use Rattle.ob_object.specs.Object.{Object, Objects, none, node, count, parts}
use Rattle.ob_site_rules.specs.declared.roles.Roles.{Roles}
use Rattle.ob_site_rules.specs.Roles.{role_at, is_dropped, holds_contracts, no_roles}
use Rattle.ob_parts.specs.declared.offence.Offence.{Offence}
use Rattle.ob_parts.specs.Least.{earlier, least}
use Rattle.ob_parts.proofs.Earliest.{earlier_assoc, earlier_none, least_append}
use Rattle.ob_site_rules.specs.declared.site_rule.SiteRule.{SiteRule}
use Rattle.ob_site_rules.specs.declared.site_rule.SiteRule.TheVariants as site_rule
use Rattle.ob_site_rules.specs.Writes.{stored_in}
use Rattle.ob_site_rules.specs.Loading.{Part, parts_of, capacity_of, records_of, has_bad_source, has_bad_capacity, bad_records, items_of, bad_history, overfull, histories_in, bad_rules, bad_subjects, subjects, bad_part, breaks, setting_rule}
use Rattle.ob_roles.specs.SiteParts.{part}
use Rattle.ob_roles.specs.declared.part.Part.{Part as OwnPart}
use Rattle.ob_site_file.specs.Numbers.{IsNumbered, AreNumbered}
use Rattle.ob_values.proofs.Lists.{drop_all}
use Rattle.ob_site_file.proofs.Rests.{rest_more}

-- the numbers of the parts of a row fit where those of the row do
are_append : (ps qs : List Part) → AreNumbered ps → AreNumbered qs → AreNumbered (ps ++ qs)
are_append [] qs a b = b
are_append (p ∷ ps) qs a b = (a.0, are_append ps qs a.1 b)

pub row_numbered : (rs : List Roles) (n : ℕ) (inside : Bool) (above : Roles) (row : Objects) → n + count row < 2 ^ 64 → AreNumbered (parts_of rs n inside above row)
row_numbered rs n inside above none h = tt
row_numbered rs n inside above (node hd inner rest) h =
    are_append _ (parts_of rs (n + 1 + count inner) inside above rest)
    (go (is_dropped above hd) (row_numbered rs (n + 1) (inside || holds_contracts above.root hd) (role_at rs n) inner (omega arith)))
    (row_numbered rs (n + 1 + count inner) inside above rest (omega arith))
  where
    kept : List Part
    kept = parts_of rs (n + 1) (inside || holds_contracts above.root hd) (role_at rs n) inner

    one : Part
    one = record { number = n; own = record { head = hd; inner = inner }; roles = role_at rs n; inside = inside }

    fits : IsNumbered one
    fits = omega arith

    go : (b : Bool) → AreNumbered kept → AreNumbered (cond b [] (one ∷ kept))
    go true k = tt
    go false k = (fits, k)

pub root_numbered : (rs : List Roles) (root : Object) → parts root < 2 ^ 64 → AreNumbered (parts_of rs 0 false no_roles (node root.head root.inner none))
root_numbered rs root h = row_numbered rs 0 false no_roles (node root.head root.inner none) (omega (arith, h))

pub numbered_at : (all : List OwnPart) (i : ℕ) (x : OwnPart) → i < length all → x ≡ get_or all i x → AreNumbered (map part all) → IsNumbered (part x)
numbered_at [] i x h is a = absurd (omega arith)
numbered_at (y ∷ all) zero x h is a = subst (λ (z : OwnPart). IsNumbered (part z)) (sym is) a.0
numbered_at (y ∷ all) (suc i) x h is a = numbered_at all i x (omega arith) is a.1

parts_more : (all : List OwnPart) (i : ℕ) (x : OwnPart) → i < length all → x ≡ get_or all i x → map part (drop i all) ≡ part x ∷ map part (drop (i + 1) all)
parts_more all i x h is = ap (map part) (rest_more all i x h is)

parts_past : (all : List OwnPart) (i : ℕ) → length all ≤ i → map part (drop i all) ≡ []
parts_past all i h = ap (map part) (drop_all all i h)

-- a history: its own children, and then its items
pub history_is : (ps : List Part) (p : Part) (own items : Option (Offence SiteRule)) → own ≡ least (cond (has_bad_source ps p || has_bad_capacity p) (breaks (setting_rule ps p) p.number ∷ []) []) → items ≡ least (bad_records None (items_of (codes "data") p))
    → earlier own items ≡ least (cond (has_bad_source ps p || has_bad_capacity p) (breaks (setting_rule ps p) p.number ∷ []) [] ++ bad_records None (items_of (codes "data") p))
history_is ps p own items e f =
    ap₂ earlier e f ∙ sym (least_append (cond (has_bad_source ps p || has_bad_capacity p) (breaks (setting_rule ps p) p.number ∷ []) []) (bad_records None (items_of (codes "data") p)))

-- the histories that are left
abbrev pub HistoriesLeft : List Part → List OwnPart → ℕ → Option (Offence SiteRule) → Type 0
HistoriesLeft ps all i first = earlier first (least (flat_map (bad_history ps) (map part (drop i all)))) ≡ least (flat_map (bad_history ps) (map part all))

pub histories_more : (ps : List Part) (all : List OwnPart) (i : ℕ) (x : OwnPart) (first bad next : Option (Offence SiteRule)) → i < length all → x ≡ get_or all i x → bad ≡ least (bad_history ps (part x)) → next ≡ earlier first bad → HistoriesLeft ps all i first
    → HistoriesLeft ps all (i + 1) next
histories_more ps all i x first bad next h is one step l =
    let rest = flat_map (bad_history ps) (map part (drop (i + 1) all)) in
    ap (λ o. earlier o (least rest)) (step ∙ ap (earlier first) one)
    ∙ earlier_assoc first (least (bad_history ps (part x))) (least rest)
    ∙ ap (earlier first) (sym (ap (λ qs. least (flat_map (bad_history ps) qs)) (parts_more all i x h is) ∙ least_append (bad_history ps (part x)) rest))
    ∙ l

pub histories_all : (ps : List Part) (all : List OwnPart) (i : ℕ) (first : Option (Offence SiteRule)) → length all ≤ i → HistoriesLeft ps all i first → first ≡ least (flat_map (bad_history ps) (map part all))
histories_all ps all i first h l = sym (earlier_none first) ∙ ap (λ qs. earlier first (least (flat_map (bad_history ps) qs))) (sym (parts_past all i h)) ∙ l

-- what is wrong in subjects, of which one was found or wasn't
abbrev pub subjects_from : List Part → Bool → List Part → List (Offence SiteRule)
subjects_from ps true qs = map (λ q. breaks site_rule.SecondSubject q.number) qs
subjects_from ps false qs = bad_subjects ps qs

pub record SubjectsLeft (ps : List Part) (all : List OwnPart) (i : ℕ) (found : Bool) (first : Option (Offence SiteRule)) : Type 0 where
  pub same : earlier first (least (subjects_from ps found (subjects (map part (drop i all))))) ≡ least (bad_subjects ps (subjects (map part all)))

one_subject : (ps : List Part) (found : Bool) (q : Part) (qs : List Part) (bad : Option (Offence SiteRule)) → bad ≡ cond found (Some (breaks site_rule.SecondSubject q.number)) (least (bad_rules ps [] (items_of (codes "rules") q)))
    → least (subjects_from ps found (q ∷ qs)) ≡ earlier bad (least (subjects_from ps true qs))
one_subject ps true q qs bad e = ap (λ o. earlier o (least (map (λ p. breaks site_rule.SecondSubject p.number) qs))) (sym e)
one_subject ps false q qs bad e = least_append (bad_rules ps [] (items_of (codes "rules") q)) (map (λ p. breaks site_rule.SecondSubject p.number) qs) ∙ ap (λ o. earlier o (least (map (λ p. breaks site_rule.SecondSubject p.number) qs))) (sym e)

subject_first : (q : Part) (qs : List Part) (b : Bool) → q.roles.subject ≡ b → subjects (q ∷ qs) ≡ cond b (q ∷ subjects qs) (subjects qs)
subject_first q qs b e = ap (λ c. cond c (q ∷ subjects qs) (subjects qs)) e

pub subjects_first : (ps : List Part) (all : List OwnPart) → SubjectsLeft ps all 0 false None
subjects_first ps all = record { same = refl }

pub subjects_more : (ps : List Part) (all : List OwnPart) (i : ℕ) (x : OwnPart) (found : Bool) (first bad next : Option (Offence SiteRule)) → i < length all → x ≡ get_or all i x → x.roles.subject ≡ true
    → bad ≡ cond found (Some (breaks site_rule.SecondSubject x.number)) (least (bad_rules ps [] (items_of (codes "rules") (part x)))) → next ≡ earlier first bad → SubjectsLeft ps all i found first → SubjectsLeft ps all (i + 1) true next
subjects_more ps all i x found first bad next h is marked one step l =
    let qs = map part (drop (i + 1) all) in
    record {
      same = ap (λ o. earlier o (least (subjects_from ps true (subjects qs)))) step
          ∙ earlier_assoc first bad (least (subjects_from ps true (subjects qs)))
          ∙ ap (earlier first) (sym (ap (λ rs. least (subjects_from ps found (subjects rs))) (parts_more all i x h is) ∙ ap (λ rs. least (subjects_from ps found rs)) (subject_first (part x) qs true marked) ∙ one_subject ps found (part x) (subjects qs) bad one))
          ∙ l.same;
    }

pub subjects_past : (ps : List Part) (all : List OwnPart) (i : ℕ) (x : OwnPart) (found : Bool) (first : Option (Offence SiteRule)) → i < length all → x ≡ get_or all i x → x.roles.subject ≡ false → SubjectsLeft ps all i found first → SubjectsLeft ps all (i + 1) found first
subjects_past ps all i x found first h is other l =
    let qs = map part (drop (i + 1) all) in
    record {
      same = ap (earlier first) (sym (ap (λ rs. least (subjects_from ps found (subjects rs))) (parts_more all i x h is) ∙ ap (λ rs. least (subjects_from ps found rs)) (subject_first (part x) qs false other)))
          ∙ l.same;
    }

none_left : (ps : List Part) (found : Bool) → least (subjects_from ps found []) ≡ None
none_left ps true = refl
none_left ps false = refl

pub subjects_all : (ps : List Part) (all : List OwnPart) (i : ℕ) (found : Bool) (first : Option (Offence SiteRule)) → length all ≤ i → SubjectsLeft ps all i found first → first ≡ least (bad_subjects ps (subjects (map part all)))
subjects_all ps all i found first h l =
    sym (earlier_none first) ∙ ap (earlier first) (sym (ap (λ rs. least (subjects_from ps found (subjects rs))) (parts_past all i h) ∙ none_left ps found)) ∙ l.same

-- all three
pub worst_is : (ps : List Part) (histories full subject behind bad : Option (Offence SiteRule)) → histories ≡ least (flat_map (bad_history ps) ps) → full ≡ least (overfull 0 (histories_in ps)) → subject ≡ least (bad_subjects ps (subjects ps))
    → behind ≡ earlier full subject → bad ≡ earlier histories behind → bad ≡ bad_part ps
worst_is ps histories full subject behind bad e f g step last =
    last ∙ ap₂ earlier e (step ∙ ap₂ earlier f g ∙ sym (least_append (overfull 0 (histories_in ps)) (bad_subjects ps (subjects ps))))
    ∙ sym (least_append (flat_map (bad_history ps) ps) (overfull 0 (histories_in ps) ++ bad_subjects ps (subjects ps)))

-- what the histories up to a place store, and whether it is too much behind it
pub record StoredLeft (all : List OwnPart) (i : ℕ) (sum : ℕ) : Type 0 where
  pub same : least (overfull sum (histories_in (map part (drop i all)))) ≡ least (overfull 0 (histories_in (map part all)))
  pub few : sum ≤ 1_000_000

pub stored_first : (all : List OwnPart) → StoredLeft all 0 0
stored_first all = record { same = refl; few = omega arith }

history_first : (q : Part) (qs : List Part) (b : Bool) → q.roles.history ≡ b → histories_in (q ∷ qs) ≡ cond b (q ∷ histories_in qs) (histories_in qs)
history_first q qs b e = ap (λ c. cond c (q ∷ histories_in qs) (histories_in qs)) e

at_history : (sum : ℕ) (q : Part) (qs : List Part) (b : Bool) (more : ℕ) → more ≡ sum + stored_in (capacity_of q) (length (records_of q)) → nat_lt 1_000_000 more ≡ b → overfull sum (q ∷ qs) ≡ cond b (breaks site_rule.Total q.number ∷ []) (overfull more qs)
at_history sum q qs b more e f =
    ap (λ m. cond (nat_lt 1_000_000 m) (breaks site_rule.Total q.number ∷ []) (overfull m qs)) (sym e) ∙ ap (λ c. cond c (breaks site_rule.Total q.number ∷ []) (overfull more qs)) f

over : (m : ℕ) → 1_000_000 < m → nat_lt 1_000_000 m ≡ true
over m h = grind (arith, nat_tests)

within : (m : ℕ) → m ≤ 1_000_000 → nat_lt 1_000_000 m ≡ false
within m h = grind (arith, nat_tests)

pub stored_more : (all : List OwnPart) (i : ℕ) (x : OwnPart) (sum more one : ℕ) → i < length all → x ≡ get_or all i x → x.roles.history ≡ true → one ≡ stored_in (capacity_of (part x)) (length (records_of (part x))) → more ≡ sum + one → more ≤ 1_000_000
    → StoredLeft all i sum → StoredLeft all (i + 1) more
stored_more all i x sum more one h is marked e step few l =
    let qs = map part (drop (i + 1) all) in
    record {
      same = sym (ap (λ rs. least (overfull sum (histories_in rs))) (parts_more all i x h is) ∙ ap (λ rs. least (overfull sum rs)) (history_first (part x) qs true marked)
          ∙ ap least (at_history sum (part x) (histories_in qs) false more (step ∙ ap (λ m. sum + m) e) (within more few))) ∙ l.same;
      few = few;
    }

pub stored_over : (all : List OwnPart) (i : ℕ) (x : OwnPart) (sum more one : ℕ) → i < length all → x ≡ get_or all i x → x.roles.history ≡ true → one ≡ stored_in (capacity_of (part x)) (length (records_of (part x))) → more ≡ sum + one → 1_000_000 < more
    → StoredLeft all i sum → Some (breaks site_rule.Total x.number) ≡ least (overfull 0 (histories_in (map part all)))
stored_over all i x sum more one h is marked e step much l =
    let qs = map part (drop (i + 1) all) in
    sym (ap (λ rs. least (overfull sum (histories_in rs))) (parts_more all i x h is) ∙ ap (λ rs. least (overfull sum rs)) (history_first (part x) qs true marked)
    ∙ ap least (at_history sum (part x) (histories_in qs) true more (step ∙ ap (λ m. sum + m) e) (over more much))) ∙ l.same

pub stored_past : (all : List OwnPart) (i : ℕ) (x : OwnPart) (sum : ℕ) → i < length all → x ≡ get_or all i x → x.roles.history ≡ false → StoredLeft all i sum → StoredLeft all (i + 1) sum
stored_past all i x sum h is other l =
    let qs = map part (drop (i + 1) all) in
    record {
      same = sym (ap (λ rs. least (overfull sum (histories_in rs))) (parts_more all i x h is) ∙ ap (λ rs. least (overfull sum rs)) (history_first (part x) qs false other)) ∙ l.same;
      few = l.few;
    }

pub stored_all : (all : List OwnPart) (i : ℕ) (sum : ℕ) → length all ≤ i → StoredLeft all i sum → None ≡ least (overfull 0 (histories_in (map part all)))
stored_all all i sum h l = sym (ap (λ rs. least (overfull sum (histories_in rs))) (parts_past all i h)) ∙ l.same

-- the first subject
abbrev pub Sought : List OwnPart → ℕ → Type 0
Sought all i = find (λ (q : Part). q.roles.subject) (map part (drop i all)) ≡ find (λ (q : Part). q.roles.subject) (map part all)

at_part : (q : Part) (qs : List Part) (b : Bool) → q.roles.subject ≡ b → find (λ (p : Part). p.roles.subject) (q ∷ qs) ≡ cond b (Some q) (find (λ (p : Part). p.roles.subject) qs)
at_part q qs b e = ap (λ c. cond c (Some q) (find (λ (p : Part). p.roles.subject) qs)) e

pub sought_found : (all : List OwnPart) (i : ℕ) (x : OwnPart) → i < length all → x ≡ get_or all i x → x.roles.subject ≡ true → Sought all i → Some (part x) ≡ find (λ (q : Part). q.roles.subject) (map part all)
sought_found all i x h is marked l =
    sym (ap (find (λ (q : Part). q.roles.subject)) (parts_more all i x h is) ∙ at_part (part x) (map part (drop (i + 1) all)) true marked) ∙ l

pub sought_more : (all : List OwnPart) (i : ℕ) (x : OwnPart) → i < length all → x ≡ get_or all i x → x.roles.subject ≡ false → Sought all i → Sought all (i + 1)
sought_more all i x h is other l =
    sym (ap (find (λ (q : Part). q.roles.subject)) (parts_more all i x h is) ∙ at_part (part x) (map part (drop (i + 1) all)) false other) ∙ l

pub sought_all : (all : List OwnPart) (i : ℕ) → length all ≤ i → Sought all i → None ≡ find (λ (q : Part). q.roles.subject) (map part all)
sought_all all i h l = sym (ap (find (λ (q : Part). q.roles.subject)) (parts_past all i h)) ∙ l
