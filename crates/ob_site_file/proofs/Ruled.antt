-- The items of `rules`, one after the other.
use Rattle.std.proofs.Common.{Bool, List, None, Option, Some, [], ap, append_assoc, arith, cond, drop, false, get_or, length, not, refl, subst, sym, true, ℕ, ◌++◌, ◌+◌, ◌<◌, ◌∙◌, ◌∷◌, ◌≡◌, ◌≤◌}
use Rattle.std.specs.Prelude.{option_map, option_and_then, bytes_eq}
use Rattle.std.specs.List.{filter_map, cons_option}
use Rattle.std.specs.Ordering.{nat_cmp, is_eq}
use Rattle.std.specs.Cmp.Lexicographic.{slice_cmp}
use Rattle.std.specs.BTreeSet.{BTreeSet, contains_by}
use Rattle.std.proofs.lemmas.List.{append-nil}
use Rattle.std.proofs.lemmas.Map.Text.{is_eq-slice_cmp}
use denote.Ref.{Bor}
use Rattle.ob_values.proofs.Bools.{or_cond}
use Rattle.ob_object.specs.declared.kind.Kind.{Kind}
use Rattle.ob_object.specs.Object.{Object, parts}
use Rattle.ob_parts.specs.Least.{least}
use Rattle.ob_site_rules.specs.Build.{Path}
use Rattle.ob_site_rules.specs.declared.site_rule.SiteRule.{SiteRule}
use Rattle.ob_site_rules.specs.declared.site_rule.SiteRule.TheVariants as site_rule
use Rattle.ob_site_rules.specs.Loading.{Part, numbered, node_there, is_number_kind, rule_in, is_bad_rule, after_rule, bad_rules, breaks, alarm_rule}
use Rattle.ob_site_rules.specs.State.{is_among}
use Rattle.ob_site_rules.specs.declared.plan.PointRule.{PointRule}
use Rattle.ob_site_file.specs.RulesAndRecords.{Has, IsNext}
use Rattle.ob_site_file.specs.declared.nodes.Nodes.{Nodes}
use Rattle.ob_site_file.proofs.Firsts.{From, from_below, from_if, least_from}
use Rattle.ob_values.proofs.Lists.{drop_all}
use Rattle.ob_site_file.proofs.Rests.{rest_more}

rules_from : (ps : List Part) (before : List Path) (n : ℕ) (os : List Object) → From n (bad_rules ps before (numbered n os))
rules_from ps before n [] = tt
rules_from ps before n (o ∷ os) =
    from_if (is_bad_rule before (rule_in ps o)) (alarm_rule ps o (rule_in ps o)) n _ (from_below n (n + parts o) _ (omega arith) (rules_from ps (after_rule before (rule_in ps o)) (n + parts o) os))

-- whether a source is in the set
abbrev pub has_source : BTreeSet (Bor (List ℕ)) → Path → Bool
has_source set p = contains_by (λ k. slice_cmp nat_cmp p k.now) set

-- what is wrong from a place on is what is wrong, where the sources of the rules before it are in the set
pub record RulesLeft (ps : List Part) (n : ℕ) (all : List Object) (i : ℕ) (set : BTreeSet (Bor (List ℕ))) (number : ℕ) : Type 0 where
  pub before : List Path
  pub has : Has set before
  pub same : least (bad_rules ps before (numbered number (drop i all))) ≡ least (bad_rules ps [] (numbered n all))

pub rules_first : (ps : List Part) (n : ℕ) (all : List Object) (set : BTreeSet (Bor (List ℕ))) → ((p : Path) → has_source set p ≡ false) → RulesLeft ps n all 0 set n
rules_first ps n all set none = record { before = []; has = none; same = refl }

at_item : (ps : List Part) (before : List Path) (n : ℕ) (x : Object) (os : List Object) (b : Bool) → is_bad_rule before (rule_in ps x) ≡ b
    → bad_rules ps before (numbered n (x ∷ os)) ≡ cond b (breaks (alarm_rule ps x (rule_in ps x)) n ∷ []) [] ++ bad_rules ps (after_rule before (rule_in ps x)) (numbered (n + parts x) os)
at_item ps before n x os b e = ap (λ (c : Bool). cond c (breaks (alarm_rule ps x (rule_in ps x)) n ∷ []) [] ++ bad_rules ps (after_rule before (rule_in ps x)) (numbered (n + parts x) os)) e

-- what is broken by an item that is told to break nothing, or a rule
none_broken : (b : Bool) (r : SiteRule) → cond b (Some r) None ≡ None → b ≡ false
none_broken true r e = absurd (let f : Some r ≡ None = e in cc)
none_broken false r e = refl

some_broken : (b : Bool) (r rule : SiteRule) → cond b (Some r) None ≡ Some rule → (b ≡ true) × (r ≡ rule)
some_broken true r rule e = (refl, cc)
some_broken false r rule e = absurd (let f : None ≡ Some rule = e in cc)

pub rules_more : (ps : List Part) (n : ℕ) (all : List Object) (i : ℕ) (set new : BTreeSet (Bor (List ℕ))) (number next : ℕ) (x : Object) (broken : Option SiteRule) → i < length all → x ≡ get_or all i x → broken ≡ None
    → ((before : List Path) → Has set before → IsNext ps before x broken new) → next ≡ number + parts x → RulesLeft ps n all i set number → RulesLeft ps n all (i + 1) new next
rules_more ps n all i set new number next x broken h is taken put step l =
    let one : IsNext ps l.before x broken new = put l.before l.has in
    let good = none_broken (is_bad_rule l.before (rule_in ps x)) (alarm_rule ps x (rule_in ps x)) (one.same ∙ taken) in
    record {
      before = after_rule l.before (rule_in ps x);
      has = one.has taken;
      same = ap (λ m. least (bad_rules ps (after_rule l.before (rule_in ps x)) (numbered m (drop (i + 1) all)))) step
          ∙ sym (ap (λ os. least (bad_rules ps l.before (numbered number os))) (rest_more all i x h is) ∙ ap least (at_item ps l.before number x (drop (i + 1) all) false good))
          ∙ l.same;
    }

pub rules_bad : (ps : List Part) (n : ℕ) (all : List Object) (i : ℕ) (set new : BTreeSet (Bor (List ℕ))) (number : ℕ) (x : Object) (broken : Option SiteRule) (rule : SiteRule) → i < length all → x ≡ get_or all i x → broken ≡ Some rule
    → ((before : List Path) → Has set before → IsNext ps before x broken new) → RulesLeft ps n all i set number → Some (breaks rule number) ≡ least (bad_rules ps [] (numbered n all))
rules_bad ps n all i set new number x broken rule h is no_rule put l =
    let one : IsNext ps l.before x broken new = put l.before l.has in
    let bad = some_broken (is_bad_rule l.before (rule_in ps x)) (alarm_rule ps x (rule_in ps x)) rule (one.same ∙ no_rule) in
    let rest = bad_rules ps (after_rule l.before (rule_in ps x)) (numbered (number + parts x) (drop (i + 1) all)) in
    let behind : From number rest = from_below number (number + parts x) rest (omega arith) (rules_from ps (after_rule l.before (rule_in ps x)) (number + parts x) (drop (i + 1) all)) in
    sym (
    ap (λ os. least (bad_rules ps l.before (numbered number os))) (rest_more all i x h is)
    ∙ ap least (at_item ps l.before number x (drop (i + 1) all) true bad.0) ∙ least_from (breaks (alarm_rule ps x (rule_in ps x)) number) rest behind
    ∙ ap (λ (r : SiteRule). Some (breaks r number)) bad.1
    ) ∙ l.same

pub rules_all : (ps : List Part) (n : ℕ) (all : List Object) (i : ℕ) (set : BTreeSet (Bor (List ℕ))) (number : ℕ) → length all ≤ i → RulesLeft ps n all i set number → None ≡ least (bad_rules ps [] (numbered n all))
rules_all ps n all i set number h l = sym (ap (λ os. least (bad_rules ps l.before (numbered number os))) (drop_all all i h)) ∙ l.same

-- the sources, one more
has_more : (set new : BTreeSet (Bor (List ℕ))) (p : Path) (before : List Path) → ((q : Path) → has_source new q ≡ cond (bytes_eq p q) true (has_source set q)) → Has set before → Has new (p ∷ before)
has_more set new p before put has = λ q. put q ∙ ap (λ b. cond (bytes_eq p q) true b) (has q) ∙ or_cond (bytes_eq p q) (is_among q before)

source_put : (set new : BTreeSet (Bor (List ℕ))) (key : Bor (List ℕ)) → ((q : Bor (List ℕ)) → has_source new q.now ≡ cond (is_eq (slice_cmp nat_cmp key.now q.now)) true (has_source set q.now)) → (q : Path) → has_source new q ≡ cond (bytes_eq key.now q) true (has_source set q)
source_put set new key put q = put (record { ref_ptr = (0, 0); now = q }) ∙ ap (λ b. cond b true (has_source set q)) (is_eq-slice_cmp key.now q)

among : (set : BTreeSet (Bor (List ℕ))) (before : List Path) (key : Bor (List ℕ)) (r : PointRule) (b fresh : Bool) → key.now ≡ r.source → fresh ≡ b → b ≡ not (has_source set key.now) → Has set before → is_among r.source before ≡ not fresh
among set before key r b fresh same is put has = sym (has r.source) ∙ ap (has_source set) (sym same) ∙ twice_not b (has_source set key.now) put ∙ ap not (sym is)
  where
    twice_not : (a b : Bool) → a ≡ not b → b ≡ not a
    twice_not true true e = e
    twice_not true false e = refl
    twice_not false true e = refl
    twice_not false false e = e

-- an item that is a rule, whose source is put
pub next_is : (ps : List Part) (before : List Path) (item : Object) (set new : BTreeSet (Bor (List ℕ))) (key : Bor (List ℕ)) (r : PointRule) (fresh : Bool) → rule_in ps item ≡ Some r → key.now ≡ r.source → fresh ≡ not (has_source set key.now)
    → ((q : Bor (List ℕ)) → has_source new q.now ≡ cond (is_eq (slice_cmp nat_cmp key.now q.now)) true (has_source set q.now)) → Has set before → fresh ≡ true → IsNext ps before item None new
next_is ps before item set new key r fresh rule same is put has taken =
    let other = among set before key r fresh true same (sym taken) is has in
    record {
      same = ap (λ (o : Option PointRule). cond (is_bad_rule before o) (Some (alarm_rule ps item o)) None) rule ∙ ap (λ (b : Bool). cond b (Some site_rule.SourceTwice) None) other;
      has = λ _. subst (Has new) (ap (λ (s : Path). s ∷ before) same ∙ ap (after_rule before) (sym rule)) (has_more set new key.now before (source_put set new key put) has);
    }

-- one whose source an earlier one has
pub next_twice : (ps : List Part) (before : List Path) (item : Object) (set new : BTreeSet (Bor (List ℕ))) (key : Bor (List ℕ)) (r : PointRule) (fresh : Bool) → rule_in ps item ≡ Some r → key.now ≡ r.source → fresh ≡ not (has_source set key.now)
    → Has set before → fresh ≡ false → IsNext ps before item (Some site_rule.SourceTwice) new
next_twice ps before item set new key r fresh rule same is has taken =
    let other = among set before key r fresh false same (sym taken) is has in
    record {
      same = ap (λ (o : Option PointRule). cond (is_bad_rule before o) (Some (alarm_rule ps item o)) None) rule ∙ ap (λ (b : Bool). cond b (Some site_rule.SourceTwice) None) other;
      has = λ e. absurd (let f : Some site_rule.SourceTwice ≡ None = e in cc);
    }

-- one that is no rule
pub next_none : (ps : List Part) (before : List Path) (item : Object) (new : BTreeSet (Bor (List ℕ))) (rule : SiteRule) → rule_in ps item ≡ None → alarm_rule ps item None ≡ rule → IsNext ps before item (Some rule) new
next_none ps before item new rule none told = record {
  same = ap (λ (o : Option PointRule). cond (is_bad_rule before o) (Some (alarm_rule ps item o)) None) none ∙ ap Some told;
  has = λ e. absurd (let f : Some rule ≡ None = e in cc);
}

-- what an item is on a source that is seen, or isn't
pub on_source : (nodes : Nodes) (ps : List Part) (path : Path) (k : Option Kind) → k ≡ option_map (λ (o : Object). o.head.kind) (node_there is_number_kind ps path) → (R : Option Object → Option PointRule) → (T : Kind → Option PointRule)
    → R None ≡ None → ((o : Object) → R (Some o) ≡ T o.head.kind) → R (node_there is_number_kind ps path) ≡ option_and_then T k
on_source nodes ps path k e R T none some = go (node_there is_number_kind ps path) ∙ ap (option_and_then T) (sym e)
  where
    go : (o : Option Object) → R o ≡ option_and_then T (option_map (λ (x : Object). x.head.kind) o)
    go None = none
    go (Some o) = some o

cons_is : {A : Type 0} (r : Option A) (rs : List A) → cons_option r rs ≡ cons_option r [] ++ rs
cons_is None rs = refl
cons_is (Some r) rs = refl

-- the rules that are put, and those of the items that are left
pub record RulesPut (ps : List Part) (all : List Object) (i : ℕ) (old new : List PointRule) : Type 0 where
  pub same : new ++ filter_map (rule_in ps) (drop i all) ≡ old ++ filter_map (rule_in ps) all

pub put_first : (ps : List Part) (all : List Object) (old : List PointRule) → RulesPut ps all 0 old old
put_first ps all old = record { same = refl }

pub put_more : (ps : List Part) (all : List Object) (i : ℕ) (x : Object) (old made new : List PointRule) → i < length all → x ≡ get_or all i x → new ≡ made ++ filter_map (rule_in ps) (x ∷ []) → RulesPut ps all i old made
    → RulesPut ps all (i + 1) old new
put_more ps all i x old made new h is put l =
    let rest = filter_map (rule_in ps) (drop (i + 1) all) in
    record {
      same = ap (λ rs. rs ++ rest) put ∙ append_assoc made (filter_map (rule_in ps) (x ∷ [])) rest
          ∙ ap (λ rs. made ++ rs) (sym (ap (filter_map (rule_in ps)) (rest_more all i x h is) ∙ cons_is (rule_in ps x) rest)) ∙ l.same;
    }

pub put_all : (ps : List Part) (all : List Object) (i : ℕ) (old new : List PointRule) → length all ≤ i → RulesPut ps all i old new → new ≡ old ++ filter_map (rule_in ps) all
put_all ps all i old new h l = sym (append-nil new) ∙ ap (λ os. new ++ filter_map (rule_in ps) os) (sym (drop_all all i h)) ∙ l.same
