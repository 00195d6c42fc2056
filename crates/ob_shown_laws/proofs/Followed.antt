-- Stamps in a tree of own objects follow what a watch shows.
use Rattle.std.proofs.Common.{ℕ, ◌≡◌, zero, suc, ◌+◌, ◌-◌, ◌<◌, Bool, true, false, not, ◌&&◌, ◌||◌, cond, List, [], ◌∷◌, filter, Option, Some, None, option_map, refl, sym, ap, ap₂, ◌∙◌, arith}
use Rattle.std.specs.Prelude.{nat_lt, nat_le, slice_get}
use Rattle.std.specs.List.{list_any}
use Rattle.ob_object.specs.declared.head.Head.{Head}
use Rattle.ob_object.specs.Object.{Objects, none, node, Object, count, parts}
use Rattle.ob_object.specs.Paths.{node_path}
use Rattle.ob_site_rules.specs.Build.{Path}
use Rattle.ob_site_rules.specs.Shown.{rule_of, with_status, with_status_at, with_status_by, dressed}
use Rattle.ob_site_rules.specs.State.{State}
use Rattle.ob_site_rules.specs.declared.plan.Plan.{Plan}
use Rattle.ob_tree.specs.Contexts.{Context, under}
use Rattle.ob_shown_laws.specs.Alike.{DifferInSlots}
use Rattle.ob_shown_laws.specs.Standing.{standing_at as site_standing}
use Rattle.ob_shown_laws.specs.Changed.{is_round, is_watchable, reaches, differs, PathsDiffer}
use Rattle.ob_shown_laws.specs.Own.{derived_own}
use Rattle.ob_shown_laws.specs.OwnShown.{dressed_standing}
use Rattle.ob_shown_laws.proofs.Reaching.{changes_reach}
use Rattle.ob_shown_laws.proofs.Looking.{looking}
use Rattle.ob_shown_laws.proofs.OwnStanding.{own_is_enough}
use Rattle.ob_tree.specs.Shown.{row, part_in, part_at, handed_at, standing_at}
use Rattle.ob_tree.proofs.Lasting.{last_touches_stamp}
use Rattle.ob_shown_laws.specs.Following.{AreNumbers, is_same_watched, StampsFollow}
use Rattle.ob_shown_laws.proofs.Owned.{same_count, part_there, own_found, not_derived, round}

-- an object of a number is there in a row of the same objects, with as many parts
part_alike : (os qs : Objects) (n : ℕ) (x : Object) → DifferInSlots os qs → part_in n os ≡ Some x → (y : Object) × (part_in n qs ≡ Some y) × (parts y ≡ parts x)
part_alike none none n x d e = absurd cc
part_alike none (node k inner more) n x d e = absurd d
part_alike (node h below rest) none n x d e = absurd d
part_alike (node h below rest) (node k inner more) zero x d e =
    let same : record { head = h; inner = below } ≡ x = some_same e in
    (record { head = k; inner = inner }, refl, ap (λ (m : ℕ). m + 1) (same_count below inner d.2) ∙ ap (λ (o : Object). parts o) same)
  where
    some_same : {a b : Object} → Some a ≡ Some b → a ≡ b
    some_same f = cc
part_alike (node h below rest) (node k inner more) (suc n) x d e =
    go (nat_lt n (count below)) e (ap (λ (m : ℕ). cond (nat_lt n m) (part_in n inner) (part_in (n - m) more)) (same_count below inner d.2))
    (λ f. part_alike below inner n x d.2 f) (λ f. part_alike rest more (n - count below) x d.3 f)
  where
    go : (b : Bool) → cond b (part_in n below) (part_in (n - count below) rest) ≡ Some x
        → cond (nat_lt n (count inner)) (part_in n inner) (part_in (n - count inner) more) ≡ cond b (part_in n inner) (part_in (n - count below) more)
        → (part_in n below ≡ Some x → (y : Object) × (part_in n inner ≡ Some y) × (parts y ≡ parts x))
        → (part_in (n - count below) rest ≡ Some x → (y : Object) × (part_in (n - count below) more ≡ Some y) × (parts y ≡ parts x))
        → (y : Object) × (cond (nat_lt n (count inner)) (part_in n inner) (part_in (n - count inner) more) ≡ Some y) × (parts y ≡ parts x)
    go true e same deep later = let f = deep e in (f.0, same ∙ f.1, f.2)
    go false e same deep later = let f = later e in (f.0, same ∙ f.1, f.2)

pub part_less : (os : Objects) (n : ℕ) (x : Object) → part_in n os ≡ Some x → n < count os
part_less none n x e = absurd cc
part_less (node h below rest) zero x e = omega arith
part_less (node h below rest) (suc n) x e = go (nat_lt n (count below)) refl e (λ f. part_less below n x f) (λ f. part_less rest (n - count below) x f)
  where
    go : (b : Bool) → nat_lt n (count below) ≡ b → cond b (part_in n below) (part_in (n - count below) rest) ≡ Some x → (part_in n below ≡ Some x → n < count below)
        → (part_in (n - count below) rest ≡ Some x → n - count below < count rest) → suc n < count below + count rest + 1
    go true is e deep later = omega (arith, deep e)
    go false is e deep later = omega (arith, later e)

-- the status of a source changes no kind
pub kind_off : (plan : Plan) (s : State) (h : Head) (o : Option Path) → is_watchable (with_status_at plan s h o) ≡ is_watchable h
kind_off plan s h None = refl
kind_off plan s h (Some p) = by_rule (rule_of plan p)
  where
    by_rule : (r : Option ℕ) → is_watchable (with_status_by plan s h r) ≡ is_watchable h
    by_rule None = refl
    by_rule (Some r) = refl

-- what some paths reach is told by their numbers
any_number : (plan : Plan) (s : State) → PathsDiffer (row (dressed plan s)) → (ps : List Path) (ns : List ℕ) → AreNumbers s.tree ps ns → (n : ℕ) (x : Object) → part_at n s.tree ≡ Some x
    → list_any (λ p. is_round p (derived_own plan s x)) ps ≡ list_any (λ m. nat_le n m && nat_lt m (n + parts x)) ns
any_number plan s differ [] [] are n x here = refl
any_number plan s differ [] (m ∷ ms) are n x here = absurd are
any_number plan s differ (p ∷ ps) [] are n x here = absurd are
any_number plan s differ (p ∷ ps) (m ∷ ms) are n x here =
    ap₂ (λ a b. a || b) (round plan s p m n x differ are.0 here) (any_number plan s differ ps ms are.1 n x here)

pub stamps_follow : StampsFollow
stamps_follow plan s t values differ looked left ns are tree root long p n h at head watchable =
    (last_touches_stamp tree n y.0 long within there).many ns
    ∙ ap (λ (b : Bool). option_map (λ (old : ℕ). cond b tree.steps old) (slice_get tree.stamps n)) any
    ∙ turned (is_same_watched plan s t p) (slice_get tree.stamps n)
  where
    touched : List Path
    touched = filter (differs plan s t) looked

    x : (x : Object) × (part_at n s.tree ≡ Some x) × (x.head ≡ h)
    x = part_there n s.tree h head

    c : Context
    c = under (handed_at s.library n s.tree) h.name

    y : (y : Object) × (part_at n t.tree ≡ Some y) × (parts y ≡ parts x.0)
    y = part_alike (row s.tree) (row t.tree) n x.0 values.tree x.1

    there : part_at n tree.root ≡ Some y.0
    there = ap (part_at n) root ∙ y.1

    within : n < parts tree.root
    within = omega (arith, part_less (row tree.root) n y.0 there)

    stands : standing_at s.library n s.tree ≡ Some c
    stands = ap (option_map (λ (k : Head). under (handed_at s.library n s.tree) k.name)) head

    found : site_standing plan s p ≡ Some (record { context = c; object = derived_own plan s x.0 })
    found =
        (own_is_enough plan s).stands p (not_derived plan s p n differ at)
        ∙ ap (option_map (dressed_standing plan s)) (own_found s p n x.0 c at stands x.1)

    watched : is_watchable (with_status plan s x.0.head) ≡ true
    watched = kind_off plan s x.0.head (node_path x.0.head) ∙ ap (λ (k : Head). is_watchable k) x.2 ∙ watchable

    reached : reaches touched (site_standing plan s p) ≡ list_any (λ q. is_round q (derived_own plan s x.0)) touched
    reached = ap (reaches touched) found ∙ ap (λ b. b && list_any (λ q. is_round q (derived_own plan s x.0)) touched) watched

    not_not : (b : Bool) → not (not b) ≡ b
    not_not true = refl
    not_not false = refl

    any : list_any (λ m. nat_le n m && nat_lt m (n + parts y.0)) ns ≡ not (is_same_watched plan s t p)
    any =
        ap (λ (k : ℕ). list_any (λ m. nat_le n m && nat_lt m (n + k)) ns) y.2
        ∙ sym (any_number plan s differ touched ns are n x.0 x.1)
        ∙ sym reached
        ∙ sym (not_not (reaches touched (site_standing plan s p)))
        ∙ ap not (sym (changes_reach plan s t values differ touched (looking plan s t values looked left) p))

    turned : (b : Bool) (o : Option ℕ) → option_map (λ (old : ℕ). cond (not b) tree.steps old) o ≡ option_map (λ (old : ℕ). cond b old tree.steps) o
    turned true None = refl
    turned true (Some m) = refl
    turned false None = refl
    turned false (Some m) = refl
