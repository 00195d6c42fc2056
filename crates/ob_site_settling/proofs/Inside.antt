-- What is in a node that is shown as before is shown as before.
use Rattle.std.proofs.Common.{ℕ, ◌≡◌, ◌+◌, ◌<◌, ◌≤◌, Bool, true, false, ◌&&◌, [], Option, Some, None, option_map, refl, sym, ap, ◌∙◌, true≢false, arith}
use Rattle.std.specs.Prelude.{is_some, nat_le, nat_lt}
use Rattle.std.proofs.lemmas.Bool.{le-leb, lt-ltb}
use Rattle.ob_values.proofs.Bools.{and_first, and_second, and_true}
use Rattle.ob_values.proofs.Lists.{some_same}
use Rattle.ob_object.specs.declared.head.Head.{Head}
use Rattle.ob_object.specs.Object.{Object, parts}
use Rattle.ob_object.specs.Paths.{node_path}
use Rattle.ob_contracts.specs.Inherit.{Contracts}
use Rattle.ob_site_rules.specs.Build.{Path}
use Rattle.ob_site_rules.specs.Shown.{dressed}
use Rattle.ob_site_rules.specs.State.{State}
use Rattle.ob_site_rules.specs.declared.plan.Plan.{Plan}
use Rattle.ob_tree.specs.Contexts.{Context, under}
use Rattle.ob_shown_laws.specs.Alike.{row}
use Rattle.ob_shown_laws.specs.Changed.{is_watchable, PathsDiffer}
use Rattle.ob_shown_laws.specs.Own.{derived_own}
use Rattle.ob_tree.specs.Laid.{head_at, paths}
use Rattle.ob_tree.specs.Paths.{place_of, first_twice}
use Rattle.ob_tree.specs.Shown.{row as row_of, part_at, handed_at, standing_at}
use Rattle.ob_tree.proofs.Within.{place_within}
use Rattle.ob_shown_laws.proofs.Owned.{part_there, round, standing}
use Rattle.ob_shown_laws.proofs.Followed.{kind_off}
use Rattle.ob_site_state.proofs.Noting.{head_there}
use Rattle.ob_step_laws.specs.Defaults.{with_library, is_same}
use Rattle.ob_step_laws.proofs.Reached.{defaults_reach}
use Rattle.ob_site_settling.specs.Otherwise.{IsOtherwise}
use Rattle.ob_site_settling.specs.Watched.{can_be_watched}
use Rattle.ob_site_settling.proofs.Numbered.{part_within}
use Rattle.ob_site_settling.proofs.Places.{placed_at}
use Rattle.ob_site_settling.proofs.Compared.{own_there}

-- the head of an own object that is there
pub head_part : (n : ℕ) (o x : Object) → n < parts o → part_at n o ≡ Some x → head_at n o ≡ Some x.head
head_part n o x within here =
    let h : (h : Head) × (head_at n o ≡ Some h) = head_there o n within in
    let y : (y : Object) × (part_at n o ≡ Some y) × (y.head ≡ h.0) = part_there n o h.0 h.1 in
    let is : y.0 ≡ x = some_same (sym y.1 ∙ here) in
    h.1 ∙ ap (λ (k : Head). Some k) (sym y.2 ∙ ap (λ (z : Object). z.head) is)

-- where a watch shows a node as before, it shows the nodes in it as before, told by their numbers
pub reached : (plan : Plan) (s : State) (new : Contracts) → PathsDiffer (row (dressed plan s)) → (p : Path) (n : ℕ) (x : Object) → place_of p (paths s.tree) ≡ Some n → part_at n s.tree ≡ Some x
    → is_watchable x.head ≡ true → (q : Path) (m : ℕ) → place_of q (paths s.tree) ≡ Some m → (nat_le n m && nat_lt m (n + parts x)) ≡ true
    → is_same plan s (with_library new s) p ≡ true → is_same plan s (with_library new s) q ≡ true
reached plan s new differ p n x at_n here watchable q m at_m inside same =
    let c : Context = under (handed_at s.library n s.tree) x.head.name in
    let stands : standing_at s.library n s.tree ≡ Some c =
    ap (option_map (λ (k : Head). under (handed_at s.library n s.tree) k.name)) (head_part n s.tree x (place_within s.tree p n at_n) here) in
    defaults_reach plan s new differ p q (standing c (derived_own plan s x)) (own_there plan s p n x c differ at_n stands here)
    (kind_off plan s x.head (node_path x.head) ∙ watchable)
    (round plan s q m n x differ at_m here ∙ inside) same

some_path : (o : Option Path) → is_some o ≡ true → (p : Path) × (o ≡ Some p)
some_path None e = absurd cc
some_path (Some p) e = (p, refl)

is_true : (b : Bool) → (b ≡ false → ⊥) → b ≡ true
is_true true never = refl
is_true false never = absurd (never refl)

-- what is in it isn't shown otherwise
pub nothing_inside : (plan : Plan) (s : State) (new : Contracts) (n : ℕ) (x : Object) → PathsDiffer (row (dressed plan s)) → first_twice [] (paths s.tree) ≡ None → part_at n s.tree ≡ Some x
    → can_be_watched (Some x.head) ≡ true → (IsOtherwise plan s new n → ⊥) → (m : ℕ) → n ≤ m → m < n + parts x → IsOtherwise plan s new m → ⊥
nothing_inside plan s new n x differ once here watched off m from to otherwise =
    let head : head_at n s.tree ≡ Some x.head = head_part n s.tree x (omega (arith, part_within (row_of s.tree) n x here)) here in
    let p : (p : Path) × (node_path x.head ≡ Some p) = some_path (node_path x.head) (and_first (is_some (node_path x.head)) (is_watchable x.head) watched) in
    let at_n : place_of p.0 (paths s.tree) ≡ Some n = placed_at s.tree n x.head p.0 once head p.1 in
    let same : is_same plan s (with_library new s) p.0 ≡ true = is_true (is_same plan s (with_library new s) p.0) (λ f. off (p.0, at_n, f)) in
    let inside : (nat_le n m && nat_lt m (n + parts x)) ≡ true = and_true (nat_le n m) (nat_lt m (n + parts x)) (le-leb n m from) (lt-ltb m (n + parts x) to) in
    true≢false
    (sym (reached plan s new differ p.0 n x at_n here (and_second (is_some (node_path x.head)) (is_watchable x.head) watched) otherwise.0 m otherwise.1 inside same)
    ∙ otherwise.2)
