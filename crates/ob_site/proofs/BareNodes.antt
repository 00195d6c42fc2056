-- Nodes of which only their own value tells what was written to them.
use Rattle.std.proofs.Common.{◌≡◌, ℕ, suc, ◌+◌, Bool, true, false, cond, List, [], ◌∷◌, length, map, Option, Some, None, option_map, refl, sym, ap, ap₂, ◌∙◌, rules, tests}
use Rattle.std.specs.Prelude.{not, ◌&&◌, ◌||◌, ◌==◌, is_some}
use Rattle.std.specs.List.{list_any}
use Rattle.std.proofs.lemmas.List.{length-map}
use Rattle.ob_site_state.specs.Roles.{all_places, is_of, recorders_of}
use Rattle.ob_site_rules.specs.Build.{Path}
use Rattle.ob_site_rules.specs.Shown.{node_of, rule_of}
use Rattle.ob_site_rules.specs.State.{State}
use Rattle.ob_site_rules.specs.declared.plan.Plan.{Plan}
use Rattle.ob_site.specs.Bare.{has_history, is_bare}

not_not : (b : Bool) → not (not b) ≡ b
not_not true = refl
not_not false = refl

-- what is made of a value is there where the value is
pub map_some : {A B : Type 0} (f : A → B) (o : Option A) → is_some (option_map f o) ≡ is_some o
map_some f (Some x) = refl
map_some f None = refl

none_left : (n : ℕ) → true ≡ not (suc n == 0)
none_left n = search (rules, tests)

any_cons : (here any : Bool) (places : List ℕ) → any ≡ not (length places == 0)
    → (here || any) ≡ not (length (cond here (0 ∷ map (λ n. n + 1) places) (map (λ n. n + 1) places)) == 0)
any_cons true any places is = none_left (length (map (λ n. n + 1) places))
any_cons false any places is = is ∙ ap (λ (k : ℕ). not (k == 0)) (sym (length-map places (λ n. n + 1)))

-- an element passes a test where some place is that of one that does
any_placed : {A : Type 0} (test : A → Bool) (xs : List A) → list_any test xs ≡ not (length (all_places test xs) == 0)
any_placed test [] = refl
any_placed test (x ∷ xs) = any_cons (test x) (list_any test xs) (all_places test xs) (any_placed test xs)

not_recorded : (plan : Plan) (p : Path) → not (has_history plan p) ≡ (length (recorders_of plan p) == 0)
not_recorded plan p = ap (λ (b : Bool). not b) (any_placed (is_of p) plan.histories) ∙ not_not (length (recorders_of plan p) == 0)

pub bare_is : (plan : Plan) (s : State) (p : Path) (own unrecorded free : Bool) → own ≡ is_some (node_of p s.tree) → unrecorded ≡ (length (recorders_of plan p) == 0)
    → free ≡ not (is_some (rule_of plan p)) → is_bare plan s p ≡ (own && (unrecorded && free))
bare_is plan s p own unrecorded free own_is unrecorded_is free_is =
    ap₂ (λ (a b : Bool). a && b) (sym own_is) (ap₂ (λ (a b : Bool). a && b) (not_recorded plan p ∙ sym unrecorded_is) (sym free_is))

-- a value that isn't not there is there
pub free_is : {A : Type 0} (o : Option A) (none : Bool) → is_some o ≡ not none → none ≡ not (is_some o)
free_is o none is = sym (ap (λ (b : Bool). not b) is ∙ not_not none)
