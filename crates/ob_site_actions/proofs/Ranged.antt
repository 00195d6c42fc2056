-- Whether what a range names has a child of a name.
use Rattle.std.proofs.Common.{◌≡◌, ℕ, Bool, true, false, cond, Option, Some, None, option_map, refl, sym, ap, ap₂, ◌∙◌}
use Rattle.std.specs.Prelude.{is_some}
use Rattle.ob_object.specs.Object.{Object, children}
use Rattle.ob_object.specs.WellFormed.{named}
use Rattle.ob_contracts.specs.Inherit.{contract_of, or_else}
use Rattle.ob_shown_laws.specs.Alike.{row}
use Rattle.ob_shown_laws.specs.Changed.{PathsDiffer}
use Rattle.ob_site_rules.specs.Build.{Path, Text, child}
use Rattle.ob_site_rules.specs.Shown.{dressed, node_of, shown}
use Rattle.ob_site_rules.specs.declared.plan.Plan.{Plan}
use Rattle.ob_site_rules.specs.State.{State}
use Rattle.ob_site_rules.specs.Writes.{has_child, ranged}
use Rattle.ob_tree.specs.Laid.{paths}
use Rattle.ob_tree.specs.Paths.{place_of}
use Rattle.ob_shown_laws.specs.OwnTree.{own_shown_at}
use Rattle.ob_shown_laws.proofs.Owned.{own_trees_tell}
use Rattle.ob_site_actions.proofs.Nowhere.{is_there}

has_if : (n : Text) (q : Option Object) (has : Bool) → option_map (λ (o : Object). is_some (child n o)) q ≡ Some has → has ≡ has_child n q
has_if n None has e = absurd cc
has_if n (Some o) has e = sym (some_same e)
  where
    some_same : {a b : Bool} → Some a ≡ Some b → a ≡ b
    some_same f = cc

-- a contract counts first
pub contract_has : (plan : Plan) (s : State) (r : Path) (n : Text) (o : Object) (has : Bool) → Some o ≡ contract_of s.library r → has ≡ is_some (named n (children o)) → has ≡ has_child n (ranged plan s r)
contract_has plan s r n o has found is =
    is ∙ ap (λ (q : Option Object). has_child n (or_else q (cond (is_some (node_of r s.tree)) (shown plan s r) None))) found

named_node : (plan : Plan) (s : State) (r : Path) (place : Option ℕ) → None ≡ contract_of s.library r → place ≡ place_of r (paths s.tree) → ranged plan s r ≡ cond (is_some place) (shown plan s r) None
named_node plan s r place none here =
    ap₂ (λ (q : Option Object) (b : Bool). or_else q (cond b (shown plan s r) None)) (sym none) (is_there r s.tree ∙ ap is_some (sym here))

-- then an own node
pub node_has : (plan : Plan) (s : State) (r : Path) (n : Text) (k : ℕ) (has : Bool) → PathsDiffer (row (dressed plan s)) → None ≡ contract_of s.library r → Some k ≡ place_of r (paths s.tree)
    → option_map (λ (o : Object). is_some (child n o)) (own_shown_at plan s k) ≡ Some has → has ≡ has_child n (ranged plan s r)
node_has plan s r n k has differ none here is =
    has_if n (own_shown_at plan s k) has is
    ∙ ap (has_child n) (sym ((own_trees_tell plan s).shows_own r k differ (sym here)) ∙ sym (named_node plan s r (Some k) none here))

-- and what names nothing holds no value back
pub nothing_has : (plan : Plan) (s : State) (r : Path) (n : Text) → None ≡ contract_of s.library r → None ≡ place_of r (paths s.tree) → true ≡ has_child n (ranged plan s r)
nothing_has plan s r n none here = sym (ap (has_child n) (named_node plan s r None none here))
