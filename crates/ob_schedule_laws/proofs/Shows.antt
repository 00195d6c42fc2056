-- The slot that is shown at a path, and when it stays.
use Rattle.std.proofs.Common.{◌≡◌, ℕ, true, Option, Some, None, option_map, refl, sym, ap, ap₂, subst, ◌∙◌}
use Rattle.std.specs.Prelude.{is_some, []}
use Rattle.ob_contracts.specs.Inherit.{or_else, given, slot_of, slot_or_default, result_of}
use Rattle.ob_object.specs.declared.kind.Kind.{Kind}
use Rattle.ob_object.specs.declared.head.Slot.{Slot}
use Rattle.ob_object.specs.declared.head.Slot.TheVariants.{Absent, Null, Is}
use Rattle.ob_object.specs.declared.head.Head.{Head}
use Rattle.ob_object.specs.Object.{Object}
use Rattle.ob_object.specs.Paths.{node_path}
use Rattle.ob_parts.proofs.Earliest.{some_one}
use Rattle.ob_site_rules.specs.Build.{Path}
use Rattle.ob_site_rules.specs.Shown.{node_of, rule_of, with_status, with_status_at, with_status_by, dressed, shown}
use Rattle.ob_site_rules.specs.State.{State}
use Rattle.ob_site_rules.specs.declared.plan.Plan.{Plan}
use Rattle.ob_shown_laws.specs.Alike.{row, without_slot, DifferInSlots, DifferInValues}
use Rattle.ob_shown_laws.specs.Changed.{head_in, is_in, PathsDiffer}
use Rattle.ob_shown_laws.specs.Own.{derived_own}
use Rattle.ob_shown_laws.specs.OwnShown.{own_standing, dressed_standing}
use Rattle.ob_shown_laws.specs.Numbered.{root_row}
use Rattle.ob_shown_laws.specs.Standing.{Standing, effective, standing_in}
use Rattle.ob_shown_laws.proofs.OwnStanding.{own_is_enough, own_tells_differences}
use Rattle.ob_shown_laws.proofs.Touches.{there}
use Rattle.ob_tree.specs.Contexts.{Context, comes_to}
use Rattle.ob_step_laws.proofs.Steps.{own_node}
use Rattle.ob_schedule_laws.proofs.Slots.{AreSame, nodes_same}

some_object : (o : Option Standing) → is_some (option_map (λ x. x.object) o) ≡ is_some o
some_object None = refl
some_object (Some x) = refl

pub is_there : (p : Path) (o : Object) → is_some (node_of p o) ≡ true → is_in p (row o) ≡ true
is_there p o is =
    sym (there p (root_row []) (row o)) ∙ (sym (some_object (standing_in p (root_row []) (row o))) ∙ (ap is_some (own_node p (root_row []) (row o)) ∙ is))

-- An own node is shown as what it comes to where it stands.
pub record IsShown (plan : Plan) (s : State) (p : Path) : Type 0 where
  pub at : Standing
  pub own : own_standing s p ≡ Some at
  pub node_is : node_of p s.tree ≡ Some at.object
  pub shows : shown plan s p ≡ Some (comes_to at.context (derived_own plan s at.object))

pub shown_at : (plan : Plan) (s : State) (p : Path) → PathsDiffer (row (dressed plan s)) → is_some (node_of p s.tree) ≡ true → IsShown plan s p
shown_at plan s p differ is = go (own_standing s p) refl (there p (root_row s.library) (row s.tree) ∙ is_there p s.tree is)
  where
    go : (o : Option Standing) → own_standing s p ≡ o → is_some o ≡ true → IsShown plan s p
    go None e f = absurd cc
    go (Some x) e f = record {
      at = x;
      own = e;
      node_is = sym (own_node p (root_row s.library) (row s.tree)) ∙ ap (option_map (λ y. y.object)) e;
      shows = (own_is_enough plan s).shows p ((own_is_enough plan s).own p differ (is_there p s.tree is)) ∙ ap (option_map (λ y. effective (dressed_standing plan s y))) e;
    }

-- the status of a source is no part of its slot
status_slot : (plan : Plan) (s : State) (c : Context) (h : Head) (o : Option Path) → (head_in c (with_status_at plan s h o)).slot ≡ (head_in c h).slot
status_slot plan s c h None = refl
status_slot plan s c h (Some p) = by_rule (rule_of plan p)
  where
    by_rule : (r : Option ℕ) → (head_in c (with_status_by plan s h r)).slot ≡ (head_in c h).slot
    by_rule None = refl
    by_rule (Some r) = refl

pub head_comes : (plan : Plan) (s : State) (c : Context) (o : Object) → (comes_to c (derived_own plan s o)).head ≡ head_in c (with_status plan s o.head)
unfolding result_of
head_comes plan s c o = refl

pub slot_is : (plan : Plan) (s : State) (p : Path) (w : IsShown plan s p) → option_map (λ o. o.head.slot) (shown plan s p) ≡ Some (head_in w.at.context w.at.object.head).slot
slot_is plan s p w =
    ap (option_map (λ o. o.head.slot)) w.shows
    ∙ (ap (λ (h : Head). Some h.slot) (head_comes plan s w.at.context w.at.object)
    ∙ ap Some (status_slot plan s w.at.context w.at.object.head (node_path w.at.object.head)))

-- a slot that is given is shown
pub given_slot : (k : Kind) (v : Slot) (more : Option Slot) → (v ≡ Absent → ⊥) → slot_or_default k (slot_of (or_else (given v) more)) ≡ v
given_slot k Absent more some = absurd (some refl)
given_slot k Null more some = refl
given_slot k (Is v) more some = refl

pub own_slot : (plan : Plan) (s : State) (p : Path) (w : IsShown plan s p) (slot : Slot) → option_map (λ o. o.head.slot) (node_of p s.tree) ≡ Some slot → (slot ≡ Absent → ⊥)
    → option_map (λ o. o.head.slot) (shown plan s p) ≡ Some slot
own_slot plan s p w slot own some =
    slot_is plan s p w ∙ ap Some (given_slot w.at.object.head.kind w.at.object.head.slot _ (λ e. some (sym same ∙ e)) ∙ same)
  where
    same : w.at.object.head.slot ≡ slot
    same = some_one w.at.object.head.slot slot (sym (ap (option_map (λ o. o.head.slot)) w.node_is) ∙ own)

one_head : (h k : Head) → without_slot h ≡ without_slot k → h.slot ≡ k.slot → h ≡ k
one_head h k e f = ap₂ (λ (u : Head) (v : Slot). record u { slot = v }) e f

-- the node in two states that differ in values
pub same_node : (s t : State) (p : Path) (a b : Object) → DifferInValues s t → node_of p s.tree ≡ Some a → node_of p t.tree ≡ Some b → DifferInSlots (row a) (row b)
same_node s t p a b d e f = subst (λ o. AreSame (Some a) o) f (subst (λ o. AreSame o (node_of p t.tree)) e (nodes_same p (row s.tree) (row t.tree) d.tree))

-- where the own slot stays, so does the one that is shown
pub slot_stays : (plan : Plan) (s t : State) (p : Path) → DifferInValues s t → IsShown plan s p → IsShown plan t p
    → option_map (λ o. o.head.slot) (node_of p t.tree) ≡ option_map (λ o. o.head.slot) (node_of p s.tree)
    → option_map (λ o. o.head.slot) (shown plan t p) ≡ option_map (λ o. o.head.slot) (shown plan s p)
slot_stays plan s t p d v w own =
    slot_is plan t p w ∙ (ap₂ (λ (c : Context) (h : Head). Some (head_in c h).slot) context (sym heads) ∙ sym (slot_is plan s p v))
  where
    context : w.at.context ≡ v.at.context
    context = (own_tells_differences plan s t d).stands p v.at w.at v.own w.own

    slots : v.at.object.head.slot ≡ w.at.object.head.slot
    slots = some_one v.at.object.head.slot w.at.object.head.slot (sym (ap (option_map (λ o. o.head.slot)) v.node_is) ∙ (sym own ∙ ap (option_map (λ o. o.head.slot)) w.node_is))

    heads : v.at.object.head ≡ w.at.object.head
    heads = one_head v.at.object.head w.at.object.head (same_node s t p v.at.object w.at.object d v.node_is w.node_is).0 slots
