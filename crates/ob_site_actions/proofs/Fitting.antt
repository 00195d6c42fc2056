-- What is shown at a path can be written there, where nothing is wrong with it.
use Rattle.std.proofs.Common.{◌≡◌, ℕ, ◌+◌, Bool, true, false, ◌&&◌, cond, ◌∷◌, Option, Some, None, option_map, refl, sym, ap, ap₂, subst, true≢false, IsTrue}
use Rattle.std.specs.Prelude.{slice_get}
use Rattle.std.specs.Str.{bytes_eq}
use Rattle.ob_times.specs.Times.{moment_instant}
use Rattle.ob_values.specs.declared.value.Value.{Value}
use Rattle.ob_values.specs.declared.value.Value.TheVariants as value
use Rattle.ob_object.specs.declared.kind.Kind.{Kind}
use Rattle.ob_object.specs.declared.kind.Kind.TheVariants as kind
use Rattle.ob_object.specs.declared.head.Head.{Head}
use Rattle.ob_object.specs.declared.head.Slot.{Slot}
use Rattle.ob_object.specs.Kinds.{same_kind, has_values}
use Rattle.ob_object.specs.Fits.{fits_slot}
use Rattle.ob_object.specs.Object.{Object, none, node}
use Rattle.ob_alarms.specs.declared.rule.Num.{Num}
use Rattle.ob_alarms.specs.declared.rule.Num.TheVariants as num
use Rattle.ob_alarms.specs.declared.rule.Rule.{Rule}
use Rattle.ob_alarms.specs.Limits.{TakenBy}
use Rattle.ob_alarms.specs.Lists.{first_place}
use Rattle.ob_history.specs.Records.{holds_value, IsRecord}
use Rattle.ob_site_rules.specs.Build.{Path}
use Rattle.ob_site_rules.specs.Shown.{rule_of, shown}
use Rattle.ob_site_rules.specs.State.{State, numbered_from}
use Rattle.ob_site_rules.specs.declared.plan.Plan.{Plan}
use Rattle.ob_site_rules.specs.declared.plan.PointRule.{PointRule}
use Rattle.ob_site_rules.specs.Writes.{number_in, records_from}
use Rattle.ob_plain_state.specs.States.{limits_fit, rule_in}
use Rattle.ob_plain_state.specs.Fitting.{TakesIfRule}
use Rattle.ob_plain_state.proofs.ShownKinds.{shown_kind}
use Rattle.ob_plain_state.proofs.Kept.{takes_too, nodes_take, some_rule, of_limits}
use Rattle.ob_step_laws.specs.Consistent.{IsConsistent}
use Rattle.ob_site_actions.specs.Fitting.{CanBeWritten}

takes_at : (plan : Plan) (p : Path) (k : Kind) (slot : Slot) (place : Option ℕ) → rule_of plan p ≡ place
    → IsTrue (limits_fit k (rule_in plan place)) → IsTrue (fits_slot k slot) → TakesIfRule (numbered_from 0 plan.rules) place slot
takes_at plan p k slot None is h f = tt
takes_at plan p k slot (Some i) is h f =
    let there = some_rule (λ r. bytes_eq r.source p) plan.rules 0 i is in
    let fit : IsTrue (limits_fit k (Some there.0)) = subst (λ (o : Option Rule). IsTrue (limits_fit k o)) there.1 h in
    subst (λ (o : Option Rule). TakenBy o (number_in slot)) (sym there.1) (of_limits k there.0 slot fit f)

-- the node at a path and its rule take what fits what is shown there
shown_fits : (plan : Plan) (s : State) (p : Path) (o : Object) (slot : Slot) (c : IsConsistent plan s) → shown plan s p ≡ Some o → IsTrue (fits_slot o.head.kind slot) → IsTrue (fits_slot (c.kind_at p) slot)
shown_fits plan s p o slot c shows f = takes_too o.head.kind (c.kind_at p) slot (shown_kind c.kind_at plan s p o c.kinds shows) f

pub rule_takes : (plan : Plan) (s : State) (p : Path) (o : Object) (slot : Slot) (c : IsConsistent plan s) → shown plan s p ≡ Some o → IsTrue (fits_slot o.head.kind slot)
    → TakesIfRule (numbered_from 0 plan.rules) (rule_of plan p) slot
rule_takes plan s p o slot c shows f = takes_at plan p (c.kind_at p) slot (rule_of plan p) refl (c.limits p) (shown_fits plan s p o slot c shows f)

both : (a b : Bool) → a ≡ true → b ≡ true → IsTrue (a && b)
both true b e f = f
both false b e f = absurd (true≢false (sym e))

-- and where a history records it, it is a record
pub can_be_written : (plan : Plan) (s : State) (p : Path) (o : Object) (slot : Slot) → IsConsistent plan s → shown plan s p ≡ Some o → IsTrue (fits_slot o.head.kind slot)
    → ((history : Path) → records_from plan p history ≡ true → has_values o.head.kind ≡ true)
    → (has_values o.head.kind ≡ true → IsTrue (holds_value o.head.kind slot))
    → CanBeWritten plan s p o.head.kind slot
can_be_written plan s p o slot c shows f records held = record {
  nodes = nodes_take c.kind_at p slot (shown_fits plan s p o slot c shows f) (node s.tree.head s.tree.inner none) c.kinds;
  rule = rule_takes plan s p o slot c shows f;
  is_record = λ history has now. both (has_values o.head.kind) (holds_value o.head.kind slot) (records history has) (held (records history has));
}
