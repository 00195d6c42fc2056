-- Own nodes, and what a write makes differ.
use Rattle.std.specs.Prelude.{◌≡◌, ℕ, false, ◌&&◌, ◌++◌, Some}
use Rattle.ob_object.specs.declared.kind.Kind.{Kind}
use Rattle.ob_object.specs.declared.head.Slot.{Slot}
use Rattle.ob_object.specs.Object.{Object, listed, in_row}
use Rattle.ob_object.specs.Paths.{node_path}
use Rattle.ob_site_rules.specs.Build.{Path}
use Rattle.ob_site_rules.specs.Shown.{derived, with_status, with_roles, dressed}
use Rattle.ob_site_rules.specs.State.{State, roll, with_board}
use Rattle.ob_site_rules.specs.declared.plan.Plan.{Plan}
use Rattle.ob_site_rules.specs.Writes.{with_slot, is_in_contract, write}
use Rattle.ob_alarms.specs.Changes.{State as Board}
use Rattle.ob_tree.specs.Contexts.{Context}
use Rattle.ob_shown_laws.specs.Alike.{row, DifferInSlots, DifferInValues}
use Rattle.ob_shown_laws.specs.Changed.{same_values, head_in, same_node, same_derived, PathsDiffer}

-- an own object with the status of each source in it, and what roles derive behind the own children of each node
abbrev pub derived_own : Plan → State → Object → Object
derived_own plan s o = record {
  head = with_status plan s o.head;
  inner = in_row (listed (with_roles plan s o.inner) ++ derived plan s (node_path o.head));
}

-- An own node shows itself as before exactly where its slot and its status are shown as before, and the count, start and end
-- of its history, and the count of alarms if it is their subject.
abbrev pub OwnNodesDiffer : Type 0
OwnNodesDiffer = (plan : Plan) (s t : State) → DifferInValues s t → (o q : Object)
    → DifferInSlots (row o) (row q) → (p : Path) → node_path o.head ≡ Some p → (c : Context)
    → same_node c (derived_own plan s o) (derived_own plan t q)
    ≡ (same_values (head_in c (with_status plan s o.head)) (head_in c (with_status plan t q.head)) && same_derived plan s t p)

-- Steps leave states that differ in values alone, in which the paths of nodes differ as before: one that does nothing, one
-- after another, a write that isn't to a part of a contract, alarms alone, and the rolling of histories.
pub record StepsDifferInValues (plan : Plan) : Type 0 where
  pub nothing : (s : State) → DifferInValues s s
  pub both : (s t u : State) → DifferInValues s t → DifferInValues t u → DifferInValues s u
  pub writes : (s : State) (now : ℕ) (p : Path) (k : Kind) (slot : Slot) → is_in_contract p (with_slot p slot s.tree) ≡ false
      → DifferInValues s (write plan now p k slot s)
  pub alarms : (s : State) (b : Board) → DifferInValues s (with_board s b)
  pub rolls : (s : State) → DifferInValues s (roll s)
  pub paths : (s t : State) → DifferInValues s t → PathsDiffer (row (dressed plan s)) → PathsDiffer (row (dressed plan t))

-- law: of every plan
abbrev pub StepsLeaveAlike : Type 0
StepsLeaveAlike = (plan : Plan) → StepsDifferInValues plan
