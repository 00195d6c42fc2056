-- What a value that is written has to fit.
use Rattle.std.specs.Prelude.{◌≡◌, ℕ, true}
use Rattle.ob_times.specs.Times.{moment_instant}
use Rattle.ob_object.specs.declared.kind.Kind.{Kind}
use Rattle.ob_object.specs.declared.head.Slot.{Slot}
use Rattle.ob_object.specs.Object.{none, node}
use Rattle.ob_history.specs.Records.{IsRecord}
use Rattle.ob_site_rules.specs.Build.{Path}
use Rattle.ob_site_rules.specs.declared.plan.Plan.{Plan}
use Rattle.ob_site_rules.specs.State.{State, numbered_from}
use Rattle.ob_site_rules.specs.Shown.{rule_of}
use Rattle.ob_site_rules.specs.Writes.{records_from}
use Rattle.ob_plain_state.specs.Fitting.{NodesTake, TakesIfRule}

-- The node at a path takes a slot, and so does its rule; and where a history records the node, the slot is a record of the kind.
pub record CanBeWritten (plan : Plan) (s : State) (p : Path) (k : Kind) (slot : Slot) : Type 0 where
  pub nodes : NodesTake p slot (node s.tree.head s.tree.inner none)
  pub rule : TakesIfRule (numbered_from 0 plan.rules) (rule_of plan p) slot
  pub is_record : (history : Path) → records_from plan p history ≡ true → (now : ℕ) → IsRecord (record { time = moment_instant now; kind = k; slot = slot })
