-- What a step has to look at: the nodes that it wrote to, and those whose records or alarms it changed.
use Rattle.std.specs.Prelude.{◌≡◌, ℕ, true, false, List, filter, length, Some}
use Rattle.ob_object.specs.Object.{Objects, none, node}
use Rattle.ob_object.specs.Paths.{is_path, node_path}
use Rattle.ob_alarms.specs.States.{status_of}
use Rattle.ob_site_rules.specs.Build.{Path}
use Rattle.ob_site_rules.specs.Shown.{rule_of}
use Rattle.ob_site_rules.specs.State.{State, at, is_among, numbered_from}
use Rattle.ob_site_rules.specs.declared.plan.Plan.{Plan}
use Rattle.ob_shown_laws.specs.Alike.{row, DifferInValues}
use Rattle.ob_shown_laws.specs.Changed.{differs, AreTouched}

-- the own nodes of this path are the same in both rows
abbrev pub NodesAreSame : Path → Objects → Objects → Type 0
NodesAreSame p none none = Unit {0}
NodesAreSame p none (node k inner more) = ⊥
NodesAreSame p (node h below rest) none = ⊥
NodesAreSame p (node h below rest) (node k inner more) =
    (is_path p (node_path h) ≡ true → h ≡ k) × NodesAreSame p below inner × NodesAreSame p rest more

-- A step left a path alone: the own slot of the node there, the status of its alarms if it is the source of a rule, its log if
-- it is a history, and the count of alarms if it is their subject.
pub record IsLeft (plan : Plan) (s t : State) (p : Path) : Type 0 where
  pub own : NodesAreSame p (row s.tree) (row t.tree)
  pub status : (rule : ℕ) → rule_of plan p ≡ Some rule
      → status_of (numbered_from 0 plan.rules) s.alarms rule ≡ status_of (numbered_from 0 plan.rules) t.alarms rule
  pub log : at p s.logs ≡ at p t.logs
  pub count : is_path p plan.subject ≡ true → length s.alarms ≡ length t.alarms

-- Of the paths that a step looked at, those whose nodes show themselves otherwise are all that do, where it left every other
-- path alone.
abbrev pub LookingIsEnough : Type 0
LookingIsEnough = (plan : Plan) (s t : State) → DifferInValues s t → (looked : List Path)
    → ((p : Path) → is_among p looked ≡ false → IsLeft plan s t p)
    → AreTouched plan s t (filter (differs plan s t) looked)
