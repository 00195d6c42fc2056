-- What a step leaves of a consistent state is consistent.
use Rattle.std.specs.Prelude.{◌≡◌, List, map}
use Rattle.ob_object.specs.declared.head.Slot.{Slot}
use Rattle.ob_contracts.specs.Inherit.{Contracts}
use Rattle.ob_alarms.specs.Changes.{State as Board}
use Rattle.ob_site_rules.specs.Build.{Path}
use Rattle.ob_site_rules.specs.declared.plan.Plan.{Plan}
use Rattle.ob_site_rules.specs.State.{Log, State, with_board, roll}
use Rattle.ob_site_rules.specs.Shown.{dressed}
use Rattle.ob_site_rules.specs.Writes.{with_slot}
use Rattle.ob_shown_laws.specs.Alike.{row}
use Rattle.ob_shown_laws.specs.Changed.{PathsDiffer}
use Rattle.ob_plain_state.specs.States.{AreCounted}
use Rattle.ob_step_laws.specs.Consistent.{IsConsistent}

-- the paths of histories
abbrev pub paths_of : List (Path × Log) → List Path
paths_of ls = map (λ l. l.0) ls

-- Each part that a step changes keeps what a state owes its plan: a slot, the logs of its histories, the library, the alarms,
-- and the records that roll off.
pub record StaysConsistent (plan : Plan) (s : State) : Type 0 where
  pub slot : (p : Path) (slot : Slot) → IsConsistent plan (record s { tree = with_slot p slot s.tree })
  pub logs : (ls : List (Path × Log)) → paths_of ls ≡ paths_of s.logs → AreCounted ls → IsConsistent plan (record s { logs = ls })
  pub library : (lib : Contracts) → IsConsistent plan (record s { library = lib })
  pub board : (b : Board) → IsConsistent plan (with_board s b)
  pub rolls : IsConsistent plan (roll s)

-- law: of every consistent state
abbrev pub StepsStayConsistent : Type 0
StepsStayConsistent = (plan : Plan) (s : State) → IsConsistent plan s → StaysConsistent plan s

-- No part that a step changes gives two nodes one path, those that roles derive among them.
pub record PathsStay (plan : Plan) (s : State) : Type 0 where
  pub slot : (p : Path) (slot : Slot) → PathsDiffer (row (dressed plan (record s { tree = with_slot p slot s.tree })))
  pub logs : (ls : List (Path × Log)) → paths_of ls ≡ paths_of s.logs → PathsDiffer (row (dressed plan (record s { logs = ls })))
  pub library : (lib : Contracts) → PathsDiffer (row (dressed plan (record s { library = lib })))
  pub board : (b : Board) → PathsDiffer (row (dressed plan (with_board s b)))
  pub rolls : PathsDiffer (row (dressed plan (roll s)))

-- law: of every state no two of whose nodes have one path
abbrev pub StepsKeepPaths : Type 0
StepsKeepPaths = (plan : Plan) (s : State) → PathsDiffer (row (dressed plan s)) → PathsStay plan s
