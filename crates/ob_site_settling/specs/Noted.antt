-- What the notes of a step tell of the nodes that it may have changed.
use Rattle.std.specs.Prelude.{◌≡◌, false, List, [], ◌∷◌, ◌++◌, option_map, option_and_then, option_to_list, slice_get}
use Rattle.ob_site_rules.specs.Build.{Path}
use Rattle.ob_site_rules.specs.declared.plan.Plan.{Plan}
use Rattle.ob_site_rules.specs.State.{State, is_among, roll}
use Rattle.ob_shown_laws.specs.Looked.{IsLeft}
use Rattle.ob_tree.specs.Laid.{paths}
use Rattle.ob_site_state.specs.declared.change.Change.{Change}
use Rattle.ob_site_state.specs.declared.change.Change.TheVariants as change
use Rattle.ob_site_state.specs.Changes.{rewound, CanRewind, ChangesTell}
use Rattle.ob_site_state.specs.Kept.{keys}

-- The paths that a change is of: that of the node whose slot was set, or of the history that has a new record; with an alarm
-- event the subject of alarms and the source of the rule. Another library is of no path.
abbrev pub paths_of : Plan → State → Change → List Path
paths_of plan s (change.Slot node slot) = option_to_list (option_and_then (λ p. p) (slice_get (paths s.tree) node.number))
paths_of plan s (change.Records place len) = option_to_list (slice_get (keys s.logs) place)
paths_of plan s (change.Event rule status) =
    option_to_list plan.subject ++ option_to_list (option_map (λ r. r.source) (slice_get plan.rules rule))
paths_of plan s (change.Contracts told) = []

-- the paths that some changes are of
abbrev pub looked_at : Plan → State → List Change → List Path
looked_at plan s [] = []
looked_at plan s (c ∷ cs) = paths_of plan s c ++ looked_at plan s cs

-- A step left every path alone but those that its notes are of: up to its end, at which histories drop their oldest records.
abbrev pub NotesTell : Type 0
NotesTell = (plan : Plan) (found : List Change) (s : State) → CanRewind found s → ChangesTell plan found s
    → roll (rewound found s) ≡ rewound found s
    → (p : Path) → is_among p (looked_at plan s found) ≡ false → IsLeft plan (rewound found s) (roll s) p
