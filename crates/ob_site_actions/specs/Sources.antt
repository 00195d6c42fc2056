-- Points that a history can record.
use Rattle.std.specs.Prelude.{◌≡◌, true, Some}
use Rattle.ob_object.specs.Object.{Object}
use Rattle.ob_object.specs.Kinds.{has_values}
use Rattle.ob_shown_laws.specs.Alike.{row}
use Rattle.ob_shown_laws.specs.Changed.{PathsDiffer}
use Rattle.ob_site_rules.specs.Build.{Path}
use Rattle.ob_site_rules.specs.declared.plan.Plan.{Plan}
use Rattle.ob_site_rules.specs.State.{State, is_among}
use Rattle.ob_site_rules.specs.Shown.{dressed, shown}
use Rattle.ob_site_rules.specs.Writes.{records_from}
use Rattle.ob_step_laws.specs.Consistent.{IsConsistent}
use Rattle.ob_site_state.specs.Standing.{SourcesHaveValues}

-- Where sources have values, a point that a history records is shown with such a kind.
abbrev pub PointsHaveValues : Type 0
PointsHaveValues =
    (plan : Plan) (s : State) → IsConsistent plan s → PathsDiffer (row (dressed plan s)) → SourcesHaveValues plan s
    → (p history : Path) (o : Object) → is_among p plan.points ≡ true → records_from plan p history ≡ true → shown plan s p ≡ Some o → has_values o.head.kind ≡ true
