-- What a path names: a `Resource` of src/resource.rt.
use Rattle.std.specs.Prelude.{ℕ, ◌+◌, cond, codes, List, [], ◌∷◌, ◌++◌, Option, Some, None, option_map, unwrap_or, slice_get}
use Rattle.std.specs.List.{flat_map}
use Rattle.ob_object.specs.Object.{Object}
use Rattle.ob_contracts.specs.Inherit.{or_else}
use Rattle.ob_alarms.specs.AlarmObjects.{alarm_path, ack_child}
use Rattle.ob_alarms.specs.States.{needs_ack}
use Rattle.ob_alarms.specs.declared.alarm.Alarm.{Alarm}
use Rattle.ob_alarms.specs.declared.rule.Rule.{Rule}
use Rattle.ob_site_rules.specs.Build.{Path, nameless}
use Rattle.ob_site_rules.specs.declared.fault.Fault.TheVariants.{NoSuchObject}
use Rattle.ob_site_rules.specs.Faults.{err}
use Rattle.ob_site_rules.specs.declared.plan.Plan.{Plan}
use Rattle.ob_site_rules.specs.State.{State, at, board}
use Rattle.ob_site_rules.specs.Paths.{below, about_path, batch_path, service_path, make_path, ack_path}
use Rattle.ob_site_rules.specs.Shown.{shown}
use Rattle.ob_site_rules.specs.Entries.{alarm_object}
use Rattle.ob_site_rules.specs.Computed.{about_object, batch_op, service_object, make_op}
use Rattle.ob_site_rules.specs.declared.resource.Resource.{Resource}
use Rattle.ob_site_rules.specs.declared.resource.Resource.TheVariants.{About, Batch, Service, Make, AlarmAt, AckOf, WritePointOf, QueryOf, FeedOf, AlarmQuery, AlarmFeed, Node}

-- the places that every site has: About, batch, the watch service, make
abbrev pub fixed_places : Plan → List (Path × Resource)
fixed_places plan = (about_path plan, About) ∷ (batch_path plan, Batch) ∷ (service_path plan, Service) ∷ (make_path plan, Make) ∷ []

-- the op `writePoint` of each writable point
abbrev pub point_places : Plan → List (Path × Resource)
point_places plan = flat_map (λ p. (below p (codes "writePoint"), WritePointOf p) ∷ []) plan.points

-- the op `query` and the feed `feed` of each history
abbrev pub history_places : Plan → List (Path × Resource)
history_places plan = flat_map (λ h. (below h.0 (codes "query"), QueryOf h.0) ∷ (below h.0 (codes "feed"), FeedOf h.0) ∷ []) plan.histories

-- the op `query` and the feed `feed` of the alarm subject, if there is one
abbrev pub subject_places : Option Path → List (Path × Resource)
subject_places None = []
subject_places (Some p) = (below p (codes "query"), AlarmQuery) ∷ (below p (codes "feed"), AlarmFeed) ∷ []

-- an alarm has a path, and one for its op `ack` where it needs acknowledgement
abbrev pub alarm_places : Plan → List Rule → ℕ → List Alarm → List (Path × Resource)
alarm_places plan rules n [] = []
alarm_places plan rules n (a ∷ alarms) =
    (alarm_path plan.root n, AlarmAt n)
    ∷ cond (needs_ack (slice_get rules a.rule)) ((ack_path plan n, AckOf n) ∷ []) []
    ++ alarm_places plan rules (n + 1) alarms

-- the ops and feeds of histories and of the alarm subject
abbrev pub event_places : Plan → List (Path × Resource)
event_places plan = history_places plan ++ subject_places plan.subject

-- all paths that are computed, but those of watches
abbrev pub computed_places : Plan → State → List (Path × Resource)
computed_places plan s =
    fixed_places plan ++ (point_places plan ++ (event_places plan ++ alarm_places plan (board plan s).rules 1 s.alarms))

-- what is at a path: what is computed there, or else the node that is shown there
abbrev pub place_at : Plan → State → Path → Option Resource
place_at plan s p = or_else (at p (computed_places plan s)) (option_map Node (shown plan s p))

-- what is shown at a path, or else this; a reply's root has no name
abbrev pub reply_at : Plan → State → Path → Object → Object
reply_at plan s p default = nameless (unwrap_or (shown plan s p) default)

-- The answer to a Get. The batch of a lobby is shown as the root's child, and that of another root is the op alone.
abbrev pub object_at : Plan → State → ℕ → Path → Resource → Object
object_at plan s now p About = about_object plan now
object_at plan s now p Batch = reply_at plan s p (batch_op plan)
object_at plan s now p Service = service_object plan
object_at plan s now p Make = nameless (make_op plan)
object_at plan s now p (AlarmAt n) = alarm_object (board plan s) n
object_at plan s now p (AckOf n) = nameless (ack_child (alarm_path plan.root n))
object_at plan s now p (Node o) = nameless o
object_at plan s now p _ = reply_at plan s p (err NoSuchObject)
