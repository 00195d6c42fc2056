-- What log of a site's definitions an `OpenedLog` is, and what a state owes its plan, part by part.
use Rattle.std.specs.Prelude.{◌≡◌, ℕ, ◌<◌, ◌^◌, Bool, true, false, not, ◌++◌, List, [], ◌∷◌, Option, Some, None, slice_get}
use Rattle.ob_object.specs.declared.kind.Kind.{Kind}
use Rattle.ob_object.specs.declared.kind.Kind.TheVariants as kind
use Rattle.ob_object.specs.Object.{Objects, none, node, listed}
use Rattle.ob_object.specs.WellFormed.{NamesDiffer}
use Rattle.ob_object.specs.Paths.{node_path}
use Rattle.ob_alarms.specs.declared.rule.Num.{Num}
use Rattle.ob_alarms.specs.declared.rule.Num.TheVariants as num
use Rattle.ob_alarms.specs.declared.rule.Rule.{Rule}
use Rattle.ob_site_rules.specs.declared.plan.Plan.{Plan}
use Rattle.ob_site_rules.specs.State.{State as SiteState, Log as SiteLog, numbered_from}
use Rattle.ob_site_rules.specs.Build.{Path}
use Rattle.ob_site_rules.specs.Shown.{derived, rule_of}
use Rattle.ob_site_rules.specs.Writes.{events_ever}
use Rattle.ob_plain_state.specs.declared.log.OpenedLog.{OpenedLog}

-- a log as the definitions have it
abbrev pub log_of : OpenedLog → SiteLog
log_of l = record { capacity = l.capacity; gone = l.gone; kept = l.kept.items }

-- a log under its path
abbrev pub entry_of : Path × OpenedLog → Path × SiteLog
entry_of e = (e.0, log_of e.1)

-- In each row the names of the own children differ, from one another and from those that the roles of their parent derive.
abbrev pub NamesAreFree : Plan → SiteState → Objects → Type 0
NamesAreFree plan s none = Unit {0}
NamesAreFree plan s (node h inner rest) =
    NamesDiffer (listed inner ++ derived plan s (node_path h)) × NamesAreFree plan s inner × NamesAreFree plan s rest

-- the events of each history can be counted
abbrev pub AreCounted : List (Path × SiteLog) → Type 0
AreCounted [] = Unit {0}
AreCounted (l ∷ ls) = (events_ever l.1 < 2 ^ 63) × AreCounted ls

-- the rule of a node, by its path
abbrev pub rule_in : Plan → Option ℕ → Option Rule
rule_in plan None = None
rule_in plan (Some place) = slice_get (numbered_from 0 plan.rules) place

-- the rule whose source has this path, if there are both
abbrev pub rule_at : Plan → Option Path → Option Rule
rule_at plan None = None
rule_at plan (Some p) = rule_in plan (rule_of plan p)

-- whether a number is that of an int
abbrev pub is_int : Num → Bool
is_int (num.Int i) = true
is_int (num.Real r) = false

-- numbers of a kind are held against limits of that kind
abbrev pub limits_fit : Kind → Option Rule → Bool
limits_fit k None = true
limits_fit kind.Int (Some r) = is_int r.low
limits_fit kind.Real (Some r) = not (is_int r.low)
limits_fit _ (Some r) = true

-- nodes at one path are of one kind
abbrev pub IsOfKindAt : (Path → Kind) → Option Path → Kind → Type 0
IsOfKindAt kind_at None k = Unit {0}
IsOfKindAt kind_at (Some p) k = k ≡ kind_at p

-- each node of a row is of the kind that its path tells
abbrev pub NodesAre : (Path → Kind) → Objects → Type 0
NodesAre kind_at none = Unit {0}
NodesAre kind_at (node h inner rest) =
    IsOfKindAt kind_at (node_path h) h.kind × NodesAre kind_at inner × NodesAre kind_at rest
