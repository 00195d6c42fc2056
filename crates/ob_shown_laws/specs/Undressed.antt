-- The own objects of a root in which the children that roles derive and the status of each source stand as well.
use Rattle.std.specs.Prelude.{◌≡◌, ℕ, ◌+◌, ◌-◌, true, cond, ◌&&◌, List, take, length, Option, Some, None, slice_get}
use Rattle.std.specs.Str.{bytes_eq}
use Rattle.ob_object.specs.declared.status.Status.{Status}
use Rattle.ob_object.specs.declared.head.Head.{Head}
use Rattle.ob_object.specs.declared.head.Slot.{Slot}
use Rattle.ob_object.specs.Object.{Objects, none, node, Object, listed, in_row}
use Rattle.ob_object.specs.Paths.{is_path, node_path}
use Rattle.ob_site_rules.specs.Build.{Path}
use Rattle.ob_site_rules.specs.Shown.{rule_of, dressed}
use Rattle.ob_site_rules.specs.State.{State, is_among}
use Rattle.ob_site_rules.specs.declared.plan.Plan.{Plan}
use Rattle.ob_site_rules.specs.Writes.{with_slot}
use Rattle.ob_shown_laws.specs.Alike.{row, paths_of}
use Rattle.ob_shown_laws.specs.Changed.{is_in, PathsDiffer}

-- how many children the roles of a node derive, where these are the histories
abbrev pub derived_count : Plan → List Path → Option Path → ℕ
derived_count plan histories None = 0
derived_count plan histories (Some p) =
    cond (plan.lobby && bytes_eq p plan.root) 3 0
    + (cond (is_among p plan.points) 1 0 + (cond (is_among p histories) 5 0 + cond (is_path p plan.subject) 3 0))

-- the place of the rule whose source has this path
abbrev pub rule_at : Plan → Option Path → Option ℕ
rule_at plan None = None
rule_at plan (Some p) = rule_of plan p

-- the own status of the source of a rule, by the list of them in the order of the rules; any other status is own
abbrev pub kept_status : Option (Option Status) → Option Status
kept_status None = None
kept_status (Some o) = o

-- the status that was there before that of a rule took its place
abbrev pub own_status : List (Option Status) → Option ℕ → Option Status → Option Status
own_status statuses None shown = shown
own_status statuses (Some rule) shown = kept_status (slice_get statuses rule)

-- a head with its own status again
abbrev pub own_head : Plan → List (Option Status) → Head → Head
own_head plan statuses h =
    record h { facets = record h.facets { status = own_status statuses (rule_at plan (node_path h)) h.facets.status } }

-- a row without its last objects, so many
abbrev pub all_but : ℕ → Objects → Objects
all_but n r = in_row (take (length (listed r) - n) (listed r))

-- a row with its own statuses again, and without the children that roles derive
abbrev pub own_row : Plan → List Path → List (Option Status) → Objects → Objects
own_row plan histories statuses none = none
own_row plan histories statuses (node h inner rest) =
    node
    (own_head plan statuses h)
    (all_but (derived_count plan histories (node_path h)) (own_row plan histories statuses inner))
    (own_row plan histories statuses rest)

-- an object with its own status again, and without the children that roles derive
abbrev pub own_object : Plan → List Path → List (Option Status) → Object → Object
own_object plan histories statuses o = record {
  head = own_head plan statuses o.head;
  inner = all_but (derived_count plan histories (node_path o.head)) (own_row plan histories statuses o.inner);
}

-- these are the own statuses of the sources
abbrev pub HasStatuses : Plan → List (Option Status) → Objects → Type 0
HasStatuses plan statuses none = Unit {0}
HasStatuses plan statuses (node h inner rest) =
    (own_status statuses (rule_at plan (node_path h)) h.facets.status ≡ h.facets.status)
    × HasStatuses plan statuses inner
    × HasStatuses plan statuses rest

-- From the root as it is dressed the own objects are had back; and a slot that is set in it at an own node is set in them.
pub record IsHadBack (plan : Plan) (s : State) : Type 0 where
  pub own : (statuses : List (Option Status)) → HasStatuses plan statuses (row s.tree)
      → own_object plan (paths_of s.logs) statuses (dressed plan s) ≡ s.tree
  pub slot : (p : Path) (slot : Slot) → PathsDiffer (row (dressed plan s)) → is_in p (row s.tree) ≡ true
      → with_slot p slot (dressed plan s) ≡ dressed plan (record s { tree = with_slot p slot s.tree })

-- law: of every state
abbrev pub OwnIsHadBack : Type 0
OwnIsHadBack = (plan : Plan) (s : State) → IsHadBack plan s
