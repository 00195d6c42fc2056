-- What a site shows at a path. Source: oBIX 1.1, chapters 4 (Object model), 6 (Naming) and 7 (Contracts).
-- That roles derive children is this profile's own.
use Rattle.std.specs.Prelude.{ℕ, pos, cond, ◌&&◌, codes, List, [], ◌∷◌, ◌++◌, length, Option, Some, None, option_map, slice_get}
use Rattle.std.specs.Str.{bytes_eq}
use Rattle.circular_buffer.specs.Buffer.{last_item}
use Rattle.ob_values.specs.declared.value.Value.TheVariants as value
use Rattle.ob_object.specs.declared.kind.Kind.{Kind}
use Rattle.ob_object.specs.declared.kind.Kind.TheVariants as kind
use Rattle.ob_object.specs.declared.head.Head.{Head}
use Rattle.ob_object.specs.Facets.{no_facets}
use Rattle.ob_object.specs.Object.{Objects, none, node, Object, empty_head, listed, in_row}
use Rattle.ob_object.specs.Paths.{node_path, is_path}
use Rattle.ob_contracts.specs.Inherit.{or_else, only_if, effective_of}
use Rattle.ob_history.specs.declared.records.Record.{Record}
use Rattle.ob_alarms.specs.Lists.{first_place}
use Rattle.ob_alarms.specs.States.{status_of}
use Rattle.ob_site_rules.specs.Build.{Path, leaf, valued, word, ref_to, op_at, feed_at, number_slot, time_slot}
use Rattle.ob_site_rules.specs.State.{Log, State, at, board, is_among}
use Rattle.ob_site_rules.specs.declared.plan.Plan.{Plan}
use Rattle.ob_site_rules.specs.Paths.{below, about_path, batch_path, service_path}

-- what the root has as a lobby (chapter 5, Lobby)
abbrev pub lobby_children : Plan → List Object
lobby_children plan =
    ref_to (codes "about") (about_path plan) (word (codes "obix:About"))
    ∷ op_at (codes "batch") (batch_path plan) (codes "obix:BatchIn") (codes "obix:BatchOut")
    ∷ ref_to (codes "watchService") (service_path plan) (word (codes "obix:WatchService"))
    ∷ []

-- the op of a writable point (chapter 13, Points)
abbrev pub write_point_op : Path → Object
write_point_op p = op_at (codes "writePoint") (below p (codes "writePoint")) (codes "obix:WritePointIn") (codes "obix:Point")

-- how many there are, from 0 on
abbrev pub count_child : ℕ → Object
count_child n = leaf (record (empty_head kind.Int) { name = Some (codes "count"); slot = number_slot n; facets = record no_facets { min = Some (value.Int (pos 0)) } })

-- the oldest of some records, if there is one
abbrev pub first_record : List Record → Option Record
first_record records = slice_get records 0

-- what a history has of its kept records (chapter 14, History)
abbrev pub history_children : Path → List Record → List Object
history_children p records =
    count_child (length records)
    ∷ valued kind.Abstime (codes "start") (time_slot (option_map (λ r. r.time) (first_record records)))
    ∷ valued kind.Abstime (codes "end") (time_slot (option_map (λ r. r.time) (last_item records)))
    ∷ op_at (codes "query") (below p (codes "query")) (codes "obix:HistoryFilter") (codes "obix:HistoryQueryOut")
    ∷ feed_at (codes "feed") (below p (codes "feed")) (codes "obix:HistoryRecord") (codes "obix:HistoryFilter")
    ∷ []

-- what the alarm subject has of the alarms (chapter 15, Alarming)
abbrev pub subject_children : Path → ℕ → List Object
subject_children p alarms =
    count_child alarms
    ∷ op_at (codes "query") (below p (codes "query")) (codes "obix:AlarmFilter") (codes "obix:AlarmQueryOut")
    ∷ feed_at (codes "feed") (below p (codes "feed")) (codes "obix:Alarm") (codes "obix:AlarmFilter")
    ∷ []

-- what a node has that is a history, told by its log
abbrev pub history_part : Path → Option Log → List Object
history_part p None = []
history_part p (Some log) = history_children p log.kept

-- the children that the roles of a node derive, in the order of the roles
abbrev pub derived_at : Plan → State → Path → List Object
derived_at plan s p =
    cond (plan.lobby && bytes_eq p plan.root) (lobby_children plan) []
    ++ (cond (is_among p plan.points) (write_point_op p ∷ []) []
    ++ (history_part p (at p s.logs)
    ++ cond (is_path p plan.subject) (subject_children p (length s.alarms)) []))

-- the children that roles derive, of a node that has a path
abbrev pub derived : Plan → State → Option Path → List Object
derived plan s None = []
derived plan s (Some p) = derived_at plan s p

-- the place of the rule that has this source
abbrev pub rule_of : Plan → Path → Option ℕ
rule_of plan source = first_place (λ r. bytes_eq r.source source) plan.rules

-- the status of a rule's source is that of its alarms, and replaces any other
abbrev pub with_status_by : Plan → State → Head → Option ℕ → Head
with_status_by plan s h None = h
with_status_by plan s h (Some rule) =
    record h { facets = record h.facets { status = Some (status_of (board plan s).rules s.alarms rule) } }

-- a head with the status of the rule whose source this path is, if there are both
abbrev pub with_status_at : Plan → State → Head → Option Path → Head
with_status_at plan s h None = h
with_status_at plan s h (Some p) = with_status_by plan s h (rule_of plan p)

-- a head with the status of the rule whose source its node is, if it is one
abbrev pub with_status : Plan → State → Head → Head
with_status plan s h = with_status_at plan s h (node_path h)

-- own objects with the status of each source, and behind the own children of each node those that its roles derive
abbrev pub with_roles : Plan → State → Objects → Objects
with_roles plan s none = none
with_roles plan s (node h inner rest) =
    node (with_status plan s h) (in_row (listed (with_roles plan s inner) ++ derived plan s (node_path h))) (with_roles plan s rest)

-- the root with the status of each source and the children that roles derive
abbrev pub dressed : Plan → State → Object
dressed plan s = record {
  head = with_status plan s s.tree.head;
  inner = in_row (listed (with_roles plan s s.tree.inner) ++ derived plan s (node_path s.tree.head));
}

-- the root with all that is in it, and all that it inherits
abbrev pub shown_root : Plan → State → Object
shown_root plan s = effective_of s.library (dressed plan s) None None

-- The node at a path among the objects of a row, at every depth. Inherited copies have no hrefs, so only own and
-- derived objects are found.
abbrev pub node_in : Path → Objects → Option Object
node_in p none = None
node_in p (node h inner rest) =
    or_else (only_if (is_path p (node_path h)) (Some (record { head = h; inner = inner }))) (or_else (node_in p inner) (node_in p rest))

-- the node at a path in an object, itself counted
abbrev pub node_of : Path → Object → Option Object
node_of p o = node_in p (node o.head o.inner none)

-- the part of the shown root that is the node at a path
abbrev pub shown : Plan → State → Path → Option Object
shown plan s p = node_of p (shown_root plan s)
