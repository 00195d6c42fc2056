-- Which nodes show themselves otherwise in another state, and which watched objects those changes reach.
use Rattle.std.specs.Prelude.{◌≡◌, Bool, true, false, not, ◌&&◌, ◌||◌, List, length, Option, Some, None, is_some, option_map}
use Rattle.std.specs.List.{list_any}
use Rattle.circular_buffer.specs.Buffer.{last_item}
use Rattle.ob_object.specs.declared.kind.Kind.TheVariants as kind
use Rattle.ob_object.specs.declared.head.Head.{Head}
use Rattle.ob_object.specs.declared.head.Slot.{Slot}
use Rattle.ob_object.specs.Kinds.{same_kind}
use Rattle.ob_object.specs.Object.{Objects, none, node, Object}
use Rattle.ob_object.specs.Paths.{is_path, node_path}
use Rattle.ob_contracts.specs.Inherit.{inherited_head, head_with_default}
use Rattle.ob_site_rules.specs.Build.{Path, number_slot, time_slot}
use Rattle.ob_site_rules.specs.Shown.{first_record}
use Rattle.ob_site_rules.specs.State.{Log, State, at, is_among}
use Rattle.ob_site_rules.specs.declared.plan.Plan.{Plan}
use Rattle.ob_site_rules.specs.Sameness.{same_slot, same_option, same_status, same_object}
use Rattle.ob_site_rules.specs.Sites.{watched_object}
use Rattle.ob_tree.specs.Contexts.{Context, HandedDown, sources_in, handed_down, under}
use Rattle.ob_shown_laws.specs.Standing.{Standing, root_standing, standing_at}
use Rattle.ob_shown_laws.specs.Alike.{row, DifferInValues}

-- the same slot and the same status
abbrev pub same_values : Head → Head → Bool
same_values h k = same_slot h.slot k.slot && same_option same_status h.facets.status k.facets.status

-- what an object of this head shows of itself where it stands
abbrev pub head_in : Context → Head → Head
head_in c h = head_with_default (inherited_head h (sources_in c h))

-- The parts of rows that are no nodes, down to the next nodes, have the same values.
abbrev pub same_leaves : HandedDown → Objects → Objects → Bool
same_leaves r none none = true
same_leaves r none (node k inner more) = false
same_leaves r (node h below rest) none = false
same_leaves r (node h below rest) (node k inner more) =
    (is_some (node_path h)
    || (same_values (head_in (under r h.name) h) (head_in (under r h.name) k)
    && same_leaves (handed_down (under r h.name) h) below inner))
    && same_leaves r rest more

-- A node shows itself as before: its own values, and those of the parts of it that are no nodes. The nodes in it count for
-- themselves.
abbrev pub same_node : Context → Object → Object → Bool
same_node c o q = same_values (head_in c o.head) (head_in c q.head) && same_leaves (handed_down c o.head) o.inner q.inner

-- and so where it stands: what isn't there in either state has nothing to show
abbrev pub same_standing : Option Standing → Option Standing → Bool
same_standing None other = true
same_standing (Some x) None = true
same_standing (Some x) (Some y) = same_node x.context x.object y.object

-- the node at a path shows itself otherwise in the second state
abbrev pub differs : Plan → State → State → Path → Bool
differs plan s t p = not (same_standing (standing_at plan s p) (standing_at plan t p))

-- the slots in which a history shows the time of its first and of its last record
abbrev pub start_slot : Log → Slot
start_slot l = time_slot (option_map (λ r. r.time) (first_record l.kept))

-- the time of a log's last record, as the child `end` shows it
abbrev pub end_slot : Log → Slot
end_slot l = time_slot (option_map (λ r. r.time) (last_item l.kept))

-- what two logs show of a history: the count, the start and the end (oBIX 1.1, section 14.1)
abbrev pub same_log : Option Log → Option Log → Bool
same_log None other = true
same_log (Some l) None = true
same_log (Some l) (Some m) =
    same_slot (number_slot (length l.kept)) (number_slot (length m.kept))
    && (same_slot (start_slot l) (start_slot m) && same_slot (end_slot l) (end_slot m))

-- what roles derive of an own node shows the same: its history, and the count of alarms if it is their subject
abbrev pub same_derived : Plan → State → State → Path → Bool
same_derived plan s t p =
    same_log (at p s.logs) (at p t.logs)
    && (not (is_path p plan.subject) || same_slot (number_slot (length s.alarms)) (number_slot (length t.alarms)))

-- a node of this path is in a row, at any depth
abbrev pub is_in : Path → Objects → Bool
is_in p none = false
is_in p (node h inner rest) = is_path p (node_path h) || (is_in p inner || is_in p rest)

-- no two nodes of a row have one path
abbrev pub PathsDiffer : Objects → Type 0
PathsDiffer none = Unit {0}
PathsDiffer (node h inner rest) =
    ((p : Path) → is_path p (node_path h) ≡ true → (is_in p inner || is_in p rest) ≡ false)
    × ((p : Path) → is_in p inner ≡ true → is_in p rest ≡ false)
    × PathsDiffer inner
    × PathsDiffer rest

-- an object is that node, or has it in it
abbrev pub is_round : Path → Object → Bool
is_round p o = is_path p (node_path o.head) || is_in p o.inner

-- feeds and errs are shown to no watch as objects
abbrev pub is_watchable : Head → Bool
is_watchable h = not (same_kind h.kind kind.Feed) && not (same_kind h.kind kind.Err)

-- one of these nodes is this one or is in it
abbrev pub reaches : List Path → Option Standing → Bool
reaches touched None = false
reaches touched (Some x) = is_watchable x.object.head && list_any (λ p. is_round p x.object) touched

-- these are the nodes that show themselves otherwise in the second state
abbrev pub AreTouched : Plan → State → State → List Path → Type 0
AreTouched plan s t touched = (p : Path) → is_among p touched ≡ differs plan s t p

-- What a watch shows of a node has changed exactly where one of the nodes that show themselves otherwise is this node or is
-- in it.
abbrev pub ChangesReachWatched : Type 0
ChangesReachWatched = (plan : Plan) (s t : State) → DifferInValues s t
    → PathsDiffer (row (root_standing plan s).object)
    → (touched : List Path) → AreTouched plan s t touched
    → (p : Path)
    → same_object (watched_object plan s p) (watched_object plan t p) ≡ not (reaches touched (standing_at plan s p))
