-- How far a dialogue has come, and what is asked next.
use Rattle.std.specs.Prelude.{ℕ, ◌+◌, Bool, true, false, cond, nat_lt, codes, List, [], Option, Some, None, option_map, unwrap_or}
use Rattle.url.specs.Parts.{Parts}
use Rattle.ob_values.specs.declared.verb.Verb.TheVariants.{Post}
use Rattle.ob_object.specs.Object.{Object}
use Rattle.ob_watching.specs.WatchOuts.{Text, Held}
use Rattle.ob_client.specs.Mirrors.{Asks, replied}
use Rattle.ob_console.specs.Acks.{ack_in}
use Rattle.ob_dialogue.specs.Plans.{DialoguePlan, Place, Request, child_place}
-- what is asked of a watch
pub use Rattle.ob_asking.specs.Watches.{watch_in, get}
-- the ops of a watch that are called; the refresh where broken polls are mended
pub use Rattle.ob_dialogue.specs.declared.stage.Ops.{Ops}

-- a watch: its ops, the hrefs that are added, what is held of it, and how many polls were answered
pub record Watching : Type 0 where
  pub ops : Ops
  pub asked : List Text
  pub held : List Held
  pub polled : ℕ

-- what is asked next
pub data Stage : Type 0 where
  -- the lobby, the watch service, the making of a watch
  Lobby : Place → Stage
  Service : Place → Stage
  Make : Place → Stage
  -- the alarm subject whose feed is to be added
  Subject : Ops → Place → Stage
  -- the add; the acknowledgement of an alarm there, as this user
  Adding : Watching → Stage
  Acking : Watching → (target : Text) → (user : Text) → Stage
  -- a poll; a refresh in place of one that was broken
  Polling : Watching → Stage
  Mending : Watching → Stage
  -- the end of the watch; nothing more
  Deleting : Watching → Stage
  Over : Stage

abbrev pub post : Place → Option Object → Request
post place body = record { verb = Post; target = place.target; body = body }

-- what is asked at a stage; nothing at the end
abbrev pub request_at : Stage → Option Request
request_at (Lobby place) = Some (get place)
request_at (Service place) = Some (get place)
request_at (Make place) = Some (post place None)
request_at (Subject ops place) = Some (get place)
request_at (Adding w) = Some (post w.ops.add (Some (watch_in w.asked)))
request_at (Acking w target user) = Some (record { verb = Post; target = target; body = Some (ack_in user) })
request_at (Polling w) = Some (post w.ops.changes None)
request_at (Mending w) = Some (post (unwrap_or w.ops.refresh w.ops.changes) None)
request_at (Deleting w) = Some (post w.ops.delete None)
request_at Over = None

-- where broken polls are mended, the refresh is needed
abbrev pub refresh_in : Bool → Parts → Object → Option (Option Place)
refresh_in true url watch = option_map (λ place. Some place) (child_place url watch (codes "pollRefresh"))
refresh_in false url watch = Some None

abbrev pub ops_from : Option Place → Option Place → Option (Option Place) → Option Place → Option Ops
ops_from (Some add) (Some changes) (Some refresh) (Some delete) =
    Some (record { add = add; changes = changes; refresh = refresh; delete = delete })
ops_from _ _ _ _ = None

-- the ops that the document of a watch tells, each of which is needed
abbrev pub ops_of : Bool → Parts → Object → Option Ops
ops_of mends url watch =
    ops_from (child_place url watch (codes "add")) (child_place url watch (codes "pollChanges"))
    (refresh_in mends url watch) (child_place url watch (codes "delete"))

-- a watch that was made
abbrev pub begun : Ops → List Text → Watching
begun ops asked = record { ops = ops; asked = asked; held = []; polled = 0 }

-- what is held once this was answered so: the replay of the replies so far
abbrev pub told : Watching → Asks → Object → Watching
told w asked reply = record { ops = w.ops; asked = w.asked; held = replied asked reply w.held; polled = w.polled }

-- the same of a poll that was answered
abbrev pub polled : Watching → Asks → Object → Watching
polled w asked reply =
    record { ops = w.ops; asked = w.asked; held = replied asked reply w.held; polled = w.polled + 1 }

-- a further poll, or the end
abbrev pub onward : DialoguePlan → Watching → Stage
onward p w = cond (nat_lt w.polled p.polls) (Polling w) (Deleting w)

-- the request is a poll, or a refresh in place of one
abbrev pub is_poll : Stage → Bool
is_poll (Polling w) = true
is_poll (Mending w) = true
is_poll _ = false

-- what is asked on the next link once a poll was broken: a refresh
abbrev pub mended : Stage → Stage
mended (Polling w) = Mending w
mended s = s
