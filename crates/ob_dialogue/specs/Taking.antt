-- What a reply gives: what is printed, and what is asked next.
use Rattle.std.specs.Prelude.{ℕ, Bool, false, cond, nat_lt, codes, List, [], ◌∷◌, ◌++◌, Option, Some, None, Result, Ok, Err, option_and_then, option_map, is_some}
use Rattle.std.specs.Option.{option_map_or}
use Rattle.url.specs.Parts.{Parts}
use Rattle.ob_console.specs.declared.ack_call.AckFault.{AckFault}
use Rattle.ob_object.specs.Object.{Object}
use Rattle.ob_watching.specs.Operations.{Add, PollChanges, PollRefresh}
use Rattle.ob_watching.specs.WatchOuts.{Text}
use Rattle.ob_client.specs.Entries.{is_err, entries_once}
use Rattle.ob_client.specs.Mirrors.{all_follow}
use Rattle.ob_console.specs.Acks.{op_of, leads_to}
use Rattle.ob_dialogue.specs.Plans.{DialoguePlan, Topic, Place, place_at, child_place}
use Rattle.ob_dialogue.specs.declared.plan.Topic.TheVariants as topics
use Rattle.ob_dialogue.specs.Stages.{Ops, Watching, Stage, Lobby, Service, Make, Subject, Adding, Acking, Polling, Mending, Deleting, Over, ops_of, begun, told, polled, onward}
use Rattle.ob_dialogue.specs.Printing.{body_text, board_in, add_heading, poll_heading, errs_text}
use Rattle.ob_dialogue.specs.declared.ending.Peer.{Peer}
use Rattle.ob_dialogue.specs.declared.ending.Peer.TheVariants as peer

-- what is printed, and the next stage or why there is none
pub record Taken : Type 0 where
  pub lines : List ℕ
  pub next : Result Stage Peer

-- the next stage; where something that is needed isn't there, the reply's form is wrong
abbrev pub or_shape : Option Stage → Result Stage Peer
or_shape None = Err peer.Shape
or_shape (Some stage) = Ok stage

abbrev pub silent : Option Stage → Taken
silent next = record { lines = []; next = or_shape next }

-- once the watch is made: the hrefs are added, or the subject is asked for
abbrev pub to_watch : Parts → Topic → Option Ops → Option Stage
to_watch url watched None = None
to_watch url (topics.Watch hrefs) (Some ops) = Some (Adding (begun ops hrefs))
to_watch url (topics.Console subject ack user) (Some ops) = option_map (λ place. Subject ops place) (place_at url subject)

-- the feed is added under the path to which its href leads
abbrev pub to_feed : Ops → Option Place → Option Stage
to_feed ops feed = option_map (λ place. Adding (begun ops (place.target ∷ []))) feed

abbrev pub where_led : Result Text AckFault → Option Text
where_led (Ok target) = Some target
where_led (Err fault) = None

-- where the alarm of the board is acknowledged, if it is there with an op for it that leads to the same server
abbrev pub ack_target : Watching → Text → Option Text
ack_target w href = option_and_then (λ board. where_led (leads_to w.ops.add.url (op_of board href))) (board_in w)

-- behind the add: the acknowledgement, if one is wanted
abbrev pub acked : DialoguePlan → Topic → Watching → Option Stage
acked p (topics.Watch hrefs) w = Some (onward p w)
acked p (topics.Console subject None user) w = Some (onward p w)
acked p (topics.Console subject (Some href) user) w = option_map (λ target. Acking w target user) (ack_target w href)

-- under a heading what is held, and behind it the next stage
abbrev pub printed : List ℕ → List ℕ → Option (List ℕ) → Option Stage → Taken
printed heading more None next = silent None
printed heading more (Some body) next = record { lines = heading ++ (body ++ more); next = or_shape next }

abbrev pub has_entries : Object → Bool
has_entries reply = is_some (entries_once reply)

-- the reply to pollChanges is a WatchOut of entries that can be counted
abbrev pub follows_all : Watching → Object → Bool
follows_all w reply = option_map_or (λ os. all_follow w.held os) (entries_once reply) false

abbrev pub on_add : DialoguePlan → Watching → Object → Taken
on_add p w reply =
    let next : Watching = told w (Add []) reply in
    printed add_heading (errs_text p.topic reply) (body_text p.topic next) (acked p p.topic next)

abbrev pub on_poll : DialoguePlan → Watching → Taken
on_poll p w = printed (poll_heading w.polled) [] (body_text p.topic w) (Some (onward p w))

-- what a reply that is no err gives at a stage
abbrev pub taken_at : DialoguePlan → Stage → Object → Taken
taken_at p (Lobby place) o = silent (option_map Service (child_place place.url o (codes "watchService")))
taken_at p (Service place) o = silent (option_map Make (child_place place.url o (codes "make")))
taken_at p (Make place) o = silent (to_watch p.url p.topic (ops_of (nat_lt 0 p.retries) place.url o))
taken_at p (Subject ops place) o = silent (to_feed ops (child_place place.url o (codes "feed")))
taken_at p (Adding w) o = cond (has_entries o) (on_add p w o) (silent None)
taken_at p (Acking w target user) o = silent (Some (onward p w))
taken_at p (Polling w) o = cond (follows_all w o) (on_poll p (polled w PollChanges o)) (silent None)
taken_at p (Mending w) o = cond (has_entries o) (on_poll p (polled w PollRefresh o)) (silent None)
taken_at p (Deleting w) o = silent (Some Over)
taken_at p Over o = silent (Some Over)

-- what a reply gives at a stage; an err ends the dialogue
unfoldable pub taken : DialoguePlan → Stage → Object → Taken
taken p s o = cond (is_err o) (record { lines = []; next = Err (peer.Err o) }) (taken_at p s o)
