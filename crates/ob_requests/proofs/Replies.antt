-- The reply to one action has no name.
use Rattle.std.proofs.Common.{◌≡◌, ℕ, Bool, true, false, cond, List, refl}
use Rattle.std.specs.Prelude.{codes, Option, Some, None, is_none, unwrap_or, option_map}
use Rattle.std.specs.Option.{option_or}
use Rattle.url.specs.Parts.{Parts}
use Rattle.ob_values.specs.declared.verb.Verb.{Verb}
use Rattle.ob_values.specs.declared.verb.Verb.TheVariants.{Get, Put, Post}
use Rattle.ob_object.specs.Object.{Object}
use Rattle.ob_history.specs.declared.records.Query.{Query}
use Rattle.ob_history.specs.Filters.{filter_of}
use Rattle.ob_history.specs.Queries.{query_of}
use Rattle.ob_alarms.specs.Changes.{State as Board, alarm_of}
use Rattle.ob_site_rules.specs.declared.request.Request.{Request}
use Rattle.ob_site_rules.specs.Build.{Text, Path}
use Rattle.ob_site_rules.specs.declared.fault.Fault.{Fault}
use Rattle.ob_site_rules.specs.declared.fault.Fault.TheVariants.{OtherShape, NotInBatch}
use Rattle.ob_site_rules.specs.Faults.{err}
use Rattle.ob_site_rules.specs.declared.plan.Plan.{Plan}
use Rattle.ob_site_rules.specs.State.{Log, State, at, board, with_board}
use Rattle.ob_site_rules.specs.Shown.{shown}
use Rattle.ob_site_rules.specs.Computed.{ack_out}
use Rattle.ob_site_rules.specs.Entries.{alarm_object, alarms_out}
use Rattle.ob_site_rules.specs.Places.{object_at, place_at}
use Rattle.ob_site_rules.specs.declared.resource.Resource.{Resource}
use Rattle.ob_site_rules.specs.declared.resource.Resource.TheVariants.{About, AckOf, AlarmAt, AlarmFeed, AlarmQuery, Batch, FeedOf, Make, Node, QueryOf, Service, WritePointOf}
use Rattle.ob_site_rules.specs.Writes.{target_fault, value_fault, given_by, showing, unless, written, put, write_by}
use Rattle.ob_site_rules.specs.Posts.{ack_fault, acked, acknowledge, user_in, call, child_of_obj, log_out, or_nil, query, write_point}
use Rattle.ob_site_rules.specs.Actions.{act_at, act_item, is_left_out, item_at, item_on, put_at}
use Rattle.ob_site_rules.proofs.AlarmNames.{by_alarm}

-- a state and a reply without a name
abbrev pub IsPlain : State × Object → Type 0
IsPlain done = is_none done.1.head.name ≡ true

unless_plain : (f : Option Fault) (s : State) (done : State × Object) → IsPlain done → IsPlain (unless f s done)
unless_plain None s done h = h
unless_plain (Some f) s done h = refl

query_plain : {Asked : Type 0} (out : Asked → Object) (asked : Option Asked) → ((a : Asked) → is_none (out a).head.name ≡ true) → is_none (query out asked).head.name ≡ true
query_plain out None h = refl
query_plain out (Some a) h = h a

log_plain : (log : Option Log) (q : Query) → is_none (log_out log q).head.name ≡ true
log_plain None q = refl
log_plain (Some l) q = refl

write_by_plain : (plan : Plan) (s : State) (now : ℕ) (p : Path) (o : Object) (fault : Option Fault) (body : Object) → IsPlain (write_by plan s now p o fault body)
write_by_plain plan s now p o fault body =
    unless_plain (option_or fault (value_fault plan s now p o.head (given_by s body))) s (showing plan p o (written plan now p o (given_by s body).slot s)) refl

write_point_plain : (plan : Plan) (s : State) (now : ℕ) (p : Path) (v : Option Object) → IsPlain (write_point plan s now p v)
write_point_plain plan s now p None = refl
write_point_plain plan s now p (Some new) = write_by_plain plan s now p (unwrap_or (shown plan s p) new) None new

ack_plain : (plan : Plan) (s : State) (now n : ℕ) (input : Object) → IsPlain (acknowledge plan s now n input)
ack_plain plan s now n input =
    let b : Board = acked (board plan s) n (user_in input) now in
    unless_plain (ack_fault plan s now n input) s (with_board s b, ack_out (alarm_object b n)) refl

put_plain : (plan : Plan) (s : State) (now : ℕ) (p : Path) (o : Object) (body : Option Object) → IsPlain (put plan s now p o body)
put_plain plan s now p o None = faulty (target_fault o.head)
  where
    faulty : (f : Option Fault) → IsPlain (unless (option_or f (Some OtherShape)) s (s, o))
    faulty None = refl
    faulty (Some f) = refl
put_plain plan s now p o (Some body) = write_by_plain plan s now p o (target_fault o.head) body

call_plain : (plan : Plan) (s : State) (now : ℕ) (place : Resource) (input : Option Object) → IsPlain (call plan s now place input)
call_plain plan s now (AckOf n) input = ack_plain plan s now n (or_nil input)
call_plain plan s now (WritePointOf p) input = write_point_plain plan s now p (child_of_obj (codes "value") (or_nil input))
call_plain plan s now (QueryOf h) input = query_plain (log_out (at h s.logs)) (query_of input) (log_plain (at h s.logs))
call_plain plan s now AlarmQuery input = query_plain (alarms_out (board plan s)) (filter_of input) (λ g. refl)
call_plain plan s now About input = refl
call_plain plan s now Batch input = refl
call_plain plan s now Service input = refl
call_plain plan s now Make input = refl
call_plain plan s now (AlarmAt n) input = refl
call_plain plan s now (FeedOf h) input = refl
call_plain plan s now AlarmFeed input = refl
call_plain plan s now (Node o) input = refl

get_plain : (plan : Plan) (s : State) (now : ℕ) (p : Path) (place : Resource) → is_none (object_at plan s now p place).head.name ≡ true
get_plain plan s now p About = refl
get_plain plan s now p Batch = refl
get_plain plan s now p Service = refl
get_plain plan s now p Make = refl
get_plain plan s now p (AlarmAt n) = by_alarm (board plan s) n (alarm_of n (board plan s).alarms)
get_plain plan s now p (AckOf n) = refl
get_plain plan s now p (WritePointOf q) = refl
get_plain plan s now p (QueryOf h) = refl
get_plain plan s now p (FeedOf h) = refl
get_plain plan s now p AlarmQuery = refl
get_plain plan s now p AlarmFeed = refl
get_plain plan s now p (Node o) = refl

put_at_plain : (plan : Plan) (s : State) (now : ℕ) (p : Path) (place : Resource) (body : Option Object) → IsPlain (put_at plan s now p place body)
put_at_plain plan s now p (Node o) body = put_plain plan s now p o body
put_at_plain plan s now p About body = refl
put_at_plain plan s now p Batch body = refl
put_at_plain plan s now p Service body = refl
put_at_plain plan s now p Make body = refl
put_at_plain plan s now p (AlarmAt n) body = refl
put_at_plain plan s now p (AckOf n) body = refl
put_at_plain plan s now p (WritePointOf q) body = refl
put_at_plain plan s now p (QueryOf h) body = refl
put_at_plain plan s now p (FeedOf h) body = refl
put_at_plain plan s now p AlarmQuery body = refl
put_at_plain plan s now p AlarmFeed body = refl

act_plain : (plan : Plan) (s : State) (now : ℕ) (p : Path) (verb : Verb) (place : Resource) (body : Option Object) → IsPlain (act_at plan s now p verb place body)
act_plain plan s now p Get place body = get_plain plan s now p place
act_plain plan s now p Put place body = put_at_plain plan s now p place body
act_plain plan s now p Post place body = call_plain plan s now place body

in_batch : (b : Bool) (s : State) (done : State × Object) (f : Fault) → IsPlain done → IsPlain (cond b (s, err f) done)
in_batch true s done f h = refl
in_batch false s done f h = h

by_place : (plan : Plan) (s : State) (ns : List ℕ) (now : ℕ) (r : Request) (p : Path) (place : Option Resource) → IsPlain (item_at plan s ns now r p place)
by_place plan s ns now r p None = refl
by_place plan s ns now r p (Some place) = in_batch (is_left_out place) s (act_at plan s now p r.verb place r.body) NotInBatch (act_plain plan s now p r.verb place r.body)

by_path : (plan : Plan) (s : State) (ns : List ℕ) (now : ℕ) (r : Request) (p : Option Path) → IsPlain (item_on plan s ns now r p)
by_path plan s ns now r None = refl
by_path plan s ns now r (Some p) = by_place plan s ns now r p (place_at plan s p)

pub item_plain : (locate : Parts → Text → Option Path) (plan : Plan) (s : State) (ns : List ℕ) (now : ℕ) (r : Option Request) → IsPlain (act_item locate plan s ns now r)
item_plain locate plan s ns now None = refl
item_plain locate plan s ns now (Some r) = by_path plan s ns now r (locate plan.base r.target)
