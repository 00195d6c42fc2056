-- No request takes an event back, or counts one as gone.
use Rattle.std.proofs.Common.{◌≡◌, ℕ, Bool, true, false, cond, List, [], ◌∷◌, ◌++◌, map, Option, Some, None, refl, sym, ap, ◌∙◌, append-nil, append_assoc}
use Rattle.std.proofs.lemmas.List.{map-append}
use Rattle.std.specs.Prelude.{option_map, find}
use Rattle.std.specs.Str.{bytes_eq}
use Rattle.url.specs.Parts.{Parts}
use Rattle.ob_values.specs.declared.verb.Verb.{Verb}
use Rattle.ob_values.specs.declared.verb.Verb.TheVariants.{Get, Put, Post}
use Rattle.ob_object.specs.declared.kind.Kind.{Kind}
use Rattle.ob_object.specs.declared.head.Slot.{Slot}
use Rattle.ob_object.specs.Object.{Object, children}
use Rattle.ob_history.specs.declared.records.Record.{Record}
use Rattle.ob_alarms.specs.Changes.{State as Board}
use Rattle.ob_watching.specs.Sites.{Site}
use Rattle.ob_site_rules.specs.declared.request.Request.{Request}
use Rattle.ob_site_rules.specs.Build.{Text, Path}
use Rattle.ob_site_rules.specs.declared.fault.Fault.{Fault}
use Rattle.ob_site_rules.specs.declared.fault.Fault.TheVariants.{NotInBatch}
use Rattle.ob_site_rules.specs.Faults.{err}
use Rattle.ob_site_rules.specs.declared.plan.Plan.{Plan}
use Rattle.ob_site_rules.specs.State.{Log, State, at, board, with_board}
use Rattle.ob_site_rules.specs.Sameness.{same_slot}
use Rattle.ob_site_rules.specs.Shown.{rule_of}
use Rattle.ob_site_rules.specs.Entries.{record_object, event_objects}
use Rattle.ob_site_rules.specs.declared.resource.Resource.{Resource}
use Rattle.ob_site_rules.specs.declared.resource.Resource.TheVariants.{About, Batch, Service, Make, AlarmAt, AckOf, WritePointOf, QueryOf, FeedOf, AlarmQuery, AlarmFeed, Node}
use Rattle.ob_site_rules.specs.Places.{place_at, event_places}
use Rattle.ob_site_rules.specs.Writes.{records_from, with_record, number_in, board_by, write, written, unless, write_by, put, given_by, target_fault}
use Rattle.ob_site_rules.specs.Posts.{kept_in, records_of, user_in, or_nil, acked, call, write_point}
use Rattle.ob_site_rules.specs.Actions.{is_post, put_at, act_at, is_left_out, item_at, item_on, item_request, act_item, act_all, batch_or, batch, act_on, act_located}
use Rattle.ob_site_rules.specs.Watched.{events_at, gone_in, gone_at}
use Rattle.ob_site_rules.specs.Sites.{site}
use Rattle.ob_site_laws.specs.SiteLaws.{capacity_in, TellsEvents}
use Rattle.ob_site_laws.proofs.Boards.{taken, on_value_grows, on_ack_grows}
use Rattle.ob_site_laws.proofs.EventsTold.{on_value_told, on_ack_told}

abbrev pub Logs : Type 0
Logs = List (Path × Log)

-- each log and the alarm events have at most more at the end, no log counts more as gone, and the alarms go on telling their events
pub record IsGrown (plan : Plan) (s u : State) : Type 0 where
  pub logs : (h : Path) → (more : List Record) × (records_of u h ≡ records_of s h ++ more)
  pub gone : (h : Path) → gone_in (at h u.logs) ≡ gone_in (at h s.logs)
  pub capacity : (h : Path) → capacity_in (at h u.logs) ≡ capacity_in (at h s.logs)
  pub events : (more : List Object) × (event_objects (board plan u) ≡ event_objects (board plan s) ++ more)
  pub told : TellsEvents (board plan s) → TellsEvents (board plan u)

same : (plan : Plan) (s : State) → IsGrown plan s s
same plan s = record { logs = λ h. ([], sym (append-nil (records_of s h))); gone = λ h. refl; capacity = λ h. refl; events = ([], sym (append-nil (event_objects (board plan s)))); told = λ h. h }

on : (plan : Plan) (s u v : State) → IsGrown plan s u → IsGrown plan u v → IsGrown plan s v
on plan s u v a b = record {
  logs = λ h. ((a.logs h).0 ++ (b.logs h).0, (b.logs h).1 ∙ ap (λ l. l ++ (b.logs h).0) (a.logs h).1 ∙ append_assoc (records_of s h) (a.logs h).0 (b.logs h).0);
  gone = λ h. b.gone h ∙ a.gone h;
  capacity = λ h. b.capacity h ∙ a.capacity h;
  events = (a.events.0 ++ b.events.0, b.events.1 ∙ ap (λ l. l ++ b.events.0) a.events.1 ∙ append_assoc (event_objects (board plan s)) a.events.0 b.events.0);
  told = λ h. b.told (a.told h);
}

abbrev picked : Bool → Path × Log → Option (Path × Log) → Option Log
picked b l others =
    let there : Option (Path × Log) = cond b (Some l) others in
    option_map (λ e. e.1) there

abbrev changed : (Path × Log → Log) → Logs → Logs
changed f ls = map (λ l. (l.0, f l)) ls

abbrev there : Path → Logs → Option (Path × Log)
there h ls = find (λ e. bytes_eq e.0 h) ls

-- a log after more was put behind each
kept_grown : (f : Path × Log → Log) → ((l : Path × Log) → (more : List Record) × ((f l).kept ≡ l.1.kept ++ more)) → (h : Path) (ls : Logs) → (more : List Record) × (kept_in (at h (changed f ls)) ≡ kept_in (at h ls) ++ more)
kept_grown f grown h [] = ([], refl)
kept_grown f grown h (l ∷ ls) = go (bytes_eq l.0 h) (kept_grown f grown h ls)
  where
    go : (b : Bool) → (more : List Record) × (kept_in (at h (changed f ls)) ≡ kept_in (at h ls) ++ more)
        → (more : List Record) × (kept_in (picked b (l.0, f l) (there h (changed f ls))) ≡ kept_in (picked b l (there h ls)) ++ more)
    go true rest = grown l
    go false rest = rest

gone_stays : (f : Path × Log → Log) → ((l : Path × Log) → (f l).gone ≡ l.1.gone) → (h : Path) (ls : Logs) → gone_in (at h (changed f ls)) ≡ gone_in (at h ls)
gone_stays f stays h [] = refl
gone_stays f stays h (l ∷ ls) = go (bytes_eq l.0 h) (gone_stays f stays h ls)
  where
    go : (b : Bool) → gone_in (at h (changed f ls)) ≡ gone_in (at h ls) → gone_in (picked b (l.0, f l) (there h (changed f ls))) ≡ gone_in (picked b l (there h ls))
    go true rest = stays l
    go false rest = rest

capacity_stays : (f : Path × Log → Log) → ((l : Path × Log) → (f l).capacity ≡ l.1.capacity) → (h : Path) (ls : Logs) → capacity_in (at h (changed f ls)) ≡ capacity_in (at h ls)
capacity_stays f stays h [] = refl
capacity_stays f stays h (l ∷ ls) = go (bytes_eq l.0 h) (capacity_stays f stays h ls)
  where
    go : (b : Bool) → capacity_in (at h (changed f ls)) ≡ capacity_in (at h ls) → capacity_in (picked b (l.0, f l) (there h (changed f ls))) ≡ capacity_in (picked b l (there h ls))
    go true rest = stays l
    go false rest = rest

abbrev with_one : Bool → Record → Log → Log
with_one b r l = cond b (with_record r l) l

one_more : (b : Bool) (r : Record) (l : Log) → (more : List Record) × ((with_one b r l).kept ≡ l.kept ++ more)
one_more true r l = (r ∷ [], refl)
one_more false r l = ([], sym (append-nil l.kept))

none_gone : (b : Bool) (r : Record) (l : Log) → (with_one b r l).gone ≡ l.gone
none_gone true r l = refl
none_gone false r l = refl

same_capacity : (b : Bool) (r : Record) (l : Log) → (with_one b r l).capacity ≡ l.capacity
same_capacity true r l = refl
same_capacity false r l = refl

value_grows : (plan : Plan) (b : Board) (rule : Option ℕ) (slot : Slot) (now : ℕ) → (more : List Object) × (event_objects (taken b (board_by rule b slot now)) ≡ event_objects b ++ more)
value_grows plan b None slot now = ([], sym (append-nil (event_objects b)))
value_grows plan b (Some rule) slot now = on_value_grows b rule (number_in slot) now

value_told : (b : Board) (rule : Option ℕ) (slot : Slot) (now : ℕ) → TellsEvents b → TellsEvents (taken b (board_by rule b slot now))
value_told b None slot now h = h
value_told b (Some rule) slot now h = on_value_told b rule (number_in slot) now h

write_grows : (plan : Plan) (now : ℕ) (p : Path) (k : Kind) (slot : Slot) (s : State) → IsGrown plan s (write plan now p k slot s)
write_grows plan now p k slot s = record {
  logs = λ h. kept_grown _ (λ l. one_more (records_from plan p l.0) _ l.1) h s.logs;
  gone = λ h. gone_stays _ (λ l. none_gone (records_from plan p l.0) _ l.1) h s.logs;
  capacity = λ h. capacity_stays _ (λ l. same_capacity (records_from plan p l.0) _ l.1) h s.logs;
  events = value_grows plan (board plan s) (rule_of plan p) slot now;
  told = value_told (board plan s) (rule_of plan p) slot now;
}

written_grows : (plan : Plan) (now : ℕ) (p : Path) (o : Object) (slot : Slot) (s : State) → IsGrown plan s (written plan now p o slot s)
written_grows plan now p o slot s = go (same_slot slot o.head.slot)
  where
    go : (b : Bool) → IsGrown plan s (cond b s (write plan now p o.head.kind slot s))
    go true = same plan s
    go false = write_grows plan now p o.head.kind slot s

ack_grows : (plan : Plan) (number : ℕ) (user : Option Text) (now : ℕ) (s : State) → IsGrown plan s (with_board s (acked (board plan s) number user now))
ack_grows plan number user now s = record {
  logs = λ h. ([], sym (append-nil (records_of s h)));
  gone = λ h. refl;
  capacity = λ h. refl;
  events = on_ack_grows (board plan s) number user now;
  told = on_ack_told (board plan s) number user now;
}

unless_grows : (plan : Plan) (fault : Option Fault) (s : State) (done : State × Object) → IsGrown plan s done.0 → IsGrown plan s (unless fault s done).0
unless_grows plan None s done h = h
unless_grows plan (Some fault) s done h = same plan s

write_by_grows : (plan : Plan) (s : State) (now : ℕ) (p : Path) (o : Object) (fault : Option Fault) (body : Object) → IsGrown plan s (write_by plan s now p o fault body).0
write_by_grows plan s now p o fault body = unless_grows plan _ s _ (written_grows plan now p o (given_by s body).slot s)

put_grows : (plan : Plan) (s : State) (now : ℕ) (p : Path) (o : Object) (body : Option Object) → IsGrown plan s (put plan s now p o body).0
put_grows plan s now p o None = unless_grows plan _ s _ (same plan s)
put_grows plan s now p o (Some body) = write_by_grows plan s now p o (target_fault o.head) body

put_at_grows : (plan : Plan) (s : State) (now : ℕ) (p : Path) (place : Resource) (body : Option Object) → IsGrown plan s (put_at plan s now p place body).0
put_at_grows plan s now p (Node o) body = put_grows plan s now p o body
put_at_grows plan s now p About body = same plan s
put_at_grows plan s now p Batch body = same plan s
put_at_grows plan s now p Service body = same plan s
put_at_grows plan s now p Make body = same plan s
put_at_grows plan s now p (AlarmAt n) body = same plan s
put_at_grows plan s now p (AckOf n) body = same plan s
put_at_grows plan s now p (WritePointOf q) body = same plan s
put_at_grows plan s now p (QueryOf h) body = same plan s
put_at_grows plan s now p (FeedOf h) body = same plan s
put_at_grows plan s now p AlarmQuery body = same plan s
put_at_grows plan s now p AlarmFeed body = same plan s

write_point_grows : (plan : Plan) (s : State) (now : ℕ) (p : Path) (new : Option Object) → IsGrown plan s (write_point plan s now p new).0
write_point_grows plan s now p None = same plan s
write_point_grows plan s now p (Some new) = write_by_grows plan s now p _ None new

call_grows : (plan : Plan) (s : State) (now : ℕ) (place : Resource) (input : Option Object) → IsGrown plan s (call plan s now place input).0
call_grows plan s now (AckOf n) input = unless_grows plan _ s _ (ack_grows plan n (user_in (or_nil input)) now s)
call_grows plan s now (WritePointOf p) input = write_point_grows plan s now p _
call_grows plan s now (Node o) input = same plan s
call_grows plan s now About input = same plan s
call_grows plan s now Batch input = same plan s
call_grows plan s now Service input = same plan s
call_grows plan s now Make input = same plan s
call_grows plan s now (AlarmAt n) input = same plan s
call_grows plan s now (QueryOf h) input = same plan s
call_grows plan s now (FeedOf h) input = same plan s
call_grows plan s now AlarmQuery input = same plan s
call_grows plan s now AlarmFeed input = same plan s

act_at_grows : (plan : Plan) (s : State) (now : ℕ) (p : Path) (verb : Verb) (place : Resource) (body : Option Object) → IsGrown plan s (act_at plan s now p verb place body).0
act_at_grows plan s now p Get place body = same plan s
act_at_grows plan s now p Put place body = put_at_grows plan s now p place body
act_at_grows plan s now p Post place body = call_grows plan s now place body

item_at_grows : (plan : Plan) (s : State) (ns : List ℕ) (now : ℕ) (r : Request) (p : Path) (place : Option Resource) → IsGrown plan s (item_at plan s ns now r p place).0
item_at_grows plan s ns now r p None = same plan s
item_at_grows plan s ns now r p (Some place) = go (is_left_out place)
  where
    go : (b : Bool) → let done : State × Object = cond b (s, err NotInBatch) (act_at plan s now p r.verb place r.body) in IsGrown plan s done.0
    go true = same plan s
    go false = act_at_grows plan s now p r.verb place r.body

item_on_grows : (plan : Plan) (s : State) (ns : List ℕ) (now : ℕ) (r : Request) (p : Option Path) → IsGrown plan s (item_on plan s ns now r p).0
item_on_grows plan s ns now r None = same plan s
item_on_grows plan s ns now r (Some p) = item_at_grows plan s ns now r p (place_at plan s p)

module _ (locate : Parts → Text → Option Path) where
  act_item_grows : (plan : Plan) (s : State) (ns : List ℕ) (now : ℕ) (r : Option Request) → IsGrown plan s (act_item locate plan s ns now r).0
  act_item_grows plan s ns now None = same plan s
  act_item_grows plan s ns now (Some r) = item_on_grows plan s ns now r (locate plan.base r.target)

  act_all_grows : (plan : Plan) (s : State) (ns : List ℕ) (now : ℕ) (os : List Object) → IsGrown plan s (act_all locate plan s ns now os).0
  act_all_grows plan s ns now [] = same plan s
  act_all_grows plan s ns now (o ∷ os) =
      let u : State = (act_item locate plan s ns now (item_request o)).0 in
      on plan s u _ (act_item_grows plan s ns now (item_request o)) (act_all_grows plan u ns now os)

  batch_or_grows : (fault : Option Fault) (plan : Plan) (s : State) (ns : List ℕ) (now : ℕ) (body : Object) → IsGrown plan s (batch_or locate fault plan s ns now body).0
  batch_or_grows (Some fault) plan s ns now body = same plan s
  batch_or_grows None plan s ns now body = act_all_grows plan s ns now (children body)

  batch_grows : (plan : Plan) (s : State) (ns : List ℕ) (now : ℕ) (body : Option Object) → IsGrown plan s (batch locate plan s ns now body).0
  batch_grows plan s ns now None = same plan s
  batch_grows plan s ns now (Some body) = batch_or_grows _ plan s ns now body

  act_on_grows : (plan : Plan) (s : State) (ns : List ℕ) (now : ℕ) (r : Request) (p : Path) (place : Option Resource) → IsGrown plan s (act_on locate plan s ns now r p place).0
  act_on_grows plan s ns now r p None = same plan s
  act_on_grows plan s ns now r p (Some Batch) = go (is_post r.verb)
    where
      go : (b : Bool) → let done : State × Object = cond b (batch locate plan s ns now r.body) (act_at plan s now p r.verb Batch r.body) in IsGrown plan s done.0
      go true = batch_grows plan s ns now r.body
      go false = act_at_grows plan s now p r.verb Batch r.body
  act_on_grows plan s ns now r p (Some place) = act_at_grows plan s now p r.verb place r.body

  act_located_grows : (plan : Plan) (s : State) (ns : List ℕ) (now : ℕ) (r : Request) (p : Option Path) → IsGrown plan s (act_located locate plan s ns now r p).0
  act_located_grows plan s ns now r None = same plan s
  act_located_grows plan s ns now r (Some p) = act_on_grows plan s ns now r p (place_at plan s p)

  -- what is shown as the events of a feed only grows
  events_grow : (plan : Plan) (s u : State) → IsGrown plan s u → (place : Option Resource) → (more : List Object) × (events_at plan u place ≡ events_at plan s place ++ more)
  events_grow plan s u g (Some (FeedOf h)) = (map record_object (g.logs h).0, ap (map record_object) (g.logs h).1 ∙ map-append record_object (records_of s h) (g.logs h).0)
  events_grow plan s u g (Some AlarmFeed) = g.events
  events_grow plan s u g None = ([], refl)
  events_grow plan s u g (Some (Node o)) = ([], refl)
  events_grow plan s u g (Some About) = ([], refl)
  events_grow plan s u g (Some Batch) = ([], refl)
  events_grow plan s u g (Some Service) = ([], refl)
  events_grow plan s u g (Some Make) = ([], refl)
  events_grow plan s u g (Some (AlarmAt n)) = ([], refl)
  events_grow plan s u g (Some (AckOf n)) = ([], refl)
  events_grow plan s u g (Some (WritePointOf q)) = ([], refl)
  events_grow plan s u g (Some (QueryOf h)) = ([], refl)
  events_grow plan s u g (Some AlarmQuery) = ([], refl)

  gone_same : (plan : Plan) (s u : State) → IsGrown plan s u → (place : Option Resource) → gone_at u place ≡ gone_at s place
  gone_same plan s u g (Some (FeedOf h)) = g.gone h
  gone_same plan s u g (Some AlarmFeed) = refl
  gone_same plan s u g None = refl
  gone_same plan s u g (Some (Node o)) = refl
  gone_same plan s u g (Some About) = refl
  gone_same plan s u g (Some Batch) = refl
  gone_same plan s u g (Some Service) = refl
  gone_same plan s u g (Some Make) = refl
  gone_same plan s u g (Some (AlarmAt n)) = refl
  gone_same plan s u g (Some (AckOf n)) = refl
  gone_same plan s u g (Some (WritePointOf q)) = refl
  gone_same plan s u g (Some (QueryOf h)) = refl
  gone_same plan s u g (Some AlarmQuery) = refl

  pub grows : (plan : Plan) → let m : Site = site locate plan in (s : m.State) (ns : List ℕ) (r : m.Request) (now : ℕ) (p : m.Path) → (more : List m.Event) × (m.events (m.act s ns r now).0 p ≡ m.events s p ++ more)
  grows plan s ns r now p = events_grow plan s _ (act_located_grows plan s ns now r (locate plan.base r.target)) (at p (event_places plan))

  pub counts : (plan : Plan) → let m : Site = site locate plan in (s : m.State) (ns : List ℕ) (r : m.Request) (now : ℕ) (p : m.Path) → m.gone (m.act s ns r now).0 p ≡ m.gone s p
  counts plan s ns r now p = gone_same plan s _ (act_located_grows plan s ns now r (locate plan.base r.target)) (at p (event_places plan))

  pub act_grows : (plan : Plan) (s : State) (ns : List ℕ) (r : Request) (now : ℕ) → let m : Site = site locate plan in IsGrown plan s (m.act s ns r now).0
  act_grows plan s ns r now = act_located_grows plan s ns now r (locate plan.base r.target)
