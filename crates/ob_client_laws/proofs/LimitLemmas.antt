-- What holds of each state that isn't over the limits of what is stored, and of a state that it held of before, holds behind every
-- call too: a write, or an acknowledgement that is an event, that would lead over them is refused.
use Rattle.std.proofs.Common.{◌≡◌, ℕ, Bool, true, false, cond, not, ◌&&◌, List, [], ◌∷◌, Option, Some, None, refl, sym, subst}
use Rattle.std.specs.Prelude.{codes, is_none, is_some, slice_get}
use Rattle.std.specs.Option.{option_or}
use Rattle.ob_values.specs.declared.verb.Verb.{Verb}
use Rattle.ob_values.specs.declared.verb.Verb.TheVariants.{Get, Put, Post}
use Rattle.ob_object.specs.declared.kind.Kind.TheVariants as kind
use Rattle.ob_object.specs.declared.head.Head.{Head}
use Rattle.ob_object.specs.declared.head.Slot.{Slot}
use Rattle.ob_object.specs.Object.{Object, children}
use Rattle.ob_alarms.specs.declared.alarm.Alarm.{Alarm}
use Rattle.ob_alarms.specs.declared.alarm.Ack.{Ack}
use Rattle.ob_alarms.specs.Changes.{State as Board, alarm_of, answered, acked_if_needed}
use Rattle.ob_alarms.specs.States.{needs_ack, is_acked}
use Rattle.ob_machine.specs.History.{left_by, after}
use Rattle.ob_machine.specs.declared.call.Answer.{Answer}
use Rattle.ob_machine.specs.declared.call.Answer.TheVariants.{Done, NoMemory}
use Rattle.ob_watching.specs.Operations.{Target, Itself, Nowhere, NewWatch, OneWatch, Told, Refused}
use Rattle.ob_watching.specs.Tables.{lookup, numbers_of}
use Rattle.ob_watching.specs.Watches.{first_lease, World, Watch, begun, made, is_full, on_watch, acted, Reply, yielded}
use Rattle.ob_site_rules.specs.declared.request.Request.{Request}
use Rattle.ob_site_rules.specs.Build.{Text, Path, child}
use Rattle.ob_site_rules.specs.declared.fault.Fault.{Fault}
use Rattle.ob_site_rules.specs.declared.fault.Fault.TheVariants.{OtherShape, TextTooLong, TooManyWatches, NotInBatch, TooManyEntries}
use Rattle.ob_site_rules.specs.Faults.{err}
use Rattle.ob_site_rules.specs.Locating.{locate}
use Rattle.ob_site_rules.specs.declared.watch_part.WatchPart.{WatchPart}
use Rattle.ob_site_rules.specs.declared.watch_part.WatchPart.TheVariants.{Whole}
use Rattle.ob_site_rules.specs.declared.plan.Plan.{Plan}
use Rattle.ob_site_rules.specs.State.{State, board, roll, with_board}
use Rattle.ob_site_rules.specs.Sameness.{same_slot}
use Rattle.ob_site_rules.specs.declared.resource.Resource.{Resource}
use Rattle.ob_site_rules.specs.declared.resource.Resource.TheVariants.{About, Batch, Service, Make, AlarmAt, AckOf, WritePointOf, QueryOf, FeedOf, AlarmQuery, AlarmFeed, Node}
use Rattle.ob_site_rules.specs.Places.{place_at}
use Rattle.ob_site_rules.specs.Writes.{recorded, board_after, write, written, is_over, overfills, slot_fault, value_fault, target_fault, given_by, unless, write_by, put}
use Rattle.ob_site_rules.specs.Posts.{is_obj, is_of_kind, is_long_text, user_in, or_nil, acked, is_unacked, ack_fault, acknowledge, call, write_point}
use Rattle.ob_site_rules.specs.Actions.{is_post, put_at, act_at, is_left_out, item_at, item_on, item_request, act_item, act_all, batch_or, batch, act_on, act_located}
use Rattle.ob_site_rules.specs.Sites.{SiteState}
use Rattle.ob_site_laws.specs.SiteLaws.{acts, of_plan, Call}

-- ---- what isn't over, and what isn't refused

none_or : (a b : Option Fault) → option_or a b ≡ None → b ≡ None
none_or None b h = h
none_or (Some f) b h = absurd cc

holds_not : (b : Bool) (f : Fault) → cond b (Some f) None ≡ None → b ≡ false
holds_not true f h = absurd cc
holds_not false f h = refl

value_fits : (plan : Plan) (s : State) (now : ℕ) (p : Path) (h new : Head) → value_fault plan s now p h new ≡ None → overfills plan s now p h new.slot ≡ false
value_fits plan s now p h new none = holds_not (overfills plan s now p h new.slot) TooManyEntries (none_or (slot_fault plan s h new.slot) _ (none_or _ _ none))

has_ack : (o : Option Ack) → is_none o ≡ false → is_some o ≡ true
has_ack None h = sym h
has_ack (Some a) h = refl

-- an alarm that was acknowledged before stays as it is
stays_acked : (b : Board) (number : ℕ) (user : Option Text) (now : ℕ) (o : Option Alarm) → is_unacked o ≡ false → (answered b number user now (acked_if_needed b.rules o)).0 ≡ b
stays_acked b number user now None h = refl
stays_acked b number user now (Some a) h = go (needs_ack (slice_get b.rules a.rule)) (is_acked a) (has_ack a.ack h)
  where
    go : (needs has : Bool) → has ≡ true → (answered b number user now (cond needs (Some has) None)).0 ≡ b
    go true true e = refl
    go true false e = absurd cc
    go false has e = refl

third_not : (a b c : Bool) (f g h : Fault) → cond a (Some f) (cond b (Some g) (cond c (Some h) None)) ≡ None → c ≡ false
third_not true b c f g h e = absurd cc
third_not false true c f g h e = absurd cc
third_not false false true f g h e = absurd cc
third_not false false false f g h e = refl

module _ (Good : Plan → State → Type 0)
    (within : (plan : Plan) (s : State) → is_over s.logs (board plan s) ≡ false → Good plan s)
    (rolls : (plan : Plan) (s : State) → Good plan s → Good plan (roll s)) where
  unless_good : (plan : Plan) (fault : Option Fault) (s : State) (done : State × Object) → Good plan s → (fault ≡ None → Good plan done.0) → Good plan (unless fault s done).0
  unless_good plan None s done h g = g refl
  unless_good plan (Some f) s done h g = h

  -- ---- a write

  written_good : (plan : Plan) (now : ℕ) (p : Path) (o : Object) (slot : Slot) (s : State) → Good plan s → overfills plan s now p o.head slot ≡ false → Good plan (written plan now p o slot s)
  written_good plan now p o slot s h fits = go (same_slot slot o.head.slot) fits
    where
      go : (b : Bool) → (not b && is_over (recorded plan now p o.head.kind slot s.logs) (board_after plan s now p slot)) ≡ false → Good plan (cond b s (write plan now p o.head.kind slot s))
      go true e = h
      go false e = within plan (write plan now p o.head.kind slot s) e

  write_by_good : (plan : Plan) (s : State) (now : ℕ) (p : Path) (o : Object) (fault : Option Fault) (body : Object) → Good plan s → Good plan (write_by plan s now p o fault body).0
  write_by_good plan s now p o fault body h =
      unless_good plan _ s _ h (λ none. written_good plan now p o (given_by s body).slot s h (value_fits plan s now p o.head (given_by s body) (none_or fault _ none)))

  put_good : (plan : Plan) (s : State) (now : ℕ) (p : Path) (o : Object) (body : Option Object) → Good plan s → Good plan (put plan s now p o body).0
  put_good plan s now p o None h = unless_good plan _ s _ h (λ none. h)
  put_good plan s now p o (Some body) h = write_by_good plan s now p o (target_fault o.head) body h

  put_at_good : (plan : Plan) (s : State) (now : ℕ) (p : Path) (place : Resource) (body : Option Object) → Good plan s → Good plan (put_at plan s now p place body).0
  put_at_good plan s now p (Node o) body h = put_good plan s now p o body h
  put_at_good plan s now p About body h = h
  put_at_good plan s now p Batch body h = h
  put_at_good plan s now p Service body h = h
  put_at_good plan s now p Make body h = h
  put_at_good plan s now p (AlarmAt n) body h = h
  put_at_good plan s now p (AckOf n) body h = h
  put_at_good plan s now p (WritePointOf q) body h = h
  put_at_good plan s now p (QueryOf l) body h = h
  put_at_good plan s now p (FeedOf l) body h = h
  put_at_good plan s now p AlarmQuery body h = h
  put_at_good plan s now p AlarmFeed body h = h

  -- ---- an acknowledgement

  ack_good : (plan : Plan) (s : State) (now number : ℕ) (input : Object) → Good plan s → Good plan (acknowledge plan s now number input).0
  ack_good plan s now number input h =
      unless_good plan (ack_fault plan s now number input) s _ h
      (λ none. go (is_unacked (alarm_of number s.alarms)) refl (third_not (not (is_obj input && is_of_kind kind.Str (child (codes "ackUser") input))) (is_long_text (user_in input)) _ OtherShape TextTooLong TooManyEntries none))
    where
      go : (t : Bool) → is_unacked (alarm_of number s.alarms) ≡ t → (t && is_over s.logs (acked (board plan s) number (user_in input) now)) ≡ false → Good plan (with_board s (acked (board plan s) number (user_in input) now))
      go true e over = within plan (with_board s (acked (board plan s) number (user_in input) now)) over
      go false e over = subst (λ (b : Board). Good plan (with_board s b)) (sym (stays_acked (board plan s) number (user_in input) now (alarm_of number s.alarms) e)) h

  -- ---- a request

  write_point_good : (plan : Plan) (s : State) (now : ℕ) (p : Path) (new : Option Object) → Good plan s → Good plan (write_point plan s now p new).0
  write_point_good plan s now p None h = h
  write_point_good plan s now p (Some new) h = write_by_good plan s now p _ None new h

  call_good : (plan : Plan) (s : State) (now : ℕ) (place : Resource) (input : Option Object) → Good plan s → Good plan (call plan s now place input).0
  call_good plan s now (AckOf n) input h = ack_good plan s now n (or_nil input) h
  call_good plan s now (WritePointOf p) input h = write_point_good plan s now p _ h
  call_good plan s now (Node o) input h = h
  call_good plan s now About input h = h
  call_good plan s now Batch input h = h
  call_good plan s now Service input h = h
  call_good plan s now Make input h = h
  call_good plan s now (AlarmAt n) input h = h
  call_good plan s now (QueryOf l) input h = h
  call_good plan s now (FeedOf l) input h = h
  call_good plan s now AlarmQuery input h = h
  call_good plan s now AlarmFeed input h = h

  act_at_good : (plan : Plan) (s : State) (now : ℕ) (p : Path) (verb : Verb) (place : Resource) (body : Option Object) → Good plan s → Good plan (act_at plan s now p verb place body).0
  act_at_good plan s now p Get place body h = h
  act_at_good plan s now p Put place body h = put_at_good plan s now p place body h
  act_at_good plan s now p Post place body h = call_good plan s now place body h

  item_at_good : (plan : Plan) (s : State) (ns : List ℕ) (now : ℕ) (r : Request) (p : Path) (place : Option Resource) → Good plan s → Good plan (item_at plan s ns now r p place).0
  item_at_good plan s ns now r p None h = h
  item_at_good plan s ns now r p (Some place) h = go (is_left_out place)
    where
      go : (b : Bool) → let done : State × Object = cond b (s, err NotInBatch) (act_at plan s now p r.verb place r.body) in Good plan done.0
      go true = h
      go false = act_at_good plan s now p r.verb place r.body h

  item_on_good : (plan : Plan) (s : State) (ns : List ℕ) (now : ℕ) (r : Request) (p : Option Path) → Good plan s → Good plan (item_on plan s ns now r p).0
  item_on_good plan s ns now r None h = h
  item_on_good plan s ns now r (Some p) h = item_at_good plan s ns now r p (place_at plan s p) h

  act_item_good : (plan : Plan) (s : State) (ns : List ℕ) (now : ℕ) (r : Option Request) → Good plan s → Good plan (act_item locate plan s ns now r).0
  act_item_good plan s ns now None h = h
  act_item_good plan s ns now (Some r) h = item_on_good plan s ns now r (locate plan.base r.target) h

  act_all_good : (plan : Plan) (s : State) (ns : List ℕ) (now : ℕ) (os : List Object) → Good plan s → Good plan (act_all locate plan s ns now os).0
  act_all_good plan s ns now [] h = h
  act_all_good plan s ns now (o ∷ os) h =
      let u : State = (act_item locate plan s ns now (item_request o)).0 in
      let one : Good plan u = act_item_good plan s ns now (item_request o) h in
      act_all_good plan u ns now os one

  batch_or_good : (fault : Option Fault) (plan : Plan) (s : State) (ns : List ℕ) (now : ℕ) (body : Object) → Good plan s → Good plan (batch_or locate fault plan s ns now body).0
  batch_or_good (Some fault) plan s ns now body h = h
  batch_or_good None plan s ns now body h = act_all_good plan s ns now (children body) h

  batch_good : (plan : Plan) (s : State) (ns : List ℕ) (now : ℕ) (body : Option Object) → Good plan s → Good plan (batch locate plan s ns now body).0
  batch_good plan s ns now None h = h
  batch_good plan s ns now (Some body) h = batch_or_good _ plan s ns now body h

  act_on_good : (plan : Plan) (s : State) (ns : List ℕ) (now : ℕ) (r : Request) (p : Path) (place : Option Resource) → Good plan s → Good plan (act_on locate plan s ns now r p place).0
  act_on_good plan s ns now r p None h = h
  act_on_good plan s ns now r p (Some Batch) h = go (is_post r.verb)
    where
      go : (b : Bool) → let done : State × Object = cond b (batch locate plan s ns now r.body) (act_at plan s now p r.verb Batch r.body) in Good plan done.0
      go true = batch_good plan s ns now r.body h
      go false = act_at_good plan s now p r.verb Batch r.body h
  act_on_good plan s ns now r p (Some place) h = act_at_good plan s now p r.verb place r.body h

  act_located_good : (plan : Plan) (s : State) (ns : List ℕ) (now : ℕ) (r : Request) (p : Option Path) → Good plan s → Good plan (act_located locate plan s ns now r p).0
  act_located_good plan s ns now r None h = h
  act_located_good plan s ns now r (Some p) h = act_on_good plan s ns now r p (place_at plan s p) h

  -- ---- a step, and a history

  acted_good : (plan : Plan) (w : World (of_plan plan)) (r : Request) (t : Target Text (Option Object) WatchPart Fault) → Good plan w.site → Good plan (acted (of_plan plan) w r t).0.site
  acted_good plan w r Itself h = act_located_good plan w.site (numbers_of w.watches) w.time r (locate plan.base r.target) h
  acted_good plan w r Nowhere h = h
  acted_good plan w r NewWatch h = go (is_full (of_plan plan) (yielded (of_plan plan) w))
    where
      go : (b : Bool) → let done : World (of_plan plan) × Reply (of_plan plan) = cond b (w, Refused TooManyWatches) (made (of_plan plan) (yielded (of_plan plan) w), Told w.next first_lease Whole) in Good plan done.0.site
      go true = h
      go false = h
  acted_good plan w r (OneWatch n op) h = go (lookup n w.watches)
    where
      go : (found : Option (Watch (of_plan plan))) → Good plan (on_watch (of_plan plan) w n op found).0.site
      go None = h
      go (Some v) = h

  left_good : (st : SiteState) (r : Request) (moment : ℕ) (a : Answer Object) → Good st.plan st.world.site → Good st.plan (left_by acts st r moment a).world.site
  left_good st r moment NoMemory h = h
  left_good st r moment (Done reply) h =
      rolls st.plan _ (acted_good st.plan (begun (of_plan st.plan) st.world moment) r ((of_plan st.plan).target r) h)

  plan_stays : (st : SiteState) (r : Request) (moment : ℕ) (a : Answer Object) → (left_by acts st r moment a).plan ≡ st.plan
  plan_stays st r moment NoMemory = refl
  plan_stays st r moment (Done reply) = refl

  pub stays : (start : SiteState) → Good start.plan start.world.site → (es : List Call) → Good (after acts start es).plan (after acts start es).world.site
  stays start h [] = h
  stays start h (e ∷ es) =
      let next : SiteState = left_by acts start e.request e.moment e.answer in
      stays next (subst (λ (p : Plan). Good p next.world.site) (sym (plan_stays start e.request e.moment e.answer)) (left_good start e.request e.moment e.answer h)) es
