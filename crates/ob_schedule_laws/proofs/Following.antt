-- What a step leaves of a state: the same own objects, of which nodes may have other slots, and the same histories.
use Rattle.std.proofs.Common.{◌≡◌, ℕ, Bool, true, false, cond, List, [], ◌∷◌, Option, Some, None, refl, ◌∙◌}
use Rattle.ob_values.specs.declared.verb.Verb.{Verb}
use Rattle.ob_values.specs.declared.verb.Verb.TheVariants.{Get, Put, Post}
use Rattle.ob_object.specs.declared.kind.Kind.{Kind}
use Rattle.ob_object.specs.declared.head.Slot.{Slot}
use Rattle.ob_object.specs.Object.{Object, children}
use Rattle.ob_alarms.specs.Changes.{State as Board}
use Rattle.ob_site_rules.specs.Computed.{ack_out}
use Rattle.ob_site_rules.specs.Entries.{alarm_object}
use Rattle.ob_site_rules.specs.declared.request.Request.{Request}
use Rattle.ob_site_rules.specs.Build.{Path}
use Rattle.ob_site_rules.specs.declared.fault.Fault.{Fault}
use Rattle.ob_site_rules.specs.declared.fault.Fault.TheVariants.{NotInBatch}
use Rattle.ob_site_rules.specs.Faults.{err}
use Rattle.ob_site_rules.specs.Locating.{locate}
use Rattle.ob_site_rules.specs.declared.plan.Plan.{Plan}
use Rattle.ob_site_rules.specs.State.{State, board, with_board}
use Rattle.ob_site_rules.specs.Sameness.{same_slot}
use Rattle.ob_site_rules.specs.Sites.{SiteState}
use Rattle.ob_site_rules.specs.declared.resource.Resource.{Resource}
use Rattle.ob_site_rules.specs.declared.resource.Resource.TheVariants.{About, Batch, Service, Make, AlarmAt, AckOf, WritePointOf, QueryOf, FeedOf, AlarmQuery, AlarmFeed, Node}
use Rattle.ob_site_rules.specs.Places.{place_at}
use Rattle.ob_site_rules.specs.Writes.{write, written, unless, write_by}
use Rattle.ob_site_rules.specs.Posts.{or_nil, user_in, acked, ack_fault, call, write_point}
use Rattle.ob_site_rules.specs.Actions.{is_post, put_at, act_at, is_left_out, item_at, item_on, item_request, act_item, act_all, batch_or, batch, act_on, act_located}
use Rattle.ob_site_rules.specs.Watched.{SiteTarget}
use Rattle.ob_shown_laws.specs.Alike.{row, DifferInSlots, paths_of}
use Rattle.ob_shown_laws.proofs.Owning.{steps_alike, paths_recorded}
use Rattle.ob_step_laws.specs.Given.{IsMade}
use Rattle.ob_step_laws.proofs.Slotted.{differ_slotted}
use Rattle.ob_step_laws.proofs.Steps.{slots_then, made_written}
use Rattle.ob_site_laws.specs.SiteLaws.{of_plan, acts}
use Rattle.ob_watching.specs.Operations.{Itself, Nowhere, NewWatch, OneWatch, Told, Refused}
use Rattle.ob_watching.specs.Sites.{Site}
use Rattle.ob_watching.specs.Tables.{lookup}
use Rattle.ob_watching.specs.Watches.{World, Watch, Reply, acted, begun, is_full, made, on_watch, first_lease, yielded}

pub record Follows (s u : State) : Type 0 where
  pub slots : DifferInSlots (row s.tree) (row u.tree)
  pub histories : paths_of s.logs ≡ paths_of u.logs
  pub made : IsMade s → IsMade u

itself : (plan : Plan) (s : State) → Follows s s
itself plan s = record { slots = ((steps_alike plan).nothing s).tree; histories = refl; made = λ e. e }

pub on : (s u v : State) → Follows s u → Follows u v → Follows s v
on s u v a b = record { slots = slots_then (row s.tree) (row u.tree) (row v.tree) a.slots b.slots; histories = a.histories ∙ b.histories; made = λ e. b.made (a.made e) }

write_follows : (plan : Plan) (now : ℕ) (p : Path) (k : Kind) (slot : Slot) (s : State) → Follows s (write plan now p k slot s)
write_follows plan now p k slot s = record { slots = differ_slotted p slot (row s.tree); histories = paths_recorded plan now p k slot s.logs; made = made_written p slot s }

written_follows : (plan : Plan) (now : ℕ) (p : Path) (o : Object) (slot : Slot) (s : State) → Follows s (written plan now p o slot s)
written_follows plan now p o slot s = go (same_slot slot o.head.slot)
  where
    go : (b : Bool) → Follows s (cond b s (write plan now p o.head.kind slot s))
    go true = itself plan s
    go false = write_follows plan now p o.head.kind slot s

unless_follows : (plan : Plan) (fault : Option Fault) (s : State) (done : State × Object) → Follows s done.0 → Follows s (unless fault s done).0
unless_follows plan None s done h = h
unless_follows plan (Some fault) s done h = itself plan s

write_by_follows : (plan : Plan) (s : State) (now : ℕ) (p : Path) (o : Object) (fault : Option Fault) (body : Object) → Follows s (write_by plan s now p o fault body).0
write_by_follows plan s now p o fault body = unless_follows plan _ s _ (written_follows plan now p o _ s)

put_at_follows : (plan : Plan) (s : State) (now : ℕ) (p : Path) (place : Resource) (body : Option Object) → Follows s (put_at plan s now p place body).0
put_at_follows plan s now p (Node o) None = unless_follows plan _ s _ (itself plan s)
put_at_follows plan s now p (Node o) (Some body) = write_by_follows plan s now p o _ body
put_at_follows plan s now p About body = itself plan s
put_at_follows plan s now p Batch body = itself plan s
put_at_follows plan s now p Service body = itself plan s
put_at_follows plan s now p Make body = itself plan s
put_at_follows plan s now p (AlarmAt n) body = itself plan s
put_at_follows plan s now p (AckOf n) body = itself plan s
put_at_follows plan s now p (WritePointOf q) body = itself plan s
put_at_follows plan s now p (QueryOf h) body = itself plan s
put_at_follows plan s now p (FeedOf h) body = itself plan s
put_at_follows plan s now p AlarmQuery body = itself plan s
put_at_follows plan s now p AlarmFeed body = itself plan s

write_point_follows : (plan : Plan) (s : State) (now : ℕ) (p : Path) (new : Option Object) → Follows s (write_point plan s now p new).0
write_point_follows plan s now p None = itself plan s
write_point_follows plan s now p (Some new) = write_by_follows plan s now p _ None new

call_follows : (plan : Plan) (s : State) (now : ℕ) (place : Resource) (input : Option Object) → Follows s (call plan s now place input).0
call_follows plan s now (AckOf n) input =
    let b : Board = acked (board plan s) n (user_in (or_nil input)) now in
    unless_follows plan (ack_fault plan s now n (or_nil input)) s (with_board s b, ack_out (alarm_object b n)) (let same : Follows s s = itself plan s in record { slots = same.slots; histories = refl; made = same.made })
call_follows plan s now (WritePointOf p) input = write_point_follows plan s now p _
call_follows plan s now (Node o) input = itself plan s
call_follows plan s now About input = itself plan s
call_follows plan s now Batch input = itself plan s
call_follows plan s now Service input = itself plan s
call_follows plan s now Make input = itself plan s
call_follows plan s now (AlarmAt n) input = itself plan s
call_follows plan s now (QueryOf q) input = itself plan s
call_follows plan s now (FeedOf q) input = itself plan s
call_follows plan s now AlarmQuery input = itself plan s
call_follows plan s now AlarmFeed input = itself plan s

act_at_follows : (plan : Plan) (s : State) (now : ℕ) (p : Path) (verb : Verb) (place : Resource) (body : Option Object) → Follows s (act_at plan s now p verb place body).0
act_at_follows plan s now p Get place body = itself plan s
act_at_follows plan s now p Put place body = put_at_follows plan s now p place body
act_at_follows plan s now p Post place body = call_follows plan s now place body

item_at_follows : (plan : Plan) (s : State) (ns : List ℕ) (now : ℕ) (r : Request) (p : Path) (place : Option Resource) → Follows s (item_at plan s ns now r p place).0
item_at_follows plan s ns now r p None = itself plan s
item_at_follows plan s ns now r p (Some place) = go (is_left_out place)
  where
    go : (b : Bool) → let done : State × Object = cond b (s, err NotInBatch) (act_at plan s now p r.verb place r.body) in Follows s done.0
    go true = itself plan s
    go false = act_at_follows plan s now p r.verb place r.body

item_on_follows : (plan : Plan) (s : State) (ns : List ℕ) (now : ℕ) (r : Request) (p : Option Path) → Follows s (item_on plan s ns now r p).0
item_on_follows plan s ns now r None = itself plan s
item_on_follows plan s ns now r (Some p) = item_at_follows plan s ns now r p (place_at plan s p)

act_item_follows : (plan : Plan) (s : State) (ns : List ℕ) (now : ℕ) (r : Option Request) → Follows s (act_item locate plan s ns now r).0
act_item_follows plan s ns now None = itself plan s
act_item_follows plan s ns now (Some r) = item_on_follows plan s ns now r (locate plan.base r.target)

act_all_follows : (plan : Plan) (s : State) (ns : List ℕ) (now : ℕ) (os : List Object) → Follows s (act_all locate plan s ns now os).0
act_all_follows plan s ns now [] = itself plan s
act_all_follows plan s ns now (o ∷ os) =
    let u : State = (act_item locate plan s ns now (item_request o)).0 in
    on s u _ (act_item_follows plan s ns now (item_request o)) (act_all_follows plan u ns now os)

batch_or_follows : (fault : Option Fault) (plan : Plan) (s : State) (ns : List ℕ) (now : ℕ) (body : Object) → Follows s (batch_or locate fault plan s ns now body).0
batch_or_follows (Some fault) plan s ns now body = itself plan s
batch_or_follows None plan s ns now body = act_all_follows plan s ns now (children body)

batch_follows : (plan : Plan) (s : State) (ns : List ℕ) (now : ℕ) (body : Option Object) → Follows s (batch locate plan s ns now body).0
batch_follows plan s ns now None = itself plan s
batch_follows plan s ns now (Some body) = batch_or_follows _ plan s ns now body

act_on_follows : (plan : Plan) (s : State) (ns : List ℕ) (now : ℕ) (r : Request) (p : Path) (place : Option Resource) → Follows s (act_on locate plan s ns now r p place).0
act_on_follows plan s ns now r p None = itself plan s
act_on_follows plan s ns now r p (Some Batch) = go (is_post r.verb)
  where
    go : (b : Bool) → let done : State × Object = cond b (batch locate plan s ns now r.body) (act_at plan s now p r.verb Batch r.body) in Follows s done.0
    go true = batch_follows plan s ns now r.body
    go false = act_at_follows plan s now p r.verb Batch r.body
act_on_follows plan s ns now r p (Some place) = act_at_follows plan s now p r.verb place r.body

act_located_follows : (plan : Plan) (s : State) (ns : List ℕ) (now : ℕ) (r : Request) (p : Option Path) → Follows s (act_located locate plan s ns now r p).0
act_located_follows plan s ns now r None = itself plan s
act_located_follows plan s ns now r (Some p) = act_on_follows plan s ns now r p (place_at plan s p)

-- requests for watches leave the site alone
acted_follows : (plan : Plan) (w : World (of_plan plan)) (r : Request) (t : SiteTarget) → Follows w.site (acted (of_plan plan) w r t).0.site
acted_follows plan w r Itself = act_located_follows plan w.site _ w.time r (locate plan.base r.target)
acted_follows plan w r Nowhere = itself plan w.site
acted_follows plan w r NewWatch = go (is_full (of_plan plan) (yielded (of_plan plan) w))
  where
    m : Site
    m = of_plan plan

    go : (b : Bool) → let done : World m × Reply m = cond b (w, Refused m.too_many_watches) (made m (yielded m w), Told w.next first_lease m.whole) in Follows w.site done.0.site
    go true = itself plan w.site
    go false = itself plan w.site
acted_follows plan w r (OneWatch n op) = go (lookup n w.watches)
  where
    go : (o : Option (Watch (of_plan plan))) → Follows w.site (on_watch (of_plan plan) w n op o).0.site
    go None = itself plan w.site
    go (Some v) = itself plan w.site

-- and so does each step
pub step_follows : (st : SiteState) (r : Request) (moment : ℕ) → Follows st.world.site (acts st r moment).0.world.site
step_follows st r moment =
    let m = of_plan st.plan in
    let done = acted m (begun m st.world moment) r (m.target r) in
    let rolls = (steps_alike st.plan).rolls done.0.site in
    on st.world.site done.0.site _ (acted_follows st.plan (begun m st.world moment) r (m.target r)) (record { slots = rolls.tree; histories = rolls.histories; made = λ e. e })
