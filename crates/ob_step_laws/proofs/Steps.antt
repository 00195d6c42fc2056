-- A request to the site itself takes no slot away.
use Rattle.std.proofs.Common.{◌≡◌, ℕ, Bool, true, false, not, cond, List, [], ◌∷◌, Option, Some, None, option_map, refl, sym, ap, ap₂, ◌∙◌, subst, true≢false}
use Rattle.std.specs.Prelude.{is_some, unwrap_or, IsTrue}
use Rattle.std.specs.Option.{option_or}
use Rattle.url.specs.Parts.{Parts}
use Rattle.ob_values.specs.declared.verb.Verb.{Verb}
use Rattle.ob_values.specs.declared.verb.Verb.TheVariants.{Get, Put, Post}
use Rattle.ob_object.specs.declared.kind.Kind.{Kind}
use Rattle.ob_object.specs.declared.head.Slot.{Slot}
use Rattle.ob_object.specs.declared.head.Slot.TheVariants.{Absent}
use Rattle.ob_object.specs.declared.head.Head.{Head}
use Rattle.ob_object.specs.Kinds.{same_kind, has_values}
use Rattle.ob_object.specs.Object.{Objects, none, node, Object, children}
use Rattle.ob_object.specs.Paths.{is_path, node_path}
use Rattle.ob_contracts.specs.Inherit.{Contracts, or_else, only_if, result_of}
use Rattle.ob_contracts.specs.Standard.{standard, with_added}
use Rattle.ob_contracts.proofs.Fitting.{one_kind}
use Rattle.ob_site_rules.specs.declared.request.Request.{Request}
use Rattle.ob_site_rules.specs.Build.{Text, Path}
use Rattle.ob_site_rules.specs.Faults.{err, first_fault}
use Rattle.ob_site_rules.specs.State.{State, is_among}
use Rattle.ob_site_rules.specs.declared.fault.Fault.{Fault}
use Rattle.ob_site_rules.specs.declared.fault.Fault.TheVariants.{NotInBatch, NotSupported, NotWritable, OtherKind}
use Rattle.ob_site_rules.specs.declared.plan.Plan.{Plan}
use Rattle.ob_site_rules.specs.Sameness.{same_slot}
use Rattle.ob_site_rules.specs.Places.{place_at}
use Rattle.ob_site_rules.specs.Shown.{rule_of, node_in, node_of, with_status_at, with_status_by, dressed, shown}
use Rattle.ob_site_rules.specs.Writes.{with_slot, site_contracts, is_in_contract, write, written, unless, value_fault, is_writable, write_by, put, given_by, target_fault}
use Rattle.ob_site_rules.specs.declared.resource.Resource.{Resource}
use Rattle.ob_site_rules.specs.declared.resource.Resource.TheVariants.{About, AckOf, AlarmAt, AlarmFeed, AlarmQuery, Batch, FeedOf, Make, Node, QueryOf, Service, WritePointOf}
use Rattle.ob_site_rules.specs.Posts.{call, write_point}
use Rattle.ob_site_rules.specs.Actions.{is_post, put_at, act_at, is_left_out, item_at, item_on, item_request, act_item, act_all, batch_or, batch, act_on, act_located}
use Rattle.ob_shown_laws.specs.Alike.{row, without_values, AreAlike, DifferInSlots, paths_of}
use Rattle.ob_shown_laws.specs.Changed.{is_in, PathsDiffer}
use Rattle.ob_shown_laws.specs.OwnShown.{own_standing, dressed_standing}
use Rattle.ob_shown_laws.specs.Numbered.{root_row}
use Rattle.ob_shown_laws.specs.Standing.{Standing, effective, standing_at, standing_in}
use Rattle.ob_shown_laws.proofs.Standings.{shown_there}
use Rattle.ob_shown_laws.proofs.Touches.{there}
use Rattle.ob_shown_laws.proofs.Reaching.{roles_alike}
use Rattle.ob_shown_laws.proofs.Owning.{steps_alike, paths_recorded}
use Rattle.ob_shown_laws.proofs.OwnStanding.{own_is_enough}
use Rattle.ob_step_laws.specs.Defaults.{StayGiven, defaults_off}
use Rattle.ob_step_laws.proofs.Unslotted.{defaults_differ}
use Rattle.ob_step_laws.proofs.Either.{given_itself}
use Rattle.ob_tree.specs.Contexts.{HandedDown, handed_down, under}
use Rattle.ob_requests.proofs.Places.{point_there}
use Rattle.ob_step_laws.specs.Given.{IsMade, PointsHaveValues, StepsTakeNoneAway}
use Rattle.ob_step_laws.proofs.Slotted.{given_slotted, differ_slotted, unslotted_object, contracts_stay, value_given, kind_given}

-- what a step leaves
record Follows (s u : State) : Type 0 where
  pub given : StayGiven (row s.tree) (row u.tree)
  pub slots : DifferInSlots (row s.tree) (row u.tree)
  pub histories : paths_of s.logs ≡ paths_of u.logs
  pub made : IsMade s → IsMade u

itself : (plan : Plan) (s : State) → Follows s s
itself plan s = record { given = given_itself (row s.tree); slots = ((steps_alike plan).nothing s).tree; histories = refl; made = λ e. e }

given_then : (os qs rs : Objects) → DifferInSlots os qs → StayGiven os qs → StayGiven qs rs → StayGiven os rs
given_then none qs rs d g f = tt
given_then (node h below rest) none rs d g f = absurd d
given_then (node h below rest) (node k inner more) none d g f = tt
given_then (node h below rest) (node k inner more) (node j deep last) d g f =
    (λ e. g.0 (f.0 e), given_then below inner deep d.2 g.1 f.1, given_then rest more last d.3 g.2 f.2)

pub slots_then : (os qs rs : Objects) → DifferInSlots os qs → DifferInSlots qs rs → DifferInSlots os rs
slots_then none none rs d f = f
slots_then none (node k inner more) rs d f = absurd d
slots_then (node h below rest) none rs d f = absurd d
slots_then (node h below rest) (node k inner more) none d f = absurd f
slots_then (node h below rest) (node k inner more) (node j deep last) d f = (
  d.0 ∙ f.0,
  λ e. d.1 e ∙ f.1 (sym (ap (λ (u : Head). node_path u) d.0) ∙ e),
  slots_then below inner deep d.2 f.2,
  slots_then rest more last d.3 f.3,
)

on : (s u v : State) → Follows s u → Follows u v → Follows s v
on s u v a b = record {
  given = given_then (row s.tree) (row u.tree) (row v.tree) a.slots a.given b.given;
  slots = slots_then (row s.tree) (row u.tree) (row v.tree) a.slots b.slots;
  histories = a.histories ∙ b.histories;
  made = λ e. b.made (a.made e);
}

-- a write to a contract is in the library, and no other write changes it
pub made_written : (p : Path) (slot : Slot) (s : State) → IsMade s
    → let root : Object = with_slot p slot s.tree in cond (is_in_contract p root) (with_added standard (site_contracts root)) s.library ≡ with_added standard (site_contracts root)
made_written p slot s e = go (is_in_contract p root) refl
  where
    root : Object
    root = with_slot p slot s.tree

    go : (b : Bool) → is_in_contract p root ≡ b → cond b (with_added standard (site_contracts root)) s.library ≡ with_added standard (site_contracts root)
    go true is = refl
    go false is = e ∙ ap (with_added standard) (sym (contracts_stay p slot s.tree is))

-- a write of a value that is given
write_follows : (plan : Plan) (now : ℕ) (p : Path) (k : Kind) (slot : Slot) (s : State) → (slot ≡ Absent → ⊥) → Follows s (write plan now p k slot s)
write_follows plan now p k slot s some = record {
  given = given_slotted p slot (row s.tree) some;
  slots = differ_slotted p slot (row s.tree);
  histories = paths_recorded plan now p k slot s.logs;
  made = made_written p slot s;
}

written_follows : (plan : Plan) (now : ℕ) (p : Path) (o : Object) (slot : Slot) (s : State) → (slot ≡ Absent → ⊥) → Follows s (written plan now p o slot s)
written_follows plan now p o slot s some = go (same_slot slot o.head.slot)
  where
    go : (b : Bool) → Follows s (cond b s (write plan now p o.head.kind slot s))
    go true = itself plan s
    go false = write_follows plan now p o.head.kind slot s some

unless_follows : (plan : Plan) (fault : Option Fault) (s : State) (done : State × Object) → (fault ≡ None → Follows s done.0) → Follows s (unless fault s done).0
unless_follows plan None s done h = h refl
unless_follows plan (Some fault) s done h = itself plan s

neither_fault : (a b : Option Fault) → option_or a b ≡ None → (a ≡ None) × (b ≡ None)
neither_fault None b e = (refl, e)
neither_fault (Some x) b e = absurd cc

not_first : (b : Bool) (fault : Fault) (rows : List (Bool × Fault)) → first_fault ((not b, fault) ∷ rows) ≡ None → b ≡ true
not_first true fault rows e = refl
not_first false fault rows e = absurd cc

write_by_follows : (plan : Plan) (s : State) (now : ℕ) (p : Path) (o : Object) (fault : Option Fault) (body : Object) → (fault ≡ None → has_values o.head.kind ≡ true) → Follows s (write_by plan s now p o fault body).0
write_by_follows plan s now p o fault body value =
    unless_follows plan (option_or fault (value_fault plan s now p o.head (given_by s body))) s _
    (λ e. written_follows plan now p o (given_by s body).slot s (some e))
  where
    some : option_or fault (value_fault plan s now p o.head (given_by s body)) ≡ None → (given_by s body).slot ≡ Absent → ⊥
    some e =
        let parts = neither_fault fault (value_fault plan s now p o.head (given_by s body)) e in
        let kind : same_kind (given_by s body).kind o.head.kind ≡ true =
        not_first (same_kind (given_by s body).kind o.head.kind) OtherKind [] (neither_fault (first_fault ((not (same_kind (given_by s body).kind o.head.kind), OtherKind) ∷ [])) _ parts.1).0 in
        value_given s body
        (ap has_values (sym (kind_given s body) ∙ one_kind (given_by s body).kind o.head.kind kind) ∙ value parts.0)

put_follows : (plan : Plan) (s : State) (now : ℕ) (p : Path) (o : Object) (body : Option Object) → Follows s (put plan s now p o body).0
put_follows plan s now p o None = unless_follows plan _ s _ (λ e. itself plan s)
put_follows plan s now p o (Some body) =
    write_by_follows plan s now p o (target_fault o.head) body (λ e. not_first (has_values o.head.kind) NotSupported ((not (is_writable o.head.facets.writable), NotWritable) ∷ []) e)

put_at_follows : (plan : Plan) (s : State) (now : ℕ) (p : Path) (place : Resource) (body : Option Object) → Follows s (put_at plan s now p place body).0
put_at_follows plan s now p (Node o) body = put_follows plan s now p o body
put_at_follows plan s now p About body = itself plan s
put_at_follows plan s now p Batch body = itself plan s
put_at_follows plan s now p Service body = itself plan s
put_at_follows plan s now p Make body = itself plan s
put_at_follows plan s now p (AlarmAt n) body = itself plan s
put_at_follows plan s now p (AckOf n) body = itself plan s
put_at_follows plan s now p (WritePointOf q) body = itself plan s
put_at_follows plan s now p (QueryOf h) body = itself plan s
put_at_follows plan s now p (FeedOf h) body = itself plan s
put_at_follows plan s now p AlarmQuery body = itself plan s
put_at_follows plan s now p AlarmFeed body = itself plan s

-- at each writable point something is shown, of a kind that has values
abbrev kinds_of : Option Object → Option Kind
kinds_of o = option_map (λ x. x.head.kind) o

abbrev HasValue : Option Kind → Type 0
HasValue None = ⊥
HasValue (Some k) = has_values k ≡ true

abbrev PointsShowValues : Plan → State → Type 0
PointsShowValues plan s = (p : Path) → is_among p plan.points ≡ true → HasValue (kinds_of (shown plan s p))

point_value : (new : Object) (shows : Option Object) → HasValue (kinds_of shows) → has_values (unwrap_or shows new).head.kind ≡ true
point_value new None h = absurd h
point_value new (Some o) h = h

-- what is shown is of the kind of the node, own or derived
kind_comes : (o : Option Standing) → kinds_of (option_map effective o) ≡ kinds_of (option_map (λ x. x.object) o)
unfolding result_of
kind_comes None = refl
kind_comes (Some x) = refl

kind_shown : (plan : Plan) (s : State) (p : Path) → kinds_of (shown plan s p) ≡ kinds_of (node_of p (dressed plan s))
kind_shown plan s p =
    ap kinds_of (shown_there plan s p).shows ∙ kind_comes (standing_at plan s p) ∙ ap kinds_of (shown_there plan s p).found

kind_either : (b : Bool) (x y : Object) (u v i j : Option Object) → x.head.kind ≡ y.head.kind → kinds_of u ≡ kinds_of v → kinds_of i ≡ kinds_of j
    → kinds_of (or_else (only_if b (Some x)) (or_else u i)) ≡ kinds_of (or_else (only_if b (Some y)) (or_else v j))
kind_either true x y u v i j e f g = ap (λ (k : Kind). Some k) e
kind_either false x y None None i j e f g = g
kind_either false x y None (Some d) i j e f g = absurd cc
kind_either false x y (Some c) None i j e f g = absurd cc
kind_either false x y (Some c) (Some d) i j e f g = f

kinds_alike : (p : Path) (os qs : Objects) → AreAlike os qs → kinds_of (node_in p os) ≡ kinds_of (node_in p qs)
kinds_alike p none none a = refl
kinds_alike p none (node k inner more) a = absurd a
kinds_alike p (node h below rest) none a = absurd a
kinds_alike p (node h below rest) (node k inner more) a =
    kind_either (is_path p (node_path h)) (record { head = h; inner = below }) (record { head = k; inner = inner }) (node_in p below) (node_in p inner) (node_in p rest) (node_in p more)
    (ap (λ (u : Head). u.kind) a.0) (kinds_alike p below inner a.1) (kinds_alike p rest more a.2)
    ∙ ap (λ (o : Option Path). kinds_of (or_else (only_if (is_path p o) (Some (record { head = k; inner = inner }))) (or_else (node_in p inner) (node_in p more)))) (ap (λ (u : Head). node_path u) a.0)

shows_follow : (plan : Plan) (s u : State) → Follows s u → PointsShowValues plan s → PointsShowValues plan u
shows_follow plan s u f shows p point =
    subst HasValue
    (kind_shown plan s p
    ∙ kinds_alike p (row (dressed plan s)) (row (dressed plan u)) (roles_alike plan s u f.histories (row s.tree) (row u.tree) f.slots)
    ∙ sym (kind_shown plan u p))
    (shows p point)

write_point_follows : (plan : Plan) (s : State) (now : ℕ) (p : Path) (new : Option Object) → HasValue (kinds_of (shown plan s p)) → Follows s (write_point plan s now p new).0
write_point_follows plan s now p None h = itself plan s
write_point_follows plan s now p (Some new) h = write_by_follows plan s now p (unwrap_or (shown plan s p) new) None new (λ e. point_value new (shown plan s p) h)

call_follows : (plan : Plan) (s : State) (now : ℕ) (place : Resource) (input : Option Object) → ((p : Path) → place ≡ WritePointOf p → HasValue (kinds_of (shown plan s p))) → Follows s (call plan s now place input).0
call_follows plan s now (AckOf n) input h = unless_follows plan _ s _ (λ e. (let same : Follows s s = itself plan s in record { given = same.given; slots = same.slots; histories = refl; made = same.made }))
call_follows plan s now (WritePointOf p) input h = write_point_follows plan s now p _ (h p refl)
call_follows plan s now (Node o) input h = itself plan s
call_follows plan s now About input h = itself plan s
call_follows plan s now Batch input h = itself plan s
call_follows plan s now Service input h = itself plan s
call_follows plan s now Make input h = itself plan s
call_follows plan s now (AlarmAt n) input h = itself plan s
call_follows plan s now (QueryOf q) input h = itself plan s
call_follows plan s now (FeedOf q) input h = itself plan s
call_follows plan s now AlarmQuery input h = itself plan s
call_follows plan s now AlarmFeed input h = itself plan s

act_at_follows : (plan : Plan) (s : State) (now : ℕ) (p : Path) (verb : Verb) (place : Resource) (body : Option Object) → ((q : Path) → place ≡ WritePointOf q → HasValue (kinds_of (shown plan s q)))
    → Follows s (act_at plan s now p verb place body).0
act_at_follows plan s now p Get place body h = itself plan s
act_at_follows plan s now p Put place body h = put_at_follows plan s now p place body
act_at_follows plan s now p Post place body h = call_follows plan s now place body h

-- the point of a writePoint is one of the plan's
at_point : (plan : Plan) (s : State) → PointsShowValues plan s → (p : Path) (place : Resource) → place_at plan s p ≡ Some place → (q : Path) → place ≡ WritePointOf q → HasValue (kinds_of (shown plan s q))
at_point plan s shows p place e q is = shows q (point_there plan s p (WritePointOf q) q (e ∙ ap (λ (x : Resource). Some x) is) refl)

item_at_follows : (plan : Plan) (s : State) (ns : List ℕ) (now : ℕ) (r : Request) (p : Path) (place : Option Resource) → PointsShowValues plan s → place_at plan s p ≡ place → Follows s (item_at plan s ns now r p place).0
item_at_follows plan s ns now r p None shows e = itself plan s
item_at_follows plan s ns now r p (Some place) shows e = go (is_left_out place)
  where
    go : (b : Bool) → let done : State × Object = cond b (s, err NotInBatch) (act_at plan s now p r.verb place r.body) in Follows s done.0
    go true = itself plan s
    go false = act_at_follows plan s now p r.verb place r.body (at_point plan s shows p place e)

item_on_follows : (plan : Plan) (s : State) (ns : List ℕ) (now : ℕ) (r : Request) (p : Option Path) → PointsShowValues plan s → Follows s (item_on plan s ns now r p).0
item_on_follows plan s ns now r None shows = itself plan s
item_on_follows plan s ns now r (Some p) shows = item_at_follows plan s ns now r p (place_at plan s p) shows refl

module _ (locate : Parts → Text → Option Path) where
  act_item_follows : (plan : Plan) (s : State) (ns : List ℕ) (now : ℕ) (r : Option Request) → PointsShowValues plan s → Follows s (act_item locate plan s ns now r).0
  act_item_follows plan s ns now None shows = itself plan s
  act_item_follows plan s ns now (Some r) shows = item_on_follows plan s ns now r (locate plan.base r.target) shows

  act_all_follows : (plan : Plan) (s : State) (ns : List ℕ) (now : ℕ) (os : List Object) → PointsShowValues plan s → Follows s (act_all locate plan s ns now os).0
  act_all_follows plan s ns now [] shows = itself plan s
  act_all_follows plan s ns now (o ∷ os) shows =
      let u : State = (act_item locate plan s ns now (item_request o)).0 in
      let one : Follows s u = act_item_follows plan s ns now (item_request o) shows in
      on s u _ one (act_all_follows plan u ns now os (shows_follow plan s u one shows))

  batch_or_follows : (fault : Option Fault) (plan : Plan) (s : State) (ns : List ℕ) (now : ℕ) (body : Object) → PointsShowValues plan s → Follows s (batch_or locate fault plan s ns now body).0
  batch_or_follows (Some fault) plan s ns now body shows = itself plan s
  batch_or_follows None plan s ns now body shows = act_all_follows plan s ns now (children body) shows

  batch_follows : (plan : Plan) (s : State) (ns : List ℕ) (now : ℕ) (body : Option Object) → PointsShowValues plan s → Follows s (batch locate plan s ns now body).0
  batch_follows plan s ns now None shows = itself plan s
  batch_follows plan s ns now (Some body) shows = batch_or_follows _ plan s ns now body shows

  act_on_follows : (plan : Plan) (s : State) (ns : List ℕ) (now : ℕ) (r : Request) (p : Path) (place : Option Resource) → PointsShowValues plan s → place_at plan s p ≡ place → Follows s (act_on locate plan s ns now r p place).0
  act_on_follows plan s ns now r p None shows e = itself plan s
  act_on_follows plan s ns now r p (Some Batch) shows e = go (is_post r.verb)
    where
      go : (b : Bool) → let done : State × Object = cond b (batch locate plan s ns now r.body) (act_at plan s now p r.verb Batch r.body) in Follows s done.0
      go true = batch_follows plan s ns now r.body shows
      go false = act_at_follows plan s now p r.verb Batch r.body (at_point plan s shows p Batch e)
  act_on_follows plan s ns now r p (Some place) shows e = act_at_follows plan s now p r.verb place r.body (at_point plan s shows p place e)

  act_located_follows : (plan : Plan) (s : State) (ns : List ℕ) (now : ℕ) (r : Request) (p : Option Path) → PointsShowValues plan s → Follows s (act_located locate plan s ns now r p).0
  act_located_follows plan s ns now r None shows = itself plan s
  act_located_follows plan s ns now r (Some p) shows = act_on_follows plan s ns now r p (place_at plan s p) shows refl

-- the own node at a path is of the kind of what is shown there
pub map_either : (b : Bool) (x : Standing) (u v : Option Standing) → option_map (λ y. y.object) (or_else (only_if b (Some x)) (or_else u v)) ≡ or_else (only_if b (Some x.object)) (or_else (option_map (λ y. y.object) u) (option_map (λ y. y.object) v))
map_either true x u v = refl
map_either false x None v = refl
map_either false x (Some y) v = refl

pub own_node : (p : Path) (r : HandedDown) (os : Objects) → option_map (λ x. x.object) (standing_in p r os) ≡ node_in p os
own_node p r none = refl
own_node p r (node h below rest) =
    map_either (is_path p (node_path h)) (record { context = under r h.name; object = record { head = h; inner = below } }) (standing_in p (handed_down (under r h.name) h) below) (standing_in p r rest)
    ∙ ap₂ (λ (a b : Option Object). or_else (only_if (is_path p (node_path h)) (Some (record { head = h; inner = below }))) (or_else a b))
    (own_node p (handed_down (under r h.name) h) below) (own_node p r rest)

kind_status : (plan : Plan) (s : State) (h : Head) (o : Option Path) → (with_status_at plan s h o).kind ≡ h.kind
kind_status plan s h None = refl
kind_status plan s h (Some p) = by_rule (rule_of plan p)
  where
    by_rule : (r : Option ℕ) → (with_status_by plan s h r).kind ≡ h.kind
    by_rule None = refl
    by_rule (Some r) = refl

kind_dressed : (plan : Plan) (s : State) (o : Option Standing) → kinds_of (option_map (λ x. x.object) (option_map (dressed_standing plan s) o)) ≡ kinds_of (option_map (λ x. x.object) o)
kind_dressed plan s None = refl
kind_dressed plan s (Some x) = ap (λ (k : Kind). Some k) (kind_status plan s x.object.head (node_path x.object.head))

is_there : (p : Path) (os : Objects) → is_some (node_in p os) ≡ is_in p os
is_there p os = ap (λ (o : Option Object). is_some o) (sym (own_node p no_context os)) ∙ some_object (standing_in p no_context os) ∙ there p no_context os
  where
    no_context : HandedDown
    no_context = root_row []

    some_object : (o : Option Standing) → is_some (option_map (λ x. x.object) o) ≡ is_some o
    some_object None = refl
    some_object (Some x) = refl

has_value : (o : Option Object) → IsTrue (is_some o) → ((x : Object) → o ≡ Some x → has_values x.head.kind ≡ true) → HasValue (kinds_of o)
has_value None t h = absurd (true≢false (sym t))
has_value (Some x) t h = h x refl

own_kind : (plan : Plan) (s : State) (p : Path) → PathsDiffer (row (dressed plan s)) → is_some (node_of p s.tree) ≡ true → kinds_of (shown plan s p) ≡ kinds_of (node_of p s.tree)
own_kind plan s p differ own =
    ap kinds_of (shown_there plan s p).shows
    ∙ kind_comes (standing_at plan s p)
    ∙ ap (λ (o : Option Standing). kinds_of (option_map (λ x. x.object) o)) ((own_is_enough plan s).stands p ((own_is_enough plan s).own p differ (sym (is_there p (row s.tree)) ∙ own)))
    ∙ kind_dressed plan s (own_standing s p)
    ∙ ap kinds_of (own_node p (root_row s.library) (row s.tree))

points_show : (plan : Plan) (s : State) → PathsDiffer (row (dressed plan s)) → PointsHaveValues plan s → PointsShowValues plan s
points_show plan s differ points p point =
    let has = points p point in
    subst HasValue (sym (own_kind plan s p differ has.0)) (has_value (node_of p s.tree) has.0 has.1)

-- and the other way round, after a step
value_of : (o q : Option Object) → kinds_of o ≡ kinds_of q → IsTrue (is_some o) × ((x : Object) → o ≡ Some x → has_values x.head.kind ≡ true) → IsTrue (is_some q) × ((x : Object) → q ≡ Some x → has_values x.head.kind ≡ true)
value_of None q e h = absurd (true≢false (sym h.0))
value_of (Some x) None e h = absurd cc
value_of (Some x) (Some y) e h = (h.0, λ z f. ap has_values (kind_same (ap kinds_of (sym f) ∙ sym e)) ∙ h.1 x refl)
  where
    kind_same : {a b : Kind} → Some a ≡ Some b → a ≡ b
    kind_same g = cc

slots_alike : (os qs : Objects) → DifferInSlots os qs → AreAlike os qs
slots_alike none none d = tt
slots_alike none (node k inner more) d = absurd d
slots_alike (node h below rest) none d = absurd d
slots_alike (node h below rest) (node k inner more) d = (ap (λ (u : Head). without_values u) d.0, slots_alike below inner d.2, slots_alike rest more d.3)

pub take_none_away : StepsTakeNoneAway
take_none_away locate plan s numbers r now made points differ =
    let u : State = (act_located locate plan s numbers now r (locate plan.base r.target)).0 in
    let f : Follows s u = act_located_follows locate plan s numbers now r (locate plan.base r.target) (points_show plan s differ points) in
    record {
      given = f.given;
      library =
          ap (λ (l : Contracts). defaults_off l) made
          ∙ defaults_differ s.tree u.tree (unslotted_object s.tree u.tree f.slots)
          ∙ ap (λ (l : Contracts). defaults_off l) (sym (f.made made));
      made = f.made made;
      points = λ p point. value_of (node_of p s.tree) (node_of p u.tree) (kinds_alike p (row s.tree) (row u.tree) (slots_alike (row s.tree) (row u.tree) f.slots)) (points p point);
    }
