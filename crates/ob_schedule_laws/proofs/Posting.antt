-- A write of a schedule sets the slot that its point shows, and leaves the other points alone.
use Rattle.std.proofs.Common.{◌≡◌, ℕ, max, Bool, true, false, cond, not, ◌&&◌, List, Option, Some, None, option_map, refl, sym, ap, subst, ◌∙◌, ◌⊎◌, inl, inr, true≢false}
use Rattle.std.specs.Prelude.{codes, unwrap_or, ◌∷◌, [], ◌++◌}
use Rattle.std.specs.Option.{option_or}
use Rattle.ob_contracts.specs.Inherit.{result_of}
use Rattle.ob_machine.specs.History.{left_by, IsCall, IsAnswer}
use Rattle.ob_machine.specs.declared.call.Answer.{Answer}
use Rattle.ob_machine.specs.declared.call.Answer.TheVariants.{Done, NoMemory}
use Rattle.ob_object.specs.declared.kind.Kind.{Kind}
use Rattle.ob_object.specs.declared.head.Slot.{Slot}
use Rattle.ob_object.specs.declared.head.Slot.TheVariants.{Absent, Null, Is}
use Rattle.ob_object.specs.declared.head.Head.{Head}
use Rattle.ob_object.specs.Kinds.{same_kind}
use Rattle.ob_object.specs.Object.{Object}
use Rattle.ob_object.specs.Paths.{node_path}
use Rattle.ob_schedule.specs.Forms.{is_written}
use Rattle.ob_schedule_rules.specs.Merged.{post}
use Rattle.ob_schedule_rules.specs.Rules.{rules_of}
use Rattle.ob_site_laws.specs.SiteLaws.{Call, acts, of_plan}
use Rattle.ob_site_laws.proofs.Same.{tells_slot, tells_kind}
use Rattle.ob_site_rules.specs.declared.request.Request.{Request}
use Rattle.ob_site_rules.specs.Build.{Path, leaf, valued}
use Rattle.ob_site_rules.specs.declared.fault.Fault.{Fault}
use Rattle.ob_site_rules.specs.declared.fault.Fault.TheVariants.{TooManyEntries, OtherKind}
use Rattle.ob_site_rules.specs.Faults.{err, first_fault}
use Rattle.ob_site_rules.specs.Locating.{locate}
use Rattle.ob_site_rules.specs.Paths.{below, watch_part}
use Rattle.ob_site_rules.specs.declared.plan.Plan.{Plan}
use Rattle.ob_site_rules.specs.State.{State, is_among, roll}
use Rattle.ob_site_rules.specs.Sites.{SiteState}
use Rattle.ob_site_rules.specs.Sameness.{same_slot}
use Rattle.ob_site_rules.specs.Places.{place_at}
use Rattle.ob_site_rules.specs.Shown.{node_of, dressed, shown}
use Rattle.ob_site_rules.specs.declared.resource.Resource.TheVariants.{WritePointOf}
use Rattle.ob_site_rules.specs.Writes.{with_slot, write, written, overfills, slot_fault, value_fault, given_by, write_by, unless, showing}
use Rattle.ob_site_rules.specs.Posts.{write_point}
use Rattle.ob_site_rules.specs.Actions.{act_itself, act_located, act_on}
use Rattle.ob_site_rules.specs.Replies.{sent}
use Rattle.ob_site_rules.specs.Watched.{target_at, target_part}
use Rattle.ob_watching.specs.Operations.{Itself, NewWatch, Answered}
use Rattle.ob_watching.specs.Sites.{Site}
use Rattle.ob_watching.specs.Tables.{numbers_of}
use Rattle.ob_watching.specs.Watches.{World, Reply, acted, begun, with_site}
use Rattle.ob_shown_laws.specs.Alike.{row}
use Rattle.ob_shown_laws.specs.Changed.{PathsDiffer}
use Rattle.ob_shown_laws.specs.Own.{derived_own}
use Rattle.ob_tree.specs.Contexts.{comes_to}
use Rattle.ob_shown_laws.proofs.Reaching.{status_off}
use Rattle.ob_step_laws.proofs.Slotted.{kind_given}
use Rattle.ob_weekly.specs.declared.schedule.Schedule.{Schedule}
use Rattle.ob_schedule_laws.specs.InForce.{left, KeepsContracts, IsWanting, shown_slot}
use Rattle.ob_schedule_laws.proofs.Ends.{isnt_make, no_watch}
use Rattle.ob_schedule_laws.proofs.Places.{place_is}
use Rattle.ob_schedule_laws.proofs.Slots.{AreSame, nodes_same, slot_set, slot_kept}
use Rattle.ob_parts.proofs.Earliest.{some_one}
use Rattle.ob_schedule_laws.proofs.Shows.{IsShown, shown_at, is_there, given_slot, head_comes, own_slot}
use Rattle.ob_schedule_laws.proofs.Passing.{passes_still}
use Rattle.ob_schedule_laws.proofs.Leaving.{IsReady, Stands, ready_then, call_stands}
use Rattle.ob_schedule_laws.proofs.Staying.{there, stays}

-- ---- the step of a write

module _ (st : SiteState) (it : Schedule) (slot : Slot) (moment : ℕ)
    (located : locate st.plan.base (codes "http://h" ++ below it.point (codes "writePoint")) ≡ Some (below it.point (codes "writePoint")))
    (place : place_at st.plan st.world.site (below it.point (codes "writePoint")) ≡ Some (WritePointOf it.point)) where
  abbrev m : Site
  m = of_plan st.plan

  abbrev new : Object
  new = valued it.kind (codes "value") slot

  -- what the point's op does
  abbrev done : State × Object
  done = write_point st.plan st.world.site (max st.world.time moment) it.point (Some new)

  target_is : target_at st.plan (post it slot) (locate st.plan.base (post it slot).target) ≡ Itself
  target_is =
      ap (target_at st.plan (post it slot)) located
      ∙ (ap (λ b. cond (b && true) NewWatch (target_part (post it slot) (watch_part st.plan (below it.point (codes "writePoint"))))) (isnt_make st.plan it.point)
      ∙ ap (target_part (post it slot)) (no_watch st.plan it.point))

  act_is : (ns : List ℕ) → act_itself locate st.plan st.world.site ns (post it slot) (max st.world.time moment) ≡ done
  act_is ns =
      ap (act_located locate st.plan st.world.site ns (max st.world.time moment) (post it slot)) located
      ∙ ap (act_on locate st.plan st.world.site ns (max st.world.time moment) (post it slot) (below it.point (codes "writePoint"))) place

  acted_is : acted m (begun m st.world moment) (post it slot) (m.target (post it slot)) ≡ (with_site m (begun m st.world moment) done.0, Answered done.1)
  acted_is =
      ap (acted m (begun m st.world moment) (post it slot)) target_is
      ∙ ap (λ (d : State × Object). (with_site m (begun m st.world moment) d.0, Answered d.1)) (act_is (numbers_of (begun m st.world moment).watches))

  pub leaves : (acts st (post it slot) moment).0.world.site ≡ roll done.0
  leaves = ap (λ (d : World m × Reply m). roll d.0.site) acted_is

  pub replies : (acts st (post it slot) moment).1 ≡ done.1
  replies = ap (λ (d : World m × Reply m). sent st.plan d.1) acted_is

-- ---- what the op does with a value that is let through

value_is : (s : State) (k : Kind) (slot : Slot) → (slot ≡ Absent → ⊥) → (given_by s (valued k (codes "value") slot)).slot ≡ slot
unfolding result_of
value_is s k slot some = given_slot k slot _ some

fault_is : (plan : Plan) (s : State) (now : ℕ) (p : Path) (h n : Head) → same_kind n.kind h.kind ≡ true → slot_fault plan s h n.slot ≡ None
    → value_fault plan s now p h n ≡ cond (overfills plan s now p h n.slot) (Some TooManyEntries) None
fault_is plan s now p h n kind fault =
    ap (λ b. option_or (cond (not b) (Some OtherKind) None) (option_or (slot_fault plan s h n.slot) (first_fault ((overfills plan s now p h n.slot, TooManyEntries) ∷ [])))) kind
    ∙ ap (λ (f : Option Fault). option_or f (first_fault ((overfills plan s now p h n.slot, TooManyEntries) ∷ []))) fault

module _ (plan : Plan) (s : State) (now : ℕ) (p : Path) (k : Kind) (slot : Slot) (o : Object) where
  abbrev value : Object
  value = valued k (codes "value") slot

  -- there is no room, or the value is written
  pub outcome : shown plan s p ≡ Some o → same_kind k o.head.kind ≡ true → slot_fault plan s o.head slot ≡ None → (slot ≡ Absent → ⊥)
      → ((write_point plan s now p (Some value)).1 ≡ err TooManyEntries) ⊎ ((write_point plan s now p (Some value)).0 ≡ written plan now p o slot s)
  outcome shows kind fault some = go (overfills plan s now p o.head (given_by s value).slot) refl
    where
      given_is : (given_by s value).slot ≡ slot
      given_is = value_is s k slot some

      by : write_point plan s now p (Some value) ≡ write_by plan s now p o None value
      by = ap (λ (x : Option Object). write_by plan s now p (unwrap_or x value) None value) shows

      faults : value_fault plan s now p o.head (given_by s value) ≡ cond (overfills plan s now p o.head (given_by s value).slot) (Some TooManyEntries) None
      faults = fault_is plan s now p o.head (given_by s value)
          (ap (λ (l : Kind). same_kind l o.head.kind) (kind_given s value) ∙ kind)
          (ap (slot_fault plan s o.head) given_is ∙ fault)

      go : (b : Bool) → overfills plan s now p o.head (given_by s value).slot ≡ b
          → ((write_point plan s now p (Some value)).1 ≡ err TooManyEntries) ⊎ ((write_point plan s now p (Some value)).0 ≡ written plan now p o slot s)
      go true over = inl (ap (λ (d : State × Object). d.1) by
          ∙ ap (λ (f : Option Fault). (unless f s (showing plan p o (written plan now p o (given_by s value).slot s))).1) (faults ∙ ap (λ b. cond b (Some TooManyEntries) None) over))
      go false over = inr (ap (λ (d : State × Object). d.0) by
          ∙ (ap (λ (f : Option Fault). (unless f s (showing plan p o (written plan now p o (given_by s value).slot s))).0) (faults ∙ ap (λ b. cond b (Some TooManyEntries) None) over)
          ∙ ap (λ (v : Slot). written plan now p o v s) given_is))

  -- what is written stands in the tree, or is shown already
  pub either : (slot ≡ o.head.slot) × (written plan now p o slot s ≡ s) ⊎ (written plan now p o slot s ≡ write plan now p o.head.kind slot s)
  either = go (same_slot slot o.head.slot) refl
    where
      go : (b : Bool) → same_slot slot o.head.slot ≡ b → (slot ≡ o.head.slot) × (written plan now p o slot s ≡ s) ⊎ (written plan now p o slot s ≡ write plan now p o.head.kind slot s)
      go true e = inl (tells_slot.equal slot o.head.slot e, ap (λ b. cond b s (write plan now p o.head.kind slot s)) e)
      go false e = inr (ap (λ b. cond b s (write plan now p o.head.kind slot s)) e)

-- ---- one write

-- the point of a schedule: it is among the site's, and its node is of the kind
pub record IsPoint (st : SiteState) (p : Path) (k : Kind) : Type 0 where
  pub among : is_among p st.plan.points ≡ true
  pub object : Object
  pub node_is : node_of p st.world.site.tree ≡ Some object
  pub kind_is : object.head.kind ≡ k

pub point_of : (st : SiteState) (p : Path) (k : Kind) → (rules_of st).kind_at p ≡ Some k → IsPoint st p k
point_of st p k e = go (is_among p st.plan.points) (node_of p st.world.site.tree) refl refl e
  where
    go : (b : Bool) (o : Option Object) → is_among p st.plan.points ≡ b → node_of p st.world.site.tree ≡ o → option_map (λ (x : Object). x.head.kind) (cond b (option_map (λ x. leaf x.head) o) None) ≡ Some k → IsPoint st p k
    go false o a n f = absurd cc
    go true None a n f = absurd cc
    go true (Some x) a n f = record { among = a; object = x; node_is = n; kind_is = cc }

pub record Sets (start st u : SiteState) (p : Path) (slot : Slot) : Type 0 where
  pub stands : Stands start u
  pub at : shown_slot u p ≡ Some slot
  pub others : (q : Path) → is_among q start.plan.points ≡ true → (p ≡ q → ⊥) → shown_slot u q ≡ shown_slot st q

module _ (start st : SiteState) (ready : IsReady start) (stands : Stands start st) (it : Schedule) (slot : Slot)
    (located : locate start.plan.base (codes "http://h" ++ below it.point (codes "writePoint")) ≡ Some (below it.point (codes "writePoint")))
    (kind_at : (rules_of start).kind_at it.point ≡ Some it.kind) (fits : is_written (rules_of start) it.point slot ≡ true) where
  abbrev p : Path
  p = it.point

  point : IsPoint start p it.kind
  point = point_of start p it.kind kind_at

  now_ready : IsReady st
  now_ready = ready_then start st ready stands

  some_slot : slot ≡ Absent → ⊥
  some_slot e = absurd (let f : is_written (rules_of start) it.point Absent ≡ true = subst (λ (v : Slot). is_written (rules_of start) it.point v ≡ true) e fits in true≢false (sym f))

  now_among : (q : Path) → is_among q start.plan.points ≡ true → is_among q st.plan.points ≡ true
  now_among q a = subst (λ (plan : Plan). is_among q plan.points ≡ true) (sym stands.plan) a

  shows : IsShown st.plan st.world.site p
  shows = shown_at st.plan st.world.site p now_ready.differ (there start ready st stands p point.among)

  abbrev o : Object
  o = comes_to shows.at.context (derived_own st.plan st.world.site shows.at.object)

  same_object_kind : (a b : Option Object) (x y : Object) → AreSame a b → a ≡ Some x → b ≡ Some y → x.head.kind ≡ y.head.kind
  same_object_kind None b x y d e f = absurd cc
  same_object_kind (Some a) None x y d e f = absurd cc
  same_object_kind (Some a) (Some b) x y d e f =
      ap (λ (z : Object). z.head.kind) (sym (some_one a x e)) ∙ (ap (λ (u : Head). u.kind) d.0 ∙ ap (λ (z : Object). z.head.kind) (some_one b y f))

  kind_now : same_kind it.kind o.head.kind ≡ true
  kind_now =
      subst (λ (k : Kind). same_kind it.kind k ≡ true)
      (sym point.kind_is
      ∙ (same_object_kind (node_of p start.world.site.tree) (node_of p st.world.site.tree) point.object shows.at.object (nodes_same p (row start.world.site.tree) (row st.world.site.tree) stands.values.tree) point.node_is shows.node_is
      ∙ (ap (λ (u : Head). u.kind) (sym (status_off st.plan st.world.site shows.at.object.head (node_path shows.at.object.head)))
      ∙ ap (λ (u : Head). u.kind) (sym (head_comes st.plan st.world.site shows.at.context shows.at.object)))))
      (tells_kind.itself it.kind)

  fault_now : slot_fault st.plan st.world.site o.head slot ≡ None
  fault_now = by_slot slot fits
    where
      differ : PathsDiffer (row (dressed start.plan st.world.site))
      differ = subst (λ (plan : Plan). PathsDiffer (row (dressed plan st.world.site))) stands.plan now_ready.differ

      by_slot : (v : Slot) → is_written (rules_of start) p v ≡ true → slot_fault st.plan st.world.site o.head v ≡ None
      by_slot Absent e = refl
      by_slot Null e = refl
      by_slot (Is x) e =
          ap (λ (plan : Plan). slot_fault plan st.world.site o.head (Is x)) stands.plan
          ∙ passes_still start.plan start.world.site st.world.site stands.values ready.differ differ p x o (ready.points p point.among).0 e
          (subst (λ (plan : Plan). shown plan st.world.site p ≡ Some o) stands.plan shows.shows)

  place : place_at st.plan st.world.site (below p (codes "writePoint")) ≡ Some (WritePointOf p)
  place = place_is st.plan p st.world.site now_ready.differ (λ q a. is_there q st.world.site.tree (now_ready.points q a).0) (now_among p point.among)

  located_now : locate st.plan.base (codes "http://h" ++ below p (codes "writePoint")) ≡ Some (below p (codes "writePoint"))
  located_now = subst (λ (plan : Plan). locate plan.base (codes "http://h" ++ below p (codes "writePoint")) ≡ Some (below p (codes "writePoint"))) (sym stands.plan) located

  module _ (e : Call) (asks : e.request ≡ post it slot) (keeps : KeepsContracts st e) where
    -- what is left, where the value was written
    sets_in : (u : SiteState) → Stands start u → u.world.site ≡ roll (written st.plan (max st.world.time e.moment) p o slot st.world.site) → Sets start st u p slot
    sets_in u then left_is = by_case (either st.plan st.world.site (max st.world.time e.moment) p it.kind slot o)
      where
        then_shows : IsShown u.plan u.world.site p
        then_shows = shown_at u.plan u.world.site p (ready_then start u ready then).differ (there start ready u then p point.among)

        by_case : (slot ≡ o.head.slot) × (written st.plan (max st.world.time e.moment) p o slot st.world.site ≡ st.world.site) ⊎ (written st.plan (max st.world.time e.moment) p o slot st.world.site ≡ write st.plan (max st.world.time e.moment) p o.head.kind slot st.world.site)
            → Sets start st u p slot
        by_case (inl same) =
            let tree : u.world.site.tree ≡ st.world.site.tree = ap (λ (s : State). s.tree) left_is ∙ ap (λ (s : State). s.tree) same.1 in
            record {
              stands = then;
              at = stays start ready st u stands then p point.among (ap (λ (t : Object). option_map (λ (x : Object). x.head.slot) (node_of p t)) tree)
                  ∙ (ap (option_map (λ (x : Object). x.head.slot)) shows.shows ∙ ap Some (sym same.0));
              others = λ q a apart. stays start ready st u stands then q a (ap (λ (t : Object). option_map (λ (x : Object). x.head.slot) (node_of q t)) tree);
            }
        by_case (inr set) =
            let tree : u.world.site.tree ≡ with_slot p slot st.world.site.tree = ap (λ (s : State). s.tree) left_is ∙ ap (λ (s : State). s.tree) set in
            record {
              stands = then;
              at = own_slot u.plan u.world.site p then_shows slot
                  (ap (λ (t : Object). option_map (λ (x : Object). x.head.slot) (node_of p t)) tree ∙ (slot_set p slot (row st.world.site.tree) ∙ ap (option_map (λ _. slot)) shows.node_is)) some_slot;
              others = λ q a apart. stays start ready st u stands then q a (ap (λ (t : Object). option_map (λ (x : Object). x.head.slot) (node_of q t)) tree ∙ slot_kept p q slot (row st.world.site.tree) apart);
            }

    pub sets : IsCall acts st e → (IsWanting e.answer → ⊥) → Sets start st (left st e) p slot
    sets call done = go e.answer call.answer done (call_stands start st ready stands e keeps)
      where
        d : State × Object
        d = write_point st.plan st.world.site (max st.world.time e.moment) p (Some (valued it.kind (codes "value") slot))

        asked : acts st e.request e.moment ≡ acts st (post it slot) e.moment
        asked = ap (λ (r : Request). acts st r e.moment) asks

        site_is : (acts st e.request e.moment).0.world.site ≡ roll d.0
        site_is = ap (λ (x : SiteState × Object). x.0.world.site) asked ∙ leaves st it slot e.moment located_now place

        go : (a : Answer Object) → IsAnswer acts st e.request e.moment a → (IsWanting a → ⊥) → Stands start (left_by acts st e.request e.moment a) → Sets start st (left_by acts st e.request e.moment a) p slot
        go NoMemory answer fine then = absurd (fine (inl refl))
        go (Done reply) answer fine then = by_outcome (outcome st.plan st.world.site (max st.world.time e.moment) p it.kind slot o shows.shows kind_now fault_now some_slot)
          where
            by_outcome : (d.1 ≡ err TooManyEntries) ⊎ (d.0 ≡ written st.plan (max st.world.time e.moment) p o slot st.world.site) → Sets start st (acts st e.request e.moment).0 p slot
            by_outcome (inl full) = absurd (fine (inr (ap Done (answer ∙ (ap (λ (x : SiteState × Object). x.1) asked ∙ (replies st it slot e.moment located_now place ∙ full))))))
            by_outcome (inr done_is) = sets_in (acts st e.request e.moment).0 then (site_is ∙ ap roll done_is)
