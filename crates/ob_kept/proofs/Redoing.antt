-- A step done again from the state that a record leads to.
use Rattle.std.proofs.Common.{◌≡◌, ◌≢◌, ℕ, ◌≤◌, max, Bool, true, false, cond, refl, sym, ◌∙◌, ap, subst, arith}
use Rattle.ob_object.specs.Object.{Object}
use Rattle.ob_watching.specs.Operations.{Itself, Answered}
use Rattle.ob_watching.specs.Sites.{Site}
use Rattle.ob_watching.specs.Tables.{numbers_of}
use Rattle.ob_watching.specs.Watches.{act, acted, begun}
use Rattle.ob_site_rules.specs.declared.request.Request.{Request}
use Rattle.ob_site_rules.specs.Actions.{act_itself}
use Rattle.ob_site_rules.specs.Entries.{empty_object}
use Rattle.ob_site_rules.specs.Locating.{locate}
use Rattle.ob_site_rules.specs.Replies.{sent}
use Rattle.ob_site_rules.specs.declared.plan.Plan.{Plan}
use Rattle.ob_site_rules.specs.State.{State}
use Rattle.ob_site_rules.specs.Sites.{SiteState}
use Rattle.ob_site_laws.specs.SiteLaws.{acts, of_plan}
use Rattle.ob_lasting.specs.Lasting.{IsRestartOf}
use Rattle.ob_lasting.specs.Records.{Request as TheRequest, renewed}
use Rattle.ob_lasting.proofs.Again.{done_again_further}
use Rattle.ob_site_lasting.specs.SiteLasting.{IsSiteRestartOf}
use Rattle.ob_site_lasting.proofs.SiteRecords.{apart}
use Rattle.ob_values.specs.declared.verb.Verb.{Verb}
use Rattle.ob_values.specs.declared.verb.Verb.TheVariants.{Get, Put, Post}
use Rattle.ob_lasting.proofs.Replaying.{acted_time}
use Rattle.ob_requests.specs.BatchCalls.{posts_list}
use Rattle.ob_requests.proofs.Apart.{act_apart}
use Rattle.ob_kept.specs.Redone.{kept_reply, numbers_noted, request_redone, redone_as, redone}

-- a request other than a Get is done again
no_get : (verb : Verb) (s : SiteState) (r : Request) (time : ℕ) → verb ≢ Get → redone_as verb s r time ≡ (request_redone s r time, kept_reply r (acts s r time).1)
no_get Get s r time other = absurd (other refl)
no_get Put s r time other = refl
no_get Post s r time other = refl

same_kept : (r : Request) (a b : Object) (batch : Bool) → posts_list r ≡ batch → (posts_list r ≡ false → a ≡ b) → kept_reply r a ≡ kept_reply r b
same_kept r a b true is same = ap (λ (x : Bool). cond x empty_object a) is ∙ sym (ap (λ (x : Bool). cond x empty_object b) is)
same_kept r a b false is same = ap (kept_reply r) (same is)

-- where more numbers may have been given, the site may still go on
pub more_restart : (now led : SiteState) → IsSiteRestartOf now led → IsSiteRestartOf now (numbers_noted led)
more_restart now led h =
    let next = h.world.next in
    let room = h.world.room in
    record { plan = h.plan; world = record { site = h.world.site; watches = refl; next = omega (arith, next); room = omega (arith, room); time = h.world.time } }

-- a state that leaves the site as it was, and gives no number that may not have been given
pub still_restart : (now left led : SiteState) → IsSiteRestartOf now led → left.plan ≡ now.plan → left.world.site ≡ now.world.site → left.world.next ≤ led.world.next → now.world.time ≤ left.world.time
    → IsSiteRestartOf left led
still_restart now left led h plan site next time =
    let early = h.world.time in
    record {
      plan = h.plan ∙ sym plan;
      world = record { site = h.world.site ∙ sym site; watches = h.world.watches; next = next; room = h.world.room; time = omega (arith, early, time) };
    }

-- the time of a step is the later one
pub time_of : (st : SiteState) (r : Request) (moment : ℕ) → (acts st r moment).0.world.time ≡ max st.world.time moment
time_of st r moment = acted_time (of_plan st.plan) (begun (of_plan st.plan) st.world moment) r ((of_plan st.plan).target r)

module _ (now led : SiteState) (h : IsSiteRestartOf now led) (r : Request) (moment : ℕ) where
  abbrev pub at : ℕ
  at = max now.world.time moment

  abbrev m : Site
  m = of_plan now.plan

  time_is : max led.world.time at ≡ at
  time_is = let le = h.world.time in omega (arith, le)

  -- the reply by the plan of the site
  by_plan : (acts led r at).1 ≡ (act m led.world r at).1
  by_plan = ap (λ (plan : Plan). (act (of_plan plan) led.world r at).1) h.plan

  reply_itself : m.target r ≡ Itself → posts_list r ≡ false → (acts led r at).1 ≡ (acts now r moment).1
  reply_itself itself plain =
      by_plan
      ∙ ap (λ t. m.sent (acted m (begun m led.world at) r t).1) itself
      ∙ ap (λ (o : Object). sent now.plan (Answered o)) (
      ap (λ (x : State × Object). x.1)
      (act_apart locate now.plan (numbers_of (begun m led.world at).watches) (numbers_of (begun m now.world moment).watches) (max led.world.time at) led.world.site r (locate now.plan.base r.target) plain)
      ∙ ap (λ (s : State). (act_itself locate now.plan s (numbers_of (begun m now.world moment).watches) r (max led.world.time at)).1) h.world.site
      ∙ ap (λ (t : ℕ). (act_itself locate now.plan now.world.site (numbers_of (begun m now.world moment).watches) r t).1) time_is
      )
      ∙ sym (ap (λ t. m.sent (acted m (begun m now.world moment) r t).1) itself)

  -- what an entry of the request leaves is a restart of what the step leaves
  request_restart : IsSiteRestartOf (acts now r moment).0 (request_redone led r at)
  request_restart = record {
    plan = h.plan;
    world = subst (λ (plan : Plan). IsRestartOf m (acts now r moment).0.world (renewed (of_plan plan) led.world (TheRequest r at))) (sym h.plan)
        (done_again_further m (apart now.plan) now.world led.world h.world r moment);
  }

  module _ (itself : m.target r ≡ Itself) (other : r.verb ≢ Get) where
    done_so : redone led r at ≡ (request_redone led r at, kept_reply r (acts led r at).1)
    done_so = no_get r.verb led r at other

    pub redone_restart : IsSiteRestartOf (acts now r moment).0 (redone led r at).0
    redone_restart = subst (λ (x : SiteState × Object). IsSiteRestartOf (acts now r moment).0 x.0) (sym done_so) request_restart

    pub redone_reply : kept_reply r (acts now r moment).1 ≡ (redone led r at).1
    redone_reply =
        sym (same_kept r (acts led r at).1 (acts now r moment).1 (posts_list r) refl (reply_itself itself))
        ∙ sym (ap (λ (x : SiteState × Object). x.1) done_so)

    -- and gives no number
    pub redone_next : (redone led r at).0.world.next ≡ led.world.next
    redone_next =
        ap (λ (x : SiteState × Object). x.0.world.next) done_so
        ∙ ap (λ (plan : Plan). (act (of_plan plan) led.world r at).0.next) h.plan
        ∙ ap (λ t. (acted m (begun m led.world at) r t).0.next) itself
