-- Requests that leave what lasts as it was, and records of the whole site.
use Rattle.std.proofs.Common.{◌≢◌, ℕ, Bool, true, false, cond, List, Option, Some, None, refl, sym, subst, max, inl, inr}
use Rattle.std.specs.Prelude.{◌&&◌}
use Rattle.std.specs.Str.{bytes_eq}
use Rattle.ob_values.specs.declared.verb.Verb.{Verb}
use Rattle.ob_values.specs.declared.verb.Verb.TheVariants.{Get}
use Rattle.ob_machine.specs.History.{after}
use Rattle.ob_object.specs.Object.{Object}
use Rattle.ob_watching.specs.Operations.{NewWatch}
use Rattle.ob_watching.specs.Tables.{numbers_of}
use Rattle.ob_watching.specs.Watches.{World, begun}
use Rattle.ob_site_rules.specs.declared.request.Request.{Request}
use Rattle.ob_site_rules.specs.Locating.{locate}
use Rattle.ob_site_rules.specs.Build.{Path}
use Rattle.ob_site_rules.specs.declared.plan.Plan.{Plan}
use Rattle.ob_site_rules.specs.declared.watch_part.WatchPart.{WatchPart}
use Rattle.ob_site_rules.specs.Paths.{make_path, watch_part}
use Rattle.ob_site_rules.specs.Watched.{SiteTarget, target_part, target_at}
use Rattle.ob_site_rules.specs.Sites.{SiteState}
use Rattle.ob_site_laws.specs.SiteLaws.{acts, of_plan, Call, IsSoundSite}
use Rattle.ob_site_laws.proofs.SiteHistories.{stays}
use Rattle.ob_lasting.specs.Lasting.{IsRestartOf}
use Rattle.ob_lasting.specs.Records.{Request as TheRequest, calls_of, notes_of, renewed, replayed}
use Rattle.ob_lasting.specs.Runs.{IsLeftBy}
use Rattle.ob_lasting.proofs.Again.{done_again, done_again_further}
use Rattle.ob_lasting.proofs.Replaying.{leaves_site, leaves_next, record_lasts}
use Rattle.ob_site_lasting.specs.SiteLasting.{SiteIsApart, SiteDoneAgain, SiteDoneAgainFurther, IsSiteRestartOf, LeavesAll, ReadsLeaveAll, WatchesLeaveAll, SiteRecordLasts, SiteRecordGoesOn}
use Rattle.ob_site_lasting.proofs.Apart.{itself_apart, read_itself}

pub apart : SiteIsApart
apart plan s ns ks r now = itself_apart locate plan ns ks now s r

pub site_done_again : SiteDoneAgain
site_done_again plan = done_again (of_plan plan) (apart plan)

pub site_done_again_further : SiteDoneAgainFurther
site_done_again_further plan = done_again_further (of_plan plan) (apart plan)

-- a read makes no watch
not_made_by : (plan : Plan) (target : List ℕ) (body : Option Object) (at : Option (ℕ × WatchPart)) → ◌≢◌ {A = SiteTarget} (target_part (record { verb = Get; target = target; body = body }) at) NewWatch
not_made_by plan target body None h = cc
not_made_by plan target body (Some w) h = cc

read_makes_none : (plan : Plan) (target : List ℕ) (body : Option Object) (p : Option Path) → ◌≢◌ {A = SiteTarget} (target_at plan (record { verb = Get; target = target; body = body }) p) NewWatch
read_makes_none plan target body None = λ h. cc
read_makes_none plan target body (Some p) = go (bytes_eq p (make_path plan))
  where
    go : (b : Bool) → ◌≢◌ {A = SiteTarget} (cond (b && false) NewWatch (target_part (record { verb = Get; target = target; body = body }) (watch_part plan p))) NewWatch
    go true = not_made_by plan target body (watch_part plan p)
    go false = not_made_by plan target body (watch_part plan p)

read_leaves : (st : SiteState) → IsSoundSite st → (target : List ℕ) (body : Option Object) (moment : ℕ) → LeavesAll st (acts st (record { verb = Get; target = target; body = body }) moment).0
read_leaves st sound target body moment = record {
  plan = refl;
  site = leaves_site (of_plan st.plan) st.world sound.of_watches (record { verb = Get; target = target; body = body }) moment
      (λ _. read_itself locate st.plan (numbers_of (begun (of_plan st.plan) st.world moment).watches) (begun (of_plan st.plan) st.world moment).time st.world.site target body);
  next = leaves_next (of_plan st.plan) st.world (record { verb = Get; target = target; body = body }) moment (read_makes_none st.plan target body (locate st.plan.base target));
}

pub reads_leave_all : ReadsLeaveAll
reads_leave_all st sound r is moment =
    subst (λ (verb : Verb). LeavesAll st (acts st (record { verb = verb; target = r.target; body = r.body }) moment).0) (sym is)
    (read_leaves st sound r.target r.body moment)

pub watches_leave_all : WatchesLeaveAll
watches_leave_all st sound n e on = record {
  plan = refl;
  site = leaves_site (of_plan st.plan) st.world sound.of_watches e.request e.moment (λ is. absurd (cc (on.1, is)));
  next = leaves_next (of_plan st.plan) st.world e.request e.moment (λ is. cc (on.1, is));
}

pub site_record_lasts : SiteRecordLasts
site_record_lasts old new sound h noted is =
    subst (λ (st : SiteState). IsSiteRestartOf st (record { plan = old.plan; world = replayed (of_plan old.plan) new.world (notes_of (of_plan old.plan) old.world noted) }))
    (sym (stays old sound (calls_of (of_plan old.plan) noted)).0)
    (record { plan = refl; world = record_lasts (of_plan old.plan) (apart old.plan) old.world new.world h.world noted is })

pub site_record_goes_on : SiteRecordGoesOn
site_record_goes_on run sound new h noted calls is next = (
  λ starts. record {
    end = ended;
    ended = kept_end ended run.lost;
    restart = subst (λ (st : SiteState). IsSiteRestartOf ended st) (sym starts) led;
  },
  λ r moment lost starts. record {
    end = (acts ended r moment).0;
    ended = subst (λ (q : Option (Request × ℕ)). IsLeftBy acts ended q (acts ended r moment).0) (sym lost) (inr refl);
    restart = subst (λ (st : SiteState). IsSiteRestartOf (acts ended r moment).0 st) (sym starts)
        (renewed_so ended (replayed (of_plan run.start.plan) new.world (notes_of (of_plan run.start.plan) run.start.world noted)) led r moment);
  },
)
  where
    ended : SiteState
    ended = after acts run.start run.calls

    led : IsSiteRestartOf ended (record { plan = run.start.plan; world = replayed (of_plan run.start.plan) new.world (notes_of (of_plan run.start.plan) run.start.world noted) })
    led = subst (λ (es : List Call). IsSiteRestartOf (after acts run.start es) (record { plan = run.start.plan; world = replayed (of_plan run.start.plan) new.world (notes_of (of_plan run.start.plan) run.start.world noted) })) calls
        (site_record_lasts run.start new sound h noted is)

    kept_end : (st : SiteState) (lost : Option (Request × ℕ)) → IsLeftBy acts st lost st
    kept_end st None = refl
    kept_end st (Some q) = inl refl

    -- a note of one request more
    renewed_so : (st : SiteState) (w : World (of_plan run.start.plan)) → IsSiteRestartOf st (record { plan = run.start.plan; world = w }) → (r : Request) (moment : ℕ)
        → IsSiteRestartOf (acts st r moment).0 (record { plan = run.start.plan; world = renewed (of_plan run.start.plan) w (TheRequest r (max st.world.time moment)) })
    renewed_so st w h r moment = record {
      plan = h.plan;
      world = subst (λ (plan : Plan). IsRestartOf (of_plan st.plan) (acts st r moment).0.world (renewed (of_plan plan) w (TheRequest r (max st.world.time moment)))) (sym h.plan)
          (done_again_further (of_plan st.plan) (apart st.plan) st.world w h.world r moment);
    }
