-- An opened site is sound, and a step keeps it so.
use Rattle.std.proofs.Common.{arith, ◌≡◌, ℕ, [], ◌∷◌, replicate, refl, sym, ap, subst}
use Rattle.ob_object.specs.Object.{Object, parts}
use Rattle.ob_step_laws.proofs.Opening.{opens_points}
use Rattle.ob_machine.specs.History.{entry}
use Rattle.ob_machine.specs.declared.call.Answer.TheVariants.{Done}
use Rattle.ob_site_watches.proofs.Stamping.{stamps_are_past}
use Rattle.ob_step_laws.proofs.Opened.{opens_consistent}
use Rattle.ob_site_laws.specs.SiteLaws.{IsSoundSite}
use Rattle.ob_site_laws.proofs.EventsTold.{nothing_told}
use Rattle.ob_site_laws.proofs.SiteHistories.{stays}
use Rattle.ob_site_open.specs.Opens.{just_opened}
use Rattle.ob_site_rules.specs.declared.request.Request.{Request}
use Rattle.ob_site_rules.specs.Locating.{locate}
use Rattle.ob_site_rules.specs.Sites.{SiteState, step}
use Rattle.ob_site_rules.specs.State.{State, roll}
use Rattle.ob_site_state.specs.Kept.{Kept, IsSoundFor}
use Rattle.ob_watch.specs.Tables.{Table, no_watches}
use Rattle.ob_site.specs.Between.{HoldsBetweenSteps, IsOpened, IsSite}
use Rattle.ob_site.proofs.Levels.{opened_shallow}
use Rattle.ob_site.proofs.Marks.{long_same}

-- what a step leaves of a sound site is sound
pub sound_step : (old new : SiteState) (r : Request) (moment : ℕ) (o : Object) → IsSoundSite old → (new, o) ≡ step locate old r moment → IsSoundSite new
sound_step old new r moment o sound is =
    subst IsSoundSite (sym (ap (λ (done : SiteState × Object). done.0) is)) (stays old sound (entry 0 r moment (Done o) ∷ [])).1

-- a state that was just opened, without watches
opened_site : (k : Kept) → (o : IsOpened k) → IsSoundFor o.opens.site.plan o.opens.site.world.site → roll o.opens.site.world.site ≡ o.opens.site.world.site → IsSite (just_opened o.opens.site) no_watches
opened_site k o sound rolled =
    let st : SiteState = o.opens.site in
    let s : State = st.world.site in
    let owed = opens_consistent o.root o.boot st o.well_formed sound.consistent.counted o.opens.opens in record {
      since = refl;
      before = refl;
      kept = record {
        made = owed.library;
        points = λ p among. (sound.consistent.points p among, λ node is. opens_points o.root o.boot st o.opens.opens p node among is);
        shallow = opened_shallow o.root o.boot st o.opens.opens o.shallow;
        long = long_same (parts s.tree) 0;
        past = stamps_are_past.begins s.tree;
        own = tt;
        marks = tt;
        numbered = tt;
      };
      sound = record { of_watches = record { numbers = omega arith; next = omega arith; texts = tt; rolled = rolled }; of_alarms = nothing_told st.plan s owed.alarms owed.events };
    }

pub fresh_site : (k : Kept) (t : Table) → IsOpened k → IsSoundFor k.plan k.now → roll k.before ≡ k.before → t ≡ no_watches → IsSite k t
fresh_site k t o sound rolled none =
    subst (λ (x : Kept). IsSite x t) (sym o.opens.is)
    (subst (λ (x : Table). IsSite (just_opened o.opens.site) x) (sym none)
    (opened_site k o (subst (λ (x : Kept). IsSoundFor x.plan x.now) o.opens.is sound) (subst (λ (x : Kept). roll x.before ≡ x.before) o.opens.is rolled)))
