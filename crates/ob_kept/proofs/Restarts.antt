-- Restarts keep numbers of watches.
use Rattle.std.proofs.Common.{◌≡◌, ℕ, ◌≤◌, List, [], ◌∷◌, map, sym, ap, ◌∙◌, subst, refl, arith}
use Rattle.std.specs.Prelude.{Ok}
use Rattle.std.specs.List.{AllByRecursion}
use Rattle.ob_object.specs.Object.{Object}
use Rattle.ob_site_rules.specs.Loading.{Part, path_of, records_of, capacity_of}
use Rattle.ob_site_rules.specs.Opening.{opening}
use Rattle.ob_step_laws.proofs.Begins.{begins}
use Rattle.ob_watching.specs.Watches.{Rises, Distinct}
use Rattle.ob_site_laws.specs.SiteLaws.{TellsEvents, IsSoundSite, of_plan}
use Rattle.ob_site_rules.specs.Build.{Path}
use Rattle.ob_site_rules.specs.State.{Log, State, board, roll, rolled, rolled_logs}
use Rattle.ob_site_rules.specs.Sites.{SiteState}
use Rattle.ob_site_state.proofs.Settling.{rolled_once}
use Rattle.ob_site_lasting.proofs.SiteRuns as runs
use Rattle.ob_kept.specs.Restarting.{IsRestartOf, lasted, opened_anew, RestartsKeepNumbers, EachRunKeeps, GoneLater}

-- logs that have rolled roll no further
rolled_each : (s : State) (f : Part → Path × Log) (hs : List Part) → rolled_logs (map (λ p. ((f p).0, rolled (f p).1)) hs) ≡ map (λ p. ((f p).0, rolled (f p).1)) hs
rolled_each s f [] = refl
rolled_each s f (p ∷ hs) =
    ap (λ (l : Log). let x : Path × Log = ((f p).0, l) in x ∷ rolled_logs (map (λ q. ((f q).0, rolled (f q).1)) hs)) (rolled_once s (f p))
    ∙ ap (λ (ls : List (Path × Log)). let x : Path × Log = ((f p).0, rolled (f p).1) in x ∷ ls) (rolled_each s f hs)

rolls_so : (s : State) → rolled_logs s.logs ≡ s.logs → roll s ≡ s
rolls_so s e = ap (λ (ls : List (Path × Log)). let t : State = record s { logs = ls } in t) e

abbrev log_of : Part → Path × Log
log_of p = (path_of p, record { capacity = capacity_of p; gone = 0; kept = records_of p })

-- what a document opens has no watch, its first one will have number 1, no history rolls, and no alarm was raised yet
pub record IsBare (st : SiteState) : Type 0 where
  pub watches : st.world.watches ≡ []
  pub next : st.world.next ≡ 1
  pub rolled : roll st.world.site ≡ st.world.site
  pub alarms : TellsEvents (board st.plan st.world.site)

pub opened_bare : (root : Object) (boot : ℕ) (st : SiteState) → opening root boot ≡ Ok st → IsBare st
opened_bare root boot st h =
    let b = (begins root boot st h).opens in
    subst IsBare b.is (record {
      watches = refl;
      next = refl;
      rolled = rolls_so _ (rolled_each st.world.site log_of _);
      alarms = record { of_rules = tt; told = refl; one = λ rule lt. omega arith };
    })

pub bare_sound : (st : SiteState) → IsBare st → IsSoundSite st
bare_sound st bare = record {
  of_watches = record {
    numbers = subst (λ ws. Rises (of_plan st.plan) 0 st.world.next ws) (sym bare.watches) (omega arith);
    next = let one = bare.next in omega (arith, one);
    texts = subst (λ ws. AllByRecursion (λ e. Distinct (of_plan st.plan) e.1.items) ws) (sym bare.watches) tt;
    rolled = bare.rolled;
  };
  of_alarms = bare.alarms;
}

module _ (site : List ℕ) where
  sound_restart : (old new : SiteState) → IsRestartOf site old new → IsSoundSite old → IsSoundSite new
  sound_restart old new (lasted h) sound = runs.restarts_keep_numbers.sound old new h sound
  sound_restart old new (opened_anew boot moment opening opens had anew) sound = bare_sound new (opened_bare anew.1.0 moment new anew.1.1.1)

  no_watch : (old new : SiteState) → IsRestartOf site old new → new.world.watches ≡ []
  no_watch old new (lasted h) = h.world.watches
  no_watch old new (opened_anew boot moment opening opens had anew) = (opened_bare anew.1.0 moment new anew.1.1.1).watches

  no_less : (old new : SiteState) → IsRestartOf site old new → old.world.next ≤ new.world.next
  no_less old new (lasted h) = h.world.next
  no_less old new (opened_anew boot moment opening opens had anew) =
      let first = (opened_bare opens.1.0 boot opening opens.1.1.1).next in
      let second = (opened_bare anew.1.0 moment new anew.1.1.1).next in
      let few = had.world.next in
      omega (arith, first, second, few)

pub keep_numbers : RestartsKeepNumbers
keep_numbers site = record { sound = sound_restart site; watches = no_watch site; next = no_less site }

pub each_keeps : EachRunKeeps
each_keeps site = runs.each_run_keeps_watches (IsRestartOf site) (keep_numbers site)

pub gone_later : (n : ℕ) → GoneLater n
gone_later n site = runs.gone_over_restarts (IsRestartOf site) (keep_numbers site) n
