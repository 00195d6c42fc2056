-- The laws of watches of the whole site, over restarts.
use Rattle.std.proofs.Common.{◌≡◌, ℕ, ◌^◌, ◌<◌, ◌≤◌, List, [], ◌∷◌, ◌++◌, None, refl, sym, ap, subst, subst₂, le_refl, le_trans, inl, inr}
use Rattle.std.specs.List.{AllByRecursion}
use Rattle.ob_values.proofs.Lists.{all_mapped}
use Rattle.ob_machine.specs.History.{entry, left_by, after, IsAnswer, IsLegal}
use Rattle.ob_machine.specs.declared.call.Answer.{Answer}
use Rattle.ob_machine.specs.declared.call.Answer.TheVariants.{Done, NoMemory}
use Rattle.ob_machine.proofs.HistoryLemmas.{after-append, legal_front, legal_back}
use Rattle.ob_object.specs.Object.{Object}
use Rattle.ob_watching.specs.Tables.{lookup}
use Rattle.ob_watching.specs.Watches.{World, act, IsSound}
use Rattle.ob_watching.specs.Laws.{IsMake, WasMade}
use Rattle.ob_site_rules.specs.declared.request.Request.{Request}
use Rattle.ob_site_rules.specs.Locating.{locate}
use Rattle.ob_site_rules.specs.declared.plan.Plan.{Plan}
use Rattle.ob_site_rules.specs.State.{State, board}
use Rattle.ob_site_rules.specs.Sites.{SiteState}
use Rattle.ob_site_laws.specs.SiteLaws.{acts, of_plan, Call, TellsEvents, IsSoundSite}
use Rattle.ob_site_laws.proofs.Lawful.{lawful}
use Rattle.ob_site_laws.proofs.SiteHistories.{stays, gone_for_good, whole}
use Rattle.ob_site_laws.specs.Seen.{KeepsWatches}
use Rattle.ob_site_laws.proofs.Seen.{keeps_watches}
use Rattle.ob_lasting.proofs.Histories.{all_at, first_run, history_back, run_cut, history_cut, kept_after, later_starts}
use Rattle.ob_lasting.proofs.Gone.{act_next, sound_restart, made_next}
use Rattle.ob_site_lasting.specs.SiteLasting.{IsSiteRestartOf, KeepsNumbers, Run, IsSiteHistory, StartsSound, SiteCutOff, EachRunKeepsWatches, IsGoneIn, GoneOverRestarts}

sound_acts : (st : SiteState) (r : Request) (moment : ℕ) → IsSoundSite st → IsSoundSite (acts st r moment).0
sound_acts st r moment h = (stays st h (entry 0 r moment (Done (acts st r moment).1) ∷ [])).1

-- the site's own restarts
sound_restarted : (old new : SiteState) → IsSiteRestartOf old new → IsSoundSite old → IsSoundSite new
sound_restarted old new h sound = record {
  of_watches = subst (λ (plan : Plan). IsSound (of_plan plan) new.world) (sym h.plan) (sound_restart (of_plan old.plan) old.world new.world h.world sound.of_watches);
  of_alarms = subst₂ (λ (plan : Plan) (s : State). TellsEvents (board plan s)) (sym h.plan) (sym h.world.site) sound.of_alarms;
}

pub restarts_keep_numbers : KeepsNumbers IsSiteRestartOf
restarts_keep_numbers = record { sound = sound_restarted; watches = λ old new h. h.world.watches; next = λ old new h. h.world.next }

pub site_cut_off : (IsRestart : SiteState → SiteState → Type 0) → SiteCutOff IsRestart
site_cut_off IsRestart earlier run later h before rest is lost at =
    let back : IsSiteHistory IsRestart (run ∷ later) = history_back acts IsRestart earlier run later h in
    history_cut acts IsRestart earlier run later h (record { start = run.start; calls = before; lost = lost }) refl
    (run_cut acts IsRestart run (first_run acts IsRestart run later back) before rest is lost at)

module _ (n : ℕ) (small : n < 2 ^ 64) where
  abbrev IsBelow : SiteState → Type 0
  IsBelow st = n < st.world.next

  below_acts : (st : SiteState) (r : Request) (moment : ℕ) → IsBelow st → IsBelow (acts st r moment).0
  below_acts st r moment h = le_trans h (act_next (of_plan st.plan) st.world r moment)

  below_after : (st : SiteState) (es : List Call) → IsBelow st → IsBelow (after acts st es)
  below_after = kept_after acts IsSiteRestartOf IsBelow IsBelow below_acts (λ st h. h) (λ old new is h. le_trans h is.world.next)

  made_by : (plan : Plan) (w : World (of_plan plan)) (e : Call) → IsSoundSite (whole plan w) → IsAnswer acts (whole plan w) e.request e.moment e.answer → IsMake (of_plan plan) n e → IsBelow (left_by acts (whole plan w) e.request e.moment e.answer)
  made_by plan w e sound is make =
      subst (λ (a : Answer Object). IsBelow (left_by acts (whole plan w) e.request e.moment a)) (sym make.answer)
      (made_next (of_plan plan) (lawful locate plan) n small w e.request e.moment make.lease sound.of_watches make.target
      (subst (λ (a : Answer Object). IsAnswer acts (whole plan w) e.request e.moment a) make.answer is))

  -- by any answer the plan stays
  left_so : (plan : Plan) (w : World (of_plan plan)) (e : Call) (a : Answer Object) → left_by acts (whole plan w) e.request e.moment a ≡ whole plan (left_by (act (of_plan plan)) w e.request e.moment a)
  left_so plan w e (Done reply) = refl
  left_so plan w e NoMemory = refl

  sound_left : (plan : Plan) (w : World (of_plan plan)) (e : Call) (a : Answer Object) → IsSoundSite (whole plan w) → IsSoundSite (whole plan (left_by (act (of_plan plan)) w e.request e.moment a))
  sound_left plan w e (Done reply) h = sound_acts (whole plan w) e.request e.moment h
  sound_left plan w e NoMemory h = h

  next_left : (plan : Plan) (w : World (of_plan plan)) (e : Call) (a : Answer Object) → w.next ≤ (left_by (act (of_plan plan)) w e.request e.moment a).next
  next_left plan w e (Done reply) = act_next (of_plan plan) w e.request e.moment
  next_left plan w e NoMemory = le_refl w.next

  made_after : (plan : Plan) (start w : World (of_plan plan)) (es : List Call) → IsSoundSite (whole plan w) → start.next ≤ w.next → IsLegal acts (whole plan w) es → WasMade (of_plan plan) start n es → IsBelow (after acts (whole plan w) es)
  made_after plan start w [] sound le legal is = le_trans is le
  made_after plan start w (e ∷ es) sound le legal (inl make) = below_after (left_by acts (whole plan w) e.request e.moment e.answer) es (made_by plan w e sound legal.0.answer make)
  made_after plan start w (e ∷ es) sound le legal (inr is) =
      subst (λ (st : SiteState). IsBelow (after acts st es)) (sym (left_so plan w e e.answer))
      (made_after plan start (left_by (act (of_plan plan)) w e.request e.moment e.answer) es (sound_left plan w e e.answer sound) (le_trans le (next_left plan w e e.answer))
      (subst (λ (st : SiteState). IsLegal acts st es) (left_so plan w e e.answer) legal.1) is)

  gone_in : (st : SiteState) (es : List Call) → IsSoundSite st → IsBelow st → lookup n st.world.watches ≡ None → IsLegal acts st es → IsGoneIn n st es
  gone_in st es sound given gone legal = record {
    nowhere = λ before later is. (gone_for_good n small st sound [] before (legal_front acts st before later (subst (IsLegal acts st) (sym is) legal)) given gone).0;
    answers = (gone_for_good n small st sound [] es legal given gone).1;
  }

  -- what holds of each state once the watch was made, and at each later start
  abbrev Given : SiteState → Type 0
  Given st = IsSoundSite st × IsBelow st

  abbrev Bare : SiteState → Type 0
  Bare st = Given st × (lookup n st.world.watches ≡ None)

  given_acts : (st : SiteState) (r : Request) (moment : ℕ) → Given st → Given (acts st r moment).0
  given_acts st r moment h = (sound_acts st r moment h.0, below_acts st r moment h.1)

module _ (IsRestart : SiteState → SiteState → Type 0) (keeps : KeepsNumbers IsRestart) where
  pub each_run_keeps_watches : EachRunKeepsWatches IsRestart
  each_run_keeps_watches [] h first = tt
  each_run_keeps_watches (run ∷ runs) h first = (
    (first, keeps_watches run.start first run.calls (first_run acts IsRestart run runs h).calls),
    all_mapped _ (λ r. IsSoundSite r.start × KeepsWatches r.start r.calls) (λ r is. (is.0, keeps_watches r.start is.0 r.calls is.1.calls)) runs
        (later_starts acts IsRestart IsSoundSite IsSoundSite sound_acts (λ s is. is) keeps.sound run runs h (stays run.start first run.calls).1),
  )

  sound_at : (earlier : List Run) (run : Run) (later : List Run) → IsSiteHistory IsRestart (earlier ++ run ∷ later) → StartsSound (earlier ++ run ∷ later) → IsSoundSite run.start
  sound_at earlier run later h first = (all_at (λ r. IsSoundSite r.start × KeepsWatches r.start r.calls) earlier run later (each_run_keeps_watches (earlier ++ run ∷ later) h first)).0

  bare_restarted : (n : ℕ) (small : n < 2 ^ 64) (old new : SiteState) → IsRestart old new → Given n small old → Bare n small new
  bare_restarted n small old new h given = ((keeps.sound old new h given.0, le_trans given.1 (keeps.next old new h)), ap (λ ws. lookup n ws) (keeps.watches old new h))

  gone_later : (n : ℕ) (small : n < 2 ^ 64) (run : Run) (later : List Run) → IsSiteHistory IsRestart (run ∷ later) → Given n small (after acts run.start run.calls) → AllByRecursion (λ r. IsGoneIn n r.start r.calls) later
  gone_later n small run later h given =
      all_mapped _ (λ r. IsGoneIn n r.start r.calls) (λ r is. gone_in n small r.start r.calls is.0.0.0 is.0.0.1 is.0.1 is.1.calls) later
      (later_starts acts IsRestart (Given n small) (Bare n small) (given_acts n small) (λ s is. is.0) (bare_restarted n small) run later h given)

  pub gone_over_restarts : (n : ℕ) → GoneOverRestarts IsRestart n
  gone_over_restarts n small earlier run later h first before rest is made =
      let sound : IsSoundSite run.start = sound_at earlier run later h first in
      let back : IsSiteHistory IsRestart (run ∷ later) = history_back acts IsRestart earlier run later h in
      let legal : IsLegal acts run.start (before ++ rest) = subst (IsLegal acts run.start) (sym is) (first_run acts IsRestart run later back).calls in
      let given = made_after n small run.start.plan run.start.world run.start.world before sound (le_refl run.start.world.next) (legal_front acts run.start before rest legal) made in
      let sound_before = (stays run.start sound before).1 in (
        λ gone. gone_in n small (after acts run.start before) rest sound_before given gone (legal_back acts run.start before rest legal),
        gone_later n small run later back (
          (stays run.start sound run.calls).1,
          subst (λ (es : List Call). n < (after acts run.start es).world.next) is
              (subst (λ (st : SiteState). n < st.world.next) (sym (after-append acts run.start before rest)) (below_after n small (after acts run.start before) rest given)),
        ),
      )
