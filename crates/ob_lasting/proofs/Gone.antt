-- The laws of watches over restarts.
use Rattle.std.proofs.Common.{◌≡◌, ℕ, ◌^◌, ◌<◌, ◌≤◌, Bool, true, false, cond, List, [], ◌∷◌, ◌++◌, Some, None, refl, sym, ◌∙◌, ap, subst, arith, le_refl, le_trans, inl, inr}
use Rattle.std.specs.List.{AllByRecursion}
use Rattle.ob_values.proofs.Lists.{all_mapped}
use Rattle.ob_machine.specs.History.{entry, left_by, IsAnswer, IsCall}
use Rattle.ob_machine.specs.declared.call.Answer.TheVariants.{Done, NoMemory}
use Rattle.ob_machine.proofs.HistoryLemmas.{after-append, legal_front, legal_back}
use Rattle.ob_watching.specs.Operations.{Target, Itself, Nowhere, NewWatch, OneWatch, Told, Refused}
use Rattle.ob_watching.specs.Sites.{Site, IsLawful}
use Rattle.ob_watching.specs.Tables.{lookup}
use Rattle.ob_watching.specs.Watches.{World, Reply, first_lease, act, acted, begun, is_full, on_watch, made, yielded, Rises, Distinct, IsSound}
use Rattle.ob_watching.specs.Clients.{Replied, Asking}
use Rattle.ob_watching.specs.Laws.{step, after, Legal, IsMake, WasMade}
use Rattle.ob_watching.proofs.Laws.{sound_after, watch_stays_gone, watch_replays}
use Rattle.ob_lasting.specs.Lasting.{IsRestartOf}
use Rattle.ob_lasting.specs.LastingLaws.{Run, IsHistory, CutOff, StartsSound, EachStartsSound, IsGoneIn, WatchStaysGoneOverRestarts, WatchReplaysOverRestarts}
use Rattle.ob_lasting.proofs.Histories.{all_at, first_run, history_back, run_cut, history_cut, later_starts}

module _ (m : Site) where
  -- numbers of watches aren't given back
  acted_next : (w : World m) (r : m.Request) (t : Target m.Text m.Input m.Part m.Fault) → w.next ≤ (acted m w r t).0.next
  acted_next w r Itself = le_refl w.next
  acted_next w r Nowhere = le_refl w.next
  acted_next w r NewWatch = elim (is_full m (yielded m w)) as (λ b. let done : World m × Reply m = cond b (w, Refused m.too_many_watches) (made m (yielded m w), Told w.next first_lease m.whole) in w.next ≤ done.0.next) [ true ↦ le_refl w.next | false ↦ omega arith ]
  acted_next w r (OneWatch n op) = elim (lookup n w.watches) as (λ found. w.next ≤ (on_watch m w n op found).0.next) [ None ↦ le_refl w.next | Some v ↦ le_refl w.next ]

  pub act_next : (w : World m) (r : m.Request) (moment : ℕ) → w.next ≤ (act m w r moment).0.next
  act_next w r moment = acted_next (begun m w moment) r (m.target r)

  step_next : (w : World m) (e : Asking m) → w.next ≤ (step m w e).next
  step_next w e = go e.answer
    where
      go : (a : Replied m) → w.next ≤ (left_by (act m) w e.request e.moment a).next
      go NoMemory = le_refl w.next
      go (Done reply) = act_next w e.request e.moment

  -- a restart of a sound state is one
  pub sound_restart : (old new : World m) → IsRestartOf m old new → IsSound m old → IsSound m new
  sound_restart old new h sound = record {
    numbers = subst (λ ws. Rises m 0 new.next ws) (sym h.watches) (omega arith);
    next = h.room;
    texts = subst (λ ws. AllByRecursion (λ e. Distinct m e.1.items) ws) (sym h.watches) tt;
    rolled = ap m.roll h.site ∙ sound.rolled ∙ sym h.site;
  }

  pub cut_off : CutOff m
  cut_off earlier run later h before rest is lost at =
      let back : IsHistory m (run ∷ later) = history_back (act m) (IsRestartOf m) earlier run later h in
      history_cut (act m) (IsRestartOf m) earlier run later h (record { start = run.start; calls = before; lost = lost }) refl
      (run_cut (act m) (IsRestartOf m) run (first_run (act m) (IsRestartOf m) run later back) before rest is lost at)

  module _ (law : IsLawful m) where
    sound_act : (w : World m) (r : m.Request) (moment : ℕ) → IsSound m w → IsSound m (act m w r moment).0
    sound_act w r moment h = sound_after m law w (entry 0 r moment (Done (act m w r moment).1) ∷ []) h

    pub each_starts_sound : EachStartsSound m
    each_starts_sound [] h first = tt
    each_starts_sound (run ∷ runs) h first = (
      first,
      all_mapped _ (λ r. IsSound m r.start) (λ r is. is.0) runs
          (later_starts (act m) (IsRestartOf m) (IsSound m) (IsSound m) sound_act (λ s is. is) sound_restart run runs h (sound_after m law run.start run.calls first)),
    )

    sound_at : (earlier : List (Run m)) (run : Run m) (later : List (Run m)) → IsHistory m (earlier ++ run ∷ later) → StartsSound m (earlier ++ run ∷ later) → IsSound m run.start
    sound_at earlier run later h first = all_at (λ r. IsSound m r.start) earlier run later (each_starts_sound (earlier ++ run ∷ later) h first)

    module _ (n : ℕ) (small : n < 2 ^ 64) where
      -- a make that answers with this number leaves a later one as the next
      pub made_next : (w : World m) (r : m.Request) (moment lease : ℕ) → IsSound m w → m.target r ≡ NewWatch → m.sent (Told n lease m.whole) ≡ (act m w r moment).1 → n < (act m w r moment).0.next
      made_next w r moment lease sound is told = subst (λ t. n < (acted m (begun m w moment) r t).0.next) (sym is) (go (is_full m (yielded m (begun m w moment))) (told ∙ ap (λ t. m.sent (acted m (begun m w moment) r t).1) is))
        where
          go : (b : Bool) → let done : World m × Reply m = cond b (begun m w moment, Refused m.too_many_watches) (made m (yielded m (begun m w moment)), Told w.next first_lease m.whole) in m.sent (Told n lease m.whole) ≡ m.sent done.1 → n < done.0.next
          go true e = absurd (law.told_refused n lease m.too_many_watches e)
          go false e = (let same : n ≡ w.next = law.told n w.next lease first_lease small (omega (arith, sound.next)) e in omega (arith, same))

      made_by : (w : World m) (e : Asking m) → IsSound m w → IsCall (act m) w e → IsMake m n e → n < (step m w e).next
      made_by w e sound call make = subst (λ (a : Replied m). n < (left_by (act m) w e.request e.moment a).next) (sym make.answer) (made_next w e.request e.moment make.lease sound make.target told)
        where
          told : m.sent (Told n make.lease m.whole) ≡ (act m w e.request e.moment).1
          told = subst (λ (a : Replied m). IsAnswer (act m) w e.request e.moment a) make.answer call.answer

      next_after : (w : World m) (es : List (Asking m)) → n < w.next → n < (after m w es).next
      next_after w [] h = h
      next_after w (e ∷ es) h = next_after (step m w e) es (le_trans h (step_next w e))

      made_after : (start w : World m) (es : List (Asking m)) → IsSound m w → start.next ≤ w.next → Legal m w es → WasMade m start n es → n < (after m w es).next
      made_after start w [] sound le legal is = le_trans is le
      made_after start w (e ∷ es) sound le legal (inl make) = next_after (step m w e) es (made_by w e sound legal.0 make)
      made_after start w (e ∷ es) sound le legal (inr is) = made_after start (step m w e) es (sound_after m law w (e ∷ []) sound) (le_trans le (step_next w e)) legal.1 is

      gone_in : (w : World m) (es : List (Asking m)) → IsSound m w → n < w.next → lookup n w.watches ≡ None → Legal m w es → IsGoneIn m n w es
      gone_in w es sound given gone legal = record {
        nowhere = λ before later is. (watch_stays_gone m law n small w sound [] before (legal_front (act m) w before later (subst (Legal m w) (sym is) legal)) given gone).0;
        answers = (watch_stays_gone m law n small w sound [] es legal given gone).1;
      }

      -- what holds at each later start
      abbrev Given : World m → Type 0
      Given w = IsSound m w × (n < w.next)

      abbrev Bare : World m → Type 0
      Bare w = Given w × (lookup n w.watches ≡ None)

      given_act : (w : World m) (r : m.Request) (moment : ℕ) → Given w → Given (act m w r moment).0
      given_act w r moment h = (sound_act w r moment h.0, le_trans h.1 (act_next w r moment))

      bare_restart : (old new : World m) → IsRestartOf m old new → Given old → Bare new
      bare_restart old new h given = ((sound_restart old new h given.0, le_trans given.1 h.next), ap (λ ws. lookup n ws) h.watches)

      gone_later : (run : Run m) (later : List (Run m)) → IsHistory m (run ∷ later) → Given (after m run.start run.calls) → AllByRecursion (λ r. IsGoneIn m n r.start r.calls) later
      gone_later run later h given =
          all_mapped _ (λ r. IsGoneIn m n r.start r.calls) (λ r is. gone_in r.start r.calls is.0.0.0 is.0.0.1 is.0.1 is.1.calls) later
          (later_starts (act m) (IsRestartOf m) Given Bare given_act (λ s is. is.0) bare_restart run later h given)

    pub watch_stays_gone_over_restarts : (n : ℕ) → WatchStaysGoneOverRestarts m n
    watch_stays_gone_over_restarts n small earlier run later h first before rest is made =
        let sound : IsSound m run.start = sound_at earlier run later h first in
        let back : IsHistory m (run ∷ later) = history_back (act m) (IsRestartOf m) earlier run later h in
        let legal : Legal m run.start (before ++ rest) = subst (Legal m run.start) (sym is) (first_run (act m) (IsRestartOf m) run later back).calls in
        let given = made_after n small run.start run.start before sound (le_refl run.start.next) (legal_front (act m) run.start before rest legal) made in
        let sound_before = sound_after m law run.start before sound in (
          λ gone. gone_in n small (after m run.start before) rest sound_before given gone (legal_back (act m) run.start before rest legal),
          gone_later n small run later back (sound_after m law run.start run.calls sound, subst (λ es. n < (after m run.start es).next) is (subst (λ (w : World m). n < w.next) (sym (after-append (act m) run.start before rest)) (next_after n small (after m run.start before) rest given))),
        )

    pub watch_replays_over_restarts : (n : ℕ) → WatchReplaysOverRestarts m n
    watch_replays_over_restarts n small earlier run later h first before part rest is begins ends =
        let sound : IsSound m run.start = sound_at earlier run later h first in
        let back : IsHistory m (run ∷ later) = history_back (act m) (IsRestartOf m) earlier run later h in
        let legal : Legal m run.start ((before ++ part) ++ rest) = subst (Legal m run.start) (sym is) (first_run (act m) (IsRestartOf m) run later back).calls in
        watch_replays m law n small run.start sound before part (legal_front (act m) run.start (before ++ part) rest legal) begins ends
