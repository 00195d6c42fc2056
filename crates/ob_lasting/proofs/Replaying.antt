-- Replaying a record gives a restart of what the history left.
use Rattle.std.proofs.Common.{◌≡◌, ℕ, ◌≢◌, ◌≤◌, max, true, false, cond, List, [], ◌∷◌, ◌++◌, Some, None, refl, sym, ◌∙◌, ap, subst, arith, le_trans, Option, inl, inr}
use Rattle.ob_machine.specs.History.{left_by}
use Rattle.ob_machine.specs.declared.call.Answer.TheVariants.{Done, NoMemory}
use Rattle.ob_watching.specs.Operations.{Target, Itself, Nowhere, NewWatch, OneWatch, Told, Refused}
use Rattle.ob_watching.specs.Sites.{Site}
use Rattle.ob_watching.specs.Tables.{lookup, numbers_of}
use Rattle.ob_watching.specs.Watches.{World, Reply, act, acted, begun, is_full, on_watch, made, first_lease, yielded}
use Rattle.ob_watching.specs.Clients.{Replied, Asking}
use Rattle.ob_watching.specs.Laws.{step, after}
use Rattle.ob_lasting.specs.Lasting.{IsRestartOf, IsApart}
use Rattle.ob_lasting.specs.Records.{Noting, Nothing, TheRequest, NumbersBelow, Request, Note, calls_of, notes_at, notes_of, renewed, replayed, IsNoted}
use Rattle.ob_lasting.specs.Runs.{IsLeftBy}
use Rattle.ob_lasting.specs.LastingLaws.{LeavesSite, LeavesNext, RecordLasts, RecordGoesOn}
use Rattle.ob_lasting.proofs.Again.{done_again_further}

module _ (m : Site) where
  pub acted_time : (w : World m) (r : m.Request) (t : Target m.Text m.Input m.Part m.Fault) → (acted m w r t).0.time ≡ w.time
  acted_time w r Itself = refl
  acted_time w r Nowhere = refl
  acted_time w r NewWatch = elim (is_full m (yielded m w)) as (λ b. let done : World m × Reply m = cond b (w, Refused m.too_many_watches) (made m (yielded m w), Told w.next first_lease m.whole) in done.0.time ≡ w.time) [ true ↦ refl | false ↦ refl ]
  acted_time w r (OneWatch n op) = elim (lookup n w.watches) as (λ found. (on_watch m w n op found).0.time ≡ w.time) [ None ↦ refl | Some v ↦ refl ]

  -- time doesn't go back
  step_time : (w : World m) (e : Asking m) → w.time ≤ (step m w e).time
  step_time w e = go e.answer
    where
      go : (a : Replied m) → w.time ≤ (left_by (act m) w e.request e.moment a).time
      go NoMemory = omega arith
      go (Done reply) = (let now = acted_time (begun m w e.moment) e.request (m.target e.request) in omega (arith, now))

  -- in a sound state nothing rolls off
  acted_site : (w : World m) → m.roll w.site ≡ w.site → (r : m.Request) (t : Target m.Text m.Input m.Part m.Fault) → (t ≡ Itself → (m.act w.site (numbers_of w.watches) r w.time).0 ≡ w.site) → m.roll (acted m w r t).0.site ≡ w.site
  acted_site w rolled r Itself own = ap m.roll (own refl) ∙ rolled
  acted_site w rolled r Nowhere own = rolled
  acted_site w rolled r NewWatch own = elim (is_full m (yielded m w)) as (λ b. let done : World m × Reply m = cond b (w, Refused m.too_many_watches) (made m (yielded m w), Told w.next first_lease m.whole) in m.roll done.0.site ≡ w.site) [ true ↦ rolled | false ↦ rolled ]
  acted_site w rolled r (OneWatch n op) own = elim (lookup n w.watches) as (λ found. m.roll (on_watch m w n op found).0.site ≡ w.site) [ None ↦ rolled | Some v ↦ rolled ]

  pub leaves_site : LeavesSite m
  leaves_site w sound r moment own = acted_site (begun m w moment) sound.rolled r (m.target r) own

  acted_number : (w : World m) (r : m.Request) (t : Target m.Text m.Input m.Part m.Fault) → t ≢ NewWatch → (acted m w r t).0.next ≡ w.next
  acted_number w r Itself other = refl
  acted_number w r Nowhere other = refl
  acted_number w r NewWatch other = absurd (other refl)
  acted_number w r (OneWatch n op) other = elim (lookup n w.watches) as (λ found. (on_watch m w n op found).0.next ≡ w.next) [ None ↦ refl | Some v ↦ refl ]

  pub leaves_next : LeavesNext m
  leaves_next w r moment other = acted_number (begun m w moment) r (m.target r) other

  replayed-append : (w : World m) (ns ks : List (Note m)) → replayed m w (ns ++ ks) ≡ replayed m (replayed m w ns) ks
  replayed-append w [] ks = refl
  replayed-append w (n ∷ ns) ks = replayed-append (renewed m w n) ns ks

  module _ (apart : IsApart m) where
    pub noted_lasts : (old new : World m) → IsRestartOf m old new → (e : Asking m) (noting : Noting) → IsNoted m old new e noting → IsRestartOf m (step m old e) (replayed m new (notes_at m old e noting))
    noted_lasts old new h e Nothing is = record {
      site = h.site ∙ sym is.0;
      watches = h.watches;
      next = is.1;
      room = h.room;
      time = le_trans h.time (step_time old e);
    }
    noted_lasts old new h e TheRequest is =
        subst (λ (a : Replied m). IsRestartOf m (left_by (act m) old e.request e.moment a) (renewed m new (Request e.request (max old.time e.moment)))) (sym is.1)
        (done_again_further m apart old new h e.request e.moment)
    noted_lasts old new h e (NumbersBelow below) is = record {
      site = h.site ∙ sym is.0;
      watches = h.watches;
      next = omega (arith, is.1);
      room = omega (arith, is.2, h.room);
      time = le_trans h.time (step_time old e);
    }

    pub record_lasts : RecordLasts m
    record_lasts old new h [] is = h
    record_lasts old new h (n ∷ noted) is =
        let first = noted_lasts old new h n.0 n.1 is.0 in
        let rest = record_lasts (step m old n.0) (replayed m new (notes_at m old n.0 n.1)) first noted is.1 in
        subst (λ (w : World m). IsRestartOf m (after m (step m old n.0) (calls_of m noted)) w) (sym (replayed-append new (notes_at m old n.0 n.1) (notes_of m (step m old n.0) noted))) rest

    pub record_goes_on : RecordGoesOn m
    record_goes_on run new h noted calls is next = (
      λ starts. record {
        end = after m run.start run.calls;
        ended = kept_end (after m run.start run.calls) run.lost;
        restart = subst (λ (w : World m). IsRestartOf m (after m run.start run.calls) w) (sym starts) led;
      },
      λ r moment lost starts. record {
        end = (act m (after m run.start run.calls) r moment).0;
        ended = subst (λ (q : Option (m.Request × ℕ)). IsLeftBy (act m) (after m run.start run.calls) q (act m (after m run.start run.calls) r moment).0) (sym lost) (inr refl);
        restart = subst (λ (w : World m). IsRestartOf m (act m (after m run.start run.calls) r moment).0 w) (sym starts)
            (done_again_further m apart (after m run.start run.calls) (replayed m new (notes_of m run.start noted)) led r moment);
      },
    )
      where
        led : IsRestartOf m (after m run.start run.calls) (replayed m new (notes_of m run.start noted))
        led = subst (λ es. IsRestartOf m (after m run.start es) (replayed m new (notes_of m run.start noted))) calls (record_lasts run.start new h noted is)

        kept_end : (w : World m) (lost : Option (m.Request × ℕ)) → IsLeftBy (act m) w lost w
        kept_end w None = refl
        kept_end w (Some q) = inl refl
