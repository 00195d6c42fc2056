-- What holds at the start of each run of a history with restarts.
use Rattle.std.proofs.Common.{◌≡◌, ℕ, List, [], ◌∷◌, ◌++◌, Option, Some, None, sym, subst, inl, inr}
use Rattle.std.specs.List.{AllByRecursion}
use Rattle.ob_machine.specs.declared.call.Answer.{Answer}
use Rattle.ob_machine.specs.declared.call.Answer.TheVariants.{Done, NoMemory}
use Rattle.ob_machine.specs.declared.call.Entry.{Entry}
use Rattle.ob_machine.specs.History.{left_by, after, IsLegal}
use Rattle.ob_machine.proofs.HistoryLemmas.{legal_front}
use Rattle.ob_lasting.specs.Runs.{Segment, IsLeftBy, IsAtMoment, IsRun, IsHistoryWithRestarts}

-- what holds of all holds of one among them
pub all_at : {A : Type 0} (P : A → Type 0) (xs : List A) (x : A) (ys : List A) → AllByRecursion P (xs ++ x ∷ ys) → P x
all_at P [] x ys h = h.0
all_at P (z ∷ xs) x ys h = all_at P xs x ys h.1

module _ {S Q P : Type 0} (act : S → Q → ℕ → S × P) (IsRestart : S → S → Type 0) where
  pub first_run : (run : Segment S Q P) (later : List (Segment S Q P)) → IsHistoryWithRestarts act IsRestart (run ∷ later) → IsRun act run
  first_run run [] h = h
  first_run run (next ∷ later) h = h.0

  -- what follows a beginning of a history is one
  pub history_back : (earlier : List (Segment S Q P)) (run : Segment S Q P) (later : List (Segment S Q P)) → IsHistoryWithRestarts act IsRestart (earlier ++ run ∷ later) → IsHistoryWithRestarts act IsRestart (run ∷ later)
  history_back [] run later h = h
  history_back (e ∷ []) run later h = h.2
  history_back (e ∷ f ∷ earlier) run later h = history_back (f ∷ earlier) run later h.2

  -- a run that is cut off is one, whatever request was on its way
  pub run_cut : (run : Segment S Q P) → IsRun act run → (before rest : List (Entry Q P)) → before ++ rest ≡ run.calls → (lost : Option (Q × ℕ)) → IsAtMoment act lost → IsRun act (record { start = run.start; calls = before; lost = lost })
  run_cut run h before rest is lost at = record {
    calls = legal_front act run.start before rest (subst (λ (es : List (Entry Q P)). IsLegal act run.start es) (sym is) h.calls);
    lost = at;
  }

  -- and so is a history with that run as its last
  pub history_cut : (earlier : List (Segment S Q P)) (run : Segment S Q P) (later : List (Segment S Q P)) → IsHistoryWithRestarts act IsRestart (earlier ++ run ∷ later) → (cut : Segment S Q P) → cut.start ≡ run.start → IsRun act cut → IsHistoryWithRestarts act IsRestart (earlier ++ cut ∷ [])
  history_cut [] run later h cut same is = is
  history_cut (e ∷ []) run later h cut same is = (h.0, record { end = h.1.end; ended = h.1.ended; restart = subst (IsRestart h.1.end) (sym same) h.1.restart }, is)
  history_cut (e ∷ f ∷ earlier) run later h cut same is = (h.0, h.1, history_cut (f ∷ earlier) run later h.2 cut same is)

  -- what each step keeps, and a restart turns into what holds at a start
  module _ (Keeps Starts : S → Type 0) (kept : (s : S) (q : Q) (t : ℕ) → Keeps s → Keeps (act s q t).0) (first : (s : S) → Starts s → Keeps s) (goes_on : (s u : S) → IsRestart s u → Keeps s → Starts u) where
    kept_by : (s : S) (q : Q) (t : ℕ) (a : Answer P) → Keeps s → Keeps (left_by act s q t a)
    kept_by s q t (Done reply) h = kept s q t h
    kept_by s q t NoMemory h = h

    pub kept_after : (s : S) (es : List (Entry Q P)) → Keeps s → Keeps (after act s es)
    kept_after s [] h = h
    kept_after s (e ∷ es) h = kept_after (left_by act s e.request e.moment e.answer) es (kept_by s e.request e.moment e.answer h)

    kept_lost : (s : S) (lost : Option (Q × ℕ)) (end : S) → IsLeftBy act s lost end → Keeps s → Keeps end
    kept_lost s None end is h = subst Keeps (sym is) h
    kept_lost s (Some q) end (inl is) h = subst Keeps (sym is) h
    kept_lost s (Some q) end (inr is) h = subst Keeps (sym is) (kept s q.0 q.1 h)

    pub later_starts : (run : Segment S Q P) (later : List (Segment S Q P)) → IsHistoryWithRestarts act IsRestart (run ∷ later) → Keeps (after act run.start run.calls) → AllByRecursion (λ r. Starts r.start × IsRun act r) later
    later_starts run [] h k = tt
    later_starts run (next ∷ later) h k =
        let starts : Starts next.start = goes_on h.1.end next.start h.1.restart (kept_lost (after act run.start run.calls) run.lost h.1.end h.1.ended k) in
        ((starts, first_run next later h.2), later_starts next later h.2 (kept_after next.start next.calls (first next.start starts)))
