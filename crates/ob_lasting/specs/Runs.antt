-- Histories of a machine over restarts: one run after the other.
use Rattle.std.specs.Prelude.{◌≡◌, ◌⊎◌, ℕ, List, [], ◌∷◌, Option, Some, None}
use Rattle.ob_times.specs.Times.{IsMoment}
use Rattle.ob_machine.specs.declared.call.Entry.{Entry}
use Rattle.ob_machine.specs.History.{after, IsLegal}

-- One run of a machine: the state that it starts in, its calls, and the request, with its moment, that came last and was never
-- answered, if there is one.
pub record Segment (S Q P : Type 0) : Type 0 where
  pub start : S
  pub calls : List (Entry Q P)
  pub lost : Option (Q × ℕ)

-- act s q t is the state that the request q at the moment t leaves of s, and the reply
module _ {S Q P : Type 0} (act : S → Q → ℕ → S × P) where
  -- a request that was never answered was done last, or not at all
  abbrev pub IsLeftBy : S → Option (Q × ℕ) → S → Type 0
  IsLeftBy s None end = end ≡ s
  IsLeftBy s (Some q) end = (end ≡ s) ⊎ (end ≡ (act s q.0 q.1).0)

  -- the run may have ended in this state
  abbrev pub MayEnd : Segment S Q P → S → Type 0
  MayEnd run end = IsLeftBy (after act run.start run.calls) run.lost end

  -- the moment of a request, if there is one, is a moment
  abbrev pub IsAtMoment : Option (Q × ℕ) → Type 0
  IsAtMoment None = Unit {0}
  IsAtMoment (Some q) = IsMoment q.1

  -- the calls are a legal history from the start, and the lost request came at a moment
  pub record IsRun (run : Segment S Q P) : Type 0 where
    pub calls : IsLegal act run.start run.calls
    pub lost : IsAtMoment run.lost

  -- IsRestart old new: the machine may go on from new where it ended in old
  module _ (IsRestart : S → S → Type 0) where
    -- one run goes on from a state in which the other may have ended
    pub record GoesOn (earlier later : Segment S Q P) : Type 0 where
      pub end : S
      pub ended : MayEnd earlier end
      pub restart : IsRestart end later.start

    -- each is a run, and goes on from the one before it
    abbrev pub IsHistoryWithRestarts : List (Segment S Q P) → Type 0
    IsHistoryWithRestarts [] = Unit {0}
    IsHistoryWithRestarts (run ∷ []) = IsRun run
    IsHistoryWithRestarts (run ∷ next ∷ runs) = IsRun run × GoesOn run next × IsHistoryWithRestarts (next ∷ runs)
