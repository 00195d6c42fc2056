-- A history of calls on one machine, and the state that follows it.
use Rattle.std.specs.Prelude.{◌≡◌, ℕ, ◌<◌, ◌^◌, List, [], ◌∷◌}
use Rattle.ob_times.specs.Times.{IsMoment}
use Rattle.ob_machine.specs.declared.call.Answer.{Answer}
use Rattle.ob_machine.specs.declared.call.Answer.TheVariants.{Done, NoMemory}
use Rattle.ob_machine.specs.declared.call.Entry.{Entry}

abbrev pub entry : {Q P : Type 0} → ℕ → Q → ℕ → Answer P → Entry Q P
entry by q at a = record { caller = by; request = q; moment = at; answer = a }

-- act s q t is the state that the request q at the moment t leaves of s, and the reply
module _ {S Q P : Type 0} (act : S → Q → ℕ → S × P) where
  -- a step that was done acts, and want of memory leaves the state as it was
  abbrev pub left_by : S → Q → ℕ → Answer P → S
  left_by s q at (Done reply) = (act s q at).0
  left_by s q at NoMemory = s

  -- the reply is the machine's at this state, or memory was wanting
  abbrev pub IsAnswer : S → Q → ℕ → Answer P → Type 0
  IsAnswer s q at (Done reply) = reply ≡ (act s q at).1
  IsAnswer s q at NoMemory = Unit {0}

  -- the state after the last entry
  abbrev pub after : S → List (Entry Q P) → S
  after s [] = s
  after s (e ∷ es) = after (left_by s e.request e.moment e.answer) es

  -- a call at this state: of a caller whose number is below 4,294,967,296, at a moment, with the machine's answer
  pub record IsCall (s : S) (e : Entry Q P) : Type 0 where
    pub caller : e.caller < 2 ^ 32
    pub moment : IsMoment e.moment
    pub answer : IsAnswer s e.request e.moment e.answer

  -- each entry is a call at the state that the entries before it leave
  abbrev pub IsLegal : S → List (Entry Q P) → Type 0
  IsLegal s [] = Unit {0}
  IsLegal s (e ∷ es) = IsCall s e × IsLegal (left_by s e.request e.moment e.answer) es
