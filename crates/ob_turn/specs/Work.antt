-- What was done under a pass.
use Rattle.std.specs.Prelude.{◌≡◌, ℕ, List, [], ◌∷◌, ◌++◌, map, Option, None, Some, All, IsSome}
use Rattle.std.specs.List.{flat_map}
use mathlib.Core.List.{IsPrefix}
use Rattle.ob_machine.specs.declared.call.Answer.{Answer}
use Rattle.ob_machine.specs.declared.call.Entry.{Entry}
use Rattle.ob_machine.specs.History.{entry, IsLegal}
use Rattle.ob_turn.specs.declared.caller.Job.{Job}
use Rattle.ob_turn.specs.Callers.{own}
use Rattle.ob_turn.specs.Standing.{Standing, mine}

module _ {Q P : Type 0} where
  -- what a job asks, and when
  abbrev pub asked : Job Q P → Q × ℕ
  asked j = (j.request, j.moment)

  -- the call with this answer, if there is one
  abbrev pub call_with : ℕ → Q → ℕ → Option (Answer P) → List (Entry Q P)
  call_with by q at None = []
  call_with by q at (Some a) = entry by q at a ∷ []

  -- the call that was made for a job
  abbrev pub call_for : ℕ → Job Q P → List (Entry Q P)
  call_for by j = call_with by j.request j.moment j.answer

module _ {S Q P : Type 0} (act : S → Q → ℕ → S × P) (opening : S) where
  -- the pass has seen more, which is legal where what it had seen was
  pub record Continues (p q : Standing Q P) : Type 0 where
    pub table : q.table ≡ p.table
    pub numbers : q.numbers ≡ p.numbers
    pub since : q.since ≡ p.since
    pub later : IsPrefix p.seen q.seen
    pub legal : IsLegal act opening p.seen → IsLegal act opening q.seen

  -- each job was done under the pass once, in their order, and has its answer. No other call was made under it
  pub record Worked (before after : List (Job Q P)) (p q : Standing Q P) : Type 0 where
    pub pass : Continues p q
    pub jobs : map asked after ≡ map asked before
    pub done : All (λ j. IsSome j.answer) after
    pub calls : mine q ≡ mine p ++ flat_map (call_for (own p.numbers)) after
