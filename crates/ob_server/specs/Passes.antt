-- What a caller's pass has seen more.
use Rattle.std.specs.Prelude.{◌≡◌, ◌⊎◌, ℕ, List, [], ◌∷◌, ◌++◌}
use Rattle.ob_machine.specs.declared.call.Entry.{Entry}
use Rattle.ob_machine.specs.History.{IsLegal}
use Rattle.ob_turn.specs.Callers.{own, times}
use Rattle.ob_turn.specs.Standing.{Standing}

-- each entry is the pass's own, or of a caller whose number the pass doesn't have
abbrev pub AreOwnOrOthers : {Q P : Type 0} → List ℕ → List (Entry Q P) → Type 0
AreOwnOrOthers ns [] = Unit {0}
AreOwnOrOthers ns (e ∷ es) = ((e.caller ≡ own ns) ⊎ (times e.caller ns ≡ 0)) × AreOwnOrOthers ns es

-- the history that was seen goes on, and stays legal
pub record Continues {S Q P : Type 0} (act : S → Q → ℕ → S × P) (opening : S) (old new : Standing Q P) : Type 0 where
  pub table : new.table ≡ old.table
  pub numbers : new.numbers ≡ old.numbers
  pub since : new.since ≡ old.since
  pub more : List (Entry Q P)
  pub later : new.seen ≡ old.seen ++ more
  pub others : AreOwnOrOthers old.numbers more
  pub legal : IsLegal act opening old.seen → IsLegal act opening new.seen
