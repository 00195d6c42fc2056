-- What contracts see of a desk and of a pass.
use Rattle.std.specs.Prelude.{ℕ, List, drop}
use Rattle.atomic_table.specs.Seated.{TableId}
use Rattle.ob_machine.specs.declared.call.Entry.{Entry}
use Rattle.ob_turn.specs.Callers.{own, calls_of}

-- a desk: which one it is, and the machine that it was opened with
pub record Opened (M : Type 0) : Type 0 where
  pub table : TableId
  pub opening : M

-- a pass: of which desk it is, its numbers, and the history that it has seen, from `since` on since it was made
pub record Standing (Q P : Type 0) : Type 0 where
  pub table : TableId
  pub numbers : List ℕ
  pub since : ℕ
  pub seen : List (Entry Q P)

-- the calls that the pass made
abbrev pub mine : {Q P : Type 0} → Standing Q P → List (Entry Q P)
mine p = calls_of (own p.numbers) (drop p.since p.seen)
