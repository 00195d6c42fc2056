-- What the calls of a device do to its file, and what a crash may leave of it between two syncs.
use Rattle.std.specs.Prelude.{◌≡◌, ◌⊎◌, ℕ, ◌+◌, ◌≤◌, max, List, ◌++◌, length, take, drop, Result, IsErrOf}
use Rattle.ob_io.specs.Faults.{Rose}
use Rattle.ob_io.specs.declared.cause.Cause.{Cause}
use Rattle.ob_journal.specs.declared.device.DeviceFault.{DeviceFault}
use Rattle.ob_journal.specs.declared.device.DeviceFault.TheVariants.{Failed}

-- new is old with these bytes at this place
abbrev pub Holds : List ℕ → ℕ → List ℕ → List ℕ → Type 0
Holds old at bytes new = new ≡ take at old ++ bytes ++ drop (at + length bytes) old

-- what a crash leaves of a write of n bytes at a place: any bytes in that range and past the old end, and the old ones elsewhere
pub record Torn (at n : ℕ) (old new : List ℕ) : Type 0 where
  pub before : take at new ≡ take at old
  pub after : drop (at + n) new ≡ drop (at + n) old
  pub no_shorter : length old ≤ length new
  pub no_longer : length new ≤ max (length old) (at + n)

-- what a crash leaves of a cut to n bytes: a front of the old bytes that has at least so many
pub record Cut (n : ℕ) (old new : List ℕ) : Type 0 where
  pub no_shorter : n ≤ length new
  pub front : take (length new) old ≡ new

-- each file that a crash may leave now is what such a step leaves of one that it might have left before
abbrev pub Follows : (List ℕ → List ℕ → Type 0) → (List ℕ → Type 0) → (List ℕ → Type 0) → Type 0
Follows step old new = (c : List ℕ) → new c → (d : List ℕ) × old d × step d c

-- a crash leaves this file and no other
abbrev pub Only : List ℕ → (List ℕ → Type 0) → Type 0
Only file outcomes = (c : List ℕ) → outcomes c → c ≡ file

-- Time goes on: what a crash since t might have left is what it might have left until before, or what it may leave now.
pub record Elapses (before now : ℕ) (past since : ℕ → List ℕ → Type 0) (may_leave : List ℕ → Type 0) : Type 0 where
  pub later : before ≤ now
  pub nothing_else : (t : ℕ) (c : List ℕ) → t ≤ before → since t c → past t c ⊎ may_leave c
  -- nothing that might have been left is forgotten
  pub keeps : (t : ℕ) (c : List ℕ) → t ≤ before → past t c → since t c

-- a crash at any moment since old leaves a file that has P
pub record LeavesOnly {D : Type 0} (moment : D → ℕ) (left_since : D → ℕ → List ℕ → Type 0) (old new : D) (P : List ℕ → Type 0) : Type 0 where
  pub later : moment old ≤ moment new
  pub each : (c : List ℕ) → left_since new (moment old) c → P c
  -- for a run that began earlier
  pub before : (t : ℕ) (c : List ℕ) → t ≤ moment old → left_since new t c → left_since old t c ⊎ P c

-- The count of faults hasn't fallen, and the outside refused only where it rose.
pub record HasDeviceCause {T : Type 0} (before after : ℕ) (result : Result T DeviceFault) : Type 0 where
  pub later : before ≤ after
  pub failed : IsErrOf result Failed → Rose before after

-- a call that wasn't refused leaves what was told of the last one that was
abbrev pub KeepsRefusal : {T : Type 0} → (before after : Cause) → Result T DeviceFault → Type 0
KeepsRefusal before after result = ¬ (IsErrOf result Failed) → after ≡ before
