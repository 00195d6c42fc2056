-- What is told of the outside, before and after a run.
use Rattle.std.specs.Prelude.{ℕ, Bool, List, Option}
use Rattle.ob_io.specs.Dials.{Dial, Visit}
use Rattle.ob_io.specs.declared.cause.Cause.{Cause}
use Rattle.ob_io.specs.declared.cause.RefusedFile.{RefusedFile}
use Rattle.ob_journal.specs.Opened.{Opened}
-- what is told of a port and of a clock
pub use Rattle.ob_server.specs.GivenBack.{PortTold, port_told, ClockTold, clock_told}

-- the source and the sink: what is left, what is held, and the counts of faults
pub record Streams : Type 0 where
  pub left : Option (List ℕ)
  pub held : Option (List ℕ)
  pub reads : ℕ
  pub writes : ℕ

abbrev pub streams : Option (List ℕ) → Option (List ℕ) → ℕ → ℕ → Streams
streams left held reads writes = record { left = left; held = held; reads = reads; writes = writes }

-- the dialer: what was dialled, the links that it has back, whether the last call failed, and the count of faults
pub record Dialled : Type 0 where
  pub dials : Option (List Dial)
  pub visits : Option (List Visit)
  pub rose : Bool
  pub faults : ℕ

abbrev pub dialled : Option (List Dial) → Option (List Visit) → Bool → ℕ → Dialled
dialled dials visits rose faults = record { dials = dials; visits = visits; rose = rose; faults = faults }

-- the devices of records: those that were opened, those that came back, and the count of faults
pub record DevicesTold (V : Type 0) : Type 0 where
  pub given : Option (List (Opened V))
  pub returned : Option (List V)
  pub faults : ℕ

abbrev pub devices_told : {V : Type 0} → Option (List (Opened V)) → Option (List V) → ℕ → DevicesTold V
devices_told given returned faults = record { given = given; returned = returned; faults = faults }

-- what the outside tells in the end of the calls that it refused: the last file that could not be read, and why the port and the
-- devices of records refused last
pub record Refusals : Type 0 where
  pub file : Option RefusedFile
  pub port : Cause
  pub device : Cause

abbrev pub refusals : Option RefusedFile → (port device : Cause) → Refusals
refusals file port device = record { file = file; port = port; device = device }
