-- The passes, doors and clocks of workers, which were joined and given back one worker after the other, the last first.
use Rattle.std.specs.Prelude.{◌≡◌, ℕ, ◌<◌, ◌≤◌, Bool, List, [], ◌∷◌, map, length, sum_by, Option}
use Rattle.ob_io.specs.Doors.{Listening, Doorway, GainsDoor}
use Rattle.ob_io.specs.Faults.{Rose}
use Rattle.ob_io.specs.Ticks.{Pace}
use Rattle.ob_io.specs.Twins.{Twin, GainsTwin}
use Rattle.ob_io.specs.Visits.{Visit}
use Rattle.ob_turn.specs.Standing.{Standing}
use Rattle.ob_server.specs.Together.{AreJoined}
use Rattle.ob_server.specs.Working.{Counts}
use Rattle.ob_server.specs.declared.worker.Worker.{Worker}

-- what is told of a port
pub record PortTold : Type 0 where
  pub faults : ℕ
  pub opened : ℕ
  pub returned : ℕ
  pub listens : Option (List Listening)
  pub doors : Option (List Doorway)

abbrev pub port_told : ℕ → ℕ → ℕ → Option (List Listening) → Option (List Doorway) → PortTold
port_told faults opened returned listens doors =
    record { faults = faults; opened = opened; returned = returned; listens = listens; doors = doors }

-- what is told of a clock that has its twins back
pub record ClockTold : Type 0 where
  pub faults : ℕ
  pub given : Option (List ℕ)
  pub pace : Option Pace
  pub twins : Option (List Twin)

abbrev pub clock_told : ℕ → Option (List ℕ) → Option Pace → Option (List Twin) → ClockTold
clock_told faults given pace twins = record { faults = faults; given = given; pace = pace; twins = twins }

-- the count rose where a fault was counted at what came back, and else stayed
pub record CountsFaults (before faults after : ℕ) : Type 0 where
  pub later : before ≤ after
  pub whole : faults ≡ 0 → after ≡ before
  pub broken : 0 < faults → Rose before after

-- each of these doors came back, behind those of the list that stand after it
abbrev pub GainsDoors : {D : Type 0} → (D → ℕ) → (D → ℕ) → (D → ℕ) → (D → Option (List Visit)) → (D → Bool) → Option (List Doorway) → List D
    → Option (List Doorway) → Type 0
GainsDoors faults handed returned visits closed before [] after = after ≡ before
GainsDoors faults handed returned visits closed before (d ∷ ds) after =
    (between : Option (List Doorway)) × GainsDoors faults handed returned visits closed before ds between
    × GainsDoor between after (faults d) (handed d) (returned d) (closed d) (visits d)

-- each of these clocks came back, behind those of the list that stand after it
abbrev pub GainsTwins : {C : Type 0} → (C → Option (List ℕ)) → (C → ℕ) → Option (List Twin) → List C → Option (List Twin) → Type 0
GainsTwins given faults before [] after = after ≡ before
GainsTwins given faults before (c ∷ cs) after =
    (between : Option (List Twin)) × GainsTwins given faults before cs between × GainsTwin between after (given c) (faults c)

-- From the one to the other the workers' passes were joined to the one of the caller, and their doors and clocks given
-- back to port and clock. Of doors, faults, handed, returned, visits and closed say what is told; of clocks given and
-- misses.
pub record GivenBack {S D C Q P : Type 0} (act : S → Q → ℕ → S × P) (faults handed returned : D → ℕ) (visits : D → Option (List Visit))
    (closed : D → Bool) (given : C → Option (List ℕ)) (misses : C → ℕ) (opening : S) (workers : List (Worker S D C Q P)) (pass pass' : Standing Q P)
    (port port' : PortTold) (clock clock' : ClockTold) : Type 0 where
  pub joined : AreJoined act opening pass (map (λ w. w.pass) workers) pass'
  pub doors : GainsDoors faults handed returned visits closed port.doors (map (λ w. w.door) workers) port'.doors
  pub doors_back : Counts port.returned (length workers) port'.returned
  pub door_faults : CountsFaults port.faults (sum_by (λ w. faults w.door) workers) port'.faults
  pub port_same : (port'.opened ≡ port.opened) × (port'.listens ≡ port.listens)
  pub twins : GainsTwins given misses clock.twins (map (λ w. w.clock) workers) clock'.twins
  pub clock_faults : CountsFaults clock.faults (sum_by (λ w. misses w.clock) workers) clock'.faults
  pub clock_same : (clock'.given ≡ clock.given) × (clock'.pace ≡ clock.pace)
