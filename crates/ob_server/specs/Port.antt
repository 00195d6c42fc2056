-- The doors of a port, which are served by workers over one desk of a machine.
use Rattle.std.specs.Prelude.{◌≡◌, ◌⊎◌, ⊤, ℕ, ◌≤◌, Bool, true, false, List, [], ◌∷◌, map, length, sum_by, Option, Some, None, IsSome, IfSome, IfNone, Result, OnOk, IfErr, IsErrOf}
use Rattle.std.specs.List.{AllByRecursion}
use Rattle.ob_io.specs.Doors.{IsUnused}
use Rattle.ob_io.specs.Faults.{Rose}
use Rattle.ob_io.specs.Ticks.{Pace}
use Rattle.ob_io.specs.Told.{Gains}
use Rattle.ob_io.specs.Twins.{Twin, IsNew}
use Rattle.ob_io.specs.Visits.{Visit}
use Rattle.ob_machine.specs.History.{IsLegal}
use Rattle.ob_object.specs.Object.{Object}
use Rattle.ob_site_rules.specs.declared.request.Request.{Request as Asked}
use Rattle.ob_turn.specs.Standing.{Standing, mine}
use Rattle.ob_server.specs.Exchange.{Call}
use Rattle.ob_server.specs.GivenBack.{PortTold, ClockTold, GainsDoors, GainsTwins}
use Rattle.ob_server.specs.Together.{AreSplit, IsMadeOf}
use Rattle.ob_server.specs.Working.{Counts, HasWorked, HasEnded, IsDone, IsIdle, first_end, is_fault}
use Rattle.ob_server.specs.declared.worker.Worker.{Worker}
use Rattle.ob_server.specs.declared.worker.WorkerEnd.{WorkerEnd}
use Rattle.ob_server.specs.declared.worker.WorkerEnd.TheVariants as workers

-- one twin more came back, with nothing done; or none
abbrev pub HasSpare : Option (List Twin) → Option (List Twin) → Type 0
HasSpare before after =
    (after ≡ before)
    ⊎ ((twin : Twin) × Gains before (twin ∷ []) after × (IsSome after → (twin.faults ≡ 0) × (twin.moments ≡ [])))

-- Of doors, faults, handed, returned, visits and closed say what is told; of clocks given, pace and misses.
module _ {D C : Type 0} (faults handed returned : D → ℕ) (visits : D → Option (List Visit)) (given : C → Option (List ℕ))
    (pace : C → Option Pace) (misses : C → ℕ) where
  -- a worker that is about to begin: its pass has made no call, its door has handed out no link, its clock has given no
  -- moment and goes at this pace, and neither has failed
  pub record IsReady {S Q P : Type 0} (goes : Option Pace) (w : Worker S D C Q P) : Type 0 where
    pub uncalled : mine w.pass ≡ []
    pub door : IsUnused (faults w.door) (handed w.door) (returned w.door) (visits w.door)
    pub clock : IsNew (given w.clock) (misses w.clock)
    pub pace_is : pace w.clock ≡ goes
    pub links : w.links ≡ 0
    pub end : w.end ≡ workers.Quota

  abbrev pub AreReady : {S Q P : Type 0} → Option Pace → List (Worker S D C Q P) → Type 0
  AreReady goes [] = ⊤
  AreReady goes (w ∷ ws) = IsReady goes w × AreReady goes ws

  -- So many workers are ready, with passes that were split off from one, or those before the one at which port or clock
  -- failed; a twin for which no door was to be had went back.
  pub record HasOpened {S Q P : Type 0} (count : ℕ) (ready : List (Worker S D C Q P)) (result : Result (Unit {0}) WorkerEnd)
      (pass pass' : Standing Q P) (port port' : PortTold) (clock clock' : ClockTold) : Type 0 where
    pub are_ready : AreReady clock.pace ready
    pub split : AreSplit pass pass' (map (λ w. w.pass) ready)
    pub all : OnOk result ((length ready ≡ count) × (clock'.twins ≡ clock.twins))
    pub opened : Counts port.opened (length ready) port'.opened
    pub port_same : (port'.returned ≡ port.returned) × (port'.listens ≡ port.listens) × (port'.doors ≡ port.doors)
    pub spare : HasSpare clock.twins clock'.twins
    pub clock_same : (clock'.given ≡ clock.given) × (clock'.pace ≡ clock.pace)
    pub door_faults : port.faults ≤ port'.faults
    pub clock_faults : clock.faults ≤ clock'.faults
    pub fault : IfErr result (λ end. is_fault end ≡ true)
    pub door_fault : IsErrOf result workers.DoorFault → Rose port.faults port'.faults
    pub clock_fault : IsErrOf result workers.ClockFault → Rose clock.faults clock'.faults

  -- The doors of a port were served: so many workers, each with a door, a twin of the clock and a number of a caller of its
  -- own, served their links. Or none did, since a door, a twin or memory was wanting. They came back, with their doors and
  -- twins. All that the machine was asked is this legal history, which is made of the workers' calls, and of no others.
  pub record ServesDoors {S : Type 0} (act : S → Asked → ℕ → S × Object) (closed : D → Bool) (ns : Option (List ℕ)) (machine : S)
      (count quota : ℕ) (stays : Bool) (history : List Call) (port port' : PortTold) (clock clock' : ClockTold) (links : Option ℕ)
      (end : WorkerEnd) : Type 0 where
    pub staff : List (Worker S D C Asked Object)
    pub worked : AllByRecursion (HasWorked handed returned visits given pace ns stays clock.pace) staff
    pub legal : IsLegal act machine history
    pub made : IsMadeOf (map (λ w. w.pass) staff) history
    pub doors : GainsDoors faults handed returned visits closed port.doors (map (λ w. w.door) staff) port'.doors
    pub opened : Counts port.opened (length staff) port'.opened
    pub doors_back : Counts port.returned (length staff) port'.returned
    pub listens : port'.listens ≡ port.listens
    pub spare : Option (List Twin)
    pub spared : HasSpare clock.twins spare
    pub twins : GainsTwins given misses spare (map (λ w. w.clock) staff) clock'.twins
    pub clock_same : (clock'.given ≡ clock.given) × (clock'.pace ≡ clock.pace)
    -- where they served
    pub served : IfSome links (λ n. (n ≡ sum_by (λ w. w.links) staff) × (length staff ≡ count) × (end ≡ first_end staff)
        × (spare ≡ clock.twins) × AllByRecursion (HasEnded faults closed misses quota) staff)
    -- where they didn't
    pub unserved : IfNone links ((is_fault end ≡ true) × AllByRecursion IsIdle staff)
    -- where the end is no fault
    pub done : is_fault end ≡ false → IsSome links × (length staff ≡ count) × AllByRecursion (IsDone closed quota) staff

-- a fault is counted at the port or at the clock
abbrev pub PortRose : WorkerEnd → ℕ → ℕ → ℕ → ℕ → Type 0
PortRose workers.Quota doors doors' clocks clocks' = ⊤
PortRose workers.Closed doors doors' clocks clocks' = ⊥
PortRose workers.DoorFault doors doors' clocks clocks' = Rose doors doors'
PortRose workers.ClockFault doors doors' clocks clocks' = Rose clocks clocks'
PortRose workers.Memory doors doors' clocks clocks' = ⊤

-- the counts of faults have not fallen, and a fault comes only where its own rose
pub record HasPortCause (end : WorkerEnd) (doors doors' clocks clocks' : ℕ) : Type 0 where
  pub doors_later : doors ≤ doors'
  pub clocks_later : clocks ≤ clocks'
  pub rose : PortRose end doors doors' clocks clocks'
