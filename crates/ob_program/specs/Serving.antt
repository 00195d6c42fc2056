-- What the service of a file's site at a port comes to.
use Rattle.std.specs.Prelude.{◌≡◌, ◌≢◌, ◌⊎◌, ⊤, ℕ, ◌≤◌, Bool, false, true, List, [], ◌∷◌, ◌++◌, codes, decimal, Option, Some, None, IfSome}
use Rattle.ob_io.specs.Faults.{Rose}
use Rattle.ob_io.specs.Told.{Gains, IsFront}
use Rattle.ob_io.specs.Ticks.{Pace}
use Rattle.ob_io.specs.Visits.{Visit}
use Rattle.ob_load.specs.Loads.{IsSite, OpensSite}
use Rattle.ob_machine.specs.History.{after}
use Rattle.ob_object.specs.Object.{Object}
use Rattle.ob_server.specs.Exchange.{Call}
use Rattle.ob_server.specs.GivenBack.{PortTold, ClockTold}
use Rattle.ob_server.specs.Port.{ServesDoors}
use Rattle.ob_server.specs.Working.{is_fault}
use Rattle.ob_server.specs.declared.worker.WorkerEnd.{WorkerEnd}
use Rattle.ob_server.specs.declared.worker.WorkerEnd.TheVariants as workers
use Rattle.ob_site_laws.specs.Seen.{KeepsWatches}
use Rattle.ob_site_file.specs.declared.fault.LoadFault.{LoadFault}
use Rattle.ob_site_file.specs.declared.fault.LoadFault.TheVariants as faults
use Rattle.ob_site_laws.specs.SiteLaws.{acts, IsSoundSite}
use Rattle.ob_site_rules.specs.declared.request.Request.{Request as Asked}
use Rattle.ob_site_rules.specs.Sites.{SiteState}
use Rattle.ob_io.specs.declared.cause.Cause.{Cause}
use Rattle.ob_io.specs.declared.cause.RefusedFile.{RefusedFile}
use Rattle.ob_program.specs.declared.exit.Exit.{Exit}
use Rattle.ob_program.specs.declared.exit.Exit.TheVariants as exits
use Rattle.ob_program.specs.declared.serve.ServeEnd.{ServeEnd}
use Rattle.ob_program.specs.declared.serve.ServeEnd.TheVariants.{Done, Refused, ReadFault, WriteFault, PortFault, ClockFault, Memory}
use Rattle.ob_program.specs.Stdio.{site_bytes, IsRefusedAs}
use Rattle.ob_program.specs.Telling.{ErrorsTold, Tells}
use Rattle.ob_program.specs.Words.{serve_words}

abbrev pub exit_of_serve : ServeEnd → Exit
exit_of_serve Done = exits.Ok
exit_of_serve (Refused fault) = exits.Refused
exit_of_serve ReadFault = exits.ReadFault
exit_of_serve WriteFault = exits.WriteFault
exit_of_serve PortFault = exits.PortFault
exit_of_serve ClockFault = exits.ClockFault
exit_of_serve Memory = exits.Memory

-- the end that a refusal of a file leads to
abbrev pub end_of_load : LoadFault → ServeEnd
end_of_load faults.Read = ReadFault
end_of_load faults.Memory = Memory
end_of_load fault = Refused fault

-- the end that the workers' leads to
abbrev pub end_of_workers : WorkerEnd → ServeEnd
end_of_workers workers.Quota = Done
end_of_workers workers.Closed = Done
end_of_workers workers.DoorFault = PortFault
end_of_workers workers.ClockFault = ClockFault
end_of_workers workers.Memory = Memory

-- ---- what is printed

abbrev pub listening_text : (host : List ℕ) → (port : ℕ) → List ℕ
listening_text host port = codes "listening " ++ host ++ (codes " " ++ decimal port ++ codes "\n")

-- so many links were served; none, where the workers didn't begin
abbrev pub served_text : (links : Option ℕ) → List ℕ
served_text (Some links) = codes "served " ++ decimal links ++ codes "\n"
served_text None = []

-- a front of these bytes was written, and all of them where this holds
pub record Prints (held held' : Option (List ℕ)) (bytes : List ℕ) (All : Type 0) : Type 0 where
  pub text : List ℕ
  pub printed : Gains held text held'
  pub front : IsFront text bytes
  pub all : All → text ≡ bytes

-- a line wasn't printed
abbrev pub PrintRose : ServeEnd → (writes writes' : ℕ) → Type 0
PrintRose WriteFault writes writes' = Rose writes writes'
PrintRose Memory writes writes' = ⊤
PrintRose _ writes writes' = ⊥

-- the workers' end, or where they ended well that of the line that tells it
abbrev pub or_reported : ServeEnd → Option ServeEnd → ServeEnd
or_reported Done (Some fault) = fault
or_reported Done None = Done
or_reported end _ = end

abbrev pub end_with : WorkerEnd → Option ServeEnd → ServeEnd
end_with end reported = or_reported (end_of_workers end) reported

-- ---- causes

-- A fault has its cause in a count.
abbrev pub ServeRose : ServeEnd → (files files' writes writes' : ℕ) → (p p' : PortTold) → (t t' : ClockTold) → Type 0
ServeRose Done files files' writes writes' p p' t t' = ⊤
ServeRose (Refused fault) files files' writes writes' p p' t t' = ⊤
ServeRose ReadFault files files' writes writes' p p' t t' = Rose files files'
ServeRose WriteFault files files' writes writes' p p' t t' = Rose writes writes'
ServeRose PortFault files files' writes writes' p p' t t' = Rose p.faults p'.faults
ServeRose ClockFault files files' writes writes' p p' t t' = Rose t.faults t'.faults
ServeRose Memory files files' writes writes' p p' t t' = ⊤

-- nothing was printed, and neither port nor clock was touched
pub record IsUntouched (held held' : Option (List ℕ)) (p p' : PortTold) (t t' : ClockTold) : Type 0 where
  pub held_is : held' ≡ held
  pub port_is : p' ≡ p
  pub clock_is : t' ≡ t

-- nothing was served, since the file is refused, or couldn't be read, or there was no memory
abbrev pub IsUnserved : (file : Option (List ℕ)) → (boot : ℕ) → ServeEnd → Type 0
IsUnserved file boot (Refused fault) = IsRefusedAs file boot fault
IsUnserved file boot ReadFault = ⊤
IsUnserved file boot Memory = ⊤
IsUnserved file boot _ = ⊥

-- ---- at a port

-- the port was to listen at this place
pub record Listened (host : List ℕ) (place : ℕ) (p p' : PortTold) : Type 0 where
  pub failed : Bool
  pub listens : Gains p.listens (record { host = host; port = place; failed = failed } ∷ []) p'.listens
  pub apart : (p'.opened ≡ p.opened) × (p'.returned ≡ p.returned) × (p'.doors ≡ p.doors)
  pub later : p.faults ≤ p'.faults

-- no door was asked for, since the port couldn't listen, or that it listens couldn't be printed
pub record ServesNone (p p' : PortTold) (t t' : ClockTold) (links : Option ℕ) (end : ServeEnd) : Type 0 where
  pub port_is : p' ≡ p
  pub clock_is : t' ≡ t
  pub none : links ≡ None
  pub undone : end ≢ Done

-- Of doors, faults, handed, returned, visits and closed say what is told; of clocks given, pace and misses.
module _ {D C : Type 0} (faults handed returned : D → ℕ) (visits : D → Option (List Visit)) (closed : D → Bool)
    (given : C → Option (List ℕ)) (pace : C → Option Pace) (misses : C → ℕ) where
  -- act s q t is what the request q at the moment t makes of a machine in the state s, and the reply; of what was asked from the
  -- state that was opened this is to hold.
  module _ {S : Type 0} (act : S → Asked → ℕ → S × Object) (opening : S) (Keeps : List Call → Type 0) (stays : Bool) where
    -- The port's doors were served from the machine that was opened, by workers that may go on where memory was wanting or don't,
    -- and it is left in this state. With a good end every worker
    -- had its quota of links, or its door is closed.
    pub record ServesMachine (left : S) (ns : Option (List ℕ)) (wanted quota : ℕ) (p p' : PortTold) (t t' : ClockTold)
        (links : Option ℕ) (end : ServeEnd) : Type 0 where
      pub history : List Call
      pub worker_end : WorkerEnd
      pub doors : ServesDoors faults handed returned visits given pace misses act closed ns opening wanted quota stays history
          p p' t t' links worker_end
      pub keeps : Keeps history
      pub left_is : left ≡ after act opening history
      pub well : end ≡ Done → is_fault worker_end ≡ false

    -- The port listened at this place and at no other, and its doors were served; that and the number of links were printed.
    pub record AtPlace (left : S) (ns : Option (List ℕ)) (host : List ℕ) (place wanted quota : ℕ)
        (held held' : Option (List ℕ)) (writes writes' : ℕ) (p p' : PortTold) (t t' : ClockTold) (end : ServeEnd) : Type 0 where
      pub listening : PortTold
      pub listened : Listened host place p listening
      pub links : Option ℕ
      pub served : (ServesNone listening p' t t' links end × (left ≡ opening)) ⊎ ServesMachine left ns wanted quota listening p' t t' links end
      pub prints : Prints held held' (listening_text host place ++ served_text links) (end ≡ Done)
      -- a port that couldn't listen ends it, with nothing printed
      pub unheard : listened.failed ≡ true → (end ≡ PortFault) × (held' ≡ held)
      pub unrefused : (fault : LoadFault) → end ≢ Refused fault
      pub rose : ServeRose end 0 0 writes writes' p p' t t'
      pub writes_later : writes ≤ writes'

  -- From a sound state of a site it was served. Where the file is told, it is the state that the definition of the opening gives
  -- for the document that the file's bytes spell and the boot's moment, and the answers have that document's xmlns. The laws of
  -- watches hold of all that was asked.
  pub record ServesFile (file : Option (List ℕ)) (boot : ℕ) (host : List ℕ) (place wanted quota : ℕ)
      (held held' : Option (List ℕ)) (writes writes' : ℕ) (p p' : PortTold) (t t' : ClockTold) (end : ServeEnd) : Type 0 where
    pub ns : Option (List ℕ)
    pub opening : SiteState
    pub opened : IfSome file (λ whole. IsSite (site_bytes whole) boot ns opening)
    pub sound : IsSoundSite opening
    pub left : SiteState
    pub served : AtPlace acts opening (KeepsWatches opening) false left ns host place wanted quota held held' writes writes' p p' t t' end

  -- The clock's next moment is the boot's, where it tells its moments.
  pub record ServeComes (file : Option (List ℕ)) (host : List ℕ) (place wanted quota : ℕ) (files files' : ℕ)
      (held held' : Option (List ℕ)) (writes writes' : ℕ) (p p' : PortTold) (t t' : ClockTold) (end : ServeEnd) : Type 0 where
    pub comes :
        ((end ≡ ClockFault) × Gains t.given [] t'.given × (held' ≡ held) × (p' ≡ p))
        ⊎ ((boot : ℕ) × (booted : ClockTold) × Gains t.given (boot ∷ []) booted.given × (booted.twins ≡ t.twins)
        × ((IsUntouched held held' p p' booted t' × IsUnserved file boot end)
        ⊎ ServesFile file boot host place wanted quota held held' writes writes' p p' booted t' end))
    pub rose : ServeRose end files files' writes writes' p p' t t'

  -- The service came to some end, which is the exit. Where the file opens a site and no count rose, that is a good one, or
  -- memory was wanting, whatever the links did. The end is told on `errors`.
  pub record ServeRan (file : Option (List ℕ)) (host : List ℕ) (place wanted quota : ℕ) (files files' : ℕ)
      (held held' : Option (List ℕ)) (writes writes' : ℕ) (p p' : PortTold) (t t' : ClockTold) (refused : Option RefusedFile) (refusal : Cause) (e e' : ErrorsTold) (exit : Exit) : Type 0 where
    pub end : ServeEnd
    pub exit_is : exit ≡ exit_of_serve end
    pub comes : ServeComes file host place wanted quota files files' held held' writes writes' p p' t t' end
    pub says : Tells e e' exit (serve_words refused refusal end)
    pub complete : IfSome file (λ whole. OpensSite (site_bytes whole)
        → ¬ (Rose files files') → ¬ (Rose writes writes') → ¬ (Rose p.faults p'.faults) → ¬ (Rose t.faults t'.faults)
        → (exit ≡ exits.Ok) ⊎ (exit ≡ exits.Memory))
