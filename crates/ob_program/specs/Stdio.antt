-- What the service of a file's site comes to.
use Rattle.std.specs.Prelude.{◌≡◌, ◌≢◌, ◌⊎◌, ◌≤◌, ◌<◌, ◌^◌, ⊤, ℕ, List, [], ◌∷◌, Option, Some, None, IfSome, IsSome, min, take, length}
use Rattle.ob_io.specs.Faults.{Rose}
use Rattle.ob_io.specs.Links.{inlet}
use Rattle.ob_io.specs.Ticks.{last_moment, pace_of, AreFirstOf}
use Rattle.ob_io.specs.Told.{Gains}
use Rattle.ob_command.specs.declared.server.Output.{Output}
use Rattle.ob_command.specs.declared.server.Output.TheVariants.{Answers, Record}
use Rattle.ob_record.specs.Recording.{RecordsRun}
use Rattle.ob_server.specs.Alone.{ServesAlone}
use Rattle.ob_server.specs.declared.end.LinkEnd.{LinkEnd}
use Rattle.ob_server.specs.declared.end.LinkEnd.TheVariants as ends
use Rattle.ob_site_rules.specs.Sites.{SiteState}
use Rattle.ob_site_laws.specs.SiteLaws.{acts, IsSoundSite}
use Rattle.ob_site_laws.specs.Seen.{KeepsWatches}
use Rattle.ob_load.specs.Loads.{IsSite, OpensSite, RefusesBytes, IsOutside}
use Rattle.ob_site_file.specs.declared.fault.LoadFault.{LoadFault}
use Rattle.ob_site_file.specs.declared.fault.LoadFault.TheVariants as faults
use Rattle.ob_server.specs.Complete.{IsWellFramed}
use Rattle.ob_io.specs.declared.cause.RefusedFile.{RefusedFile}
use Rattle.ob_program.specs.Outside.{Streams, ClockTold}
use Rattle.ob_program.specs.Telling.{ErrorsTold, Tells}
use Rattle.ob_program.specs.Words.{stdio_words}
use Rattle.ob_program.specs.declared.exit.Exit.{Exit}
use Rattle.ob_program.specs.declared.exit.Exit.TheVariants as exits
use Rattle.ob_program.specs.declared.stdio.StdioEnd.{StdioEnd}
use Rattle.ob_program.specs.declared.stdio.StdioEnd.TheVariants.{Served, Refused, ReadFault, ClockFault, Memory}

abbrev pub exit_of_link : LinkEnd → Exit
exit_of_link ends.Closed = exits.Ok
exit_of_link ends.Asked = exits.Ok
exit_of_link ends.Truncated = exits.Truncated
exit_of_link (ends.BadFrame fault at) = exits.Frame
exit_of_link ends.ReadFault = exits.ReadFault
exit_of_link ends.WriteFault = exits.WriteFault
exit_of_link ends.ClockFault = exits.ClockFault
exit_of_link ends.Budget = exits.Budget
exit_of_link ends.Memory = exits.Memory

abbrev pub exit_of : StdioEnd → Exit
exit_of (Served end) = exit_of_link end
exit_of (Refused fault) = exits.Refused
exit_of ReadFault = exits.ReadFault
exit_of ClockFault = exits.ClockFault
exit_of Memory = exits.Memory

-- the end that a refusal of a file leads to
abbrev pub end_of_fault : LoadFault → StdioEnd
end_of_fault faults.Read = ReadFault
end_of_fault faults.Memory = Memory
end_of_fault fault = Refused fault

-- The bytes of a file that are looked at: one more than a document may have.
abbrev pub site_bytes : List ℕ → List ℕ
site_bytes whole = take 16_777_217 whole

-- From a sound state of a site a link was served: its requests were answered by the replies that the site gives one after the
-- other from that state on, and the laws of watches hold of all of them. Where the file is told, it is the state that the
-- definition of the opening gives for the document that the file's bytes spell and the boot's moment, and the answers have that
-- document's xmlns.
pub record ServesSite (file : Option (List ℕ)) (boot : ℕ) (left taken left' taken' held held' given given' : Option (List ℕ)) (end : LinkEnd) : Type 0 where
  pub ns : Option (List ℕ)
  pub opening : SiteState
  pub opened : IfSome file (λ whole. IsSite (site_bytes whole) boot ns opening)
  pub sound : IsSoundSite opening
  pub alone : ServesAlone acts opening ns (inlet left taken) (inlet left' taken') held held' given given' end
  pub watches : KeepsWatches opening alone.calls

-- From such a state the requests of a link were recorded since the boot: what was written is the record of a legal run from there.
-- The laws of watches hold of all that was asked.
pub record RecordsSite (file : Option (List ℕ)) (boot : ℕ) (left taken left' taken' held held' given given' : Option (List ℕ)) (end : LinkEnd) : Type 0 where
  pub ns : Option (List ℕ)
  pub opening : SiteState
  pub opened : IfSome file (λ whole. IsSite (site_bytes whole) boot ns opening)
  pub sound : IsSoundSite opening
  pub last : SiteState
  pub run : RecordsRun acts opening last boot (inlet left taken) (inlet left' taken') held held' given given' end
  pub watches : KeepsWatches opening run.calls

-- what is written for the requests that are asked of a file's site
abbrev pub AsksSite : Output → Option (List ℕ) → ℕ → (left taken left' taken' held held' given given' : Option (List ℕ)) → LinkEnd → Type 0
AsksSite Answers file boot left taken left' taken' held held' given given' end = ServesSite file boot left taken left' taken' held held' given given' end
AsksSite Record file boot left taken left' taken' held held' given given' end = RecordsSite file boot left taken left' taken' held held' given given' end

-- nothing was read or written, and no moment was asked for
pub record IsIdle (left left' held held' given given' : Option (List ℕ)) : Type 0 where
  pub left_is : left' ≡ left
  pub held_is : held' ≡ held
  pub given_is : given' ≡ given

-- the bytes of a file, where it is told, are refused with this fault for a boot at this moment
abbrev pub IsRefusedAs : Option (List ℕ) → ℕ → LoadFault → Type 0
IsRefusedAs file boot fault = IfSome file (λ whole. RefusesBytes (site_bytes whole) boot fault) × (IsOutside fault → ⊥)

-- What an end says of a service that boots at a moment.
abbrev pub Comes : Output → Option (List ℕ) → ℕ → StdioEnd → (left taken left' taken' held held' given given' : Option (List ℕ)) → Type 0
Comes output file boot (Served end) left taken left' taken' held held' given given' = AsksSite output file boot left taken left' taken' held held' given given' end
Comes output file boot (Refused fault) left taken left' taken' held held' given given' = IsIdle left left' held held' given given' × IsRefusedAs file boot fault
Comes output file boot ReadFault left taken left' taken' held held' given given' = IsIdle left left' held held' given given'
Comes output file boot ClockFault left taken left' taken' held held' given given' = IsIdle left left' held held' given given'
Comes output file boot Memory left taken left' taken' held held' given given' = IsIdle left left' held held' given given'

-- Without a moment to begin at, the clock's next moment is the boot's, and the requests have those behind it, where it
-- tells its moments. Else the clock isn't asked: one that begins there and goes by the tick is asked in its place, and it tells
-- its moments to the end: they are `at`, `at + tick` and so on, or the last moment that there is.
abbrev pub StdioComes : Output → Option (List ℕ) → Option ℕ → ℕ → StdioEnd → (left taken left' taken' held held' given given' : Option (List ℕ)) → Type 0
StdioComes output file None tick end left taken left' taken' held held' given given' =
    ((end ≡ ClockFault) × Gains given [] given' × (left' ≡ left) × (held' ≡ held))
    ⊎ ((boot : ℕ) × (booted : Option (List ℕ)) × Gains given (boot ∷ []) booted × Comes output file boot end left taken left' taken' held held' booted given')
StdioComes output file (Some at) tick end left taken left' taken' held held' given given' =
    (given' ≡ given) × ((ticked : Option (List ℕ)) × Comes output file (min at last_moment) end left taken left' taken' held held' (Some []) ticked
    × IsSome ticked × IfSome ticked (λ moments. AreFirstOf (pace_of at tick) moments))

abbrev pub IsUnserved : StdioEnd → Type 0
IsUnserved (Served end) = ⊥
IsUnserved (Refused fault) = ⊤
IsUnserved ReadFault = ⊤
IsUnserved ClockFault = ⊤
IsUnserved Memory = ⊤

-- The counts of faults have not fallen, and a fault comes only where its own rose.
pub record HasCause (end : StdioEnd) (files files' reads reads' writes writes' clocks clocks' : ℕ) : Type 0 where
  pub files_later : files ≤ files'
  pub reads_later : reads ≤ reads'
  pub writes_later : writes ≤ writes'
  pub clocks_later : clocks ≤ clocks'
  pub file : end ≡ ReadFault → Rose files files'
  pub read : end ≡ Served ends.ReadFault → Rose reads reads'
  pub write : end ≡ Served ends.WriteFault → Rose writes writes'
  pub boot : end ≡ ClockFault → Rose clocks clocks'
  pub clock : end ≡ Served ends.ClockFault → Rose clocks clocks'

-- The service of a file's site over a source and a sink came to some end, which is the exit; where a link's taken bytes aren't
-- told, nothing is said of them by themselves. A fault has its cause in a count. Where the file opens a site and the source's
-- bytes are whole requests, fewer than 2^40, and nothing fails, they are asked to their end. A file that opens a site isn't
-- refused. The end is told on `errors`.
pub record StdioRan (output : Output) (file : Option (List ℕ)) (at : Option ℕ) (tick files files' : ℕ) (s s' : Streams) (t t' : ClockTold) (refused : Option RefusedFile) (e e' : ErrorsTold) (exit : Exit) : Type 0 where
  pub end : StdioEnd
  pub exit_is : exit ≡ exit_of end
  pub comes : StdioComes output file at tick end s.left None s'.left None s.held s'.held t.given t'.given
  pub read : exit ≡ exits.ReadFault → Rose files files' ⊎ Rose s.reads s'.reads
  pub write : exit ≡ exits.WriteFault → Rose s.writes s'.writes
  pub clock : exit ≡ exits.ClockFault → Rose t.faults t'.faults
  pub complete : IfSome s.left (λ all. length all < 2 ^ 40 → IsWellFramed all
      → ¬ (Rose files files') → ¬ (Rose s.reads s'.reads) → ¬ (Rose s.writes s'.writes) → ¬ (Rose t.faults t'.faults)
      → (exit ≡ exits.Ok) ⊎ ((exit ≡ exits.Refused) ⊎ (exit ≡ exits.Memory)))
  pub says : Tells e e' exit (stdio_words refused end)
  pub opens : IfSome file (λ whole. OpensSite (site_bytes whole) → exit ≢ exits.Refused)
