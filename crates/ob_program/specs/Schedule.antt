-- What the service of a file's site with the weekly schedules of another file comes to.
use Rattle.std.specs.Prelude.{◌≡◌, ◌≢◌, ◌⊎◌, ◌<◌, ◌^◌, ⊤, ℕ, List, [], ◌∷◌, Option, Some, None, IfSome, IsSome, min, length}
use Rattle.ob_documents.specs.Spelling.{Spells}
use Rattle.ob_io.specs.Faults.{Rose}
use Rattle.ob_io.specs.Links.{inlet}
use Rattle.ob_io.specs.Ticks.{last_moment, pace_of, AreFirstOf}
use Rattle.ob_io.specs.Told.{Gains}
use Rattle.ob_load.specs.Loads.{IsSite}
use Rattle.ob_object.specs.Object.{Object}
use Rattle.ob_schedule.specs.Forms.{IsFile, IsFirstOffence}
use Rattle.ob_schedule.specs.PointRules.{PointRules}
use Rattle.ob_schedule.specs.Weeks.{Says}
use Rattle.ob_schedule_rules.specs.Rules.{rules_of}
use Rattle.ob_scheduling.specs.Scheduled.{ServesScheduled}
use Rattle.ob_site_laws.specs.Seen.{KeepsWatches}
use Rattle.ob_server.specs.Complete.{IsWellFramed}
use Rattle.ob_server.specs.declared.end.LinkEnd.{LinkEnd}
use Rattle.ob_site_laws.specs.SiteLaws.{acts, IsSoundSite}
use Rattle.ob_site_rules.specs.Sites.{SiteState}
use Rattle.ob_weekly.specs.declared.schedule.Schedules.{Schedules}
use Rattle.ob_parts.specs.declared.offence.Offence.{Offence}
use Rattle.ob_schedule.specs.declared.rule.ScheduleRule.{ScheduleRule}
use Rattle.ob_io.specs.declared.cause.RefusedFile.{RefusedFile}
use Rattle.ob_program.specs.Form.{plain, IsUnspelled}
use Rattle.ob_program.specs.Outside.{Streams, ClockTold}
use Rattle.ob_program.specs.Stdio.{exit_of, site_bytes, IsIdle, IsRefusedAs}
use Rattle.ob_program.specs.Telling.{ErrorsTold, Tells}
use Rattle.ob_program.specs.Words.{form_words}
use Rattle.ob_program.specs.declared.exit.Exit.{Exit}
use Rattle.ob_program.specs.declared.exit.Exit.TheVariants as exits
use Rattle.ob_program.specs.declared.form.FormEnd.{FormEnd}
use Rattle.ob_program.specs.declared.form.FormEnd.TheVariants.{Stdio, NoDocument, Config, Schedule}
use Rattle.ob_program.specs.declared.stdio.StdioEnd.TheVariants.{Served, Refused, ReadFault, ClockFault, Memory}

-- ---- the file of the schedules, where it is told

-- It is a document of the form for the points of this site, and says these schedules.
pub record IsScheduled (file : Option (List ℕ)) (site : SiteState) (schedules : Schedules) : Type 0 where
  pub ns : Option (List ℕ)
  pub root : Object
  pub spelled : IfSome file (λ whole. Spells whole ns root)
  pub form : IsFile (rules_of site) root
  pub says : Says root schedules

-- It is a document, this is its first part that offends against the form for the points of this site, and this the first rule that
-- it breaks.
pub record Offends (file : Option (List ℕ)) (site : SiteState) (offence : Offence ScheduleRule) : Type 0 where
  pub ns : Option (List ℕ)
  pub root : Object
  pub spelled : IfSome file (λ whole. Spells whole ns root)
  pub first : IsFirstOffence (rules_of site) root offence

-- why a document says no schedules for such points
abbrev pub IsFormless : PointRules → Object → FormEnd → Type 0
IsFormless rules root (Stdio Memory) = ⊤
IsFormless rules root (Stdio _) = ⊥
IsFormless rules root (NoDocument refusal) = ⊥
IsFormless rules root (Config offence) = ⊥
IsFormless rules root (Schedule offence) = IsFirstOffence rules root offence

-- why the file says none
abbrev pub SaysNone : Option (List ℕ) → SiteState → FormEnd → Type 0
SaysNone file site (Stdio ReadFault) = ⊤
SaysNone file site (Stdio Memory) = ⊤
SaysNone file site (Stdio _) = ⊥
SaysNone file site (NoDocument refusal) = IsUnspelled file refusal
SaysNone file site (Config offence) = ⊥
SaysNone file site (Schedule offence) = Offends file site offence

-- ---- the service

-- From a sound state of a site a link was served with schedules for its points: its requests, and the writes of the schedules
-- among them, were answered by the replies that the site gives one after the other from that state on, and the laws of watches
-- hold of all of them. Where the file of the site is told, it is the state that the definition of the opening gives for the document
-- that its bytes spell and the boot's moment, and the answers have that document's xmlns.
pub record ServesSchedules (site file : Option (List ℕ)) (boot : ℕ) (left taken left' taken' held held' given given' : Option (List ℕ)) (end : LinkEnd) : Type 0 where
  pub ns : Option (List ℕ)
  pub opening : SiteState
  pub opened : IfSome site (λ whole. IsSite (site_bytes whole) boot ns opening)
  pub sound : IsSoundSite opening
  pub schedules : Schedules
  pub scheduled : IsScheduled file opening schedules
  pub service : ServesScheduled acts opening schedules boot ns (inlet left taken) (inlet left' taken') held held' given given' end
  pub watches : KeepsWatches opening service.calls

-- The site was opened, and the file of the schedules says none for its points.
pub record IsUnscheduled (site file : Option (List ℕ)) (boot : ℕ) (end : FormEnd) : Type 0 where
  pub ns : Option (List ℕ)
  pub opening : SiteState
  pub opened : IfSome site (λ whole. IsSite (site_bytes whole) boot ns opening)
  pub none : SaysNone file opening end

-- What an end says of a service that boots at a moment.
abbrev pub ScheduleComesAt : (site file : Option (List ℕ)) → ℕ → FormEnd → (left taken left' taken' held held' given given' : Option (List ℕ)) → Type 0
ScheduleComesAt site file boot (Stdio (Served end)) left taken left' taken' held held' given given' = ServesSchedules site file boot left taken left' taken' held held' given given' end
ScheduleComesAt site file boot (Stdio (Refused fault)) left taken left' taken' held held' given given' = IsIdle left left' held held' given given' × IsRefusedAs site boot fault
ScheduleComesAt site file boot (Stdio ReadFault) left taken left' taken' held held' given given' = IsIdle left left' held held' given given'
ScheduleComesAt site file boot (Stdio ClockFault) left taken left' taken' held held' given given' = IsIdle left left' held held' given given'
ScheduleComesAt site file boot (Stdio Memory) left taken left' taken' held held' given given' = IsIdle left left' held held' given given'
ScheduleComesAt site file boot (NoDocument refusal) left taken left' taken' held held' given given' = IsIdle left left' held held' given given' × IsUnscheduled site file boot (NoDocument refusal)
ScheduleComesAt site file boot (Config offence) left taken left' taken' held held' given given' = ⊥
ScheduleComesAt site file boot (Schedule offence) left taken left' taken' held held' given given' = IsIdle left left' held held' given given' × IsUnscheduled site file boot (Schedule offence)

-- The boot and the requests have their moments as those of a service without schedules do.
abbrev pub ScheduleComes : (site file : Option (List ℕ)) → Option ℕ → ℕ → FormEnd → (left taken left' taken' held held' given given' : Option (List ℕ)) → Type 0
ScheduleComes site file None tick end left taken left' taken' held held' given given' =
    ((end ≡ Stdio ClockFault) × Gains given [] given' × (left' ≡ left) × (held' ≡ held))
    ⊎ ((boot : ℕ) × (booted : Option (List ℕ)) × Gains given (boot ∷ []) booted × ScheduleComesAt site file boot end left taken left' taken' held held' booted given')
ScheduleComes site file (Some at) tick end left taken left' taken' held held' given given' =
    (given' ≡ given) × ((ticked : Option (List ℕ)) × ScheduleComesAt site file (min at last_moment) end left taken left' taken' held held' (Some []) ticked
    × IsSome ticked × IfSome ticked (λ moments. AreFirstOf (pace_of at tick) moments))

-- ---- the exit

-- At some moment the bytes open a site, and the other ones are a document of the form for its points. So it is at each: what is
-- opened is the same but for the boot's moment and the time, and so are its points.
abbrev pub OpensScheduled : (site file : List ℕ) → Type 0
OpensScheduled site file =
    (boot : ℕ) × (ns : Option (List ℕ)) × (opening : SiteState) × IsSite (site_bytes site) boot ns opening
    × ((file_ns : Option (List ℕ)) × (root : Object) × Spells file file_ns root × IsFile (rules_of opening) root)

-- The service of a file's site with the schedules of another over a source and a sink came to some end, which is the exit; a fault has
-- its cause in a count. Where the source's bytes are whole requests, fewer than 2^40, and nothing fails, they are asked to their end, or
-- a file is refused. Files of which the one opens a site and the other has the form for its points are not refused. The
-- end is told on `errors`.
pub record ScheduledRan (site file : Option (List ℕ)) (at : Option ℕ) (tick files files' : ℕ) (s s' : Streams) (t t' : ClockTold) (refused : Option RefusedFile) (e e' : ErrorsTold) (exit : Exit) : Type 0 where
  pub end : FormEnd
  pub exit_is : exit ≡ exit_of (plain end)
  pub comes : ScheduleComes site file at tick end s.left None s'.left None s.held s'.held t.given t'.given
  pub read : exit ≡ exits.ReadFault → Rose files files' ⊎ Rose s.reads s'.reads
  pub write : exit ≡ exits.WriteFault → Rose s.writes s'.writes
  pub clock : exit ≡ exits.ClockFault → Rose t.faults t'.faults
  pub complete : IfSome s.left (λ all. length all < 2 ^ 40 → IsWellFramed all
      → ¬ (Rose files files') → ¬ (Rose s.reads s'.reads) → ¬ (Rose s.writes s'.writes) → ¬ (Rose t.faults t'.faults)
      → (exit ≡ exits.Ok) ⊎ ((exit ≡ exits.Refused) ⊎ (exit ≡ exits.Memory)))
  pub says : Tells e e' exit (form_words refused end)
  pub opens : IfSome site (λ whole. IfSome file (λ other. OpensScheduled whole other → exit ≢ exits.Refused))
