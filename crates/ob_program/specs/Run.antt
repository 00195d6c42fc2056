-- What a run comes to, by the command that its words are.
use Rattle.std.specs.Prelude.{◌≡◌, ℕ, Bool, true, List, Option, Some, None}
use Rattle.ob_command.specs.Command as commands
use Rattle.ob_command.specs.Command.{Command}
use Rattle.ob_command.specs.Pages.{page}
use Rattle.ob_command.specs.declared.version.TheConstants.{VERSION}
use Rattle.ob_dialogue.specs.declared.plan.Topic.TheVariants as topics
use Rattle.ob_io.specs.Ticks.{Pace}
use Rattle.ob_io.specs.Visits.{Visit}
use Rattle.ob_program.specs.declared.exit.Exit.{Exit}
use Rattle.ob_program.specs.declared.exit.Exit.TheVariants as exits
use Rattle.ob_program.specs.Outside.{Streams, DevicesTold, PortTold, Dialled, ClockTold, Refusals}
use Rattle.ob_program.specs.Telling.{ErrorsTold}
use Rattle.ob_program.specs.Stdio.{StdioRan}
use Rattle.ob_program.specs.Check.{CheckRan}
use Rattle.ob_program.specs.Serving.{ServeRan}
use Rattle.ob_program.specs.Keeping.{KeepRan}
use Rattle.ob_program.specs.Compact.{CompactRan}
use Rattle.ob_program.specs.Client.{ClientRan}
use Rattle.ob_program.specs.Storm.{StormRan}
use Rattle.ob_program.specs.Audit.{AuditRan}
use Rattle.ob_program.specs.Schedule.{ScheduledRan}
use Rattle.ob_program.specs.Super.{SuperRan}
use Rattle.ob_program.specs.Text.{TextRan}

-- Memory was wanting to read the URL or a text of a client's words, and this is as it was.
abbrev pub IsUnread : (words : List (List ℕ)) → Exit → (untouched : Type 0) → Type 0
IsUnread words exit untouched = (exit ≡ exits.Memory) × (commands.is_client words ≡ true) × untouched

-- Of devices of records told, seen, may_leave, moment, left_since and failures say what is told of one; of doors and clocks the others.
module _ {V : Type 0} (told : Type 0) (seen : V → List ℕ) (may_leave : V → List ℕ → Type 0) (moment : V → ℕ)
    (left_since : V → ℕ → List ℕ → Type 0) (failures : V → ℕ) {D C : Type 0} (faults handed returned : D → ℕ) (visits : D → Option (List Visit)) (closed : D → Bool) (given : C → Option (List ℕ))
    (pace : C → Option Pace) (misses : C → ℕ) where
  -- the command was done
  abbrev pub Ran : (content : List ℕ → Option (List ℕ)) → (files files' : ℕ) → (v v' : DevicesTold V) → (s s' : Streams) → (p p' : PortTold) → (d d' : Dialled) → (t t' : ClockTold) → (r : Refusals) → (e e' : ErrorsTold)
      → Command → Exit → Type 0
  Ran content files files' v v' s s' p p' d d' t t' r e e' (commands.stdio output site at tick) exit =
      StdioRan output (content site) at tick files files' s s' t t' r.file e e' exit
  Ran content files files' v v' s s' p p' d d' t t' r e e' (commands.schedule site file at tick) exit =
      ScheduledRan (content site) (content file) at tick files files' s s' t t' r.file e e' exit
  Ran content files files' v v' s s' p p' d d' t t' r e e' (commands.serve site host port workers quota) exit =
      ServeRan faults handed returned visits closed given pace misses (content site) host port workers quota files files'
      s.held s'.held s.writes s'.writes p p' t t' r.file r.port e e' exit
  Ran content files files' v v' s s' p p' d d' t t' r e e' (commands.keep site file host port workers quota) exit =
      KeepRan told seen may_leave moment left_since failures faults handed returned visits closed given pace misses (content site) file host port workers quota
      files files' v v' s.held s'.held s.writes s'.writes p p' t t' r.file r.port r.device e e' exit
  Ran content files files' v v' s s' p p' d d' t t' r e e' (commands.auditing site file) exit =
      AuditRan (content site) (content file) files files' s.held s'.held s.writes s'.writes r.file e e' exit
  Ran content files files' v v' s s' p p' d d' t t' r e e' (commands.compacting site file new) exit =
      CompactRan told seen may_leave moment left_since failures (content site) file new files files' v v' s.held s'.held s.writes s'.writes r.file r.device e e' exit
  Ran content files files' v v' s s' p p' d d' t t' r e e' (commands.check file) exit =
      CheckRan (content file) files files' s.held s'.held s.writes s'.writes r.file e e' exit
  Ran content files files' v v' s s' p p' d d' t t' r e e' (commands.watch url hrefs polls retries) exit =
      ClientRan (record { url = url; topic = topics.Watch hrefs; polls = polls; retries = retries }) s.held s'.held s.writes s'.writes d d' e e' exit
  Ran content files files' v v' s s' p p' d d' t t' r e e' (commands.console url subject polls ack user) exit =
      ClientRan (record { url = url; topic = topics.Console subject ack user; polls = polls; retries = 0 }) s.held s'.held s.writes s'.writes d d' e e' exit
  Ran content files files' v v' s s' p p' d d' t t' r e e' (commands.storm asked) exit =
      StormRan asked s.held s'.held s.writes s'.writes e e' exit
  Ran content files files' v v' s s' p p' d d' t t' r e e' (commands.supervise config rounds wait_ms) exit =
      SuperRan (content config) rounds files files' s s' d d' r.file e e' exit
  Ran content files files' v v' s s' p p' d d' t t' r e e' (commands.help verb) exit =
      TextRan (page verb) s.held s'.held s.writes s'.writes e e' exit
  Ran content files files' v v' s s' p p' d d' t t' r e e' commands.version exit =
      TextRan VERSION.now s.held s'.held s.writes s'.writes e e' exit

-- the parts of the outside that a command has nothing to do with are as they were
abbrev pub LeavesAlone : Option Command → (files devices source sink port dialer clock : Type 0) → Type 0
LeavesAlone None files devices source sink port dialer clock = files × devices × source × sink × port × dialer × clock
LeavesAlone (Some (commands.stdio output site None tick)) files devices source sink port dialer clock = devices × port × dialer
LeavesAlone (Some (commands.stdio output site (Some at) tick)) files devices source sink port dialer clock = devices × port × dialer × clock
LeavesAlone (Some (commands.schedule site file None tick)) files devices source sink port dialer clock = devices × port × dialer
LeavesAlone (Some (commands.schedule site file (Some at) tick)) files devices source sink port dialer clock = devices × port × dialer × clock
LeavesAlone (Some (commands.serve site host place workers quota)) files devices source sink port dialer clock = devices × source × dialer
LeavesAlone (Some (commands.keep site file host place workers quota)) files devices source sink port dialer clock = source × dialer
LeavesAlone (Some (commands.auditing site file)) files devices source sink port dialer clock = devices × source × port × dialer × clock
LeavesAlone (Some (commands.compacting site file new)) files devices source sink port dialer clock = source × port × dialer × clock
LeavesAlone (Some (commands.check file)) files devices source sink port dialer clock = devices × source × port × dialer × clock
LeavesAlone (Some (commands.watch url hrefs polls retries)) files devices source sink port dialer clock = files × devices × source × port × clock
LeavesAlone (Some (commands.console url subject polls ack user)) files devices source sink port dialer clock = files × devices × source × port × clock
LeavesAlone (Some (commands.storm asked)) files devices source sink port dialer clock = files × devices × source × port × dialer × clock
LeavesAlone (Some (commands.supervise config rounds wait_ms)) files devices source sink port dialer clock = devices × port × clock
LeavesAlone (Some (commands.help verb)) files devices source sink port dialer clock = files × devices × source × port × dialer × clock
LeavesAlone (Some commands.version) files devices source sink port dialer clock = files × devices × source × port × dialer × clock
