-- The words that tell an end on `errors`, where its line has some.
use Rattle.std.specs.Prelude.{ℕ, List, [], ◌++◌, codes, decimal, string_bytes, Option, Some, None}
use Rattle.ob_dialogue.specs.Words.{frame_word, peer_words}
use Rattle.ob_dialogue.specs.declared.ending.Ending.{Ending}
use Rattle.ob_dialogue.specs.declared.ending.Ending.TheVariants as endings
use Rattle.ob_http.specs.declared.fault.FrameFault.{FrameFault}
use Rattle.ob_io.specs.Causes.{cause_words}
use Rattle.ob_io.specs.declared.cause.Cause.{Cause}
use Rattle.ob_io.specs.declared.cause.Cause.TheVariants as causes
use Rattle.ob_io.specs.declared.cause.RefusedFile.{RefusedFile}
use Rattle.ob_server.specs.declared.end.LinkEnd.{LinkEnd}
use Rattle.ob_server.specs.declared.end.LinkEnd.TheVariants as links
use Rattle.ob_schedule.specs.RuleWords as schedules
use Rattle.ob_site_file.specs.Words.{load_words}
use Rattle.ob_super.specs.RuleWords as configs
use Rattle.ob_xml.specs.Words.{refusal_words}
use Rattle.ob_program.specs.declared.audit.AuditEnd.{AuditEnd}
use Rattle.ob_program.specs.declared.audit.AuditEnd.TheVariants as audits
use Rattle.ob_program.specs.declared.check.CheckEnd.{CheckEnd}
use Rattle.ob_program.specs.declared.check.CheckEnd.TheVariants as checks
use Rattle.ob_program.specs.declared.compact.CompactEnd.{CompactEnd}
use Rattle.ob_program.specs.declared.compact.CompactEnd.TheVariants as compacts
use Rattle.ob_program.specs.declared.form.FormEnd.{FormEnd}
use Rattle.ob_program.specs.declared.form.FormEnd.TheVariants as forms
use Rattle.ob_program.specs.declared.keep.KeepEnd.{KeepEnd}
use Rattle.ob_program.specs.declared.keep.KeepEnd.TheVariants as keeps
use Rattle.ob_program.specs.declared.serve.ServeEnd.{ServeEnd}
use Rattle.ob_program.specs.declared.serve.ServeEnd.TheVariants as serves
use Rattle.ob_program.specs.declared.stdio.StdioEnd.{StdioEnd}
use Rattle.ob_program.specs.declared.stdio.StdioEnd.TheVariants as services

-- the cause of a fault, where the outside told one
abbrev pub told_cause : Cause → List ℕ
told_cause causes.Untold = []
told_cause cause = codes ": " ++ cause_words cause

-- the file that could not be read, and why
abbrev pub file_words : Option RefusedFile → List ℕ
file_words None = []
file_words (Some file) = codes ": " ++ (string_bytes file.name ++ told_cause file.cause)

-- bytes that begin no request: the fault, and the place where that request begins
abbrev pub frame_words : FrameFault → (at : ℕ) → List ℕ
frame_words fault at = frame_word fault ++ (codes " at " ++ decimal at)

abbrev pub link_words : LinkEnd → List ℕ
link_words (links.BadFrame fault at) = frame_words fault at
link_words _ = []

-- of a file that could not be read the one that the files told last
abbrev pub stdio_words : Option RefusedFile → StdioEnd → List ℕ
stdio_words refused (services.Served end) = link_words end
stdio_words refused (services.Refused fault) = load_words fault
stdio_words refused services.ReadFault = file_words refused
stdio_words refused _ = []

-- the form that the file isn't of, its part that offends, and the rule that this breaks
abbrev pub form_words : Option RefusedFile → FormEnd → List ℕ
form_words refused (forms.Stdio end) = stdio_words refused end
form_words refused (forms.NoDocument refusal) = refusal_words refusal
form_words refused (forms.Config offence) = codes "Config" ++ (codes " " ++ (decimal offence.part ++ (codes " " ++ configs.rule_word offence.rule)))
form_words refused (forms.Schedule offence) = codes "Schedule" ++ (codes " " ++ (decimal offence.part ++ (codes " " ++ schedules.rule_word offence.rule)))

-- of the port the cause that it told last
abbrev pub serve_words : Option RefusedFile → (port : Cause) → ServeEnd → List ℕ
serve_words refused port (serves.Refused fault) = load_words fault
serve_words refused port serves.ReadFault = file_words refused
serve_words refused port serves.PortFault = told_cause port
serve_words refused port _ = []

-- no run has the line or entry at this place; or the reply of this entry isn't the site's; of a record's device the cause that
-- the devices told last
abbrev pub keep_words : Option RefusedFile → (port device : Cause) → KeepEnd → List ℕ
keep_words refused port device (keeps.Served end) = serve_words refused port end
keep_words refused port device (keeps.NoRecord place) = codes "Record " ++ decimal place
keep_words refused port device (keeps.Illegal entry) = decimal entry
keep_words refused port device keeps.RecordFault = told_cause device

-- the new file isn't new
abbrev pub compact_words : Option RefusedFile → (device : Cause) → CompactEnd → List ℕ
compact_words refused device (compacts.Written counts) = []
compact_words refused device compacts.Taken = codes "New"
compact_words refused device (compacts.Ended end) = keep_words refused causes.Untold device end

abbrev pub check_words : Option RefusedFile → CheckEnd → List ℕ
check_words refused (checks.Refused refusal) = refusal_words refusal
check_words refused checks.ReadFault = file_words refused
check_words refused _ = []

abbrev pub audit_words : Option RefusedFile → AuditEnd → List ℕ
audit_words refused (audits.NoRecord place) = codes "Record " ++ decimal place
audit_words refused (audits.NoSite fault) = load_words fault
audit_words refused audits.ReadFault = file_words refused
audit_words refused _ = []

abbrev pub dialogue_words : Ending → List ℕ
dialogue_words (endings.Peer peer) = peer_words peer
dialogue_words _ = []
