-- What the supervision of the servers of a config comes to.
use Rattle.std.specs.Prelude.{◌≡◌, ◌≢◌, ◌⊎◌, ◌<◌, ◌^◌, ⊤, ℕ, List, Option, Some, None, IfSome, length}
use Rattle.ob_documents.specs.Spelling.{Spells}
use Rattle.ob_io.specs.Faults.{Rose}
use Rattle.ob_io.specs.Links.{inlet}
use Rattle.ob_object.specs.Object.{Object}
use Rattle.ob_parts.specs.declared.offence.Offence.{Offence}
use Rattle.ob_server.specs.Complete.{IsWellFramed}
use Rattle.ob_super.specs.InHand.{Outside, outside}
use Rattle.ob_super.specs.Upstreams.{Upstream, configured, IsConfig, IsFirstOffence}
use Rattle.ob_super.specs.declared.config_fault.ConfigFault.{ConfigFault}
use Rattle.ob_super.specs.declared.config_fault.ConfigFault.TheVariants as configs
use Rattle.ob_super.specs.declared.config_rule.ConfigRule.{ConfigRule}
use Rattle.ob_supervising.specs.Supervising.{SupervisesLink}
use Rattle.ob_io.specs.declared.cause.RefusedFile.{RefusedFile}
use Rattle.ob_program.specs.Form.{plain, IsUnspelled}
use Rattle.ob_program.specs.Outside.{Streams, Dialled}
use Rattle.ob_program.specs.Stdio.{exit_of}
use Rattle.ob_program.specs.Telling.{ErrorsTold, Tells}
use Rattle.ob_program.specs.Words.{form_words}
use Rattle.ob_program.specs.declared.exit.Exit.{Exit}
use Rattle.ob_program.specs.declared.exit.Exit.TheVariants as exits
use Rattle.ob_program.specs.declared.form.FormEnd.{FormEnd}
use Rattle.ob_program.specs.declared.form.FormEnd.TheVariants.{Stdio, NoDocument, Config, Schedule}
use Rattle.ob_program.specs.declared.stdio.StdioEnd.TheVariants.{Served, Refused, ReadFault, ClockFault, Memory}

-- ---- the file of the config, where it is told

-- It is a document of the form, and tells these upstreams.
pub record IsFollowed (config : Option (List ℕ)) (us : List Upstream) : Type 0 where
  pub ns : Option (List ℕ)
  pub root : Object
  pub spelled : IfSome config (λ whole. Spells whole ns root)
  pub form : IsConfig root
  pub tells : configured root ≡ Some us

-- It is a document, this is its first part that offends against the form, and this the first rule that it breaks.
pub record OffendsConfig (config : Option (List ℕ)) (offence : Offence ConfigRule) : Type 0 where
  pub ns : Option (List ℕ)
  pub root : Object
  pub spelled : IfSome config (λ whole. Spells whole ns root)
  pub first : IsFirstOffence root offence

-- where a document tells none
abbrev pub end_of_config : ConfigFault → FormEnd
end_of_config (configs.Shape offence) = Config offence
end_of_config configs.Memory = Stdio Memory

-- why it tells no upstreams
abbrev pub FollowsNone : Option (List ℕ) → FormEnd → Type 0
FollowsNone config (Stdio ReadFault) = ⊤
FollowsNone config (Stdio Memory) = ⊤
FollowsNone config (Stdio _) = ⊥
FollowsNone config (NoDocument refusal) = IsUnspelled config refusal
FollowsNone config (Config offence) = OffendsConfig config offence
FollowsNone config (Schedule offence) = ⊥

-- ---- the run

-- nothing was read or written, and nothing dialled
pub record IsUntouched (left left' held held' : Option (List ℕ)) (before after : Outside) : Type 0 where
  pub left_is : left' ≡ left
  pub held_is : held' ≡ held
  pub outside_is : after ≡ before

-- What an end says of the supervision: the requests were answered by the replies of a supervisor of the upstreams that the config
-- tells, or there are none.
abbrev pub SuperComes : (config : Option (List ℕ)) → ℕ → FormEnd → (left taken left' taken' held held' : Option (List ℕ)) → (before after : Outside) → Type 0
SuperComes config rounds (Stdio (Served end)) left taken left' taken' held held' before after =
    (us : List Upstream) × IsFollowed config us × SupervisesLink us rounds before after (inlet left taken) (inlet left' taken') held held' end
SuperComes config rounds (Stdio ReadFault) left taken left' taken' held held' before after = IsUntouched left left' held held' before after
SuperComes config rounds (Stdio Memory) left taken left' taken' held held' before after = IsUntouched left left' held held' before after
SuperComes config rounds (Stdio (Refused fault)) left taken left' taken' held held' before after = ⊥
SuperComes config rounds (Stdio ClockFault) left taken left' taken' held held' before after = ⊥
SuperComes config rounds (NoDocument refusal) left taken left' taken' held held' before after = IsUntouched left left' held held' before after × IsUnspelled config refusal
SuperComes config rounds (Config offence) left taken left' taken' held held' before after = IsUntouched left left' held held' before after × OffendsConfig config offence
SuperComes config rounds (Schedule offence) left taken left' taken' held held' before after = ⊥

-- what is told of a dialer to a supervisor
abbrev pub reached : Dialled → Outside
reached d = outside d.dials d.visits

-- The bytes are a document of the form of a config.
abbrev pub SpellsConfig : List ℕ → Type 0
SpellsConfig bytes = (ns : Option (List ℕ)) × (root : Object) × Spells bytes ns root × IsConfig root

-- The supervision over a source and a sink came to some end, which is the exit; a fault has its cause in a count, and none of a link to
-- an upstream or of a clock is among them. Where the source's bytes are whole requests, fewer than 2^40, and files, source and sink
-- count no fault, they are answered to their end, whatever the links do, or the config is refused. One of the form is not refused. The end
-- is told on `errors`.
pub record SuperRan (config : Option (List ℕ)) (rounds files files' : ℕ) (s s' : Streams) (d d' : Dialled) (refused : Option RefusedFile) (e e' : ErrorsTold) (exit : Exit) : Type 0 where
  pub end : FormEnd
  pub exit_is : exit ≡ exit_of (plain end)
  pub comes : SuperComes config rounds end s.left None s'.left None s.held s'.held (reached d) (reached d')
  pub read : exit ≡ exits.ReadFault → Rose files files' ⊎ Rose s.reads s'.reads
  pub write : exit ≡ exits.WriteFault → Rose s.writes s'.writes
  pub timeless : exit ≢ exits.ClockFault
  pub complete : IfSome s.left (λ all. length all < 2 ^ 40 → IsWellFramed all
      → ¬ (Rose files files') → ¬ (Rose s.reads s'.reads) → ¬ (Rose s.writes s'.writes)
      → (exit ≡ exits.Ok) ⊎ ((exit ≡ exits.Refused) ⊎ (exit ≡ exits.Memory)))
  pub says : Tells e e' exit (form_words refused end)
  pub opens : IfSome config (λ whole. SpellsConfig whole → exit ≢ exits.Refused)
