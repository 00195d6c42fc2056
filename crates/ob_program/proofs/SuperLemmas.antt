-- What the supervision of the servers of a config comes to, and what that says of the exit.
use Rattle.std.proofs.Common.{◌≡◌, ◌≢◌, ◌⊎◌, ◌≤◌, ◌<◌, ◌^◌, ◌∙◌, ℕ, true, List, [], length, Option, Some, None, Result, Ok, Err, refl, sym, ap, subst, arith, inl, inr}
use Rattle.std.specs.Prelude.{IfSome, find, ◌==◌}
use Rattle.ob_documents.specs.Spelling.{Spells}
use Rattle.ob_io.specs.Faults.{Rose}
use Rattle.ob_object.specs.Object.{Object}
use Rattle.ob_server.specs.Complete.{ServesWhole, IsWellFramed}
use Rattle.ob_server.specs.declared.end.LinkEnd.{LinkEnd}
use Rattle.ob_site_file.specs.declared.fault.LoadFault.{LoadFault}
use Rattle.ob_super.specs.InHand.{Outside, Configures}
use Rattle.ob_super.specs.Upstreams.{Upstream, offences, IsFirstOffence}
use Rattle.ob_super.specs.declared.config_rule.ConfigRule.{ConfigRule}
use Rattle.ob_parts.specs.declared.offence.Offence.{Offence}
use Rattle.ob_super.specs.declared.config_fault.ConfigFault.{ConfigFault}
use Rattle.ob_super.specs.declared.config_fault.ConfigFault.TheVariants as configs
use Rattle.ob_super.specs.declared.state.Super.{Super}
use Rattle.ob_xml.specs.Judged.{Judged, document}
use Rattle.ob_xml.specs.declared.doc.Doc.{Doc}
use Rattle.ob_io.specs.declared.cause.RefusedFile.{RefusedFile}
use Rattle.ob_program.specs.Form.{plain, end_of_document}
use Rattle.ob_program.specs.Outside.{Streams, Dialled}
use Rattle.ob_program.specs.Reading.{ReadsFile}
use Rattle.ob_program.specs.Stdio.{exit_of, HasCause}
use Rattle.ob_program.specs.Telling.{ErrorsTold, Tells}
use Rattle.ob_program.specs.Words.{form_words}
use Rattle.ob_program.specs.Super.{end_of_config, FollowsNone, IsUntouched, SuperComes, SpellsConfig, SuperRan, reached}
use Rattle.ob_program.specs.declared.document.DocumentFault.{DocumentFault}
use Rattle.ob_program.specs.declared.document.DocumentFault.TheVariants as documents
use Rattle.ob_program.specs.declared.exit.Exit.{Exit}
use Rattle.ob_program.specs.declared.exit.Exit.TheVariants as exits
use Rattle.ob_program.specs.declared.form.FormEnd.{FormEnd}
use Rattle.ob_program.specs.declared.form.FormEnd.TheVariants.{Stdio, NoDocument, Config, Schedule}
use Rattle.ob_program.specs.declared.stdio.StdioEnd.{StdioEnd}
use Rattle.ob_program.specs.declared.stdio.StdioEnd.TheVariants.{Served, Refused, ReadFault, ClockFault, Memory}
use Rattle.ob_program.proofs.FileLemmas.{IsOnce}
use Rattle.ob_program.proofs.FormLemmas.{IsOnly, one_root}
use Rattle.ob_program.proofs.StdioLemmas.{never_rose, unserved_cause, read_rose, write_rose, clock_rose, complete_told, exit_refused}

-- ---- the file of the config

pub unread_follows_none : (config : Option (List ℕ)) (why : DocumentFault) → ReadsFile config (Err why) → FollowsNone config (end_of_document why)
unread_follows_none config (documents.Refused refusal) reads = reads.told
unread_follows_none config documents.Failed reads = tt
unread_follows_none config documents.Memory reads = tt

pub unformed_follows_none : (L : Type 0) (config : Option (List ℕ)) (ns : Option (List ℕ)) (root : Object) (wait_ms : ℕ) (why : ConfigFault) → IfSome config (λ whole. Spells whole ns root)
    → Configures {L = L} root wait_ms (Err why) → FollowsNone config (end_of_config why)
unformed_follows_none L config ns root wait_ms (configs.Shape offence) spelled first = record { ns = ns; root = root; spelled = spelled; first = first }
unformed_follows_none L config ns root wait_ms configs.Memory spelled first = tt

pub unformed_unread : (why : ConfigFault) → end_of_config why ≡ Stdio ReadFault → ⊥
unformed_unread (configs.Shape offence) is = cc is
unformed_unread configs.Memory is = cc is

-- ---- a config that follows nothing

pub comes_unfollowed : (config : Option (List ℕ)) (rounds : ℕ) (end : FormEnd) (left taken held : Option (List ℕ)) (before : Outside) → FollowsNone config end
    → SuperComes config rounds end left taken left taken held held before before
comes_unfollowed config rounds end left taken held before none = by_end end none
  where
    untouched : IsUntouched left left held held before before
    untouched = record { left_is = refl; held_is = refl; outside_is = refl }

    by_end : (e : FormEnd) → FollowsNone config e → SuperComes config rounds e left taken left taken held held before before
    by_end (Stdio ReadFault) n = untouched
    by_end (Stdio Memory) n = untouched
    by_end (Stdio (Served link)) n = absurd n
    by_end (Stdio (Refused fault)) n = n
    by_end (Stdio ClockFault) n = n
    by_end (NoDocument refusal) n = (untouched, n)
    by_end (Config offence) n = (untouched, n)
    by_end (Schedule offence) n = absurd n

pub unfollowed_serves_none : (config : Option (List ℕ)) (end : FormEnd) (link : LinkEnd) → FollowsNone config end → plain end ≡ Served link → ⊥
unfollowed_serves_none config (Stdio ReadFault) link none is = cc is
unfollowed_serves_none config (Stdio Memory) link none is = cc is
unfollowed_serves_none config (Stdio (Served other)) link none is = none
unfollowed_serves_none config (Stdio (Refused fault)) link none is = none
unfollowed_serves_none config (Stdio ClockFault) link none is = none
unfollowed_serves_none config (NoDocument refusal) link none is = cc is
unfollowed_serves_none config (Config offence) link none is = cc is
unfollowed_serves_none config (Schedule offence) link none is = none

-- only the count of the files may have risen
pub unfollowed_cause : (config : Option (List ℕ)) (end : FormEnd) (files files' reads writes clocks : ℕ) → files ≤ files' → (end ≡ Stdio ReadFault → Rose files files')
    → FollowsNone config end → HasCause (plain end) files files' reads reads writes writes clocks clocks
unfollowed_cause config end files files' reads writes clocks later rose none = by_end end rose none
  where
    by_end : (e : FormEnd) → (e ≡ Stdio ReadFault → Rose files files') → FollowsNone config e → HasCause (plain e) files files' reads reads writes writes clocks clocks
    by_end (Stdio ReadFault) r n = unserved_cause ReadFault files files' reads writes clocks later (λ link is. absurd (cc is)) (λ is. cc is) (λ is. r refl)
    by_end (Stdio Memory) r n = unserved_cause Memory files files' reads writes clocks later (λ link is. absurd (cc is)) (λ is. cc is) (λ is. absurd (cc is))
    by_end (Stdio (Served link)) r n = absurd n
    by_end (Stdio (Refused fault)) r n = absurd n
    by_end (Stdio ClockFault) r n = absurd n
    by_end (NoDocument refusal) r n = unserved_cause _ files files' reads writes clocks later (λ link is. absurd (cc is)) (λ is. cc is) (λ is. absurd (cc is))
    by_end (Schedule offence) r n = absurd n
    by_end (Config offence) r n = unserved_cause _ files files' reads writes clocks later (λ link is. absurd (cc is)) (λ is. cc is) (λ is. absurd (cc is))

-- ---- the exit

timeless : (left : Option (List ℕ)) (files files' reads reads' writes writes' : ℕ) (exit : Exit)
    → IfSome left (λ all. length all < 2 ^ 40 → IsWellFramed all → ¬ (Rose files files') → ¬ (Rose reads reads') → ¬ (Rose writes writes') → ¬ (Rose 0 0)
    → (exit ≡ exits.Ok) ⊎ ((exit ≡ exits.Refused) ⊎ (exit ≡ exits.Memory)))
    → IfSome left (λ all. length all < 2 ^ 40 → IsWellFramed all → ¬ (Rose files files') → ¬ (Rose reads reads') → ¬ (Rose writes writes')
    → (exit ≡ exits.Ok) ⊎ ((exit ≡ exits.Refused) ⊎ (exit ≡ exits.Memory)))
timeless None files files' reads reads' writes writes' exit told = tt
timeless (Some all) files files' reads reads' writes writes' exit told = λ short framed f r w. told short framed f r w never_rose

-- a config without offences has no first one
no_first : (offence : Offence ConfigRule) (root : Object) → offences root ≡ [] → IsFirstOffence root offence → ⊥
no_first offence root none first =
    let found : None ≡ Some offence = subst (λ (l : List (Offence ConfigRule)). find (λ o. o.part == offence.part) l ≡ Some offence) none first.told in
    cc found

module _ (only : IsOnly) (once : IsOnce) where
  never_refused : (whole : List ℕ) (rounds : ℕ) (end : FormEnd) (why : LoadFault) (left taken left' taken' held held' : Option (List ℕ)) (before after : Outside) → plain end ≡ Refused why
      → SpellsConfig whole → SuperComes (Some whole) rounds end left taken left' taken' held held' before after → ⊥
  never_refused whole rounds (Stdio (Refused fault)) why left taken left' taken' held held' before after is spells comes = comes
  never_refused whole rounds (Stdio ClockFault) why left taken left' taken' held held' before after is spells comes = comes
  never_refused whole rounds (Stdio (Served link)) why left taken left' taken' held held' before after is spells comes = cc is
  never_refused whole rounds (Stdio ReadFault) why left taken left' taken' held held' before after is spells comes = cc is
  never_refused whole rounds (Stdio Memory) why left taken left' taken' held held' before after is spells comes = cc is
  never_refused whole rounds (NoDocument refusal) why left taken left' taken' held held' before after is spells comes =
      let same = once whole true _ _ (only whole spells.0 spells.1 spells.2) comes.1 in
      cc same
  never_refused whole rounds (Schedule offence) why left taken left' taken' held held' before after is spells comes = comes
  never_refused whole rounds (Config offence) why left taken left' taken' held held' before after is spells comes =
      let none = comes.1 in
      let root : none.root ≡ spells.1 = one_root only once whole none.ns spells.0 none.root spells.1 none.spelled spells.2 in
      let no_offence : offences none.root ≡ [] = ap offences root ∙ spells.3 in
      no_first offence none.root no_offence none.first

  super_opens : (config : Option (List ℕ)) (rounds : ℕ) (end : FormEnd) (exit : Exit) (left taken left' taken' held held' : Option (List ℕ)) (before after : Outside) → exit ≡ exit_of (plain end)
      → SuperComes config rounds end left taken left' taken' held held' before after → IfSome config (λ whole. SpellsConfig whole → exit ≢ exits.Refused)
  super_opens None rounds end exit left taken left' taken' held held' before after is comes = tt
  super_opens (Some whole) rounds end exit left taken left' taken' held held' before after is comes = λ spells refused.
      let r = exit_refused (plain end) (sym is ∙ refused) in
      never_refused whole rounds end r.0 left taken left' taken' held held' before after r.1 spells comes

  -- the supervision came to this end, which is the exit
  pub super_ran : (config : Option (List ℕ)) (rounds files files' : ℕ) (s s' : Streams) (d d' : Dialled) (refused : Option RefusedFile) (e e' : ErrorsTold) (end : FormEnd) (exit : Exit) → exit ≡ exit_of (plain end)
      → SuperComes config rounds end s.left None s'.left None s.held s'.held (reached d) (reached d')
      → HasCause (plain end) files files' s.reads s'.reads s.writes s'.writes 0 0
      → ((link : LinkEnd) → plain end ≡ Served link → ServesWhole s.left s.reads s'.reads s.writes s'.writes 0 0 link)
      → Tells e e' exit (form_words refused end)
      → SuperRan config rounds files files' s s' d d' refused e e' exit
  super_ran config rounds files files' s s' d d' refused e e' end exit is comes cause whole says = record {
    end = end;
    exit_is = is;
    comes = comes;
    read = read_rose (plain end) exit files files' s.reads s'.reads s.writes s'.writes 0 0 is cause;
    write = write_rose (plain end) exit files files' s.reads s'.reads s.writes s'.writes 0 0 is cause;
    timeless = λ ended. never_rose (clock_rose (plain end) exit files files' s.reads s'.reads s.writes s'.writes 0 0 is cause ended);
    complete = timeless s.left files files' s.reads s'.reads s.writes s'.writes exit
        (complete_told (plain end) exit files files' s.reads s'.reads s.writes s'.writes 0 0 s.left is cause whole);
    says = says;
    opens = super_opens config rounds end exit s.left None s'.left None s.held s'.held (reached d) (reached d') is comes;
  }
