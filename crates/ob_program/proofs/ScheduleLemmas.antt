-- What the service of a file's site with schedules comes to, and what that says of the exit.
use Rattle.std.proofs.Common.{◌≡◌, ◌≢◌, ◌⊎◌, ◌≤◌, ◌∙◌, ℕ, true, List, [], length, Option, Some, None, Result, Ok, Err, refl, sym, ap, subst, arith, inl, inr}
use Rattle.std.specs.Prelude.{IfSome, IsSome, IfOk, IfErr, find, ◌==◌, min}
use Rattle.ob_documents.specs.Spelling.{Spells}
use Rattle.ob_io.specs.Faults.{Rose}
use Rattle.ob_io.specs.Links.{inlet}
use Rattle.ob_io.specs.Ticks.{last_moment}
use Rattle.ob_load.specs.Loads.{IsSite, OpenedIsNotRefused, RefusesBytes, IsOutside}
use Rattle.ob_object.specs.Object.{Object}
use Rattle.ob_site_rules.specs.Opening.{opening}
use Rattle.ob_opening_laws.specs.Moments.{at_moment}
use Rattle.ob_opening_laws.proofs.Moments.{opens_at_each}
use Rattle.ob_schedule.specs.Forms.{offences, IsFile, IsFirstOffence}
use Rattle.ob_schedule.specs.PointRules.{PointRules}
use Rattle.ob_schedule.specs.declared.rule.ScheduleRule.{ScheduleRule}
use Rattle.ob_parts.specs.declared.offence.Offence.{Offence}
use Rattle.ob_schedule.specs.Weeks.{Says}
use Rattle.ob_schedule_rules.specs.Rules.{rules_of}
use Rattle.ob_scheduling.specs.Scheduled.{ServesScheduled}
use Rattle.ob_site_laws.proofs.Seen.{keeps_watches}
use Rattle.ob_server.specs.Complete.{ServesWhole}
use Rattle.ob_server.specs.declared.end.LinkEnd.{LinkEnd}
use Rattle.ob_site_file.specs.declared.fault.LoadFault.{LoadFault}
use Rattle.ob_site_laws.specs.SiteLaws.{acts, IsSoundSite}
use Rattle.ob_site_rules.specs.Sites.{SiteState}
use Rattle.ob_weekly.specs.declared.schedule.Schedules.{Schedules}
use Rattle.ob_io.specs.declared.cause.RefusedFile.{RefusedFile}
use Rattle.ob_program.specs.Outside.{Streams, ClockTold}
use Rattle.ob_program.specs.Reading.{Reads, ReadsFile}
use Rattle.ob_program.specs.Form.{plain, end_of_document}
use Rattle.ob_program.specs.Schedule.{IsScheduled, IsFormless, Offends, SaysNone, ServesSchedules, IsUnscheduled, ScheduleComesAt, ScheduleComes, OpensScheduled, ScheduledRan}
use Rattle.ob_program.specs.Stdio.{exit_of, end_of_fault, site_bytes, Comes, IsIdle, IsRefusedAs, HasCause}
use Rattle.ob_program.specs.Telling.{ErrorsTold, Tells}
use Rattle.ob_program.specs.Words.{form_words}
use Rattle.ob_program.specs.declared.document.DocumentFault.{DocumentFault}
use Rattle.ob_program.specs.declared.document.DocumentFault.TheVariants as documents
use Rattle.ob_program.specs.declared.exit.Exit.{Exit}
use Rattle.ob_program.specs.declared.exit.Exit.TheVariants as exits
use Rattle.ob_program.specs.declared.form.FormEnd.{FormEnd}
use Rattle.ob_program.specs.declared.form.FormEnd.TheVariants.{Stdio, NoDocument, Config, Schedule}
use Rattle.ob_program.specs.declared.stdio.StdioEnd.{StdioEnd}
use Rattle.ob_program.specs.declared.stdio.StdioEnd.TheVariants.{Served, Refused, ReadFault, ClockFault, Memory}
use Rattle.ob_command.specs.declared.server.Output.TheVariants.{Answers}
use Rattle.ob_program.proofs.FileLemmas.{IsOnce}
use Rattle.ob_program.proofs.FormLemmas.{IsOnly, one_root}
use Rattle.ob_program.proofs.PointLemmas.{rules_same}
use Rattle.ob_program.proofs.StdioLemmas.{rose_later, unserved_cause, comes_refused, refused_serves_none, read_rose, write_rose, clock_rose, complete_told, exit_refused, few_moments, told_empty}

-- ---- the file of the schedules

pub unread_says_none : (file : Option (List ℕ)) (site : SiteState) (why : DocumentFault) → ReadsFile file (Err why) → SaysNone file site (end_of_document why)
unread_says_none file site (documents.Refused refusal) reads = reads.told
unread_says_none file site documents.Failed reads = tt
unread_says_none file site documents.Memory reads = tt

pub formless_says_none : (file : Option (List ℕ)) (site : SiteState) (ns : Option (List ℕ)) (root : Object) (end : FormEnd) → IfSome file (λ whole. Spells whole ns root)
    → IsFormless (rules_of site) root end → SaysNone file site end
formless_says_none file site ns root (Stdio Memory) spelled formless = tt
formless_says_none file site ns root (Stdio (Served link)) spelled formless = absurd formless
formless_says_none file site ns root (Stdio (Refused fault)) spelled formless = absurd formless
formless_says_none file site ns root (Stdio ReadFault) spelled formless = absurd formless
formless_says_none file site ns root (Stdio ClockFault) spelled formless = absurd formless
formless_says_none file site ns root (NoDocument refusal) spelled formless = absurd formless
formless_says_none file site ns root (Config offence) spelled formless = absurd formless
formless_says_none file site ns root (Schedule offence) spelled formless = record { ns = ns; root = root; spelled = spelled; first = formless }

pub formless_unread : (rules : PointRules) (root : Object) (end : FormEnd) → IsFormless rules root end → end ≡ Stdio ReadFault → ⊥
formless_unread rules root (Stdio Memory) formless is = cc is
formless_unread rules root (Stdio (Served link)) formless is = formless
formless_unread rules root (Stdio (Refused fault)) formless is = formless
formless_unread rules root (Stdio ReadFault) formless is = formless
formless_unread rules root (Stdio ClockFault) formless is = formless
formless_unread rules root (NoDocument refusal) formless is = formless
formless_unread rules root (Config offence) formless is = formless
formless_unread rules root (Schedule offence) formless is = cc is

-- what a document says or doesn't, of a file that spells it
module _ (file : Option (List ℕ)) (site : SiteState) (ns : Option (List ℕ)) (root : Object) (spelled : IfSome file (λ whole. Spells whole ns root)) where
  pub scheduled_if_ok : (r : Result Schedules FormEnd) → IfOk r (λ schedules. IsFile (rules_of site) root × Says root schedules) → IfOk r (IsScheduled file site)
  scheduled_if_ok (Ok schedules) said = record { ns = ns; root = root; spelled = spelled; form = said.0; says = said.1 }
  scheduled_if_ok (Err end) said = tt

  pub none_if_err : (r : Result Schedules FormEnd) → IfErr r (IsFormless (rules_of site) root) → IfErr r (SaysNone file site)
  none_if_err (Ok schedules) formless = tt
  none_if_err (Err end) formless = formless_says_none file site ns root end spelled formless

pub rose_if_err : (rules : PointRules) (root : Object) (A : Type 0) (r : Result Schedules FormEnd) → IfErr r (IsFormless rules root) → IfErr r (λ end. end ≡ Stdio ReadFault → A)
rose_if_err rules root A (Ok schedules) formless = tt
rose_if_err rules root A (Err end) formless = λ is. absurd (formless_unread rules root end formless is)

-- ---- the service

pub serves_schedules : (site file : Option (List ℕ)) (boot : ℕ) (ns : Option (List ℕ)) (opening : SiteState) (schedules : Schedules) (left taken left' taken' held held' given given' : Option (List ℕ)) (end : LinkEnd)
    → IfSome site (λ whole. IsSite (site_bytes whole) boot ns opening) → IsSoundSite opening → IsScheduled file opening schedules
    → ServesScheduled acts opening schedules boot ns (inlet left taken) (inlet left' taken') held held' given given' end
    → ServesSchedules site file boot left taken left' taken' held held' given given' end
serves_schedules site file boot ns opening schedules left taken left' taken' held held' given given' end opened sound scheduled service = record {
  ns = ns;
  opening = opening;
  opened = opened;
  sound = sound;
  schedules = schedules;
  scheduled = scheduled;
  service = service;
  watches = keeps_watches opening sound service.calls service.legal;
}

idle : (left held given : Option (List ℕ)) → IsIdle left left held held given given
idle left held given = record { left_is = refl; held_is = refl; given_is = refl }

-- the file of the site is refused, or can't be read
pub comes_unopened : (fault : LoadFault) (site file : Option (List ℕ)) (boot : ℕ) (left taken held given : Option (List ℕ)) → IfSome site (λ whole. IsOutside fault ⊎ RefusesBytes (site_bytes whole) boot fault)
    → ScheduleComesAt site file boot (Stdio (end_of_fault fault)) left taken left taken held held given given
comes_unopened fault site file boot left taken held given h =
    by_end (end_of_fault fault) (refused_serves_none fault) (comes_refused Answers fault site boot left taken held given h)
  where
    by_end : (e : StdioEnd) → ((link : LinkEnd) → e ≡ Served link → ⊥) → Comes Answers site boot e left taken left taken held held given given
        → ScheduleComesAt site file boot (Stdio e) left taken left taken held held given given
    by_end (Served link) none c = absurd (none link refl)
    by_end (Refused fault) none c = c
    by_end ReadFault none c = c
    by_end ClockFault none c = c
    by_end Memory none c = c

-- the file of the schedules says none
pub comes_unscheduled : (site file : Option (List ℕ)) (boot : ℕ) (ns : Option (List ℕ)) (opening : SiteState) (end : FormEnd) (left taken held given : Option (List ℕ))
    → IfSome site (λ whole. IsSite (site_bytes whole) boot ns opening) → SaysNone file opening end → ScheduleComesAt site file boot end left taken left taken held held given given
comes_unscheduled site file boot ns opening (Stdio ReadFault) left taken held given opened none = idle left held given
comes_unscheduled site file boot ns opening (Stdio Memory) left taken held given opened none = idle left held given
comes_unscheduled site file boot ns opening (Stdio (Served link)) left taken held given opened none = absurd none
comes_unscheduled site file boot ns opening (Stdio (Refused fault)) left taken held given opened none = absurd none
comes_unscheduled site file boot ns opening (Stdio ClockFault) left taken held given opened none = absurd none
comes_unscheduled site file boot ns opening (NoDocument refusal) left taken held given opened none = (idle left held given, record { ns = ns; opening = opening; opened = opened; none = none })
comes_unscheduled site file boot ns opening (Config offence) left taken held given opened none = absurd none
comes_unscheduled site file boot ns opening (Schedule offence) left taken held given opened none = (idle left held given, record { ns = ns; opening = opening; opened = opened; none = none })

pub unscheduled_serves_none : (file : Option (List ℕ)) (opening : SiteState) (end : FormEnd) (link : LinkEnd) → SaysNone file opening end → plain end ≡ Served link → ⊥
unscheduled_serves_none file opening (Stdio ReadFault) link none is = cc is
unscheduled_serves_none file opening (Stdio Memory) link none is = cc is
unscheduled_serves_none file opening (Stdio (Served other)) link none is = none
unscheduled_serves_none file opening (Stdio (Refused fault)) link none is = none
unscheduled_serves_none file opening (Stdio ClockFault) link none is = none
unscheduled_serves_none file opening (NoDocument refusal) link none is = cc is
unscheduled_serves_none file opening (Config offence) link none is = none
unscheduled_serves_none file opening (Schedule offence) link none is = cc is

-- only the count of the files may have risen
pub unscheduled_cause : (file : Option (List ℕ)) (opening : SiteState) (end : FormEnd) (files mid files' reads writes clocks : ℕ) → files ≤ mid → mid ≤ files' → (end ≡ Stdio ReadFault → Rose mid files')
    → SaysNone file opening end → HasCause (plain end) files files' reads reads writes writes clocks clocks
unscheduled_cause file opening end files mid files' reads writes clocks first then rose none = by_end end rose none
  where
    by_end : (e : FormEnd) → (e ≡ Stdio ReadFault → Rose mid files') → SaysNone file opening e → HasCause (plain e) files files' reads reads writes writes clocks clocks
    by_end (Stdio ReadFault) r n = unserved_cause ReadFault files files' reads writes clocks (omega (arith, first, then)) (λ link is. absurd (cc is)) (λ is. cc is) (λ is. rose_later files mid files' first (r refl))
    by_end (Stdio Memory) r n = unserved_cause Memory files files' reads writes clocks (omega (arith, first, then)) (λ link is. absurd (cc is)) (λ is. cc is) (λ is. absurd (cc is))
    by_end (Stdio (Served link)) r n = absurd n
    by_end (Stdio (Refused fault)) r n = absurd n
    by_end (Stdio ClockFault) r n = absurd n
    by_end (NoDocument refusal) r n = unserved_cause _ files files' reads writes clocks (omega (arith, first, then)) (λ link is. absurd (cc is)) (λ is. cc is) (λ is. absurd (cc is))
    by_end (Config offence) r n = absurd n
    by_end (Schedule offence) r n = unserved_cause _ files files' reads writes clocks (omega (arith, first, then)) (λ link is. absurd (cc is)) (λ is. cc is) (λ is. absurd (cc is))

-- ---- moments

-- a service at another spelling of its boot's moment
pub schedule_at : (site file : Option (List ℕ)) (boot boot' : ℕ) (end : FormEnd) (left taken left' taken' held held' given given' : Option (List ℕ)) → boot ≡ boot'
    → ScheduleComesAt site file boot end left taken left' taken' held held' given given' → ScheduleComesAt site file boot' end left taken left' taken' held held' given given'
schedule_at site file boot boot' end left taken left' taken' held held' given given' is comes =
    subst (λ (b : ℕ). ScheduleComesAt site file b end left taken left' taken' held held' given given') is comes

-- a clock that has given no moment yet still tells its moments when a service is over
pub schedule_moments : (site file : Option (List ℕ)) (boot : ℕ) (end : FormEnd) (left taken left' taken' held held' given : Option (List ℕ))
    → ScheduleComesAt site file boot end left taken left' taken' held held' (Some []) given → IsSome given
schedule_moments site file boot (Stdio (Served end)) left taken left' taken' held held' given h = h.service.serves.went.lasts (few_moments (length h.service.serves.moments) h.service.serves.few)
schedule_moments site file boot (Stdio (Refused fault)) left taken left' taken' held held' given h = told_empty given h.0.given_is
schedule_moments site file boot (Stdio ReadFault) left taken left' taken' held held' given h = told_empty given h.given_is
schedule_moments site file boot (Stdio ClockFault) left taken left' taken' held held' given h = told_empty given h.given_is
schedule_moments site file boot (Stdio Memory) left taken left' taken' held held' given h = told_empty given h.given_is
schedule_moments site file boot (NoDocument refusal) left taken left' taken' held held' given h = told_empty given h.0.given_is
schedule_moments site file boot (Config offence) left taken left' taken' held held' given h = absurd h
schedule_moments site file boot (Schedule offence) left taken left' taken' held held' given h = told_empty given h.0.given_is

-- ---- files that are not refused

-- a file without offences has no first one
no_first : (offence : Offence ScheduleRule) (rules : PointRules) (root : Object) → offences rules root ≡ [] → IsFirstOffence rules root offence → ⊥
no_first offence rules root none first =
    let found : None ≡ Some offence = subst (λ (l : List (Offence ScheduleRule)). find (λ o. o.part == offence.part) l ≡ Some offence) none first.told in
    cc found

module _ (only : IsOnly) (once : IsOnce) where
  -- two moments of one site have the same points
  one_site : (bytes : List ℕ) (boot boot' : ℕ) (ns ns' : Option (List ℕ)) (st st' : SiteState) → IsSite bytes boot ns st → IsSite bytes boot' ns' st' → rules_of st' ≡ rules_of st
  one_site bytes boot boot' ns ns' st st' a b =
      let root = one_root only once bytes ns ns' a.0 b.0 a.1.0 b.1.0 in
      let there = opens_at_each a.0 boot st a.1.1 boot' in
      let same = sym b.1.1 ∙ sym (ap (λ (o : Object). opening o boot') root) ∙ there.1 in
      let moved : st' ≡ at_moment boot' there.0 st = cc same in
      ap rules_of moved ∙ rules_same boot' there.0 st

  never_refused : (law : OpenedIsNotRefused) (whole other : List ℕ) (boot : ℕ) (end : FormEnd) (why : LoadFault) (left taken left' taken' held held' given given' : Option (List ℕ)) → plain end ≡ Refused why
      → OpensScheduled whole other → ScheduleComesAt (Some whole) (Some other) boot end left taken left' taken' held held' given given' → ⊥
  never_refused law whole other boot (Stdio (Refused fault)) why left taken left' taken' held held' given given' is opens comes =
      comes.1.1 (law (site_bytes whole) (opens.0, opens.1, opens.2, opens.3) boot fault comes.1.0)
  never_refused law whole other boot (Stdio (Served link)) why left taken left' taken' held held' given given' is opens comes = cc is
  never_refused law whole other boot (Stdio ReadFault) why left taken left' taken' held held' given given' is opens comes = cc is
  never_refused law whole other boot (Stdio ClockFault) why left taken left' taken' held held' given given' is opens comes = cc is
  never_refused law whole other boot (Stdio Memory) why left taken left' taken' held held' given given' is opens comes = cc is
  never_refused law whole other boot (NoDocument refusal) why left taken left' taken' held held' given given' is opens comes =
      let same = once other true _ _ (only other opens.4.0 opens.4.1 opens.4.2) comes.1.none in
      cc same
  never_refused law whole other boot (Config offence) why left taken left' taken' held held' given given' is opens comes = comes
  never_refused law whole other boot (Schedule offence) why left taken left' taken' held held' given given' is opens comes =
      let none = comes.1 in
      let points : rules_of none.opening ≡ rules_of opens.2 = one_site (site_bytes whole) opens.0 boot opens.1 none.ns opens.2 none.opening opens.3 none.opened in
      let root : none.none.root ≡ opens.4.1 = one_root only once other none.none.ns opens.4.0 none.none.root opens.4.1 none.none.spelled opens.4.2 in
      let no_offence : offences (rules_of none.opening) none.none.root ≡ [] = ap (λ (rs : PointRules). offences rs none.none.root) points ∙ ap (λ (r : Object). offences (rules_of opens.2) r) root ∙ opens.4.3 in
      no_first offence (rules_of none.opening) none.none.root no_offence none.none.first

  schedule_opens : (law : OpenedIsNotRefused) (site file : Option (List ℕ)) (at : Option ℕ) (tick : ℕ) (end : FormEnd) (exit : Exit) (left taken left' taken' held held' given given' : Option (List ℕ)) → exit ≡ exit_of (plain end)
      → ScheduleComes site file at tick end left taken left' taken' held held' given given' → IfSome site (λ whole. IfSome file (λ other. OpensScheduled whole other → exit ≢ exits.Refused))
  schedule_opens law None file at tick end exit left taken left' taken' held held' given given' is comes = tt
  schedule_opens law (Some whole) None at tick end exit left taken left' taken' held held' given given' is comes = tt
  schedule_opens law (Some whole) (Some other) at tick end exit left taken left' taken' held held' given given' is comes = λ opens refused.
      let r = exit_refused (plain end) (sym is ∙ refused) in
      by_at at r.0 r.1 opens comes
    where
      by_at : (a : Option ℕ) (why : LoadFault) → plain end ≡ Refused why → OpensScheduled whole other → ScheduleComes (Some whole) (Some other) a tick end left taken left' taken' held held' given given' → ⊥
      by_at None why is opens c = elim c [
        | inl early ↦ let no : ClockFault ≡ Refused why = ap plain (sym early.0) ∙ is in cc no
        | inr (boot, booted, gave, then) ↦ never_refused law whole other boot end why left taken left' taken' held held' booted given' is opens then
      ]
      by_at (Some start) why is opens c = never_refused law whole other (min start last_moment) end why left taken left' taken' held held' (Some []) c.1.0 is opens c.1.1

  -- the service came to this end, which is the exit
  pub schedule_ran : (law : OpenedIsNotRefused) (site file : Option (List ℕ)) (at : Option ℕ) (tick files files' : ℕ) (s s' : Streams) (t t' : ClockTold) (refused : Option RefusedFile) (e e' : ErrorsTold) (end : FormEnd) (exit : Exit) → exit ≡ exit_of (plain end)
      → ScheduleComes site file at tick end s.left None s'.left None s.held s'.held t.given t'.given
      → HasCause (plain end) files files' s.reads s'.reads s.writes s'.writes t.faults t'.faults
      → ((link : LinkEnd) → plain end ≡ Served link → ServesWhole s.left s.reads s'.reads s.writes s'.writes t.faults t'.faults link)
      → Tells e e' exit (form_words refused end)
      → ScheduledRan site file at tick files files' s s' t t' refused e e' exit
  schedule_ran law site file at tick files files' s s' t t' refused e e' end exit is comes cause whole says = record {
    end = end;
    exit_is = is;
    comes = comes;
    read = read_rose (plain end) exit files files' s.reads s'.reads s.writes s'.writes t.faults t'.faults is cause;
    write = write_rose (plain end) exit files files' s.reads s'.reads s.writes s'.writes t.faults t'.faults is cause;
    clock = clock_rose (plain end) exit files files' s.reads s'.reads s.writes s'.writes t.faults t'.faults is cause;
    complete = complete_told (plain end) exit files files' s.reads s'.reads s.writes s'.writes t.faults t'.faults s.left is cause whole;
    says = says;
    opens = schedule_opens law site file at tick end exit s.left None s'.left None s.held s'.held t.given t'.given is comes;
  }
