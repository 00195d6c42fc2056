-- What the service of a file's site comes to, and what that says of the exit.
use Rattle.std.proofs.Common.{◌≡◌, ◌≢◌, ℕ, ◌≤◌, ◌<◌, ◌^◌, ◌⊎◌, inl, inr, refl, sym, ap, subst, ◌∙◌, arith, List, length, Option, Some, None, ◌+◌, ◌-◌, []}
use Rattle.std.specs.Prelude.{IfSome, IsSome, min}
use Rattle.ob_io.specs.Faults.{Rose}
use Rattle.ob_io.specs.Links.{inlet}
use Rattle.ob_io.specs.Ticks.{last_moment}
use Rattle.ob_command.specs.declared.server.Output.{Output}
use Rattle.ob_command.specs.declared.server.Output.TheVariants.{Answers, Record}
use Rattle.ob_record.specs.Recording.{RecordsRun}
use Rattle.ob_server.specs.Alone.{ServesAlone}
use Rattle.ob_server.specs.Answered.{EndRose, HasEndCause}
use Rattle.ob_server.specs.Complete.{ServesWhole, IsWellFramed}
use Rattle.ob_server.specs.declared.end.LinkEnd.{LinkEnd}
use Rattle.ob_server.specs.declared.end.LinkEnd.TheVariants as ends
use Rattle.ob_site_rules.specs.Sites.{SiteState}
use Rattle.ob_site_laws.specs.SiteLaws.{acts, IsSoundSite}
use Rattle.ob_site_laws.specs.Seen.{KeepsWatches}
use Rattle.ob_site_laws.proofs.Seen.{keeps_watches}
use Rattle.ob_io.specs.declared.cause.RefusedFile.{RefusedFile}
use Rattle.ob_program.specs.declared.exit.Exit.{Exit}
use Rattle.ob_program.specs.declared.exit.Exit.TheVariants as exits
use Rattle.ob_program.specs.declared.stdio.StdioEnd.{StdioEnd}
use Rattle.ob_program.specs.declared.stdio.StdioEnd.TheVariants.{Served, Refused, ReadFault, ClockFault, Memory}
use Rattle.ob_load.specs.Loads.{IsSite, OpenedIsNotRefused, OpensSite, RefusesBytes, IsOutside}
use Rattle.ob_site_file.specs.declared.fault.LoadFault.{LoadFault}
use Rattle.ob_site_file.specs.declared.fault.LoadFault.TheVariants as faults
use Rattle.ob_program.specs.Stdio.{exit_of, end_of_fault, site_bytes, ServesSite, RecordsSite, HasCause, IsIdle, IsRefusedAs, Comes, StdioComes, StdioRan, IsUnserved}
use Rattle.ob_program.specs.Telling.{ErrorsTold, Tells}
use Rattle.ob_program.specs.Words.{stdio_words}
use Rattle.ob_program.specs.Outside.{Streams, ClockTold}

-- a sound site was served
pub serves_site : (file : Option (List ℕ)) (boot : ℕ) (ns : Option (List ℕ)) (opening : SiteState) (left taken left' taken' held held' given given' : Option (List ℕ)) (end : LinkEnd) → IfSome file (λ whole. IsSite (site_bytes whole) boot ns opening) → IsSoundSite opening
    → ((alone : ServesAlone acts opening ns (inlet left taken) (inlet left' taken') held held' given given' end) × KeepsWatches opening alone.calls) → ServesSite file boot left taken left' taken' held held' given given' end
serves_site file boot ns opening left taken left' taken' held held' given given' end opened sound (alone, watches) =
    record { ns = ns; opening = opening; opened = opened; sound = sound; alone = alone; watches = watches }

-- the requests of a link were recorded from a sound site
pub records_site : (file : Option (List ℕ)) (boot : ℕ) (ns : Option (List ℕ)) (opening last : SiteState) (left taken left' taken' held held' given given' : Option (List ℕ)) (end : LinkEnd) → IfSome file (λ whole. IsSite (site_bytes whole) boot ns opening)
    → IsSoundSite opening → RecordsRun acts opening last boot (inlet left taken) (inlet left' taken') held held' given given' end → RecordsSite file boot left taken left' taken' held held' given given' end
records_site file boot ns opening last left taken left' taken' held held' given given' end opened sound run =
    record { ns = ns; opening = opening; opened = opened; sound = sound; last = last; run = run; watches = keeps_watches opening sound run.calls run.legal }

-- ---- counts

pub rose_later : (a b c : ℕ) → a ≤ b → Rose b c → Rose a c
rose_later a b c le rose = omega arith

pub never_rose : ¬ (Rose 0 0)
never_rose rose = omega arith

pub same_link : (e f : LinkEnd) → Served e ≡ Served f → e ≡ f
same_link e f h = cc

-- the cause of a link's end is that of the service
pub served_cause : (end : LinkEnd) (files files' reads reads' writes writes' clocks clocks' : ℕ) → files ≤ files' → HasEndCause reads reads' writes writes' clocks clocks' end
    → HasCause (Served end) files files' reads reads' writes writes' clocks clocks'
served_cause end files files' reads reads' writes writes' clocks clocks' later cause = record {
  files_later = later;
  reads_later = cause.reads_later;
  writes_later = cause.writes_later;
  clocks_later = cause.clocks_later;
  file = λ is. absurd (cc is);
  read = λ is. rose_of end ends.ReadFault cause.rose (same_link end ends.ReadFault is);
  write = λ is. rose_of end ends.WriteFault cause.rose (same_link end ends.WriteFault is);
  boot = λ is. absurd (cc is);
  clock = λ is. rose_of end ends.ClockFault cause.rose (same_link end ends.ClockFault is);
}
  where
    rose_of : (e f : LinkEnd) → EndRose e reads reads' writes writes' clocks clocks' → e ≡ f → EndRose f reads reads' writes writes' clocks clocks'
    rose_of e f rose is = subst (λ (x : LinkEnd). EndRose x reads reads' writes writes' clocks clocks') is rose

-- nothing was served, and only the file's count may have risen
pub unserved_cause : (end : StdioEnd) (files files' reads writes clocks : ℕ) → files ≤ files' → ((link : LinkEnd) → end ≢ Served link) → end ≢ ClockFault → (end ≡ ReadFault → Rose files files')
    → HasCause end files files' reads reads writes writes clocks clocks
unserved_cause end files files' reads writes clocks later unserved booted file = record {
  files_later = later;
  reads_later = omega arith;
  writes_later = omega arith;
  clocks_later = omega arith;
  file = file;
  read = λ is. absurd (unserved ends.ReadFault is);
  write = λ is. absurd (unserved ends.WriteFault is);
  boot = λ is. absurd (booted is);
  clock = λ is. absurd (unserved ends.ClockFault is);
}

-- ---- a file that opens no site

told_refused : (fault : LoadFault) (file : Option (List ℕ)) (boot : ℕ) → (IsOutside fault → ⊥) → IfSome file (λ whole. IsOutside fault ⊎ RefusesBytes (site_bytes whole) boot fault) → IsRefusedAs file boot fault
told_refused fault None boot inside h = (tt, inside)
told_refused fault (Some whole) boot inside h = (elim h [ inl outside ↦ absurd (inside outside) | inr why ↦ why ], inside)

-- nothing was served, and the bytes are refused
pub comes_refused : (output : Output) (fault : LoadFault) (file : Option (List ℕ)) (boot : ℕ) (left taken held given : Option (List ℕ)) → IfSome file (λ whole. IsOutside fault ⊎ RefusesBytes (site_bytes whole) boot fault)
    → Comes output file boot (end_of_fault fault) left taken left taken held held given given
comes_refused output fault file boot left taken held given h = by_fault fault h
  where
    idle : IsIdle left left held held given given
    idle = record { left_is = refl; held_is = refl; given_is = refl }

    by_fault : (f : LoadFault) → IfSome file (λ whole. IsOutside f ⊎ RefusesBytes (site_bytes whole) boot f) → Comes output file boot (end_of_fault f) left taken left taken held held given given
    by_fault faults.Read k = idle
    by_fault faults.Memory k = idle
    by_fault (faults.Document refused) k = (idle, told_refused (faults.Document refused) file boot (λ no. no) k)
    by_fault faults.RootHref k = (idle, told_refused faults.RootHref file boot (λ no. no) k)
    by_fault (faults.Href part) k = (idle, told_refused (faults.Href part) file boot (λ no. no) k)
    by_fault (faults.Contract fault) k = (idle, told_refused (faults.Contract fault) file boot (λ no. no) k)
    by_fault (faults.PathTwice path) k = (idle, told_refused (faults.PathTwice path) file boot (λ no. no) k)
    by_fault (faults.Rule offence) k = (idle, told_refused (faults.Rule offence) file boot (λ no. no) k)
    by_fault faults.Size k = (idle, told_refused faults.Size file boot (λ no. no) k)

-- an end of what is asked of a site, by what is written of it
pub comes_answers : (output : Output) (file : Option (List ℕ)) (boot : ℕ) (end : LinkEnd) (left taken left' taken' held held' given given' : Option (List ℕ)) → output ≡ Answers
    → ServesSite file boot left taken left' taken' held held' given given' end → Comes output file boot (Served end) left taken left' taken' held held' given given'
comes_answers output file boot end left taken left' taken' held held' given given' is serves =
    subst (λ (o : Output). Comes o file boot (Served end) left taken left' taken' held held' given given') (sym is) serves

pub comes_record : (output : Output) (file : Option (List ℕ)) (boot : ℕ) (end : LinkEnd) (left taken left' taken' held held' given given' : Option (List ℕ)) → output ≡ Record
    → RecordsSite file boot left taken left' taken' held held' given given' end → Comes output file boot (Served end) left taken left' taken' held held' given given'
comes_record output file boot end left taken left' taken' held held' given given' is records =
    subst (λ (o : Output). Comes o file boot (Served end) left taken left' taken' held held' given given') (sym is) records

-- a service at another spelling of its boot's moment
pub comes_at : (output : Output) (file : Option (List ℕ)) (boot boot' : ℕ) (end : StdioEnd) (left taken left' taken' held held' given given' : Option (List ℕ)) → boot ≡ boot'
    → Comes output file boot end left taken left' taken' held held' given given' → Comes output file boot' end left taken left' taken' held held' given given'
comes_at output file boot boot' end left taken left' taken' held held' given given' is comes =
    subst (λ (b : ℕ). Comes output file b end left taken left' taken' held held' given given') is comes

-- the cause of a refusal
pub refused_cause : (fault : LoadFault) (files files' reads writes clocks : ℕ) → files ≤ files' → (fault ≡ faults.Read → Rose files files') → HasCause (end_of_fault fault) files files' reads reads writes writes clocks clocks
refused_cause fault files files' reads writes clocks later read = by_fault fault read
  where
    by_fault : (f : LoadFault) → (f ≡ faults.Read → Rose files files') → HasCause (end_of_fault f) files files' reads reads writes writes clocks clocks
    by_fault faults.Read k = unserved_cause ReadFault files files' reads writes clocks later (λ link is. absurd (cc is)) (λ is. cc is) (λ is. k refl)
    by_fault faults.Memory k = unserved_cause Memory files files' reads writes clocks later (λ link is. absurd (cc is)) (λ is. cc is) (λ is. absurd (cc is))
    by_fault (faults.Document refused) k = unserved_cause _ files files' reads writes clocks later (λ link is. absurd (cc is)) (λ is. cc is) (λ is. absurd (cc is))
    by_fault faults.RootHref k = unserved_cause _ files files' reads writes clocks later (λ link is. absurd (cc is)) (λ is. cc is) (λ is. absurd (cc is))
    by_fault (faults.Href part) k = unserved_cause _ files files' reads writes clocks later (λ link is. absurd (cc is)) (λ is. cc is) (λ is. absurd (cc is))
    by_fault (faults.Contract fault) k = unserved_cause _ files files' reads writes clocks later (λ link is. absurd (cc is)) (λ is. cc is) (λ is. absurd (cc is))
    by_fault (faults.PathTwice path) k = unserved_cause _ files files' reads writes clocks later (λ link is. absurd (cc is)) (λ is. cc is) (λ is. absurd (cc is))
    by_fault (faults.Rule offence) k = unserved_cause _ files files' reads writes clocks later (λ link is. absurd (cc is)) (λ is. cc is) (λ is. absurd (cc is))
    by_fault faults.Size k = unserved_cause _ files files' reads writes clocks later (λ link is. absurd (cc is)) (λ is. cc is) (λ is. absurd (cc is))

pub refused_serves_none : (fault : LoadFault) (link : LinkEnd) → end_of_fault fault ≡ Served link → ⊥
refused_serves_none faults.Read link is = cc is
refused_serves_none faults.Memory link is = cc is
refused_serves_none (faults.Document refused) link is = cc is
refused_serves_none faults.RootHref link is = cc is
refused_serves_none (faults.Href part) link is = cc is
refused_serves_none (faults.Contract fault) link is = cc is
refused_serves_none (faults.PathTwice path) link is = cc is
refused_serves_none (faults.Rule offence) link is = cc is
refused_serves_none faults.Size link is = cc is

-- ---- counts, over clocks

-- the clock was asked for the boot's moment before
pub cause_since : (end : StdioEnd) (files files' reads reads' writes writes' before clocks clocks' : ℕ) → before ≤ clocks → HasCause end files files' reads reads' writes writes' clocks clocks'
    → HasCause end files files' reads reads' writes writes' before clocks'
cause_since end files files' reads reads' writes writes' before clocks clocks' later c = record {
  files_later = c.files_later;
  reads_later = c.reads_later;
  writes_later = c.writes_later;
  clocks_later = omega (arith, later, c.clocks_later);
  file = c.file;
  read = c.read;
  write = c.write;
  boot = λ is. rose_later before clocks clocks' later (c.boot is);
  clock = λ is. rose_later before clocks clocks' later (c.clock is);
}

-- a clock that never fails was asked in the place of this one
pub cause_apart : (end : StdioEnd) (files files' reads reads' writes writes' clocks : ℕ) → HasCause end files files' reads reads' writes writes' 0 0
    → HasCause end files files' reads reads' writes writes' clocks clocks
cause_apart end files files' reads reads' writes writes' clocks c = record {
  files_later = c.files_later;
  reads_later = c.reads_later;
  writes_later = c.writes_later;
  clocks_later = omega arith;
  file = c.file;
  read = c.read;
  write = c.write;
  boot = λ is. absurd (never_rose (c.boot is));
  clock = λ is. absurd (never_rose (c.clock is));
}

-- ---- completeness

pub whole_at : (left : Option (List ℕ)) (reads reads' writes writes' clocks clocks' : ℕ) (end link : LinkEnd) → Served end ≡ Served link
    → ServesWhole left reads reads' writes writes' clocks clocks' end → ServesWhole left reads reads' writes writes' clocks clocks' link
whole_at left reads reads' writes writes' clocks clocks' end link is whole =
    subst (λ (x : LinkEnd). ServesWhole left reads reads' writes writes' clocks clocks' x) (same_link end link is) whole

pub whole_since : (left : Option (List ℕ)) (reads reads' writes writes' before clocks clocks' : ℕ) (end : LinkEnd) → before ≤ clocks
    → ServesWhole left reads reads' writes writes' clocks clocks' end → ServesWhole left reads reads' writes writes' before clocks' end
whole_since None reads reads' writes writes' before clocks clocks' end later whole = tt
whole_since (Some bytes) reads reads' writes writes' before clocks clocks' end later whole = λ short framed no_read no_write no_clock.
    whole short framed no_read no_write (λ rose. no_clock (rose_later before clocks clocks' later rose))

pub whole_apart : (left : Option (List ℕ)) (reads reads' writes writes' clocks : ℕ) (end : LinkEnd) → ServesWhole left reads reads' writes writes' 0 0 end → ServesWhole left reads reads' writes writes' clocks clocks end
whole_apart None reads reads' writes writes' clocks end whole = tt
whole_apart (Some bytes) reads reads' writes writes' clocks end whole = λ short framed no_read no_write no_clock. whole short framed no_read no_write never_rose

-- ---- exits

exit_read : (end : StdioEnd) → exit_of end ≡ exits.ReadFault → (end ≡ ReadFault) ⊎ (end ≡ Served ends.ReadFault)
exit_read (Served ends.Closed) e = cc
exit_read (Served ends.Asked) e = cc
exit_read (Served ends.Truncated) e = cc
exit_read (Served (ends.BadFrame fault at)) e = cc
exit_read (Served ends.ReadFault) e = inr refl
exit_read (Served ends.WriteFault) e = cc
exit_read (Served ends.ClockFault) e = cc
exit_read (Served ends.Budget) e = cc
exit_read (Served ends.Memory) e = cc
exit_read (Refused fault) e = cc
exit_read ReadFault e = inl refl
exit_read ClockFault e = cc
exit_read Memory e = cc

exit_write : (end : StdioEnd) → exit_of end ≡ exits.WriteFault → end ≡ Served ends.WriteFault
exit_write (Served ends.Closed) e = cc
exit_write (Served ends.Asked) e = cc
exit_write (Served ends.Truncated) e = cc
exit_write (Served (ends.BadFrame fault at)) e = cc
exit_write (Served ends.ReadFault) e = cc
exit_write (Served ends.WriteFault) e = refl
exit_write (Served ends.ClockFault) e = cc
exit_write (Served ends.Budget) e = cc
exit_write (Served ends.Memory) e = cc
exit_write (Refused fault) e = cc
exit_write ReadFault e = cc
exit_write ClockFault e = cc
exit_write Memory e = cc

exit_clock : (end : StdioEnd) → exit_of end ≡ exits.ClockFault → (end ≡ ClockFault) ⊎ (end ≡ Served ends.ClockFault)
exit_clock (Served ends.Closed) e = cc
exit_clock (Served ends.Asked) e = cc
exit_clock (Served ends.Truncated) e = cc
exit_clock (Served (ends.BadFrame fault at)) e = cc
exit_clock (Served ends.ReadFault) e = cc
exit_clock (Served ends.WriteFault) e = cc
exit_clock (Served ends.ClockFault) e = inr refl
exit_clock (Served ends.Budget) e = cc
exit_clock (Served ends.Memory) e = cc
exit_clock (Refused fault) e = cc
exit_clock ReadFault e = cc
exit_clock ClockFault e = inl refl
exit_clock Memory e = cc

pub not_usage : (end : StdioEnd) → exit_of end ≢ exits.Usage
not_usage (Served ends.Closed) e = cc
not_usage (Served ends.Asked) e = cc
not_usage (Served ends.Truncated) e = cc
not_usage (Served (ends.BadFrame fault at)) e = cc
not_usage (Served ends.ReadFault) e = cc
not_usage (Served ends.WriteFault) e = cc
not_usage (Served ends.ClockFault) e = cc
not_usage (Served ends.Budget) e = cc
not_usage (Served ends.Memory) e = cc
not_usage (Refused fault) e = cc
not_usage ReadFault e = cc
not_usage ClockFault e = cc
not_usage Memory e = cc

pub refused_unserved : (end : StdioEnd) → exit_of end ≡ exits.Refused → IsUnserved end
refused_unserved (Served ends.Closed) e = cc
refused_unserved (Served ends.Asked) e = cc
refused_unserved (Served ends.Truncated) e = cc
refused_unserved (Served (ends.BadFrame fault at)) e = cc
refused_unserved (Served ends.ReadFault) e = cc
refused_unserved (Served ends.WriteFault) e = cc
refused_unserved (Served ends.ClockFault) e = cc
refused_unserved (Served ends.Budget) e = cc
refused_unserved (Served ends.Memory) e = cc
refused_unserved (Refused fault) e = tt
refused_unserved ReadFault e = tt
refused_unserved ClockFault e = tt
refused_unserved Memory e = tt

module _ (end : StdioEnd) (exit : Exit) (files files' reads reads' writes writes' clocks clocks' : ℕ) (is : exit ≡ exit_of end)
    (c : HasCause end files files' reads reads' writes writes' clocks clocks') where
  pub read_rose : exit ≡ exits.ReadFault → Rose files files' ⊎ Rose reads reads'
  read_rose e = elim (exit_read end (sym is ∙ e)) [ inl at ↦ inl (c.file at) | inr at ↦ inr (c.read at) ]

  pub write_rose : exit ≡ exits.WriteFault → Rose writes writes'
  write_rose e = c.write (exit_write end (sym is ∙ e))

  pub clock_rose : exit ≡ exits.ClockFault → Rose clocks clocks'
  clock_rose e = elim (exit_clock end (sym is ∙ e)) [ inl at ↦ c.boot at | inr at ↦ c.clock at ]

-- a service of whole requests, in which nothing failed, ends well
ends_well : (end : StdioEnd) (files files' reads reads' writes writes' clocks clocks' : ℕ) (bytes : List ℕ) → HasCause end files files' reads reads' writes writes' clocks clocks'
    → ((link : LinkEnd) → end ≡ Served link → ServesWhole (Some bytes) reads reads' writes writes' clocks clocks' link)
    → length bytes < 2 ^ 40 → IsWellFramed bytes → ¬ (Rose files files') → ¬ (Rose reads reads') → ¬ (Rose writes writes') → ¬ (Rose clocks clocks')
    → (exit_of end ≡ exits.Ok) ⊎ ((exit_of end ≡ exits.Refused) ⊎ (exit_of end ≡ exits.Memory))
ends_well (Served link) files files' reads reads' writes writes' clocks clocks' bytes c whole short framed f r w k =
    elim (whole link refl short framed r w k) [
      | inl closed ↦ inl (ap (λ (x : LinkEnd). exit_of (Served x)) closed)
      | inr rest ↦ elim rest [
        | inl asked ↦ inl (ap (λ (x : LinkEnd). exit_of (Served x)) asked)
        | inr memory ↦ inr (inr (ap (λ (x : LinkEnd). exit_of (Served x)) memory))
      ]
    ]
ends_well (Refused fault) files files' reads reads' writes writes' clocks clocks' bytes c whole short framed f r w k = inr (inl refl)
ends_well ReadFault files files' reads reads' writes writes' clocks clocks' bytes c whole short framed f r w k = absurd (f (c.file refl))
ends_well ClockFault files files' reads reads' writes writes' clocks clocks' bytes c whole short framed f r w k = absurd (k (c.boot refl))
ends_well Memory files files' reads reads' writes writes' clocks clocks' bytes c whole short framed f r w k = inr (inr refl)

pub complete_told : (end : StdioEnd) (exit : Exit) (files files' reads reads' writes writes' clocks clocks' : ℕ) (left : Option (List ℕ)) → exit ≡ exit_of end → HasCause end files files' reads reads' writes writes' clocks clocks'
    → ((link : LinkEnd) → end ≡ Served link → ServesWhole left reads reads' writes writes' clocks clocks' link)
    → IfSome left (λ all. length all < 2 ^ 40 → IsWellFramed all → ¬ (Rose files files') → ¬ (Rose reads reads') → ¬ (Rose writes writes') → ¬ (Rose clocks clocks')
    → (exit ≡ exits.Ok) ⊎ ((exit ≡ exits.Refused) ⊎ (exit ≡ exits.Memory)))
complete_told end exit files files' reads reads' writes writes' clocks clocks' None is c whole = tt
complete_told end exit files files' reads reads' writes writes' clocks clocks' (Some all) is c whole = λ short framed f r w k.
    subst (λ (x : Exit). (x ≡ exits.Ok) ⊎ ((x ≡ exits.Refused) ⊎ (x ≡ exits.Memory))) (sym is) (ends_well end files files' reads reads' writes writes' clocks clocks' all c whole short framed f r w k)

-- a file that opens a site isn't refused
comes_unrefused : (output : Output) (law : OpenedIsNotRefused) (whole : List ℕ) (boot : ℕ) (fault : LoadFault) (left taken left' taken' held held' given given' : Option (List ℕ)) → OpensSite (site_bytes whole)
    → Comes output (Some whole) boot (Refused fault) left taken left' taken' held held' given given' → ⊥
comes_unrefused output law whole boot fault left taken left' taken' held held' given given' opens comes =
    comes.1.1 (law (site_bytes whole) opens boot fault comes.1.0)

stdio_unrefused : (output : Output) (law : OpenedIsNotRefused) (whole : List ℕ) (at : Option ℕ) (tick : ℕ) (fault : LoadFault) (left taken left' taken' held held' given given' : Option (List ℕ)) → OpensSite (site_bytes whole)
    → StdioComes output (Some whole) at tick (Refused fault) left taken left' taken' held held' given given' → ⊥
stdio_unrefused output law whole None tick fault left taken left' taken' held held' given given' opens comes =
    elim comes [
      | inl is ↦ (let no : Refused fault ≡ ClockFault = is.0 in absurd (cc))
      | inr (boot, booted, gave, c) ↦ comes_unrefused output law whole boot fault left taken left' taken' held held' booted given' opens c
    ]
stdio_unrefused output law whole (Some start) tick fault left taken left' taken' held held' given given' opens comes =
    comes_unrefused output law whole (min start last_moment) fault left taken left' taken' held held' (Some []) comes.1.0 opens comes.1.1

pub exit_refused : (end : StdioEnd) → exit_of end ≡ exits.Refused → (fault : LoadFault) × (end ≡ Refused fault)
exit_refused (Served ends.Closed) e = absurd (cc)
exit_refused (Served ends.Asked) e = absurd (cc)
exit_refused (Served ends.Truncated) e = absurd (cc)
exit_refused (Served (ends.BadFrame fault at)) e = absurd (cc)
exit_refused (Served ends.ReadFault) e = absurd (cc)
exit_refused (Served ends.WriteFault) e = absurd (cc)
exit_refused (Served ends.ClockFault) e = absurd (cc)
exit_refused (Served ends.Budget) e = absurd (cc)
exit_refused (Served ends.Memory) e = absurd (cc)
exit_refused (Refused fault) e = (fault, refl)
exit_refused ReadFault e = absurd (cc)
exit_refused ClockFault e = absurd (cc)
exit_refused Memory e = absurd (cc)

opens_unrefused : (output : Output) (law : OpenedIsNotRefused) (file : Option (List ℕ)) (at : Option ℕ) (tick : ℕ) (end : StdioEnd) (exit : Exit) (left taken left' taken' held held' given given' : Option (List ℕ)) → exit ≡ exit_of end
    → StdioComes output file at tick end left taken left' taken' held held' given given' → IfSome file (λ whole. OpensSite (site_bytes whole) → exit ≢ exits.Refused)
opens_unrefused output law None at tick end exit left taken left' taken' held held' given given' is comes = tt
opens_unrefused output law (Some whole) at tick end exit left taken left' taken' held held' given given' is comes = λ opens refused.
    let r = exit_refused end (sym is ∙ refused) in
    stdio_unrefused output law whole at tick r.0 left taken left' taken' held held' given given' opens
    (subst (λ (e : StdioEnd). StdioComes output (Some whole) at tick e left taken left' taken' held held' given given') r.1 comes)

-- the service came to this end, which is the exit
pub stdio_ran : (output : Output) (file : Option (List ℕ)) (at : Option ℕ) (tick files files' : ℕ) (s s' : Streams) (t t' : ClockTold) (refused : Option RefusedFile) (e e' : ErrorsTold) (end : StdioEnd) (exit : Exit) → exit ≡ exit_of end
    → OpenedIsNotRefused → StdioComes output file at tick end s.left None s'.left None s.held s'.held t.given t'.given
    → HasCause end files files' s.reads s'.reads s.writes s'.writes t.faults t'.faults
    → ((link : LinkEnd) → end ≡ Served link → ServesWhole s.left s.reads s'.reads s.writes s'.writes t.faults t'.faults link)
    → Tells e e' exit (stdio_words refused end)
    → StdioRan output file at tick files files' s s' t t' refused e e' exit
stdio_ran output file at tick files files' s s' t t' refused e e' end exit is law comes cause whole says = record {
  end = end;
  exit_is = is;
  comes = comes;
  read = read_rose end exit files files' s.reads s'.reads s.writes s'.writes t.faults t'.faults is cause;
  write = write_rose end exit files files' s.reads s'.reads s.writes s'.writes t.faults t'.faults is cause;
  clock = clock_rose end exit files files' s.reads s'.reads s.writes s'.writes t.faults t'.faults is cause;
  complete = complete_told end exit files files' s.reads s'.reads s.writes s'.writes t.faults t'.faults s.left is cause whole;
  says = says;
  opens = opens_unrefused output law file at tick end exit s.left None s'.left None s.held s'.held t.given t'.given is comes;
}

-- ---- moments

pub few_moments : (n : ℕ) → n ≤ 2 ^ 40 → 0 + (n + 1) < 2 ^ 64 - 1
few_moments n h = omega arith

pub told_empty : (given : Option (List ℕ)) → given ≡ Some [] → IsSome given
told_empty given is = subst (λ (g : Option (List ℕ)). IsSome g) (sym is) refl

-- a clock that has given no moment yet still tells its moments when a service is over
pub moments_told : (output : Output) (file : Option (List ℕ)) (boot : ℕ) (end : StdioEnd) (left taken left' taken' held held' given : Option (List ℕ))
    → Comes output file boot end left taken left' taken' held held' (Some []) given → IsSome given
moments_told Answers file boot (Served end) left taken left' taken' held held' given h = h.alone.serves.went.lasts (few_moments (length h.alone.serves.moments) h.alone.serves.few)
moments_told Record file boot (Served end) left taken left' taken' held held' given h = h.run.serves.went.lasts (few_moments (length h.run.serves.moments) h.run.serves.few)
moments_told output file boot (Refused fault) left taken left' taken' held held' given h = told_empty given h.0.given_is
moments_told output file boot ReadFault left taken left' taken' held held' given h = told_empty given h.given_is
moments_told output file boot ClockFault left taken left' taken' held held' given h = told_empty given h.given_is
moments_told output file boot Memory left taken left' taken' held held' given h = told_empty given h.given_is
