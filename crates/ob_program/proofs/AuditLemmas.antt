-- The audit of a record's file.
use Rattle.std.proofs.Common.{◌≡◌, ◌≢◌, ℕ, ◌≤◌, ◌<◌, ◌+◌, ◌⊎◌, inl, inr, refl, sym, subst, ◌∙◌, ap, List, [], ◌++◌, length, take, Option, Some, None, Result, Ok, Err, arith, length-take, append-nil}
use Rattle.std.specs.Prelude.{IfSome, IfOk, IfErr, IsErrOf}
use Rattle.std.proofs.lemmas.List.{take_all}
use Rattle.ob_io.specs.Faults.{Rose}
use Rattle.ob_io.specs.Told.{Gains, IsFront, Sends}
use Rattle.ob_load.specs.Causes.{HasLoadCause}
use Rattle.ob_load.specs.Loads.{IsSite, OpenedIsNotRefused, OpensSite, RefusesBytes, IsOutside}
use Rattle.ob_record.specs.Broken.{BreaksAt, SpelledIsUnbroken}
use Rattle.ob_record.specs.Legal.{Audits}
use Rattle.ob_record.specs.Runs.{Recorded, Records, IsRecord}
use Rattle.ob_record.specs.declared.auditing.Verdict.{Verdict}
use Rattle.ob_record.specs.declared.auditing.Verdict.TheVariants.{Legal, Illegal}
use Rattle.ob_site_file.specs.declared.fault.LoadFault.{LoadFault}
use Rattle.ob_site_file.specs.declared.fault.LoadFault.TheVariants as loads
use Rattle.ob_site_laws.specs.SiteLaws.{acts}
use Rattle.ob_site_rules.specs.Sites.{SiteState}
use Rattle.ob_io.specs.declared.cause.RefusedFile.{RefusedFile}
use Rattle.ob_program.specs.declared.audit.AuditEnd.{AuditEnd}
use Rattle.ob_program.specs.declared.audit.AuditEnd.TheVariants as ends
use Rattle.ob_program.specs.declared.audit.RunFault.{RunFault}
use Rattle.ob_program.specs.declared.audit.RunFault.TheVariants as faults
use Rattle.ob_program.specs.declared.exit.Exit.{Exit}
use Rattle.ob_program.specs.declared.exit.Exit.TheVariants as exits
use Rattle.ob_program.specs.Audit.{IsRecordOf, IsNoRecord, Unread, NoRun, Opens, Refuses, Judges, Unjudged, JudgesNone, Audited, AuditComes, AuditRose, AuditRan, IsUntold, most_bytes, verdict_text, exit_of_verdict, exit_of_audit, end_of_load, end_of_run}
use Rattle.ob_program.specs.Serving.{Prints}
use Rattle.ob_program.specs.Stdio.{site_bytes, IsRefusedAs}
use Rattle.ob_program.specs.Telling.{ErrorsTold, Tells}
use Rattle.ob_program.specs.Words.{audit_words}

-- ---- a record's file, as far as it is read

short_whole : (whole bytes : List ℕ) → bytes ≡ take 1_073_741_825 whole → length bytes ≤ most_bytes → (length whole ≤ most_bytes) × (bytes ≡ whole)
short_whole whole bytes is short =
    let cut : length bytes ≡ length (take 1_073_741_825 whole) = ap (λ (l : List ℕ). length l) is in
    let few : length whole ≤ most_bytes = omega (arith, cut, short, length-take 1_073_741_825 whole) in
    (few, is ∙ take_all 1_073_741_825 whole (omega (arith, few)))

long_whole : (whole bytes : List ℕ) → bytes ≡ take 1_073_741_825 whole → most_bytes < length bytes → most_bytes < length whole
long_whole whole bytes is long =
    let cut : length bytes ≡ length (take 1_073_741_825 whole) = ap (λ (l : List ℕ). length l) is in
    omega (arith, cut, long, length-take 1_073_741_825 whole)

pub too_long : (content : Option (List ℕ)) (bytes : List ℕ) → IfSome content (λ whole. bytes ≡ take 1_073_741_825 whole) → most_bytes < length bytes → NoRun content (faults.Record most_bytes)
too_long None bytes is long = tt
too_long (Some whole) bytes is long = inr (long_whole whole bytes is long, refl)

told_run : (content : Option (List ℕ)) (bytes : List ℕ) (run : Recorded) → IfSome content (λ whole. bytes ≡ take 1_073_741_825 whole) → length bytes ≤ most_bytes → Records bytes run
    → IfSome content (IsRecordOf run)
told_run None bytes run is short r = tt
told_run (Some whole) bytes run is short r =
    let w = short_whole whole bytes is short in
    (w.0, subst (λ (l : List ℕ). Records l run) w.1 r)

told_none : (content : Option (List ℕ)) (bytes : List ℕ) (fault : RunFault) → IfSome content (λ whole. bytes ≡ take 1_073_741_825 whole) → length bytes ≤ most_bytes → Unread bytes fault
    → NoRun content fault
told_none None bytes (faults.Record place) is short r = tt
told_none (Some whole) bytes (faults.Record place) is short r =
    let w = short_whole whole bytes is short in
    inl (w.0, subst (λ (l : List ℕ). BreaksAt l place) w.1 r)
told_none content bytes faults.Failed is short r = tt
told_none content bytes faults.Memory is short r = tt

pub runs_told : (content : Option (List ℕ)) (bytes : List ℕ) (r : Result (List ℕ) RunFault) → IfSome content (λ whole. bytes ≡ take 1_073_741_825 whole) → length bytes ≤ most_bytes
    → IfOk r (λ run. (run ≡ bytes) × IsRecord bytes) → IfOk r (λ run. (recorded : Recorded) × Records run recorded × IfSome content (IsRecordOf recorded))
runs_told content bytes (Ok run) is short r =
    (r.1.0, subst (λ (l : List ℕ). Records l r.1.0) (sym r.0) r.1.1, told_run content bytes r.1.0 is short r.1.1)
runs_told content bytes (Err e) is short r = tt

pub runs_none : (content : Option (List ℕ)) (bytes : List ℕ) (r : Result (List ℕ) RunFault) → IfSome content (λ whole. bytes ≡ take 1_073_741_825 whole) → length bytes ≤ most_bytes
    → IfErr r (Unread bytes) → IfErr r (NoRun content)
runs_none content bytes (Ok run) is short r = tt
runs_none content bytes (Err e) is short r = told_none content bytes e is short r

-- a run that was read of bytes isn't said to have failed
pub never_failed : (bytes : List ℕ) (r : Result (List ℕ) RunFault) (P : Type 0) → IfErr r (Unread bytes) → IsErrOf r faults.Failed → P
never_failed bytes (Ok run) P h failed = absurd (cc failed)
never_failed bytes (Err (faults.Record place)) P h failed = absurd (cc failed)
never_failed bytes (Err faults.Failed) P h failed = absurd h
never_failed bytes (Err faults.Memory) P h failed = absurd (cc failed)

-- ---- ends

pub load_unjudged : (site : Option (List ℕ)) (boot files files' : ℕ) (fault : LoadFault) → Refuses site boot fault → (fault ≡ loads.Read → Rose files files') → Unjudged site boot files files' (end_of_load fault)
load_unjudged site boot files files' fault refuses read = by_fault fault refuses read
  where
    told : (f : LoadFault) → (IsOutside f → ⊥) → (o : Option (List ℕ)) → Refuses o boot f → IsRefusedAs o boot f
    told f inside None r = (tt, inside)
    told f inside (Some whole) r = (elim r [ inl outside ↦ absurd (inside outside) | inr why ↦ why ], inside)

    by_fault : (f : LoadFault) → Refuses site boot f → (f ≡ loads.Read → Rose files files') → Unjudged site boot files files' (end_of_load f)
    by_fault loads.Read r k = k refl
    by_fault loads.Memory r k = tt
    by_fault (loads.Document refused) r k = told (loads.Document refused) (λ no. no) site r
    by_fault loads.RootHref r k = told loads.RootHref (λ no. no) site r
    by_fault (loads.Href part) r k = told (loads.Href part) (λ no. no) site r
    by_fault (loads.Contract fault) r k = told (loads.Contract fault) (λ no. no) site r
    by_fault (loads.PathTwice path) r k = told (loads.PathTwice path) (λ no. no) site r
    by_fault (loads.Rule offence) r k = told (loads.Rule offence) (λ no. no) site r
    by_fault loads.Size r k = told loads.Size (λ no. no) site r

-- the record's file was read before
pub unjudged_since : (site file : Option (List ℕ)) (run : Recorded) (files files' files'' : ℕ) (end : AuditEnd) → files ≤ files' → IfSome file (IsRecordOf run) → Unjudged site run.boot files' files'' end
    → JudgesNone site file files files'' end
unjudged_since site file run files files' files'' (ends.Told verdict) later is u = u
unjudged_since site file run files files' files'' (ends.NoRecord place) later is u = absurd u
unjudged_since site file run files files' files'' (ends.NoSite fault) later is u = (run, is, u)
unjudged_since site file run files files' files'' ends.ReadFault later is u = omega arith
unjudged_since site file run files files' files'' ends.WriteFault later is u = u
unjudged_since site file run files files' files'' ends.Memory later is u = tt

pub run_unjudged : (site file : Option (List ℕ)) (files files' : ℕ) (fault : RunFault) → NoRun file fault → (fault ≡ faults.Failed → Rose files files') → JudgesNone site file files files' (end_of_run fault)
run_unjudged site file files files' (faults.Record place) none failed = none
run_unjudged site file files files' faults.Failed none failed = failed refl
run_unjudged site file files files' faults.Memory none failed = tt

-- bytes are the record of a run, which is that of a file
abbrev pub IsRead : Option (List ℕ) → List ℕ → Type 0
IsRead file bytes = (recorded : Recorded) × Records bytes recorded × IfSome file (IsRecordOf recorded)

-- a run was read before it was judged
pub judged_file : (site site' file : Option (List ℕ)) (run : List ℕ) (r : Result Verdict AuditEnd) → site' ≡ site → IsRead file run
    → IfOk r (λ verdict. (recorded : Recorded) → Records run recorded → Judges site' recorded verdict)
    → IfOk r (λ verdict. (recorded : Recorded) × IfSome file (IsRecordOf recorded) × Judges site recorded verdict)
judged_file site site' file run (Ok verdict) same is judged =
    (is.0, is.2, subst (λ (s : Option (List ℕ)). Judges s is.0 verdict) same (judged is.0 is.1))
judged_file site site' file run (Err e) same is judged = tt

pub unjudged_file : (site site' file : Option (List ℕ)) (run : List ℕ) (files files' files'' : ℕ) (r : Result Verdict AuditEnd) → site' ≡ site → files ≤ files' → IsRead file run
    → IfErr r (λ end. (recorded : Recorded) → Records run recorded → Unjudged site' recorded.boot files' files'' end) → IfErr r (JudgesNone site file files files'')
unjudged_file site site' file run files files' files'' (Ok verdict) same later is none = tt
unjudged_file site site' file run files files' files'' (Err e) same later is none =
    unjudged_since site file is.0 files files' files'' e later is.2 (subst (λ (s : Option (List ℕ)). Unjudged s is.0.boot files' files'' e) same (none is.0 is.1))

-- nothing was printed
pub none_comes : (site file held : Option (List ℕ)) (files files' : ℕ) (end : AuditEnd) → JudgesNone site file files files' end → AuditComes site file held held end
none_comes site file held files files' (ends.Told verdict) n = absurd n
none_comes site file held files files' (ends.NoRecord place) n = (n, refl)
none_comes site file held files files' (ends.NoSite fault) n = (n, refl)
none_comes site file held files files' ends.ReadFault n = refl
none_comes site file held files files' ends.WriteFault n = absurd n
none_comes site file held files files' ends.Memory n = refl

pub none_rose : (site file : Option (List ℕ)) (files files' writes : ℕ) (end : AuditEnd) → JudgesNone site file files files' end → AuditRose end files files' writes writes
none_rose site file files files' writes (ends.Told verdict) n = absurd n
none_rose site file files files' writes (ends.NoRecord place) n = record { read = λ is. absurd (cc is); write = λ is. absurd (cc is) }
none_rose site file files files' writes (ends.NoSite fault) n = record { read = λ is. absurd (cc is); write = λ is. absurd (cc is) }
none_rose site file files files' writes ends.ReadFault n = record { read = λ is. n; write = λ is. absurd (cc is) }
none_rose site file files files' writes ends.WriteFault n = absurd n
none_rose site file files files' writes ends.Memory n = record { read = λ is. absurd (cc is); write = λ is. absurd (cc is) }

-- a verdict was printed, or a front of it
pub printed : (site file held held' : Option (List ℕ)) (run : Recorded) (verdict : Verdict) (text : List ℕ) → IfSome file (IsRecordOf run) → Judges site run verdict → text ≡ verdict_text verdict
    → Gains held text held' → Audited site file held held' verdict (Unit {0})
printed site file held held' run verdict text is judges same gained = record {
  run = run;
  recorded = is;
  judges = judges;
  prints = record { text = text; printed = gained; front = ([], sym same ∙ sym (append-nil text)); all = λ w. same };
}

pub printed_front : (site file held held' : Option (List ℕ)) (run : Recorded) (verdict : Verdict) (text sent : List ℕ) → IfSome file (IsRecordOf run) → Judges site run verdict → text ≡ verdict_text verdict
    → IsFront sent text → Gains held sent held' → Audited site file held held' verdict ⊥
printed_front site file held held' run verdict text sent is judges same front gained = record {
  run = run;
  recorded = is;
  judges = judges;
  prints = record { text = sent; printed = gained; front = (front.0, sym same ∙ front.1); all = λ no. absurd no };
}

-- ---- the exit

read_failed : (end : AuditEnd) → exit_of_audit end ≡ exits.ReadFault → end ≡ ends.ReadFault
read_failed (ends.Told (Legal entries)) e = cc
read_failed (ends.Told (Illegal entry expected)) e = cc
read_failed (ends.NoRecord place) e = cc
read_failed (ends.NoSite fault) e = cc
read_failed ends.ReadFault e = refl
read_failed ends.WriteFault e = cc
read_failed ends.Memory e = cc

write_failed : (end : AuditEnd) → exit_of_audit end ≡ exits.WriteFault → end ≡ ends.WriteFault
write_failed (ends.Told (Legal entries)) e = cc
write_failed (ends.Told (Illegal entry expected)) e = cc
write_failed (ends.NoRecord place) e = cc
write_failed (ends.NoSite fault) e = cc
write_failed ends.ReadFault e = cc
write_failed ends.WriteFault e = refl
write_failed ends.Memory e = cc

abbrev EndsWell : Exit → Type 0
EndsWell exit = (exit ≡ exits.Ok) ⊎ ((exit ≡ exits.Illegal) ⊎ (exit ≡ exits.Memory))

-- the record of a run isn't refused
is_recorded : (unbroken : SpelledIsUnbroken) (run : Recorded) (place : ℕ) (whole : List ℕ) → IsRecordOf run whole → IsNoRecord place whole → ⊥
is_recorded unbroken run place whole is (inl none) = unbroken whole run place is.1 none.1
is_recorded unbroken run place whole is (inr none) = omega (arith, is.0, none.0)

-- a file that opens a site isn't refused
is_opened : (law : OpenedIsNotRefused) (boot : ℕ) (fault : LoadFault) (other : List ℕ) → OpensSite (site_bytes other) → IsRefusedAs (Some other) boot fault → ⊥
is_opened law boot fault other opens refused =
    refused.1 (law (site_bytes other) opens boot fault refused.0)

ends_well : (unbroken : SpelledIsUnbroken) (law : OpenedIsNotRefused) (other whole : List ℕ) (held held' : Option (List ℕ)) (end : AuditEnd) (FileRises SinkRises : Type 0)
    → AuditComes (Some other) (Some whole) held held' end → (end ≡ ends.ReadFault → FileRises) → (end ≡ ends.WriteFault → SinkRises)
    → (run : Recorded) → IsRecordOf run whole → OpensSite (site_bytes other) → (FileRises → ⊥) → (SinkRises → ⊥) → EndsWell (exit_of_audit end)
ends_well unbroken law other whole held held' (ends.Told (Legal entries)) F K comes file sink run is opens f k = inl refl
ends_well unbroken law other whole held held' (ends.Told (Illegal entry expected)) F K comes file sink run is opens f k = inr (inl refl)
ends_well unbroken law other whole held held' (ends.NoRecord place) F K comes file sink run is opens f k = absurd (is_recorded unbroken run place whole is comes.0)
ends_well unbroken law other whole held held' (ends.NoSite fault) F K comes file sink run is opens f k = absurd (is_opened law comes.0.0.boot fault other opens comes.0.2)
ends_well unbroken law other whole held held' ends.ReadFault F K comes file sink run is opens f k = absurd (f (file refl))
ends_well unbroken law other whole held held' ends.WriteFault F K comes file sink run is opens f k = absurd (k (sink refl))
ends_well unbroken law other whole held held' ends.Memory F K comes file sink run is opens f k = inr (inr refl)

complete : (unbroken : SpelledIsUnbroken) (law : OpenedIsNotRefused) (site file held held' : Option (List ℕ)) (end : AuditEnd) (exit : Exit) (FileRises SinkRises : Type 0) → exit ≡ exit_of_audit end
    → AuditComes site file held held' end → (end ≡ ends.ReadFault → FileRises) → (end ≡ ends.WriteFault → SinkRises)
    → IfSome file (λ whole. IfSome site (λ other. (run : Recorded) → IsRecordOf run whole → OpensSite (site_bytes other) → ¬ FileRises → ¬ SinkRises → EndsWell exit))
complete unbroken law site None held held' end exit F K is comes file sink = tt
complete unbroken law None (Some whole) held held' end exit F K is comes file sink = tt
complete unbroken law (Some other) (Some whole) held held' end exit F K is comes file sink = λ run recorded opens f k.
    subst EndsWell (sym is) (ends_well unbroken law other whole held held' end F K comes file sink run recorded opens f k)

-- the audit came to this end, which is the exit
pub audit_ran : (unbroken : SpelledIsUnbroken) (law : OpenedIsNotRefused) (site file : Option (List ℕ)) (files files' : ℕ) (held held' : Option (List ℕ)) (writes writes' : ℕ) (refused : Option RefusedFile) (e e' : ErrorsTold) (end : AuditEnd) (exit : Exit)
    → exit ≡ exit_of_audit end → AuditComes site file held held' end → AuditRose end files files' writes writes' → Tells e e' exit (audit_words refused end)
    → AuditRan site file files files' held held' writes writes' refused e e' exit
audit_ran unbroken law site file files files' held held' writes writes' refused e e' end exit is comes rose says = record {
  end = end;
  exit_is = is;
  comes = comes;
  read = λ ended. rose.read (read_failed end (sym is ∙ ended));
  write = λ ended. rose.write (write_failed end (sym is ∙ ended));
  complete = complete unbroken law site file held held' end exit (Rose files files') (Rose writes writes') is comes rose.read rose.write;
  says = says;
}
