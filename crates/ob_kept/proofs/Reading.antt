-- What is read of a record, as it is said of the opening.
use Rattle.std.proofs.Common.{◌≡◌, ◌≢◌, ◌⊎◌, inl, inr, ℕ, true, false, List, [], ◌∷◌, Option, refl, sym, subst, Bool, Some, ap, ◌∙◌}
use Rattle.ob_journal.specs.Journal.{Says, OneMeaning}
use Rattle.ob_record.specs.Blocks.{IsBlock}
use Rattle.ob_record.specs.Runs.{Recorded, Records, IsRecord}
use Rattle.ob_record.specs.declared.run.Entry.{Entry}
use Rattle.ob_record.specs.Broken.{OneRun}
use Rattle.ob_record.proofs.AuditLaws.{legal_none}
use Rattle.ob_record_journal.specs.Runs.{run_blocks}
use Rattle.ob_record_journal.specs.Saying.{SaysRun, Unsaid, HasPlace, IsSaid}
use Rattle.ob_record_journal.specs.declared.saying.SayingFault.{SayingFault}
use Rattle.ob_record_journal.specs.declared.saying.SayingFault.TheVariants as sayings
use Rattle.ob_site_rules.specs.Sites.{SiteState}
use Rattle.ob_times.specs.Times.{IsMoment}
use Rattle.ob_kept.specs.declared.fault.ReopenFault.{ReopenFault}
use Rattle.ob_kept.specs.declared.fault.ReopenFault.TheVariants as faults
use Rattle.ob_kept.specs.Reading.{Undone}
use Rattle.ob_kept.specs.Redone.{redone}
use Rattle.ob_kept.specs.Reopening.{fault_of_saying, IsOpenedAt, IsRedone, Redoes, Refuses, Unopened, Unready}
use Rattle.std.specs.Prelude.{Result, Ok, Err, IfOk, IfErr}
use Rattle.ob_record.specs.Legal.{IsLegalRun, after_entries}
use Rattle.ob_site_laws.specs.SiteLaws.{IsSoundSite}
use Rattle.ob_journal.specs.declared.opening.Extent.{Extent}
use Rattle.ob_site_file.specs.declared.fault.LoadFault.{LoadFault}
use Rattle.ob_kept.specs.declared.reopening.Ready.{Ready}

has_entries : (es : List Entry) → es ≢ [] → (e : Entry) × (rest : List Entry) × (es ≡ e ∷ rest)
has_entries [] some = absurd (some refl)
has_entries (e ∷ es) some = (e, es, refl)

has_blocks : (boot : ℕ) (es : List Entry) → es ≢ [] → run_blocks boot es ≡ [] → ⊥
has_blocks boot [] some none = some refl
has_blocks boot (e ∷ es) some none = cc none

-- the run that a file says was done again
pub redoes_run : (file : List ℕ) (given boot : ℕ) (opening now : SiteState) (run : Recorded) → OneMeaning IsBlock → SaysRun file run.boot run.entries → run.entries ≢ [] → IsRedone run boot opening now
    → Redoes file given boot opening now true
redoes_run file given boot opening now run one says some is = record {
  entries = run.entries;
  says = subst (λ (ms : ℕ). SaysRun file ms run.entries) (sym is.boot_is) says;
  legal = is.legal;
  now_is = is.now_is;
  unbegun = λ no. absurd (cc no);
  some = λ _. has_entries run.entries some;
  anew = λ none. absurd (has_blocks run.boot run.entries some (one file (run_blocks run.boot run.entries) [] says.blocks none));
}

-- it says no entry
pub redoes_none : (file : List ℕ) (given boot : ℕ) (opening now : SiteState) → IsMoment given → Says IsBlock file [] → boot ≡ given → now ≡ opening → Redoes file given boot opening now false
redoes_none file given boot opening now moment none boot_is now_is = record {
  entries = [];
  says = record { valid = record { boot = subst IsMoment (sym boot_is) moment; entries = tt }; blocks = none };
  legal = legal_none redone opening;
  now_is = now_is;
  unbegun = λ _. refl;
  some = λ yes. absurd (cc yes);
  anew = λ _. boot_is;
}

-- ---- why not

pub refuses_saying : (told : Type 0) (content : Option (List ℕ)) (file : List ℕ) (given : ℕ) (why : SayingFault) → (told → Unsaid file why) → (told → HasPlace file why) → Refuses told content file given (fault_of_saying why)
refuses_saying told content file given (sayings.Record place) none place_is = λ t. (none t, place_is t)
refuses_saying told content file given sayings.Failed none place_is = tt
refuses_saying told content file given sayings.Memory none place_is = tt

module _ (told : Type 0) (content : Option (List ℕ)) (file : List ℕ) (given boot : ℕ) where
  unopened : (fault : ReopenFault) → Unopened content boot fault → (told → (Says IsBlock file [] × (boot ≡ given)) ⊎ ((entries : List Entry) × SaysRun file boot entries)) → Refuses told content file given fault
  unopened fault none says = subst (Refuses told content file given) (sym none.fault_is) (boot, none.refused, says)

  pub refuses_anew : (fault : ReopenFault) → Unopened content boot fault → boot ≡ given → (told → Says IsBlock file []) → Refuses told content file given fault
  refuses_anew fault none is says = unopened fault none (λ t. inl (says t, is))

  undone : (opening : SiteState) (entries : List Entry) (fault : ReopenFault) → ((ns : Option (List ℕ)) × IsOpenedAt content boot ns opening) → Undone opening entries fault → (told → SaysRun file boot entries)
      → Refuses told content file given fault
  undone opening entries (faults.Illegal entry) opened illegal says = (boot, opening, (opened.0, opened.1.opened), λ t. (entries, says t, illegal))
  undone opening entries faults.Memory opened illegal says = tt
  undone opening entries (faults.Record place) opened illegal says = absurd illegal
  undone opening entries (faults.Site why) opened illegal says = absurd illegal
  undone opening entries faults.Device opened illegal says = absurd illegal

  pub refuses_run : (run : Recorded) (fault : ReopenFault) → run.boot ≡ boot → Unready content run fault → (told → SaysRun file run.boot run.entries) → Refuses told content file given fault
  refuses_run run fault is (inl none) says =
      unopened fault (subst (λ (ms : ℕ). Unopened content ms fault) is none) (λ t. inr (run.entries, subst (λ (ms : ℕ). SaysRun file ms run.entries) is (says t)))
  refuses_run run fault is (inr none) says =
      undone none.1 run.entries fault (none.0, subst (λ (ms : ℕ). IsOpenedAt content ms none.0 none.1) is none.2) none.3 (λ t. subst (λ (ms : ℕ). SaysRun file ms run.entries) is (says t))

-- ---- of a run that was read

-- none was opened at its moment
pub unready_opened : (content : Option (List ℕ)) (run : Recorded) (boot : ℕ) (fault : ReopenFault) → boot ≡ run.boot → Unopened content boot fault → Unready content run fault
unready_opened content run boot fault is none = inl (subst (λ (ms : ℕ). Unopened content ms fault) is none)

-- its entries aren't legal from one that was
pub unready_undone : (content : Option (List ℕ)) (run : Recorded) (boot : ℕ) (ns : Option (List ℕ)) (opening : SiteState) (fault : ReopenFault) → boot ≡ run.boot → IsOpenedAt content boot ns opening → Undone opening run.entries fault
    → Unready content run fault
unready_undone content run boot ns opening fault is opened none = inr (ns, opening, subst (λ (ms : ℕ). IsOpenedAt content ms ns opening) is opened, none)

-- no site file is at fault there
pub undone_site : (opening : SiteState) (entries : List Entry) (fault : ReopenFault) (why : LoadFault) → fault ≡ faults.Site why → Undone opening entries fault → ⊥
undone_site opening entries fault why is none = subst (λ (f : ReopenFault). Undone opening entries f) is none

pub redone_so : (run : Recorded) (boot : ℕ) (site opening now : SiteState) → boot ≡ run.boot → opening ≡ site → IsLegalRun redone site run.entries × (now ≡ after_entries redone site run.entries) → IsRedone run boot opening now
redone_so run boot site opening now boot_is opening_is done = record {
  boot_is = boot_is;
  legal = subst (λ (s : SiteState). IsLegalRun redone s run.entries) (sym opening_is) done.0;
  now_is = done.1 ∙ sym (ap (λ (s : SiteState). after_entries redone s run.entries) opening_is);
}

-- ---- what was made ready of it

pub redoes_if : (result : Result Ready ReopenFault) (file : List ℕ) (given : ℕ) (text : List ℕ) (extent : Extent) → OneMeaning IsBlock → IsSaid file (Some text)
    → IfOk result (λ r. (recorded : Recorded) → Records text recorded → IsRedone recorded r.boot r.opening.value r.site)
    → IfOk result (λ r. (r.begun ≡ true) × (r.extent ≡ extent) × IsSoundSite r.site)
    → IfOk result (λ r. Redoes file given r.boot r.opening.value r.site r.begun)
redoes_if (Err fault) file given text extent one said is begun = tt
redoes_if (Ok r) file given text extent one said is begun =
    subst (λ (b : Bool). Redoes file given r.boot r.opening.value r.site b) (sym begun.0)
    (redoes_run file given r.boot r.opening.value r.site said.0 one said.2 said.3 (is said.0 said.1))

-- why the run that a file says leaves no site is why its record gives none
pub refuses_said : (told : Type 0) (content : Option (List ℕ)) (file : List ℕ) (given : ℕ) (text : List ℕ) (fault : ReopenFault) → OneRun → IsRecord text → (told → IsSaid file (Some text))
    → ((recorded : Recorded) → Records text recorded → Unready content recorded fault) → Refuses told content file given fault
refuses_said told content file given text fault one is said why =
    refuses_run told content file given is.0.boot is.0 fault refl (why is.0 is.1) (λ t.
    let read = said t in
    subst (λ (run : Recorded). SaysRun file run.boot run.entries) (one text read.0 is.0 read.1 is.1) read.2)

pub refused_if : (result : Result Ready ReopenFault) (told : Type 0) (content : Option (List ℕ)) (file : List ℕ) (given : ℕ) (text : List ℕ) → OneRun → IsRecord text → (told → IsSaid file (Some text))
    → IfErr result (λ fault. (recorded : Recorded) → Records text recorded → Unready content recorded fault) → IfErr result (Refuses told content file given)
refused_if (Ok r) told content file given text one is said why = tt
refused_if (Err fault) told content file given text one is said why = refuses_said told content file given text fault one is said why
