-- The service at a port of a site that is kept.
use Rattle.std.proofs.Common.{◌≡◌, ◌≢◌, ◌⊎◌, inl, inr, ℕ, ◌≤◌, Bool, true, false, refl, sym, ap, subst, ◌∙◌, arith, le_refl, List, [], ◌∷◌, Option, Some, None}
use Rattle.std.specs.Prelude.{cond, IfSome}
use Rattle.ob_io.specs.Faults.{Rose}
use Rattle.ob_io.specs.Told.{Gains}
use Rattle.ob_io.specs.Ticks.{Pace}
use Rattle.ob_io.specs.Visits.{Visit}
use Rattle.ob_journal.specs.declared.device.DeviceFault.TheVariants as devices
use Rattle.ob_journal.specs.declared.device.DeviceFault.{DeviceFault}
use Rattle.ob_kept.specs.Fronts.{KeepsLaws}
use Rattle.ob_kept.specs.Keeping.{IsLeft, Keeping, kept_act}
use Rattle.ob_kept.specs.Reopening.{HasCauses, Refuses, Reopens, SaysAsBefore}
use Rattle.ob_kept.specs.declared.fault.ReopenFault.{ReopenFault}
use Rattle.ob_kept.specs.declared.fault.ReopenFault.TheVariants as reopens
use Rattle.ob_load.specs.Loads.{OpenedIsNotRefused, OpensSite, RefusesBytes, IsOutside}
use Rattle.ob_server.specs.GivenBack.{PortTold, ClockTold}
use Rattle.ob_site_file.specs.declared.fault.LoadFault.{LoadFault}
use Rattle.ob_io.specs.declared.cause.Cause.{Cause}
use Rattle.ob_io.specs.declared.cause.RefusedFile.{RefusedFile}
use Rattle.ob_program.specs.declared.exit.Exit.{Exit}
use Rattle.ob_program.specs.declared.exit.Exit.TheVariants as exits
use Rattle.ob_program.specs.declared.keep.KeepEnd.{KeepEnd}
use Rattle.ob_program.specs.declared.keep.KeepEnd.TheVariants.{Served, NoRecord, Illegal, RecordFault}
use Rattle.ob_program.specs.declared.serve.ServeEnd.{ServeEnd}
use Rattle.ob_program.specs.declared.serve.ServeEnd.TheVariants as serves
use Rattle.ob_program.specs.Keeping.{ComesBack, EndsBy, IsOfRecord, IsUnkept, KeepComes, KeepRan, KeepRose, KeepsDevice, OpensRecord, end_of_device, end_of_reopen, end_of_service, exit_of_keep}
use Rattle.ob_program.specs.Outside.{DevicesTold}
use Rattle.ob_program.specs.Serving.{AtPlace, IsUnserved, ServeRose, end_of_load, exit_of_serve}
use Rattle.ob_program.specs.Stdio.{site_bytes}
use Rattle.ob_program.specs.Telling.{ErrorsTold, Tells}
use Rattle.ob_program.specs.Words.{keep_words}
use Rattle.ob_program.proofs.ServeLemmas.{refused_rose, rose_from, unserved_refused}

-- ---- causes

module _ (files files' writes writes' : ℕ) (p p' : PortTold) (t t' : ClockTold) where
  -- the end that came has its cause where the device has not failed
  same_rose : (k : KeepEnd) (r r' records records' : ℕ) → r ≡ 0 → r' ≡ 0 → KeepRose k files files' r r' writes writes' p p' t t'
      → KeepRose k files files' records records' writes writes' p p' t t'
  same_rose (Served e) r r' records records' fresh whole h = h
  same_rose (NoRecord place) r r' records records' fresh whole h = tt
  same_rose (Illegal entry) r r' records records' fresh whole h = tt
  same_rose RecordFault r r' records records' fresh whole h = absurd (omega (arith, h, fresh, whole))

  -- a device that has failed decides the end, and where it comes back the count rises
  pub rose_end : (came end : KeepEnd) (r r' records records' : ℕ) → EndsBy r' came end → r ≡ 0 → (¬ (r' ≡ 0) → Rose records records')
      → KeepRose came files files' r r' writes writes' p p' t t' → KeepRose end files files' records records' writes writes' p p' t t'
  rose_end came end r r' records records' ends fresh broken rose =
      elim ends [
        | inl (failed, is) ↦ subst (λ (e : KeepEnd). KeepRose e files files' records records' writes writes' p p' t t') (sym is) (broken failed)
        | inr (whole, is) ↦
            subst (λ (e : KeepEnd). KeepRose e files files' records records' writes writes' p p' t t') (sym is)
            (same_rose came r r' records records' fresh whole rose)
      ]

  -- the end of a service has its cause, whether or not a call of the device has failed
  service_rose : (end : ServeEnd) (failed : Bool) (r r' : ℕ) → ServeRose end 0 0 writes writes' p p' t t' → KeepRose (end_of_service end failed) files files' r r' writes writes' p p' t t'
  service_rose end true r r' h = tt
  service_rose end false r r' h = rose_from end files files' writes writes' p p' t t t' (le_refl t.faults) h

  -- where the record's file couldn't be opened
  device_rose : (fault : DeviceFault) (records records' : ℕ) → (fault ≡ devices.Failed → Rose records records') → KeepRose (end_of_device fault) files files' records records' writes writes' p p' t t'
  device_rose devices.Failed records records' failed = failed refl
  device_rose devices.Memory records records' failed = tt

  -- where no site was opened with its record
  reopen_rose : (fault : ReopenFault) (r r' : ℕ) → HasCauses r r' files files' fault → KeepRose (end_of_reopen fault) files files' r r' writes writes' p p' t t'
  reopen_rose (reopens.Record at) r r' causes = tt
  reopen_rose (reopens.Illegal at) r r' causes = tt
  reopen_rose (reopens.Site fault) r r' causes = refused_rose fault files files' writes writes' p p' t t' (λ is. causes.file_failed (ap (λ (f : LoadFault). reopens.Site f) is))
  reopen_rose reopens.Device r r' causes = causes.device_failed refl
  reopen_rose reopens.Memory r r' causes = tt

  -- the clock was asked for the moment of the opening before
  service_since : (end : ServeEnd) (before : ClockTold) → before.faults ≤ t.faults → ServeRose end files files' writes writes' p p' t t' → ServeRose end files files' writes writes' p p' before t'
  service_since serves.Done before later h = h
  service_since (serves.Refused fault) before later h = h
  service_since serves.ReadFault before later h = h
  service_since serves.WriteFault before later h = h
  service_since serves.PortFault before later h = h
  service_since serves.ClockFault before later h = omega (arith, h, later)
  service_since serves.Memory before later h = h

  rose_since : (end : KeepEnd) (before : ClockTold) (r r' : ℕ) → before.faults ≤ t.faults → KeepRose end files files' r r' writes writes' p p' t t' → KeepRose end files files' r r' writes writes' p p' before t'
  rose_since (Served end) before r r' later h = service_since end before later h
  rose_since (NoRecord at) before r r' later h = tt
  rose_since (Illegal at) before r r' later h = tt
  rose_since RecordFault before r r' later h = h

-- ---- a device

module _ {V : Type 0} (told : Type 0) (seen : V → List ℕ) (may_leave : V → List ℕ → Type 0) (moment : V → ℕ)
    (left_since : V → ℕ → List ℕ → Type 0) (failures : V → ℕ) {D C : Type 0} (faults handed returned : D → ℕ) (visits : D → Option (List Visit))
    (closed : D → Bool) (given : C → Option (List ℕ)) (pace : C → Option Pace) (misses : C → ℕ)
    (content : Option (List ℕ)) (host : List ℕ) (place wanted quota files files' : ℕ) where
  abbrev Keeps_ : (boot : ℕ) → (held held' : Option (List ℕ)) → (writes writes' : ℕ) → (p p' : PortTold) → (t t' : ClockTold) → (device device' : V) → KeepEnd → Type 0
  Keeps_ boot held held' writes writes' p p' t t' device device' end =
      KeepsDevice told seen may_leave moment left_since failures faults handed returned visits closed given pace misses content boot host place wanted quota files files'
      held held' writes writes' p p' t t' device device' end

  -- no site was opened with its record
  pub kept_none : (boot : ℕ) (held : Option (List ℕ)) (writes : ℕ) (p : PortTold) (t : ClockTold) (device device' : V) (fault : ReopenFault) (end : KeepEnd)
      → end ≡ end_of_reopen fault → Refuses told content (seen device) boot fault → (told → SaysAsBefore moment left_since (seen device) device device')
      → HasCauses (failures device) (failures device') files files' fault → files ≤ files' → Keeps_ boot held held writes writes p p t t device device' end
  kept_none boot held writes p t device device' fault end is refuses back causes later = record {
    comes = inl (record { held_is = refl; port_is = refl; clock_is = refl }, record { fault = fault; end_is = is; refuses = refuses; back = back });
    rose = subst (λ (e : KeepEnd). KeepRose e files files' (failures device) (failures device') writes writes p p t t) (sym is)
        (reopen_rose files files' writes writes p p t t fault (failures device) (failures device') causes);
    files_later = later;
  }

  -- one was, and it was served
  pub kept_served : (boot : ℕ) (held held' : Option (List ℕ)) (writes writes' : ℕ) (p p' : PortTold) (t t' : ClockTold) (device device' : V) (ns : Option (List ℕ)) (opening left : Keeping) (failed : Bool) (served : ServeEnd)
      (end : KeepEnd) → end ≡ end_of_service served failed → Reopens told content (seen device) (moment device) boot ns opening
      → AtPlace faults handed returned visits closed given pace misses kept_act opening (λ history. KeepsLaws opening history left) true left ns host place wanted quota held held' writes writes' p p' t t' served
      → (told → IsLeft seen may_leave moment left_since left device' failed) → files ≤ files' → Keeps_ boot held held' writes writes' p p' t t' device device' end
  kept_served boot held held' writes writes' p p' t t' device device' ns opening left failed served end is reopened at leaves later = record {
    comes = inr (served, failed, is, record { ns = ns; opening = opening; reopens = reopened; left = left; at = at; leaves = leaves });
    rose = subst (λ (e : KeepEnd). KeepRose e files files' (failures device) (failures device') writes writes' p p' t t') (sym is)
        (service_rose files files' writes writes' p p' t t' served failed (failures device) (failures device') at.rose);
    files_later = later;
  }

-- ---- completeness

-- a site file that opens a site isn't what is refused
pub not_site : (told : Type 0) (content : Option (List ℕ)) (law : OpenedIsNotRefused) (whole : List ℕ) (record_file : List ℕ) (boot : ℕ) (fault : LoadFault) (why : ReopenFault) → content ≡ Some whole → OpensSite (site_bytes whole)
    → Served (serves.Refused fault) ≡ end_of_reopen why → Refuses told content record_file boot why → ⊥
not_site told content law whole record_file boot fault (reopens.Record place) is opens same refuses = cc
not_site told content law whole record_file boot fault (reopens.Illegal entry) is opens same refuses = cc
not_site told content law whole record_file boot fault (reopens.Site other) is opens same (at, refused, says) =
    let unserved : IsUnserved content at (serves.Refused fault) = subst (λ (e : ServeEnd). IsUnserved content at e) (served_is same) (unserved_refused other content at refused) in
    let why = subst (λ (c : Option (List ℕ)). IsUnserved c at (serves.Refused fault)) is unserved in
    why.1 (law (site_bytes whole) opens at fault why.0)
  where
    served_is : {a b : ServeEnd} → Served a ≡ Served b → b ≡ a
    served_is same = cc
not_site told content law whole record_file boot fault reopens.Device is opens same refuses = cc
not_site told content law whole record_file boot fault reopens.Memory is opens same refuses = cc

module _ {V : Type 0} (told : Type 0) (seen : V → List ℕ) (may_leave : V → List ℕ → Type 0) (moment : V → ℕ)
    (left_since : V → ℕ → List ℕ → Type 0) (failures : V → ℕ) {D C : Type 0} (faults handed returned : D → ℕ) (visits : D → Option (List Visit))
    (closed : D → Bool) (given : C → Option (List ℕ)) (pace : C → Option Pace) (misses : C → ℕ)
    (content : Option (List ℕ)) (file host : List ℕ) (place wanted quota files files' : ℕ) (v v' : DevicesTold V) where
  abbrev Comes_ : (held held' : Option (List ℕ)) → (writes writes' : ℕ) → (p p' : PortTold) → (t t' : ClockTold) → KeepEnd → Type 0
  Comes_ held held' writes writes' p p' t t' end =
      KeepComes told seen may_leave moment left_since failures faults handed returned visits closed given pace misses content file host place wanted quota
      files files' v v' held held' writes writes' p p' t t' end

  device_refuses_none : (fault : LoadFault) (why : DeviceFault) → Served (serves.Refused fault) ≡ end_of_device why → ⊥
  device_refuses_none fault devices.Failed same = cc
  device_refuses_none fault devices.Memory same = cc

  refuses_none : (served : ServeEnd) (failed : Bool) (fault : LoadFault) → ((f : LoadFault) → served ≢ serves.Refused f) → cond failed serves.Memory served ≡ serves.Refused fault → ⊥
  refuses_none served true fault none is = cc is
  refuses_none served false fault none is = none fault is

  unrefused : (law : OpenedIsNotRefused) (whole : List ℕ) (held held' : Option (List ℕ)) (writes writes' : ℕ) (p p' : PortTold) (t t' : ClockTold) (fault : LoadFault)
      → content ≡ Some whole → OpensSite (site_bytes whole) → Comes_ held held' writes writes' p p' t t' (Served (serves.Refused fault)) → ⊥
  unrefused law whole held held' writes writes' p p' t t' fault is opens c =
      elim c.comes [
        | inl (end_is, given_same, held_same, port_same, devices_same) ↦ (let no : Served (serves.Refused fault) ≡ Served serves.ClockFault = end_is in absurd (cc))
        | inr (boot, booted, gave, twins, what) ↦ elim what [
          | inl (untouched, unopened) ↦ device_refuses_none fault unopened.fault unopened.end_is
          | inr (opened, device, device', came, opens_it, back, keeps, ends) ↦ elim ends [
            | inl (failed, end_is) ↦ (let no : Served (serves.Refused fault) ≡ RecordFault = end_is in absurd (cc))
            | inr (whole_device, end_is) ↦ elim keeps.comes [
              | inl (untouched, unkept) ↦ not_site told content law whole (seen device) boot fault unkept.fault is opens (end_is ∙ unkept.end_is) unkept.refuses
              | inr (served, failed, came_is, serves_it) ↦ refuses_none served failed fault serves_it.at.unrefused (served_is (end_is ∙ came_is))
            ]
          ]
        ]
      ]
    where
      served_is : {a b : ServeEnd} → Served a ≡ Served b → b ≡ a
      served_is same = cc

  -- the record's file couldn't be opened
  pub comes_unopened : (held : Option (List ℕ)) (writes : ℕ) (p : PortTold) (t booted : ClockTold) (boot : ℕ) (fault : DeviceFault) (end : KeepEnd)
      → Gains t.given (boot ∷ []) booted.given → booted.twins ≡ t.twins → end ≡ end_of_device fault → v'.given ≡ v.given → v'.returned ≡ v.returned
      → (fault ≡ devices.Failed → Rose v.faults v'.faults) → Comes_ held held writes writes p p t booted end
  comes_unopened held writes p t booted boot fault end gave twins is given_is returned_is failed = record {
    comes = inr (
      boot,
      booted,
      gave,
      twins,
      inl (record { held_is = refl; port_is = refl; clock_is = refl }, record { fault = fault; end_is = is; given_is = given_is; returned_is = returned_is }),
    );
    rose = subst (λ (e : KeepEnd). KeepRose e files files' v.faults v'.faults writes writes p p t booted) (sym is)
        (device_rose files files' writes writes p p t booted fault v.faults v'.faults failed);
  }

  -- it was opened, and came back
  pub comes_kept : (held held' : Option (List ℕ)) (writes writes' : ℕ) (p p' : PortTold) (t booted t' : ClockTold) (boot : ℕ) (opened : DevicesTold V) (device device' : V) (came end : KeepEnd)
      → Gains t.given (boot ∷ []) booted.given → booted.twins ≡ t.twins → t.faults ≤ booted.faults
      → OpensRecord told seen may_leave moment left_since failures file v opened device → ComesBack opened v' device'
      → KeepsDevice told seen may_leave moment left_since failures faults handed returned visits closed given pace misses content boot host place wanted quota files files'
      held held' writes writes' p p' booted t' device device' came
      → EndsBy (failures device') came end → (¬ (failures device' ≡ 0) → Rose v.faults v'.faults)
      → Comes_ held held' writes writes' p p' t t' end
  comes_kept held held' writes writes' p p' t booted t' boot opened device device' came end gave twins later opens back keeps ends broken = record {
    comes = inr (boot, booted, gave, twins, inr (opened, device, device', came, opens, back, keeps, ends));
    rose = rose_end files files' writes writes' p p' t t' came end (failures device) (failures device') v.faults v'.faults ends opens.fresh broken
        (rose_since files files' writes writes' p p' booted t' came t (failures device) (failures device') later keeps.rose);
  }

  abbrev Good : KeepEnd → Type 0
  Good end = (exit_of_keep end ≡ exits.Ok) ⊎ ((exit_of_keep end ≡ exits.Memory) ⊎ IsOfRecord end)

  complete_by : (law : OpenedIsNotRefused) (whole : List ℕ) (held held' : Option (List ℕ)) (writes writes' : ℕ) (p p' : PortTold) (t t' : ClockTold) (end : KeepEnd) → content ≡ Some whole → OpensSite (site_bytes whole)
      → Comes_ held held' writes writes' p p' t t' end
      → ¬ (Rose files files') → ¬ (Rose v.faults v'.faults) → ¬ (Rose writes writes') → ¬ (Rose p.faults p'.faults) → ¬ (Rose t.faults t'.faults) → Good end
  complete_by law whole held held' writes writes' p p' t t' (Served serves.Done) is opens c no_read no_record no_write no_port no_clock = inl refl
  complete_by law whole held held' writes writes' p p' t t' (Served (serves.Refused fault)) is opens c no_read no_record no_write no_port no_clock =
      absurd (unrefused law whole held held' writes writes' p p' t t' fault is opens c)
  complete_by law whole held held' writes writes' p p' t t' (Served serves.ReadFault) is opens c no_read no_record no_write no_port no_clock = absurd (no_read c.rose)
  complete_by law whole held held' writes writes' p p' t t' (Served serves.WriteFault) is opens c no_read no_record no_write no_port no_clock = absurd (no_write c.rose)
  complete_by law whole held held' writes writes' p p' t t' (Served serves.PortFault) is opens c no_read no_record no_write no_port no_clock = absurd (no_port c.rose)
  complete_by law whole held held' writes writes' p p' t t' (Served serves.ClockFault) is opens c no_read no_record no_write no_port no_clock = absurd (no_clock c.rose)
  complete_by law whole held held' writes writes' p p' t t' (Served serves.Memory) is opens c no_read no_record no_write no_port no_clock = inr (inl refl)
  complete_by law whole held held' writes writes' p p' t t' (NoRecord at) is opens c no_read no_record no_write no_port no_clock = inr (inr tt)
  complete_by law whole held held' writes writes' p p' t t' (Illegal at) is opens c no_read no_record no_write no_port no_clock = inr (inr tt)
  complete_by law whole held held' writes writes' p p' t t' RecordFault is opens c no_read no_record no_write no_port no_clock = absurd (no_record c.rose)

  -- the service came to this end, which is the exit
  pub keep_ran : (law : OpenedIsNotRefused) (held held' : Option (List ℕ)) (writes writes' : ℕ) (p p' : PortTold) (t t' : ClockTold) (refused : Option RefusedFile) (refusal device_refusal : Cause) (e e' : ErrorsTold) (end : KeepEnd) (exit : Exit) → exit ≡ exit_of_keep end
      → Comes_ held held' writes writes' p p' t t' end
      → Tells e e' exit (keep_words refused refusal device_refusal end)
      → KeepRan told seen may_leave moment left_since failures faults handed returned visits closed given pace misses content file host place wanted quota
      files files' v v' held held' writes writes' p p' t t' refused refusal device_refusal e e' exit
  keep_ran law held held' writes writes' p p' t t' refused refusal device_refusal e e' end exit is c says = record {
    end = end;
    exit_is = is;
    comes = c;
    says = says;
    complete = complete content refl;
  }
    where
      complete : (f : Option (List ℕ)) → content ≡ f → IfSome f (λ whole. OpensSite (site_bytes whole)
          → ¬ (Rose files files') → ¬ (Rose v.faults v'.faults) → ¬ (Rose writes writes') → ¬ (Rose p.faults p'.faults) → ¬ (Rose t.faults t'.faults)
          → (exit ≡ exits.Ok) ⊎ ((exit ≡ exits.Memory) ⊎ IsOfRecord end))
      complete None same = tt
      complete (Some whole) same = λ opens no_read no_record no_write no_port no_clock.
          subst (λ (x : Exit). (x ≡ exits.Ok) ⊎ ((x ≡ exits.Memory) ⊎ IsOfRecord end)) (sym is)
          (complete_by law whole held held' writes writes' p p' t t' end same opens c no_read no_record no_write no_port no_clock)
