-- The writing of a shorter record of a site.
use Rattle.std.proofs.Common.{◌≡◌, ◌⊎◌, inl, inr, ℕ, ◌≤◌, refl, sym, ap, subst, ◌∙◌, arith, le_refl, List, [], Option, Some, None, Result, Ok, Err}
use Rattle.std.specs.Prelude.{IfSome, IfOk, IfErr, OnOk}
use Rattle.ob_io.specs.Faults.{Rose}
use Rattle.ob_io.specs.Told.{Gains-none, IsFront, Sends}
use Rattle.ob_journal.specs.Device.{LeavesOnly, Only}
use Rattle.ob_journal.specs.declared.device.DeviceFault.{DeviceFault}
use Rattle.ob_journal.specs.declared.device.DeviceFault.TheVariants as devices
use Rattle.ob_kept.specs.Compacting.{HasCompactCause, IsUncompacted, LeavesFresh, SaysCompacted}
use Rattle.ob_kept.specs.declared.compacting.Compacted.{Compacted}
use Rattle.ob_kept.specs.declared.fault.CompactFault.{CompactFault}
use Rattle.ob_kept.specs.declared.fault.CompactFault.TheVariants as faults
use Rattle.ob_kept.specs.declared.fault.ReopenFault.TheVariants as reopens
use Rattle.ob_load.specs.Loads.{OpenedIsNotRefused, OpensSite}
use Rattle.ob_record_journal.specs.Writing.{LeavesOld}
use Rattle.ob_site_file.specs.declared.fault.LoadFault.{LoadFault}
use Rattle.ob_site_file.specs.declared.fault.LoadFault.TheVariants as loads
use Rattle.ob_io.specs.declared.cause.Cause.{Cause}
use Rattle.ob_io.specs.declared.cause.RefusedFile.{RefusedFile}
use Rattle.ob_program.specs.Compact.{CompactComes, CompactRan, CompactRose, CompactsDevices, CompactsFile, CompactsInto, EndsWith, IsOfFiles, OpensNone, RoseSoFar, compact_text, end_of_compact, exit_of_compact}
use Rattle.ob_program.specs.Keeping.{ComesBack, OpensRecord, end_of_device}
use Rattle.ob_program.specs.Outside.{DevicesTold}
use Rattle.ob_program.specs.Serving.{Prints, end_of_load}
use Rattle.ob_program.specs.Stdio.{site_bytes}
use Rattle.ob_program.specs.Telling.{ErrorsTold, Tells}
use Rattle.ob_program.specs.Words.{compact_words}
use Rattle.ob_program.specs.declared.compact.CompactEnd.{CompactEnd}
use Rattle.ob_program.specs.declared.compact.CompactEnd.TheVariants.{Written, Taken, Ended}
use Rattle.ob_program.specs.declared.exit.Exit.{Exit}
use Rattle.ob_program.specs.declared.exit.Exit.TheVariants as exits
use Rattle.ob_program.specs.declared.keep.KeepEnd.{KeepEnd}
use Rattle.ob_program.specs.declared.keep.KeepEnd.TheVariants.{Served, NoRecord, Illegal, RecordFault}
use Rattle.ob_program.specs.declared.serve.ServeEnd.TheVariants as serves
use Rattle.ob_program.proofs.KeepLemmas.{not_site}

-- ---- causes

-- the site file was refused
load_rose : (fault : LoadFault) (files files' records records' writes writes' : ℕ) → (fault ≡ loads.Read → Rose files files')
    → CompactRose (Ended (Served (end_of_load fault))) files files' records records' writes writes'
load_rose loads.Read files files' records records' writes writes' read = read refl
load_rose loads.Memory files files' records records' writes writes' read = tt
load_rose (loads.Document refused) files files' records records' writes writes' read = tt
load_rose loads.RootHref files files' records records' writes writes' read = tt
load_rose (loads.Href part) files files' records records' writes writes' read = tt
load_rose (loads.Contract fault) files files' records records' writes writes' read = tt
load_rose (loads.PathTwice path) files files' records records' writes writes' read = tt
load_rose (loads.Rule offence) files files' records records' writes writes' read = tt
load_rose loads.Size files files' records records' writes writes' read = tt

so_far_site : (fault : LoadFault) (files files' records records' failures failures' : ℕ) → (fault ≡ loads.Read → Rose files files')
    → RoseSoFar (Ended (Served (end_of_load fault))) files files' records records' failures failures'
so_far_site fault files files' records records' failures failures' read = load_rose fault files files' records records' 0 0 read

-- a file couldn't be opened
pub opens_none : (fault : DeviceFault) → OpensNone (end_of_device fault)
opens_none devices.Failed = tt
opens_none devices.Memory = tt

pub device_rose : (fault : DeviceFault) (files files' records records' : ℕ) → (fault ≡ devices.Failed → Rose records records')
    → CompactRose (Ended (end_of_device fault)) files files' records records' 0 0
device_rose devices.Failed files files' records records' failed = failed refl
device_rose devices.Memory files files' records records' failed = tt

new_rose : (fault : DeviceFault) (files files' records records' failures failures' : ℕ) → (fault ≡ devices.Failed → Rose records records')
    → RoseSoFar (Ended (end_of_device fault)) files files' records records' failures failures'
new_rose devices.Failed files files' records records' failures failures' failed = inl (failed refl)
new_rose devices.Memory files files' records records' failures failures' failed = tt

-- no record was written, and the new file's device has not failed
fault_rose : (fault : CompactFault) (files files' records records' failures failures' new new' : ℕ) → new ≡ 0 → new' ≡ 0
    → (fault ≡ faults.Reopen reopens.Device → Rose failures failures' ⊎ Rose new new') → (fault ≡ faults.Reopen (reopens.Site loads.Read) → Rose files files')
    → RoseSoFar (end_of_compact fault) files files' records records' failures failures'
fault_rose faults.Taken files files' records records' failures failures' new new' fresh whole failed read = tt
fault_rose (faults.Reopen (reopens.Record place)) files files' records records' failures failures' new new' fresh whole failed read = tt
fault_rose (faults.Reopen (reopens.Illegal entry)) files files' records records' failures failures' new new' fresh whole failed read = tt
fault_rose (faults.Reopen (reopens.Site fault)) files files' records records' failures failures' new new' fresh whole failed read =
    so_far_site fault files files' records records' failures failures' (λ is. read (ap (λ (f : LoadFault). faults.Reopen (reopens.Site f)) is))
fault_rose (faults.Reopen reopens.Device) files files' records records' failures failures' new new' fresh whole failed read =
    elim (failed refl) [
      | inl rose ↦ inr rose
      | inr rose ↦ absurd (omega (arith, rose, fresh, whole))
    ]
fault_rose (faults.Reopen reopens.Memory) files files' records records' failures failures' new new' fresh whole failed read = tt

-- the record's device came back, and hasn't failed
whole_rose : (end : CompactEnd) (files files' files'' opened into records records' failures failures' : ℕ) → failures ≡ 0 → failures' ≡ 0 → files ≤ files' → records ≤ opened → into ≤ records'
    → RoseSoFar end files' files'' opened into failures failures' → CompactRose end files files'' records records' 0 0
whole_rose (Written counts) files files' files'' opened into records records' failures failures' fresh whole later before after rose = tt
whole_rose Taken files files' files'' opened into records records' failures failures' fresh whole later before after rose = tt
whole_rose (Ended (NoRecord place)) files files' files'' opened into records records' failures failures' fresh whole later before after rose = tt
whole_rose (Ended (Illegal entry)) files files' files'' opened into records records' failures failures' fresh whole later before after rose = tt
whole_rose (Ended RecordFault) files files' files'' opened into records records' failures failures' fresh whole later before after rose =
    elim rose [
      | inl rises ↦ omega (arith, rises, before, after)
      | inr fails ↦ absurd (omega (arith, fails, fresh, whole))
    ]
whole_rose (Ended (Served serves.Done)) files files' files'' opened into records records' failures failures' fresh whole later before after rose = rose
whole_rose (Ended (Served (serves.Refused fault))) files files' files'' opened into records records' failures failures' fresh whole later before after rose = tt
whole_rose (Ended (Served serves.ReadFault)) files files' files'' opened into records records' failures failures' fresh whole later before after rose = omega (arith, rose, later)
whole_rose (Ended (Served serves.WriteFault)) files files' files'' opened into records records' failures failures' fresh whole later before after rose = rose
whole_rose (Ended (Served serves.PortFault)) files files' files'' opened into records records' failures failures' fresh whole later before after rose = rose
whole_rose (Ended (Served serves.ClockFault)) files files' files'' opened into records records' failures failures' fresh whole later before after rose = rose
whole_rose (Ended (Served serves.Memory)) files files' files'' opened into records records' failures failures' fresh whole later before after rose = tt

-- nothing was printed
pub unprinted_rose : (end : CompactEnd) (files files' records records' writes writes' : ℕ) → CompactRose end files files' records records' 0 0 → CompactRose end files files' records records' writes writes'
unprinted_rose (Written counts) files files' records records' writes writes' rose = tt
unprinted_rose Taken files files' records records' writes writes' rose = tt
unprinted_rose (Ended (NoRecord place)) files files' records records' writes writes' rose = tt
unprinted_rose (Ended (Illegal entry)) files files' records records' writes writes' rose = tt
unprinted_rose (Ended RecordFault) files files' records records' writes writes' rose = rose
unprinted_rose (Ended (Served serves.Done)) files files' records records' writes writes' rose = rose
unprinted_rose (Ended (Served (serves.Refused fault))) files files' records records' writes writes' rose = tt
unprinted_rose (Ended (Served serves.ReadFault)) files files' records records' writes writes' rose = rose
unprinted_rose (Ended (Served serves.WriteFault)) files files' records records' writes writes' rose = absurd (omega (arith, rose))
unprinted_rose (Ended (Served serves.PortFault)) files files' records records' writes writes' rose = rose
unprinted_rose (Ended (Served serves.ClockFault)) files files' records records' writes writes' rose = rose
unprinted_rose (Ended (Served serves.Memory)) files files' records records' writes writes' rose = tt

-- ---- results

err_is : {a b : CompactEnd} {r : Result Compacted CompactEnd} → r ≡ Err a → r ≡ Err b → a ≡ b
err_is p q = cc

not_ok : {a : CompactEnd} {counts : Compacted} {r : Result Compacted CompactEnd} → r ≡ Err a → r ≡ Ok counts → ⊥
not_ok p q = cc

-- ---- devices

module _ {V : Type 0} (told : Type 0) (seen : V → List ℕ) (may_leave : V → List ℕ → Type 0) (moment : V → ℕ)
    (left_since : V → ℕ → List ℕ → Type 0) (failures : V → ℕ) (content : Option (List ℕ)) where
  abbrev Opens_ : (file : List ℕ) → (v v' : DevicesTold V) → V → Type 0
  Opens_ file v v' device = OpensRecord told seen may_leave moment left_since failures file v v' device

  abbrev Devices_ : (old fresh fresh' : V) → Result Compacted CompactFault → Type 0
  Devices_ old fresh fresh' came = CompactsDevices told seen may_leave moment left_since failures content old fresh fresh' came

  abbrev Into_ : (name : List ℕ) → (files files' : ℕ) → (v v' : DevicesTold V) → (old old' : V) → Result Compacted CompactEnd → Type 0
  Into_ name files files' v v' old old' result = CompactsInto told seen may_leave moment left_since failures content name files files' v v' old old' result

  -- what came of the two devices, clause by clause
  pub devices_came : (old fresh fresh' : V) (came : Result Compacted CompactFault) → (told → IfOk came (λ c. SaysCompacted content (seen old) (seen fresh') c.before c.after))
      → (told → OnOk came (Only (seen fresh') (may_leave fresh'))) → IfErr came (IsUncompacted told content (seen old) (seen fresh)) → IfErr came (LeavesFresh fresh fresh') → Devices_ old fresh fresh' came
  devices_came old fresh fresh' (Ok counts) says durable refused untouched = record { says = says; durable = durable }
  devices_came old fresh fresh' (Err fault) says durable refused untouched = (refused, untouched)

  -- a device that wasn't called
  untouched : (old : V) → ((c : List ℕ) → left_since old (moment old) c → may_leave old c) → LeavesOnly moment left_since old old (may_leave old)
  untouched old only = record { later = le_refl (moment old); each = only; before = λ t c le left. inl left }

  -- the new file couldn't be opened
  pub into_none : (name : List ℕ) (files : ℕ) (v v' : DevicesTold V) (old : V) (fault : DeviceFault) (end : KeepEnd) → ((c : List ℕ) → left_since old (moment old) c → may_leave old c)
      → end ≡ end_of_device fault → v'.given ≡ v.given → v'.returned ≡ v.returned → v.faults ≤ v'.faults → (fault ≡ devices.Failed → Rose v.faults v'.faults)
      → Into_ name files files v v' old old (Err (Ended end))
  into_none name files v v' old fault end only is given returned later failed = record {
    stays = λ t. refl;
    any_moment = λ t. untouched old only;
    comes = inl (fault, ap (λ (e : KeepEnd). Err (Ended e)) is, given, returned);
    rose = subst (λ (e : KeepEnd). RoseSoFar (Ended e) files files v.faults v'.faults (failures old) (failures old)) (sym is)
        (new_rose fault files files v.faults v'.faults (failures old) (failures old) failed);
    files_later = le_refl files;
    later = (inl later, le_refl (failures old));
  }

  -- the end has its cause, where the new file came back
  into_rose : (files files' new new' : ℕ) (v v' : DevicesTold V) (old old' : V) (came : Result Compacted CompactFault) (result : Result Compacted CompactEnd)
      → EndsWith new' came result → new ≡ 0 → HasCompactCause (failures old) (failures old') new new' files files' came → (¬ (new' ≡ 0) → Rose v.faults v'.faults)
      → IfErr result (λ end. RoseSoFar end files files' v.faults v'.faults (failures old) (failures old'))
  into_rose files files' new new' v v' old old' came result ends fresh cause broken =
      elim ends [
        | inl (failed, is) ↦ subst Caused (sym is) (inl (broken failed))
        | inr (whole, what) ↦ elim what [
          | inl (counts, came_is, is) ↦ subst Caused (sym is) tt
          | inr (fault, came_is, is) ↦
              subst Caused (sym is)
              (fault_rose fault files files' v.faults v'.faults (failures old) (failures old') new new' fresh whole
              (λ device. cause.device_failed (came_is ∙ ap (λ (f : CompactFault). Err f) device))
              (λ read. cause.file_failed (came_is ∙ ap (λ (f : CompactFault). Err f) read)))
        ]
      ]
    where
      Caused : Result Compacted CompactEnd → Type 0
      Caused r = IfErr r (λ end. RoseSoFar end files files' v.faults v'.faults (failures old) (failures old'))

  -- it was opened, and came back
  pub into_done : (name : List ℕ) (files files' : ℕ) (v v' opened : DevicesTold V) (old old' device device' : V) (came : Result Compacted CompactFault) (result : Result Compacted CompactEnd)
      → (told → seen old' ≡ seen old) → (told → LeavesOnly moment left_since old old' (may_leave old)) → Opens_ name v opened device → ComesBack opened v' device'
      → Devices_ old device device' came → (told → LeavesOld seen may_leave device device') → HasCompactCause (failures old) (failures old') (failures device) (failures device') files files' came
      → EndsWith (failures device') came result → (¬ (failures device' ≡ 0) → Rose v.faults v'.faults) → (v.faults ≤ v'.faults) ⊎ Rose v.faults v'.faults
      → Into_ name files files' v v' old old' result
  into_done name files files' v v' opened old old' device device' came result stays any_moment opens back made old_file cause ends broken later = record {
    stays = stays;
    any_moment = any_moment;
    comes = inr (opened, device, device', came, opens, back, made, old_file, ends);
    rose = into_rose files files' (failures device) (failures device') v v' old old' came result ends opens.fresh cause broken;
    files_later = cause.files_later;
    later = (later, cause.device_later);
  }

  -- ---- the record's file

  abbrev File_ : (file name : List ℕ) → (files files' : ℕ) → (v v' : DevicesTold V) → Result Compacted CompactEnd → Type 0
  File_ file name files files' v v' result = CompactsFile told seen may_leave moment left_since failures content file name files files' v v' result

  abbrev EndsFile_ : (failed : ℕ) → (came result : Result Compacted CompactEnd) → Type 0
  EndsFile_ failed came result = ((¬ (failed ≡ 0)) × (result ≡ Err (Ended RecordFault))) ⊎ ((failed ≡ 0) × (result ≡ came))

  -- it couldn't be read or opened
  pub file_none : (file name : List ℕ) (files files' : ℕ) (v v' : DevicesTold V) (end : KeepEnd) → OpensNone end → v'.given ≡ v.given → v'.returned ≡ v.returned
      → CompactRose (Ended end) files files' v.faults v'.faults 0 0 → File_ file name files files' v v' (Err (Ended end))
  file_none file name files files' v v' end none given returned rose = record {
    comes = inl (end, none, refl, given, returned);
    rose = rose;
  }

  file_rose : (files f f' : ℕ) (v v' opened into : DevicesTold V) (device device' : V) (came result : Result Compacted CompactEnd) → EndsFile_ (failures device') came result → failures device ≡ 0
      → files ≤ f → v.faults ≤ opened.faults → (failures device' ≡ 0 → into.faults ≤ v'.faults) → (¬ (failures device' ≡ 0) → Rose v.faults v'.faults)
      → IfErr came (λ end. RoseSoFar end f f' opened.faults into.faults (failures device) (failures device'))
      → IfErr result (λ end. CompactRose end files f' v.faults v'.faults 0 0)
  file_rose files f f' v v' opened into device device' came result ends fresh later before after broken rose =
      elim ends [
        | inl (failed, is) ↦ subst Caused (sym is) (broken failed)
        | inr (whole, is) ↦ subst Caused (sym is) (by_came came rose whole)
      ]
    where
      Caused : Result Compacted CompactEnd → Type 0
      Caused r = IfErr r (λ end. CompactRose end files f' v.faults v'.faults 0 0)

      by_came : (r : Result Compacted CompactEnd) → IfErr r (λ end. RoseSoFar end f f' opened.faults into.faults (failures device) (failures device')) → failures device' ≡ 0 → Caused r
      by_came (Ok counts) so_far whole = tt
      by_came (Err end) so_far whole = whole_rose end files f f' opened.faults into.faults v.faults v'.faults (failures device) (failures device') fresh whole later before (after whole) so_far

  -- the count of the record's file, where its device had failed
  broken_rose : (v opened into v' : ℕ) → v ≤ opened → (opened ≤ into) ⊎ Rose opened into → Rose into v' → Rose v v'
  broken_rose v opened into v' before between rose =
      elim between [
        | inl later ↦ omega (arith, before, later, rose)
        | inr rises ↦ omega (arith, before, rises, rose)
      ]

  -- it was opened, and came back; the new file was opened between
  pub file_done : (file name : List ℕ) (other : Option (List ℕ)) (files f f' : ℕ) (v v' opened into : DevicesTold V) (device device' : V) (came result : Result Compacted CompactEnd) → other ≡ content
      → Opens_ file v opened device → CompactsInto told seen may_leave moment left_since failures other name f f' opened into device device' came → ComesBack into v' device'
      → EndsFile_ (failures device') came result → files ≤ f → (failures device' ≡ 0 → into.faults ≤ v'.faults) → (¬ (failures device' ≡ 0) → Rose into.faults v'.faults)
      → File_ file name files f' v v' result
  file_done file name other files f f' v v' opened into device device' came result same opens done back ends later after broken =
      let made : Into_ name f f' opened into device device' came =
      subst (λ (c : Option (List ℕ)). CompactsInto told seen may_leave moment left_since failures c name f f' opened into device device' came) same done in
      record {
        comes = inr (opened, into, device, device', came, f, f', opens, made, back, ends);
        rose = file_rose files f f' v v' opened into device device' came result ends opens.fresh later opens.later after
            (λ no. broken_rose v.faults opened.faults into.faults v'.faults opens.later made.later.0 (broken no)) made.rose;
      }

  -- ---- the line

  module _ (file name : List ℕ) (files files' : ℕ) (v v' : DevicesTold V) where
    abbrev Comes_ : (held held' : Option (List ℕ)) → CompactEnd → Type 0
    Comes_ held held' end = CompactComes told seen may_leave moment left_since failures content file name files files' v v' held held' end

    -- no record was written
    pub comes_none : (held : Option (List ℕ)) (result : Result Compacted CompactEnd) (end : CompactEnd) → result ≡ Err end → File_ file name files files' v v' result → Comes_ held held end
    comes_none held result end is done = record {
      result = result;
      comes = done;
      unwritten = subst (λ (r : Result Compacted CompactEnd). IfErr r (λ e. (e ≡ end) × (held ≡ held))) (sym is) (refl, refl);
      written = subst (λ (r : Result Compacted CompactEnd). IfOk r (λ counts. Prints held held (compact_text counts) (end ≡ Written counts)
          × ((end ≡ Written counts) ⊎ ((end ≡ Ended (Served serves.WriteFault)) ⊎ (end ≡ Ended (Served serves.Memory)))))) (sym is) tt;
    }

    none_rose : (result : Result Compacted CompactEnd) (end : CompactEnd) (writes : ℕ) → result ≡ Err end → IfErr result (λ e. CompactRose e files files' v.faults v'.faults 0 0) → CompactRose end files files' v.faults v'.faults writes writes
    none_rose (Ok counts) end writes is rose = cc
    none_rose (Err e) end writes is rose = unprinted_rose end files files' v.faults v'.faults writes writes (subst (λ (x : CompactEnd). CompactRose x files files' v.faults v'.faults 0 0) (err_is refl is) rose)

    pub file_end_rose : (result : Result Compacted CompactEnd) (end : CompactEnd) (writes : ℕ) → result ≡ Err end → File_ file name files files' v v' result
        → CompactRose end files files' v.faults v'.faults writes writes
    file_end_rose result end writes is done = none_rose result end writes is done.rose

    -- a new record was written, and there was no memory for the line
    pub comes_unprinted : (held : Option (List ℕ)) (result : Result Compacted CompactEnd) (counts : Compacted) → result ≡ Ok counts → File_ file name files files' v v' result
        → Comes_ held held (Ended (Served serves.Memory))
    comes_unprinted held result counts is done = record {
      result = result;
      comes = done;
      unwritten = subst (λ (r : Result Compacted CompactEnd). IfErr r (λ e. (e ≡ Ended (Served serves.Memory)) × (held ≡ held))) (sym is) tt;
      written = subst (λ (r : Result Compacted CompactEnd). IfOk r (λ c. Prints held held (compact_text c) (Ended (Served serves.Memory) ≡ Written c)
          × ((Ended (Served serves.Memory) ≡ Written c) ⊎ ((Ended (Served serves.Memory) ≡ Ended (Served serves.WriteFault)) ⊎ (Ended (Served serves.Memory) ≡ Ended (Served serves.Memory)))))) (sym is)
          (record { text = []; printed = Gains-none held; front = (compact_text counts, refl); all = λ (no : Ended (Served serves.Memory) ≡ Written counts). absurd (cc no) }, inr (inr refl));
    }

    -- and it was printed, or a front of it
    pub comes_printed : {T E : Type 0} (held held' : Option (List ℕ)) (result : Result Compacted CompactEnd) (counts : Compacted) (text : List ℕ) (sent : Result T E) (value : T) → result ≡ Ok counts
        → text ≡ compact_text counts → sent ≡ Ok value → Sends held held' sent text → File_ file name files files' v v' result → Comes_ held held' (Written counts)
    comes_printed held held' result counts text sent value is says sent_is sends done = record {
      result = result;
      comes = done;
      unwritten = subst (λ (r : Result Compacted CompactEnd). IfErr r (λ e. (e ≡ Written counts) × (held' ≡ held))) (sym is) tt;
      written = subst (λ (r : Result Compacted CompactEnd). IfOk r (λ c. Prints held held' (compact_text c) (Written counts ≡ Written c)
          × ((Written counts ≡ Written c) ⊎ ((Written counts ≡ Ended (Served serves.WriteFault)) ⊎ (Written counts ≡ Ended (Served serves.Memory)))))) (sym is)
          (record { text = sends.sent; printed = sends.gained; front = subst (λ (t : List ℕ). IsFront sends.sent t) says sends.front; all = λ same. on_ok sent value sent_is sends.whole ∙ says }, inl refl);
    }
      where
        on_ok : {T E : Type 0} {P : Type 0} (r : Result T E) (x : T) → r ≡ Ok x → OnOk r P → P
        on_ok (Ok y) x e h = h
        on_ok (Err y) x e h = cc

    pub comes_cut : {T E : Type 0} (held held' : Option (List ℕ)) (result : Result Compacted CompactEnd) (counts : Compacted) (text : List ℕ) (sent : Result T E) → result ≡ Ok counts
        → text ≡ compact_text counts → Sends held held' sent text → File_ file name files files' v v' result → Comes_ held held' (Ended (Served serves.WriteFault))
    comes_cut held held' result counts text sent is says sends done = record {
      result = result;
      comes = done;
      unwritten = subst (λ (r : Result Compacted CompactEnd). IfErr r (λ e. (e ≡ Ended (Served serves.WriteFault)) × (held' ≡ held))) (sym is) tt;
      written = subst (λ (r : Result Compacted CompactEnd). IfOk r (λ c. Prints held held' (compact_text c) (Ended (Served serves.WriteFault) ≡ Written c)
          × ((Ended (Served serves.WriteFault) ≡ Written c) ⊎ ((Ended (Served serves.WriteFault) ≡ Ended (Served serves.WriteFault)) ⊎ (Ended (Served serves.WriteFault) ≡ Ended (Served serves.Memory)))))) (sym is)
          (record { text = sends.sent; printed = sends.gained; front = subst (λ (t : List ℕ). IsFront sends.sent t) says sends.front; all = λ (no : Ended (Served serves.WriteFault) ≡ Written counts). absurd (cc no) }, inr (inl refl));
    }

    -- ---- completeness

    device_refuses_none : (fault : LoadFault) (why : DeviceFault) → Ended (Served (serves.Refused fault)) ≡ Ended (end_of_device why) → ⊥
    device_refuses_none fault devices.Failed same = cc
    device_refuses_none fault devices.Memory same = cc

    none_opened : (fault : LoadFault) (end : KeepEnd) → Ended (Served (serves.Refused fault)) ≡ Ended end → OpensNone end → ⊥
    none_opened fault end same none = subst (λ (e : CompactEnd). Opens e) (sym same) none
      where
        Opens : CompactEnd → Type 0
        Opens (Ended e) = OpensNone e
        Opens _ = ⊥

    -- a site file that opens a site isn't what is refused
    unrefused_devices : (law : OpenedIsNotRefused) (whole : List ℕ) (old fresh : V) (fault : LoadFault) (why : CompactFault) → content ≡ Some whole → OpensSite (site_bytes whole)
        → Ended (Served (serves.Refused fault)) ≡ end_of_compact why → IsUncompacted told content (seen old) (seen fresh) why → ⊥
    unrefused_devices law whole old fresh fault faults.Taken is opens same refuses = cc
    unrefused_devices law whole old fresh fault (faults.Reopen why) is opens same refuses = not_site told content law whole (seen old) 0 fault why is opens (ended_is same) refuses
      where
        ended_is : {a b : KeepEnd} → Ended a ≡ Ended b → a ≡ b
        ended_is e = cc

    unrefused_into : (law : OpenedIsNotRefused) (whole : List ℕ) (f f' : ℕ) (u u' : DevicesTold V) (old old' : V) (fault : LoadFault) (result : Result Compacted CompactEnd) → content ≡ Some whole
        → OpensSite (site_bytes whole) → result ≡ Err (Ended (Served (serves.Refused fault))) → Into_ name f f' u u' old old' result → ⊥
    unrefused_into law whole f f' u u' old old' fault result is opens end_is into =
        elim into.comes [
          | inl (why, came_is, given, returned) ↦ device_refuses_none fault why (err_is end_is came_is)
          | inr (opened, device, device', came, opens_it, back, made, old_file, ends) ↦ elim ends [
            | inl (failed, came_is) ↦ (let no : Ended (Served (serves.Refused fault)) ≡ Ended RecordFault = err_is end_is came_is in absurd (cc))
            | inr (good, what) ↦ elim what [
              | inl (counts, came_is, ok_is) ↦ not_ok end_is ok_is
              | inr (why, came_is, why_is) ↦
                  unrefused_devices law whole old device fault why is opens (err_is end_is why_is)
                  (subst (λ (r : Result Compacted CompactFault). Devices_ old device device' r) came_is made).0
            ]
          ]
        ]

    unrefused_file : (law : OpenedIsNotRefused) (whole : List ℕ) (fault : LoadFault) (result : Result Compacted CompactEnd) → content ≡ Some whole → OpensSite (site_bytes whole)
        → result ≡ Err (Ended (Served (serves.Refused fault))) → File_ file name files files' v v' result → ⊥
    unrefused_file law whole fault result is opens end_is done =
        elim done.comes [
          | inl (end, none, came_is, given, returned) ↦ none_opened fault end (err_is end_is came_is) none
          | inr (opened, into, device, device', came, f, f', opens_it, made, back, ends) ↦ elim ends [
            | inl (failed, came_is) ↦ (let no : Ended (Served (serves.Refused fault)) ≡ Ended RecordFault = err_is end_is came_is in absurd (cc))
            | inr (good, came_is) ↦ unrefused_into law whole f f' opened into device device' fault came is opens (sym came_is ∙ end_is) made
          ]
        ]

    -- what is told as the end where none was written is the end
    unwritten_end : (held held' : Option (List ℕ)) (end : CompactEnd) (result : Result Compacted CompactEnd) → IfErr result (λ e. (e ≡ end) × (held' ≡ held))
        → IfOk result (λ counts. Prints held held' (compact_text counts) (end ≡ Written counts)
        × ((end ≡ Written counts) ⊎ ((end ≡ Ended (Served serves.WriteFault)) ⊎ (end ≡ Ended (Served serves.Memory)))))
        → (fault : LoadFault) → end ≡ Ended (Served (serves.Refused fault)) → result ≡ Err end
    unwritten_end held held' end (Err e) unwritten written fault is = ap (λ (x : CompactEnd). Err x) unwritten.0
    unwritten_end held held' end (Ok counts) unwritten written fault is =
        elim written.1 [
          | inl same ↦ (let no : Ended (Served (serves.Refused fault)) ≡ Written counts = sym is ∙ same in absurd (cc))
          | inr (inl same) ↦ (let no : Ended (Served (serves.Refused fault)) ≡ Ended (Served serves.WriteFault) = sym is ∙ same in absurd (cc))
          | inr (inr same) ↦ (let no : Ended (Served (serves.Refused fault)) ≡ Ended (Served serves.Memory) = sym is ∙ same in absurd (cc))
        ]

    unrefused : (law : OpenedIsNotRefused) (whole : List ℕ) (held held' : Option (List ℕ)) (fault : LoadFault) → content ≡ Some whole → OpensSite (site_bytes whole)
        → Comes_ held held' (Ended (Served (serves.Refused fault))) → ⊥
    unrefused law whole held held' fault is opens c =
        unrefused_file law whole fault c.result is opens (unwritten_end held held' (Ended (Served (serves.Refused fault))) c.result c.unwritten c.written fault refl) c.comes

    abbrev Good : CompactEnd → Type 0
    Good end = (exit_of_compact end ≡ exits.Ok) ⊎ ((exit_of_compact end ≡ exits.Memory) ⊎ IsOfFiles end)

    complete_by : (law : OpenedIsNotRefused) (whole : List ℕ) (held held' : Option (List ℕ)) (writes writes' : ℕ) (end : CompactEnd) → content ≡ Some whole → OpensSite (site_bytes whole)
        → Comes_ held held' end → CompactRose end files files' v.faults v'.faults writes writes'
        → ¬ (Rose files files') → ¬ (Rose v.faults v'.faults) → ¬ (Rose writes writes') → Good end
    complete_by law whole held held' writes writes' (Written counts) is opens c rose no_read no_record no_write = inl refl
    complete_by law whole held held' writes writes' Taken is opens c rose no_read no_record no_write = inr (inr tt)
    complete_by law whole held held' writes writes' (Ended (NoRecord place)) is opens c rose no_read no_record no_write = inr (inr tt)
    complete_by law whole held held' writes writes' (Ended (Illegal entry)) is opens c rose no_read no_record no_write = inr (inr tt)
    complete_by law whole held held' writes writes' (Ended RecordFault) is opens c rose no_read no_record no_write = absurd (no_record rose)
    complete_by law whole held held' writes writes' (Ended (Served serves.Done)) is opens c rose no_read no_record no_write = absurd rose
    complete_by law whole held held' writes writes' (Ended (Served (serves.Refused fault))) is opens c rose no_read no_record no_write = absurd (unrefused law whole held held' fault is opens c)
    complete_by law whole held held' writes writes' (Ended (Served serves.ReadFault)) is opens c rose no_read no_record no_write = absurd (no_read rose)
    complete_by law whole held held' writes writes' (Ended (Served serves.WriteFault)) is opens c rose no_read no_record no_write = absurd (no_write rose)
    complete_by law whole held held' writes writes' (Ended (Served serves.PortFault)) is opens c rose no_read no_record no_write = absurd rose
    complete_by law whole held held' writes writes' (Ended (Served serves.ClockFault)) is opens c rose no_read no_record no_write = absurd rose
    complete_by law whole held held' writes writes' (Ended (Served serves.Memory)) is opens c rose no_read no_record no_write = inr (inl refl)

    -- the writing came to this end, which is the exit
    pub compact_ran : (law : OpenedIsNotRefused) (held held' : Option (List ℕ)) (writes writes' : ℕ) (refused : Option RefusedFile) (device_refusal : Cause) (e e' : ErrorsTold) (end : CompactEnd) (exit : Exit) → exit ≡ exit_of_compact end
        → Comes_ held held' end → CompactRose end files files' v.faults v'.faults writes writes' → Tells e e' exit (compact_words refused device_refusal end)
        → CompactRan told seen may_leave moment left_since failures content file name files files' v v' held held' writes writes' refused device_refusal e e' exit
    compact_ran law held held' writes writes' refused device_refusal e e' end exit is c rose says = record {
      end = end;
      exit_is = is;
      comes = c;
      rose = rose;
      says = says;
      complete = complete content refl;
    }
      where
        complete : (f : Option (List ℕ)) → content ≡ f → IfSome f (λ whole. OpensSite (site_bytes whole)
            → ¬ (Rose files files') → ¬ (Rose v.faults v'.faults) → ¬ (Rose writes writes')
            → (exit ≡ exits.Ok) ⊎ ((exit ≡ exits.Memory) ⊎ IsOfFiles end))
        complete None same = tt
        complete (Some whole) same = λ opens no_read no_record no_write.
            subst (λ (x : Exit). (x ≡ exits.Ok) ⊎ ((x ≡ exits.Memory) ⊎ IsOfFiles end)) (sym is)
            (complete_by law whole held held' writes writes' end same opens c rose no_read no_record no_write)
