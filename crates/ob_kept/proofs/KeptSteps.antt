-- A step of a site that is kept, and what it leaves told of its device.
use Rattle.std.proofs.Common.{◌≡◌, ◌≢◌, ◌⊎◌, inl, inr, ⊎_elim, ℕ, ◌+◌, ◌≤◌, Bool, true, false, List, [], ◌∷◌, ◌++◌, None, refl, sym, ◌∙◌, ap, subst, arith}
use Rattle.ob_encoding.specs.Canonical.{canonical_text}
use Rattle.ob_journal.specs.Journal.{IsBeforeOrAfter}
use Rattle.ob_machine.specs.History.{entry}
use Rattle.ob_machine.specs.declared.call.Answer.TheVariants.{Done}
use Rattle.ob_object.specs.Object.{Object}
use Rattle.ob_record.specs.Blocks.{IsBlock}
use Rattle.ob_record.specs.Runs.{IsEntry}
use Rattle.ob_record.specs.declared.run.Entry.{Entry}
use Rattle.ob_record.specs.declared.run.Told.TheVariants.{Reply}
use Rattle.ob_record_journal.specs.Runs.{run_blocks}
use Rattle.ob_values.specs.declared.verb.Verb.TheVariants.{Get}
use Rattle.ob_watching.specs.Operations.{Itself, NewWatch}
use Rattle.ob_watching.specs.Watches.{last_number, acted, begun}
use Rattle.ob_lasting.proofs.Replaying.{leaves_site}
use Rattle.ob_site.specs.Keeping.{stepping, KeepsNothing, Keeps, MayKeep}
use Rattle.ob_site_laws.specs.SiteLaws.{acts, of_plan, IsSoundSite}
use Rattle.ob_site_laws.proofs.SiteHistories.{stays}
use Rattle.ob_site_lasting.specs.SiteLasting.{IsSiteRestartOf}
use Rattle.ob_site_rules.specs.declared.request.Request.{Request}
use Rattle.ob_site_rules.specs.Entries.{empty_object}
use Rattle.ob_site_rules.specs.Sites.{SiteState}
use Rattle.ob_kept.specs.declared.recorder.Recorder.{Recorder}
use Rattle.ob_kept.specs.Keeping.{LeavesOf, LeavesOneOf, LeavesMore, IsAtRestAt, IsRecoverable}
use Rattle.ob_kept.specs.Recording.{entry_of, next_block, numbers_entry, Appended, MayHaveAppended, HasNoRoom, HasKept, MayHaveKept}
use Rattle.ob_kept.specs.Redone.{kept_reply, more_numbers, numbers_noted, redone}
use Rattle.ob_kept.proofs.Growing.{keeping}
use Rattle.ob_kept.proofs.Redoing.{more_restart, still_restart, time_of, redone_restart, redone_reply, redone_next}
use Rattle.ob_kept.proofs.Steps.{one_more, last_one, led, file_now, rest_of, leaves_either, rest_later}

module _ {D : Type 0} (told : Type 0) (seen : D → List ℕ) (may_leave : D → List ℕ → Type 0) (moment : D → ℕ) (left_since : D → ℕ → List ℕ → Type 0)
    (counts_now : (device : D) (t : ℕ) (c : List ℕ) → t ≤ moment device → may_leave device c → left_since device t c)
    (opening : SiteState) (since : ℕ) where
  -- what is told of the device of a recorder
  abbrev pub Told : List SiteState → SiteState → Recorder D → Type 0
  Told past now k =
      IsRecoverable seen may_leave moment left_since (keeping k.boot opening since past now k.journal.end k.next k.begun) k.journal.device k.failed

  pub told_as : (l : Recorder D) (a b : List SiteState) (st u : SiteState) → a ≡ b → st ≡ u → Told b u l → Told a st l
  told_as l a b st u e f h = subst (λ (x : List SiteState). Told x st l) (sym e) (subst (λ (x : SiteState). Told b x l) (sym f) h)

  module _ (past : List SiteState) (now : SiteState) (k : Recorder D) (alive : k.failed ≡ false) (h : Told past now k) (is_told : told) where
    abbrev rest : IsAtRestAt seen may_leave moment left_since k.boot opening now k.journal.device k.journal.end k.next k.begun
    rest = h.rest alive

    abbrev from : SiteState
    from = led seen may_leave moment left_since k.boot opening now k.journal.device k.journal.end k.next k.begun rest

    abbrev Leaves : List ℕ → SiteState → Type 0
    Leaves c st = LeavesOf k.boot opening c st

    was_one : (c : List ℕ) → left_since k.journal.device since c → LeavesOneOf k.boot opening c (past ++ now ∷ [])
    was_one c was = ⊎_elim (λ one. one) (λ more. absurd (cc (more.0, alive))) (h.crash c was)

    -- nothing was kept, and the site may go on from its new state as it may from the old one
    kept_nothing : (later : SiteState) → IsSiteRestartOf later from → Told (past ++ now ∷ []) later k
    kept_nothing later restart =
        let again = rest_of seen may_leave moment left_since k.boot opening now k.journal.device k.journal.end k.next k.begun rest later restart in
        record {
          later = h.later;
          crash = λ c was. inl (one_more k.boot opening c (past ++ now ∷ []) (later ∷ []) (was_one c was));
          file = λ c may. inl (file_now seen may_leave moment left_since k.boot opening later k.journal.device k.journal.end k.next k.begun again c may);
          rest = λ _. again;
        }

    -- an entry was kept, and the site is in a new state or in the same one
    module _ (l : Recorder D) (e : Entry) (reply : Object) (told_is : e.reply ≡ Reply (canonical_text None reply)) (is : reply ≡ (redone from e.request e.moment).1)
        (later : SiteState) (restart : IsSiteRestartOf later (redone from e.request e.moment).0) where
      either : (valid : IsEntry e) → (c : List ℕ) → IsBeforeOrAfter IsBlock (run_blocks k.boot rest.entries) (next_block k e) c → Leaves c now ⊎ Leaves c later
      either valid = leaves_either seen may_leave moment left_since k.boot opening now k.journal.device k.journal.end k.next k.begun rest e valid reply told_is is later restart

      entry_kept : (states : List SiteState) → ((c : List ℕ) → LeavesOneOf k.boot opening c (past ++ now ∷ []) → LeavesOneOf k.boot opening c (states ++ later ∷ []))
          → (next : ℕ) → Appended told seen may_leave moment left_since k l e next → (redone from e.request e.moment).0.world.next ≡ next → Told states later l
      entry_kept states more next done next_is =
          let leaves = done.leaves is_told (run_blocks k.boot rest.entries) rest.settled in
          let again = rest_later seen may_leave moment left_since k.boot opening now k.journal.device k.journal.end k.next k.begun rest e done.valid reply told_is is later restart
          l.journal.device l.journal.end next (done.settled is_told (run_blocks k.boot rest.entries) rest.settled) next_is in
          let at : IsAtRestAt seen may_leave moment left_since k.boot opening later l.journal.device l.journal.end l.next l.begun =
          subst (λ (n : ℕ). IsAtRestAt seen may_leave moment left_since k.boot opening later l.journal.device l.journal.end n l.begun) (sym done.next_is)
          (subst (λ (b : Bool). IsAtRestAt seen may_leave moment left_since k.boot opening later l.journal.device l.journal.end next b) (sym done.begun) again) in
          let early = h.later in
          let on = leaves.later in
          subst (λ (boot : ℕ). IsRecoverable seen may_leave moment left_since (keeping boot opening since states later l.journal.end l.next l.begun) l.journal.device l.failed) (sym done.boot)
          (record {
            later = omega (arith, early, on);
            crash = λ c was. inl (⊎_elim
                (λ earlier. more c (was_one c earlier))
                (λ now_or. ⊎_elim (λ here. more c (last_one k.boot opening c past now here)) (λ there. last_one k.boot opening c states later there) (either done.valid c now_or))
                (leaves.before since c h.later was));
            file = λ c may. inl (file_now seen may_leave moment left_since k.boot opening later l.journal.device l.journal.end l.next l.begun at c may);
            rest = λ _. at;
          })

      -- a call of the device has failed, and the site is as it was
      entry_lost : (r : Request) (time : ℕ) → later ≡ (acts now r time).0 → MayHaveAppended told seen may_leave moment left_since k l e → Told past now l
      entry_lost r time later_is lost =
          let leaves = lost.leaves is_told (run_blocks k.boot rest.entries) rest.settled in
          let early = h.later in
          let on = leaves.later in
          let more : (c : List ℕ) → Leaves c later → (l.failed ≡ true) × LeavesMore k.boot opening c now =
          λ c there. (lost.failed, (r, time, subst (λ (st : SiteState). LeavesOf k.boot opening c st) later_is there)) in
          subst (λ (boot : ℕ). IsRecoverable seen may_leave moment left_since (keeping boot opening since past now l.journal.end l.next l.begun) l.journal.device l.failed) (sym lost.boot)
          (record {
            later = omega (arith, early, on);
            crash = λ c was. ⊎_elim
                (λ earlier. inl (was_one c earlier))
                (λ now_or. ⊎_elim (λ here. inl (last_one k.boot opening c past now here)) (λ there. inr (more c there)) (either lost.valid c now_or))
                (leaves.before since c h.later was);
            file = λ c may. ⊎_elim (λ here. inl here) (λ there. inr (more c there))
                (either lost.valid c (leaves.each c (counts_now l.journal.device (moment k.journal.device) c on may)));
            rest = λ no. absurd (cc (no, lost.failed));
          })

    -- ---- a step

    module _ (l : Recorder D) (r : Request) (asked : ℕ) (sound : IsSoundSite now) where
      abbrev left : SiteState
      left = (acts now r asked).0

      later_time : now.world.time ≤ left.world.time
      later_time = let t = time_of now r asked in omega (arith, t)

      nothing_restart : KeepsNothing (λ (x : Recorder D). x.next) (HasKept told seen may_leave moment left_since) k l (stepping now r asked) → IsSiteRestartOf left from
      nothing_restart none =
          let was = rest.restart.world.next in
          let next_is = rest.next_is in
          still_restart now left from rest.restart refl none.site (⊎_elim (λ same. omega (arith, same, was)) (λ few. omega (arith, few, next_is)) none.next) later_time

      module _ (itself : (of_plan now.plan).target r ≡ Itself) (other : r.verb ≢ Get) where
        few : left.world.next ≤ k.next
        few =
            let was = rest.restart.world.next in
            let next_is = rest.next_is in
            let same : left.world.next ≡ now.world.next = ap (λ t. (acted (of_plan now.plan) (begun (of_plan now.plan) now.world asked) r t).0.next) itself in
            omega (arith, was, next_is, same)

        -- the time of the entry is that of the step
        request_restart : IsSiteRestartOf left (redone from r left.world.time).0
        request_restart = subst (λ (t : ℕ). IsSiteRestartOf left (redone from r t).0) (sym (time_of now r asked)) (redone_restart now from rest.restart r asked itself other)

        request_reply : kept_reply r (acts now r asked).1 ≡ (redone from r left.world.time).1
        request_reply = redone_reply now from rest.restart r asked itself other ∙ ap (λ (t : ℕ). (redone from r t).1) (sym (time_of now r asked))

        request_next : (redone from r left.world.time).0.world.next ≡ k.next
        request_next = ap (λ (t : ℕ). (redone from r t).0.world.next) (time_of now r asked) ∙ redone_next now from rest.restart r asked itself other ∙ rest.next_is

      module _ (make : (of_plan now.plan).target r ≡ NewWatch) (made : left.world.next ≡ now.world.next + 1) where
        numbers_is : (numbers_noted from).world.next ≡ more_numbers k.next
        numbers_is = let room = rest.restart.world.room in (let less : (numbers_noted from).world.next ≡ more_numbers from.world.next = omega (arith, room) in less) ∙ ap more_numbers rest.next_is

        site_stays : left.world.site ≡ now.world.site
        site_stays = leaves_site (of_plan now.plan) now.world sound.of_watches r asked (λ itself. absurd (cc (itself, make)))

        made_restart : IsSiteRestartOf left (numbers_noted from)
        made_restart =
            let was = rest.restart.world.next in
            let room : left.world.next ≤ last_number + 1 = (stays now sound (entry 0 r asked (Done (acts now r asked).1) ∷ [])).1.of_watches.next in
            still_restart now left (numbers_noted from) (more_restart now from rest.restart) refl site_stays (omega (arith, was, made, room)) later_time

      -- a step that was done
      pub step_done : Keeps (λ (x : Recorder D). x.next) (HasKept told seen may_leave moment left_since) k l (stepping now r asked) → Told (past ++ now ∷ []) left l
      step_done (inl none) = subst (λ (x : Recorder D). Told (past ++ now ∷ []) left x) (sym none.keeper) (kept_nothing left (nothing_restart none))
      step_done (inr (inl kept)) =
          entry_kept l (entry_of r left.world.time (acts now r asked).1) (kept_reply r (acts now r asked).1) refl (request_reply kept.target kept.verb) left (request_restart kept.target kept.verb)
          (past ++ now ∷ []) (λ c one. one_more k.boot opening c (past ++ now ∷ []) (left ∷ []) one) k.next (kept.kept.request (few kept.target kept.verb)) (request_next kept.target kept.verb)
      step_done (inr (inr kept)) =
          let beyond = kept.beyond in
          let made = kept.made in
          entry_kept l (numbers_entry left.world.time) empty_object refl refl left (made_restart kept.target kept.made)
          (past ++ now ∷ []) (λ c one. one_more k.boot opening c (past ++ now ∷ []) (left ∷ []) one) (more_numbers k.next) (kept.kept.numbers (omega (arith, beyond, made))) (numbers_is kept.target kept.made)

      -- where the file had no room nothing was done but a note
      no_room : (e : Entry) → HasNoRoom told seen may_leave moment left_since k l e → Told past now l
      no_room e none = subst (λ (x : Recorder D). Told past now x) (sym none.noted) h

      -- and one that was not
      pub step_refused : MayKeep (λ (x : Recorder D). x.next) (MayHaveKept told seen may_leave moment left_since) k l (stepping now r asked) → Told past now l
      step_refused (inl same) = subst (λ (x : Recorder D). Told past now x) (sym same) h
      step_refused (inr (inl kept)) =
          let e = entry_of r left.world.time (acts now r asked).1 in
          ⊎_elim (λ same. subst (λ (x : Recorder D). Told past now x) (sym same) h)
          (⊎_elim (no_room e)
          (λ lost. entry_lost l e (kept_reply r (acts now r asked).1) refl (request_reply kept.target kept.verb) left (request_restart kept.target kept.verb) r asked refl lost))
          (kept.kept.request (few kept.target kept.verb))
      step_refused (inr (inr kept)) =
          let beyond = kept.beyond in
          let made = kept.made in
          let e = numbers_entry left.world.time in
          ⊎_elim (λ same. subst (λ (x : Recorder D). Told past now x) (sym same) h)
          (⊎_elim (no_room e) (λ lost. entry_lost l e empty_object refl refl left (made_restart kept.target kept.made) r asked refl lost))
          (kept.kept.numbers (omega (arith, beyond, made)))
