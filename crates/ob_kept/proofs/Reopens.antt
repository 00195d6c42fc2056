-- A site that is opened with its record.
use Rattle.std.proofs.Common.{◌≡◌, inl, inr, ⊎_elim, ℕ, ◌+◌, ◌≤◌, max, Bool, List, [], ◌∷◌, length, Option, Some, None, refl, sym, ◌∙◌, ap, subst, arith, le_refl}
use Rattle.std.specs.Prelude.{Ok, IfSome}
use Rattle.ob_journal.specs.Device.{LeavesOnly, Only}
use Rattle.ob_journal.specs.Journal.{Says, IsSettled, front}
use Rattle.ob_object.specs.Object.{Object}
use Rattle.ob_load.specs.Loads.{IsSite}
use Rattle.ob_site_rules.specs.Opening.{opening}
use Rattle.ob_step_laws.proofs.Begins.{begins}
use Rattle.ob_record.specs.Blocks.{IsBlock}
use Rattle.ob_record.specs.Legal.{left_by_told, left_by_entry, after_entries}
use Rattle.ob_record.specs.declared.run.Entry.{Entry}
use Rattle.ob_record.specs.declared.run.Told.{Told}
use Rattle.ob_record.specs.declared.run.Told.TheVariants.{Reply, NoMemory}
use Rattle.ob_record_journal.specs.Runs.{run_blocks}
use Rattle.ob_values.specs.declared.verb.Verb.{Verb}
use Rattle.ob_values.specs.declared.verb.Verb.TheVariants.{Get, Put, Post}
use Rattle.ob_watching.specs.Watches.{last_number}
use Rattle.ob_site.specs.Views.{without_watches}
use Rattle.ob_site_rules.specs.declared.request.Request.{Request}
use Rattle.ob_site_rules.specs.Sites.{SiteState}
use Rattle.ob_site_laws.specs.SiteLaws.{IsSoundSite}
use Rattle.ob_site_lasting.specs.SiteLasting.{IsSiteRestartOf}
use Rattle.ob_kept.specs.Keeping.{Keeping, LeavesOf, IsAtRestAt}
use Rattle.ob_kept.specs.Redone.{redone_as, redone}
use Rattle.ob_kept.specs.Reopening.{starting, site_bytes, IsOpenedAt, Redoes, KeepsOn, Reopens}
use Rattle.ob_kept.proofs.Steps.{file_now}

-- ---- no watch stands

verb_bare : (verb : Verb) (s : SiteState) (r : Request) (time : ℕ) → (redone_as verb s r time).0.world.watches ≡ []
verb_bare Get s r time = refl
verb_bare Put s r time = refl
verb_bare Post s r time = refl

told_bare : (told : Told) (s : SiteState) (r : Request) (time : ℕ) → s.world.watches ≡ [] → (left_by_told redone s r time told).world.watches ≡ []
told_bare (Reply bytes) s r time none = verb_bare r.verb s r time
told_bare NoMemory s r time none = none

pub after_bare : (s : SiteState) (es : List Entry) → s.world.watches ≡ [] → (after_entries redone s es).world.watches ≡ []
after_bare s [] none = none
after_bare s (e ∷ es) none = after_bare (left_by_entry redone s e) es (told_bare e.reply s e.request e.moment none)

-- what a document opens has none
bare_opened : (root : Object) (boot : ℕ) (st : SiteState) → opening root boot ≡ Ok st → st.world.watches ≡ []
bare_opened root boot st opens = ap (λ (x : SiteState). x.world.watches) (sym (begins root boot st opens).opens.is)

same_bare : (st : SiteState) → st.world.watches ≡ [] → without_watches st 0 ≡ st
same_bare st none =
    ap (λ (n : ℕ). let s : SiteState = record { plan = st.plan; world = record { time = st.world.time; site = st.world.site; watches = []; next = n } } in s) (let least : max st.world.next 0 ≡ st.world.next = omega arith in least)
    ∙ ap (λ ws. let s : SiteState = record { plan = st.plan; world = record { time = st.world.time; site = st.world.site; watches = ws; next = st.world.next } } in s) (sym none)

-- so dropping them changes nothing of it
pub opened_bare : (content : Option (List ℕ)) (boot : ℕ) (ns : Option (List ℕ)) (st : SiteState)
    → IfSome content (λ whole. IsSite (site_bytes whole) boot ns st) → IfSome content (λ whole. IsSite (site_bytes whole) boot ns (without_watches st 0))
opened_bare None boot ns st opened = tt
opened_bare (Some whole) boot ns st opened =
    subst (λ (s : SiteState). IsSite (site_bytes whole) boot ns s) (sym (same_bare st (bare_opened opened.0 boot st opened.1.1))) opened

-- dropped, it is the site that was opened
pub opened_at : (content : Option (List ℕ)) (boot : ℕ) (ns : Option (List ℕ)) (st left : SiteState) → IfSome content (λ whole. IsSite (site_bytes whole) boot ns st) → left ≡ without_watches st 0 → IsSoundSite left
    → IsOpenedAt content boot ns left
opened_at content boot ns st left opened left_is sound = record {
  opened = subst (λ (s : SiteState). IfSome content (λ whole. IsSite (site_bytes whole) boot ns s)) (sym left_is) (opened_bare content boot ns st opened);
  bare = ap (λ (s : SiteState). s.world.watches) left_is;
  sound = sound;
}

-- ---- the record is made ready

pub itself : (now : SiteState) → now.world.watches ≡ [] → now.world.next ≤ last_number + 1 → IsSiteRestartOf now now
itself now none room = record { plan = refl; world = record { site = refl; watches = none; next = le_refl now.world.next; room = room; time = le_refl now.world.time } }

module _ {D : Type 0} (seen : D → List ℕ) (may_leave : D → List ℕ → Type 0) (moment : D → ℕ) (left_since : D → ℕ → List ℕ → Type 0)
    (old mid new : D) (given boot : ℕ) (opening now : SiteState) (begun : Bool)
    (durable : Only (seen old) (may_leave old)) (read : LeavesOnly moment left_since old mid (may_leave old))
    (redoes : Redoes (seen old) given boot opening now begun) (bare : opening.world.watches ≡ []) (room : now.world.next ≤ last_number + 1) where
  abbrev blocks : List (List ℕ)
  blocks = run_blocks boot redoes.entries

  now_bare : now.world.watches ≡ []
  now_bare = ap (λ (st : SiteState). st.world.watches) redoes.now_is ∙ after_bare opening redoes.entries bare

  leaves_said : (c : List ℕ) → Says IsBlock c blocks → LeavesOf boot opening c now
  leaves_said c says = (
    now,
    record { entries = redoes.entries; says = record { valid = redoes.says.valid; blocks = says }; legal = redoes.legal; left_is = redoes.now_is },
    itself now now_bare room,
  )

  pub keeps_on : (end : ℕ) → IsSettled IsBlock seen may_leave blocks new end → LeavesOnly moment left_since mid new (λ c. Says IsBlock c blocks)
      → KeepsOn seen may_leave moment left_since (moment old) boot opening now new end begun
  keeps_on end settled repaired =
      let first = read.later in
      let second = repaired.later in
      let at : IsAtRestAt seen may_leave moment left_since boot opening now new end now.world.next begun = record {
        entries = redoes.entries;
        valid = redoes.says.valid;
        settled = settled;
        legal = redoes.legal;
        restart = subst (λ (st : SiteState). IsSiteRestartOf now st) redoes.now_is (itself now now_bare room);
        next_is = ap (λ (st : SiteState). st.world.next) (sym redoes.now_is);
        begun_is = redoes.unbegun;
        some = redoes.some;
      } in
      record {
        later = omega (arith, first, second);
        crash = λ c was. inl (inl (⊎_elim
            (λ earlier. leaves_said c (subst (λ (f : List ℕ). Says IsBlock f blocks) (sym (durable c (read.each c earlier))) redoes.says.blocks))
            (λ says. leaves_said c says)
            (repaired.before (moment old) c first was)));
        file = λ c may. inl (file_now seen may_leave moment left_since boot opening now new end now.world.next begun at c may);
        rest = λ _. at;
      }

-- one call behind the other
pub says_through : {D : Type 0} (may_leave : D → List ℕ → Type 0) (moment : D → ℕ) (left_since : D → ℕ → List ℕ → Type 0) (old mid new : D) (file : List ℕ) (blocks : List (List ℕ))
    → Only file (may_leave old) → LeavesOnly moment left_since old mid (may_leave old) → Says IsBlock file blocks → LeavesOnly moment left_since mid new (λ c. Says IsBlock c blocks)
    → LeavesOnly moment left_since old new (λ c. Says IsBlock c blocks)
says_through may_leave moment left_since old mid new file blocks durable read says repaired =
    let first = read.later in
    let second = repaired.later in
    let said : (c : List ℕ) → may_leave old c → Says IsBlock c blocks = λ c may. subst (λ (f : List ℕ). Says IsBlock f blocks) (sym (durable c may)) says in
    record {
      later = omega (arith, first, second);
      each = λ c was. ⊎_elim (λ earlier. said c (read.each c earlier)) (λ here. here) (repaired.before (moment old) c first was);
      before = λ t c le was. ⊎_elim (λ earlier. ⊎_elim (λ old_one. inl old_one) (λ may. inr (said c may)) (read.before t c le earlier)) (λ here. inr here) (repaired.before t c (omega (arith, le, first)) was);
    }

-- where only the read was done
pub says_read : {D : Type 0} (may_leave : D → List ℕ → Type 0) (moment : D → ℕ) (left_since : D → ℕ → List ℕ → Type 0) (old mid : D) (file : List ℕ) (blocks : List (List ℕ))
    → Only file (may_leave old) → LeavesOnly moment left_since old mid (may_leave old) → Says IsBlock file blocks → LeavesOnly moment left_since old mid (λ c. Says IsBlock c blocks)
says_read may_leave moment left_since old mid file blocks durable read says =
    let said : (c : List ℕ) → may_leave old c → Says IsBlock c blocks = λ c may. subst (λ (f : List ℕ). Says IsBlock f blocks) (sym (durable c may)) says in
    record {
      later = read.later;
      each = λ c was. said c (read.each c was);
      before = λ t c le was. ⊎_elim (λ earlier. inl earlier) (λ may. inr (said c may)) (read.before t c le was);
    }

-- the record that was read and repaired, as the site that goes on with it owes it
pub ready_kept : {D : Type 0} (seen : D → List ℕ) (may_leave : D → List ℕ → Type 0) (moment : D → ℕ) (left_since : D → ℕ → List ℕ → Type 0)
    (old opened mid new : D) (given boot : ℕ) (opening now : SiteState) (begun : Bool) (content : Option (List ℕ)) (ns : Option (List ℕ))
    → opened ≡ old → Only (seen old) (may_leave old) → LeavesOnly moment left_since old mid (may_leave old) → seen mid ≡ seen old
    → Redoes (seen old) given boot opening now begun → IsOpenedAt content boot ns opening → IsSoundSite now → (end : ℕ)
    → ((entries : List (List ℕ)) → Says IsBlock (seen mid) entries → IsSettled IsBlock seen may_leave entries new end)
    → ((entries : List (List ℕ)) → Says IsBlock (seen mid) entries → LeavesOnly moment left_since mid new (λ c. Says IsBlock c entries))
    → KeepsOn seen may_leave moment left_since (moment opened) boot opening now new end begun
ready_kept {D} seen may_leave moment left_since old opened mid new given boot opening now begun content ns opened_is durable read same redoes opens sound end settled repaired =
    let says : Says IsBlock (seen mid) (run_blocks boot redoes.entries) = subst (λ (file : List ℕ). Says IsBlock file (run_blocks boot redoes.entries)) (sym same) redoes.says.blocks in
    subst (λ (d : D). KeepsOn seen may_leave moment left_since (moment d) boot opening now new end begun) (sym opened_is)
    (keeps_on seen may_leave moment left_since old mid new given boot opening now begun durable read redoes opens.bare sound.of_watches.next end
    (settled (run_blocks boot redoes.entries) says) (repaired (run_blocks boot redoes.entries) says))

pub reopens_so : (told : Type 0) (content : Option (List ℕ)) (file : List ℕ) (from given boot since : ℕ) (ns ns' : Option (List ℕ)) (opening now : SiteState) (end : ℕ) (begun : Bool) (k : Keeping)
    → ns' ≡ ns → k ≡ starting since boot opening now end begun → since ≡ from → IsOpenedAt content boot ns opening → (told → Redoes file given boot opening now begun)
    → (told → (blocks : List (List ℕ)) → Says IsBlock file blocks → end ≡ length (front blocks)) → IsSoundSite now → Reopens told content file from given ns' k
reopens_so told content file from given boot since ns ns' opening now end begun k ns_is k_is since_is opens redoes ends sound =
    subst (λ (n : Option (List ℕ)). Reopens told content file from given n k) (sym ns_is)
    (subst (λ (x : Keeping). Reopens told content file from given ns x) (sym k_is) (record {
      opened = opens.opened;
      leads = λ t. let r = redoes t in record { entries = r.entries; says = r.says; legal = r.legal; left_is = r.now_is };
      anew = λ t none. (redoes t).anew none;
      since_is = since_is;
      past = refl;
      next_is = refl;
      end_is = ends;
      sound = sound;
    }))
