-- A record with fewer entries that leads a site to the same.
use Rattle.std.proofs.Common.{◌≡◌, inl, inr, ℕ, List, [], ◌∷◌, length, Option, Some, None, refl, sym, ◌∙◌, ap, subst}
use Rattle.std.specs.Prelude.{IfSome, Ok}
use Rattle.ob_load.specs.Loads.{IsSite}
use Rattle.ob_object.specs.Object.{Object}
use Rattle.ob_site_rules.specs.Opening.{opening}
use Rattle.ob_record.specs.Broken.{OneRun}
use Rattle.ob_record.specs.Legal.{IsLegalRun, left_by_told, left_by_entry, after_entries}
use Rattle.ob_record.specs.Runs.{Recorded, Records, IsRecord}
use Rattle.ob_record.specs.Sifted.{IsPartOf, IsSifted}
use Rattle.ob_record.specs.declared.run.Entry.{Entry}
use Rattle.ob_record.specs.declared.run.Told.{Told}
use Rattle.ob_record.specs.declared.run.Told.TheVariants.{Reply, NoMemory}
use Rattle.ob_record.proofs.Bodies.{OneDocument}
use Rattle.ob_record_journal.specs.Saying.{IsSaid}
use Rattle.ob_record_journal.specs.Writing.{SaysRecord}
use Rattle.ob_values.specs.declared.verb.Verb.{Verb}
use Rattle.ob_values.specs.declared.verb.Verb.TheVariants.{Get, Put, Post}
use Rattle.ob_site_lasting.specs.SiteLasting.{IsSiteRestartOf}
use Rattle.ob_site_laws.specs.SiteLaws.{IsSoundSite}
use Rattle.ob_site_rules.specs.declared.request.Request.{Request}
use Rattle.ob_site_rules.specs.Sites.{SiteState}
use Rattle.ob_kept.specs.declared.fault.CompactFault.TheVariants as faults
use Rattle.ob_kept.specs.declared.fault.ReopenFault.{ReopenFault}
use Rattle.ob_kept.specs.Compacting.{GoesOnBy, IsCompacted, LeavesAlike, IsAlike, IsUntried, IsUncompacted, SaysCompacted, some}
use Rattle.ob_kept.specs.Redone.{redone_as, redone}
use Rattle.ob_kept.specs.Reopening.{site_bytes, IsOpenedAt, IsRedone, Unready}
use Rattle.ob_kept.proofs.Reading.{refuses_said}
use Rattle.ob_kept.proofs.Reopens.{after_bare, itself}

-- ---- what entries leave of a plan

verb_plan : (verb : Verb) (s : SiteState) (r : Request) (time : ℕ) → (redone_as verb s r time).0.plan ≡ s.plan
verb_plan Get s r time = refl
verb_plan Put s r time = refl
verb_plan Post s r time = refl

told_plan : (told : Told) (s : SiteState) (r : Request) (time : ℕ) → (left_by_told redone s r time told).plan ≡ s.plan
told_plan (Reply bytes) s r time = verb_plan r.verb s r time
told_plan NoMemory s r time = refl

after_plan : (s : SiteState) (es : List Entry) → (after_entries redone s es).plan ≡ s.plan
after_plan s [] = refl
after_plan s (e ∷ es) = after_plan (left_by_entry redone s e) es ∙ told_plan e.reply s e.request e.moment

-- ---- what a file opens

-- bytes open one site at a moment
one_site : OneDocument → (bytes : List ℕ) (boot : ℕ) (ns other : Option (List ℕ)) (st tt' : SiteState) → IsSite bytes boot ns st → IsSite bytes boot other tt' → st ≡ tt'
one_site one bytes boot ns other st tt' a b =
    let same = (one bytes ns other a.0 b.0 a.1.0 b.1.0).1 in
    let opens : Ok st ≡ Ok tt' = sym a.1.1 ∙ ap (λ (root : Object). opening root boot) same ∙ b.1.1 in
    cc opens

-- ---- by which entries a site goes on

-- what is left of all lasts in what is left of some, where that was compared
alike_restart : (start left : SiteState) (old new : List Entry) → left ≡ after_entries redone start old → start.world.watches ≡ [] → IsSoundSite (after_entries redone start new)
    → (left.plan ≡ (after_entries redone start new).plan → LeavesAlike left (after_entries redone start new)) → IsSiteRestartOf (after_entries redone start old) (after_entries redone start new)
alike_restart start left old new left_is bare sound alike =
    let planned : left.plan ≡ (after_entries redone start new).plan = ap (λ (s : SiteState). s.plan) left_is ∙ after_plan start old ∙ sym (after_plan start new) in
    let is = alike planned in
    subst (λ (s : SiteState). IsSiteRestartOf s (after_entries redone start new)) left_is (record {
      plan = sym planned;
      world = record {
        site = is.site;
        watches = after_bare start new bare;
        next = is.next;
        room = sound.of_watches.next;
        time = is.time;
      };
    })

module _ (one : OneDocument) (run : Recorded) (boot : ℕ) (ns : Option (List ℕ)) (start left : SiteState) (boot_of : boot ≡ run.boot) where
  goes_on_told : (whole : List ℕ) (new : List Entry) → IsOpenedAt (Some whole) boot ns start → IsRedone run boot start left
      → IsAlike (Some whole) left (record { boot = run.boot; entries = new }) → GoesOnBy (site_bytes whole) run.boot run.entries new
  goes_on_told whole new opened done a =
      let here : IsSite (site_bytes whole) run.boot ns start = subst (λ (b : ℕ). IsSite (site_bytes whole) b ns start) boot_of opened.opened in
      let same : start ≡ a.opening = one_site one (site_bytes whole) run.boot ns a.ns start a.opening here a.opened.opened in
      record {
        ns = a.ns;
        opening = a.opening;
        opens = a.opened.opened;
        legal = subst (λ (s : SiteState). IsLegalRun redone s run.entries) same done.legal;
        legal_new = a.legal;
        restart = alike_restart a.opening left run.entries new (done.now_is ∙ ap (λ (s : SiteState). after_entries redone s run.entries) same) a.opened.bare a.sound a.alike;
      }

  goes_on_new : (content : Option (List ℕ)) (new : List Entry) → IsOpenedAt content boot ns start → IsRedone run boot start left
      → IsAlike content left (record { boot = run.boot; entries = new }) → IfSome content (λ whole. GoesOnBy (site_bytes whole) run.boot run.entries new)
  goes_on_new None new opened done a = tt
  goes_on_new (Some whole) new opened done a = goes_on_told whole new opened done a

  -- the shorter run
  pub compacted_new : (content : Option (List ℕ)) (bytes : List ℕ) → IsOpenedAt content boot ns start → IsRedone run boot start left → (s : IsSifted run bytes)
      → IsAlike content left (record { boot = run.boot; entries = s.entries }) → IsCompacted content run bytes
  compacted_new content bytes opened done s a =
      record { entries = s.entries; records = s.records; compacts = record { part = s.part; goes_on = goes_on_new content s.entries opened done a } }

  goes_on_same : (content : Option (List ℕ)) → IsOpenedAt content boot ns start → IsRedone run boot start left → IsSoundSite left
      → IfSome content (λ whole. GoesOnBy (site_bytes whole) run.boot run.entries run.entries)
  goes_on_same None opened done sound = tt
  goes_on_same (Some whole) opened done sound = record {
    ns = ns;
    opening = start;
    opens = subst (λ (b : ℕ). IsSite (site_bytes whole) b ns start) boot_of opened.opened;
    legal = done.legal;
    legal_new = done.legal;
    restart = subst (λ (s : SiteState). IsSiteRestartOf s s) done.now_is
        (itself left (ap (λ (s : SiteState). s.world.watches) done.now_is ∙ after_bare start run.entries opened.bare) sound.of_watches.next);
  }

  part_itself : (es : List Entry) → IsPartOf es es
  part_itself [] = refl
  part_itself (e ∷ es) = inr (es, refl, part_itself es)

  -- the same run
  pub compacted_same : (content : Option (List ℕ)) (bytes : List ℕ) → IsOpenedAt content boot ns start → IsRedone run boot start left → IsSoundSite left → Records bytes run
      → IsCompacted content run bytes
  compacted_same content bytes opened done sound records =
      record { entries = run.entries; records = records; compacts = record { part = part_itself run.entries; goes_on = goes_on_same content opened done sound } }

-- ---- why none came

-- what wasn't tried again
pub unready_untried : (content : Option (List ℕ)) (run : Recorded) (ns : Option (List ℕ)) (start : SiteState) (fault : ReopenFault) → IsOpenedAt content run.boot ns start
    → IsUntried content run.boot fault → Unready content run fault
unready_untried content run ns start fault opened (inl unopened) = inl unopened
unready_untried content run ns start fault opened (inr wanting) = subst (λ (f : ReopenFault). Unready content run f) (sym wanting) (inr (ns, start, opened, tt))

-- ---- what was done again

pub alike_so : (content : Option (List ℕ)) (run : Recorded) (boot : ℕ) (ns : Option (List ℕ)) (start now left : SiteState) → IsOpenedAt content boot ns start → IsRedone run boot start now → IsSoundSite now
    → (left.plan ≡ now.plan → LeavesAlike left now) → IsAlike content left run
alike_so content run boot ns start now left opened done sound alike = record {
  ns = ns;
  opening = start;
  opened = subst (λ (b : ℕ). IsOpenedAt content b ns start) done.boot_is opened;
  legal = done.legal;
  sound = subst IsSoundSite done.now_is sound;
  alike = subst (λ (s : SiteState). left.plan ≡ s.plan → LeavesAlike left s) done.now_is alike;
}

-- ---- what the new file says

pub says_compacted : (content : Option (List ℕ)) (file new text bytes : List ℕ) (before after : ℕ) → IsSaid file (Some text)
    → ((recorded : Recorded) → Records text recorded → IsCompacted content recorded bytes) → SaysRecord new (Some bytes)
    → ((recorded : Recorded) → Records text recorded → before ≡ length recorded.entries) → ((recorded : Recorded) → Records bytes recorded → after ≡ length recorded.entries)
    → SaysCompacted content file new before after
says_compacted content file new text bytes before after said compacts says old_count new_count =
    let run = said.0 in
    let c = compacts run said.1 in
    some run.boot run.entries c.entries said.2 (says (record { boot = run.boot; entries = c.entries }) c.records) (old_count run said.1)
    (new_count (record { boot = run.boot; entries = c.entries }) c.records) c.compacts

-- ---- why none was written

-- the record gives no site
pub uncompacted_run : (told : Type 0) (content : Option (List ℕ)) (file new text : List ℕ) (fault : ReopenFault) → OneRun → IsRecord text → (told → IsSaid file (Some text))
    → ((recorded : Recorded) → Records text recorded → Unready content recorded fault) → IsUncompacted told content file new (faults.Reopen fault)
uncompacted_run told content file new text fault one is said why = refuses_said told content file 0 text fault one is said why
