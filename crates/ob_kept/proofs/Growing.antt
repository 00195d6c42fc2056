-- What a step of a site makes of the file of its record is what the machine that is kept says.
use Rattle.std.proofs.Common.{◌≡◌, ◌≢◌, ◌⊎◌, inl, inr, ⊎_elim, ℕ, ◌+◌, ◌<◌, ◌≤◌, Bool, true, false, cond, List, [], ◌∷◌, length, Option, Some, None, refl, sym, ◌∙◌, ap, subst, arith}
use Rattle.std.specs.Prelude.{nat_lt}
use Rattle.std.proofs.lemmas.Bool.{lt-ltb, ltb-true}
use Rattle.ob_machine.specs.History.{entry}
use Rattle.ob_machine.specs.declared.call.Answer.TheVariants.{Done}
use Rattle.ob_watching.specs.Operations.{Itself, NewWatch}
use Rattle.ob_watching.specs.Watches.{last_number, acted, begun}
use Rattle.ob_lasting.proofs.Replaying.{leaves_site}
use Rattle.ob_site.specs.Keeping.{stepping, KeepsNothing, Keeps, MayKeep}
use Rattle.ob_site_laws.specs.SiteLaws.{acts, of_plan, IsSoundSite}
use Rattle.ob_site_laws.proofs.SiteHistories.{stays}
use Rattle.ob_site_rules.specs.declared.request.Request.{Request}
use Rattle.ob_site_rules.specs.Sites.{SiteState}
use Rattle.ob_kept.specs.declared.recorder.Recorder.{Recorder}
use Rattle.ob_kept.specs.Keeping.{Keeping, added, begun_behind, growth, is_refused, is_too_much, next_behind}
use Rattle.ob_kept.specs.Recording.{closed_block, entry_of, numbers_entry, Appended, MayHave, HasKept, MayHaveKept}
use Rattle.ob_kept.specs.Redone.{more_numbers}
use Rattle.ob_kept.specs.Room.{Addition}
use Rattle.ob_kept.proofs.Same.{one_site, other_site}

pub no_more : (a b : ℕ) → b ≤ a → nat_lt a b ≡ false
no_more a b le = go (nat_lt a b) refl
  where
    go : (yes : Bool) → nat_lt a b ≡ yes → yes ≡ false
    go true is = let less : a < b = ltb-true a b is in absurd (omega (arith, le, less))
    go false is = refl

abbrev pub keeping : ℕ → SiteState → ℕ → List SiteState → SiteState → ℕ → ℕ → Bool → Keeping
keeping boot opening since past now end next begun = record { boot = boot; opening = opening; since = since; past = past; now = now; end = end; next = next; begun = begun }

-- a step that was not done
pub record Stays {D : Type 0} (k l : Recorder D) : Type 0 where
  pub boot : l.boot ≡ k.boot
  pub end : l.journal.end ≡ k.journal.end
  pub next : l.next ≡ k.next
  pub begun : l.begun ≡ k.begun
  pub full : l.full ≡ k.full

stays_same : {D : Type 0} (k l : Recorder D) → l ≡ k → Stays k l
stays_same {D} k l same = record {
  boot = ap (λ (x : Recorder D). x.boot) same;
  end = ap (λ (x : Recorder D). x.journal.end) same;
  next = ap (λ (x : Recorder D). x.next) same;
  begun = ap (λ (x : Recorder D). x.begun) same;
  full = ap (λ (x : Recorder D). x.full) same;
}

module _ {D : Type 0} (opening : SiteState) (since : ℕ) (past : List SiteState) (now : SiteState) (k l : Recorder D) (r : Request) (asked : ℕ) where
  abbrev left : SiteState
  left = (acts now r asked).0

  abbrev pub from : Keeping
  from = keeping k.boot opening since past now k.journal.end k.next k.begun

  abbrev addition_is : Option Addition
  addition_is = added from r asked

  -- ---- which addition it is

  abbrev with_request : Addition
  with_request = record { entry = entry_of r left.world.time (acts now r asked).1; next = k.next }

  abbrev with_numbers : Addition
  with_numbers = record { entry = numbers_entry left.world.time; next = more_numbers k.next }

  abbrev chosen : Bool → Bool → Option Addition
  chosen same more = cond same (cond more (Some with_numbers) None) (Some with_request)

  is_request : left.world.site ≢ now.world.site → addition_is ≡ Some with_request
  is_request other = ap (λ (b : Bool). chosen b (nat_lt k.next left.world.next)) (other_site left.world.site now.world.site other)

  is_numbers : left.world.site ≡ now.world.site → k.next < left.world.next → addition_is ≡ Some with_numbers
  is_numbers same more =
      ap (λ (b : Bool). chosen b (nat_lt k.next left.world.next)) (one_site left.world.site now.world.site same)
      ∙ ap (λ (b : Bool). chosen true b) (lt-ltb k.next left.world.next more)

  is_none : left.world.site ≡ now.world.site → left.world.next ≤ k.next → addition_is ≡ None
  is_none same few =
      ap (λ (b : Bool). chosen b (nat_lt k.next left.world.next)) (one_site left.world.site now.world.site same)
      ∙ ap (λ (b : Bool). chosen true b) (no_more k.next left.world.next few)

  -- ---- what a step owes the machine

  -- one that was done
  pub record Goes : Type 0 where
    pub room : is_refused from r asked ≡ false
    pub boot : l.boot ≡ k.boot
    pub end : l.journal.end ≡ k.journal.end + growth from addition_is
    pub next : l.next ≡ next_behind from addition_is
    pub begun : l.begun ≡ begun_behind from addition_is
    pub full : l.full ≡ k.full
    pub covers : left.world.next ≤ l.next

  -- or that is refused
  pub record Refuses : Type 0 where
    pub noted : l ≡ record k { full = true }
    pub refused : is_refused from r asked ≡ true

  module _ (told : Type 0) (seen : D → List ℕ) (may_leave : D → List ℕ → Type 0) (moment : D → ℕ) (left_since : D → ℕ → List ℕ → Type 0) where
    goes_on : (a : Addition) → addition_is ≡ Some a → Appended told seen may_leave moment left_since k l a.entry a.next → left.world.next ≤ a.next → Goes
    goes_on a is done covers =
        let room = done.room in
        record {
          room = ap (is_too_much from) is ∙ no_more 1_073_741_824 (k.journal.end + 1 + length (closed_block k a.entry)) (omega (arith, room));
          boot = done.boot;
          end = done.end_is ∙ sym (ap (λ (o : Option Addition). k.journal.end + growth from o) is);
          next = done.next_is ∙ sym (ap (next_behind from) is);
          begun = done.begun ∙ sym (ap (begun_behind from) is);
          full = done.full;
          covers = subst (λ (n : ℕ). left.world.next ≤ n) (sym done.next_is) covers;
        }

    may_go : (a : Addition) → addition_is ≡ Some a → MayHave told seen may_leave moment left_since k l a.entry → Stays k l ⊎ Refuses
    may_go a is (inl same) = inl (stays_same k l same)
    may_go a is (inr (inl none)) =
        inr (record { noted = none.noted; refused = ap (is_too_much from) is ∙ lt-ltb 1_073_741_824 (k.journal.end + 1 + length (closed_block k a.entry)) none.long })
    may_go a is (inr (inr lost)) = inl (record { boot = lost.boot; end = lost.end_is; next = lost.next_is; begun = lost.begun; full = lost.full })

    -- ---- the cases of a step

    module _ (sound : IsSoundSite now) (bound : now.world.next ≤ k.next) where
      few_itself : (of_plan now.plan).target r ≡ Itself → left.world.next ≤ k.next
      few_itself itself =
          let same : left.world.next ≡ now.world.next = ap (λ t. (acted (of_plan now.plan) (begun (of_plan now.plan) now.world asked) r t).0.next) itself in
          omega (arith, bound, same)

      site_stays : (of_plan now.plan).target r ≡ NewWatch → left.world.site ≡ now.world.site
      site_stays make = leaves_site (of_plan now.plan) now.world sound.of_watches r asked (λ itself. absurd (cc (itself, make)))

      made_few : left.world.next ≡ now.world.next + 1 → left.world.next ≤ more_numbers k.next
      made_few made =
          let room : left.world.next ≤ last_number + 1 = (stays now sound (entry 0 r asked (Done (acts now r asked).1) ∷ [])).1.of_watches.next in
          omega (arith, bound, made, room)

      nothing_goes : KeepsNothing (λ (x : Recorder D). x.next) (HasKept told seen may_leave moment left_since) k l (stepping now r asked) → Goes
      nothing_goes none =
          let few : left.world.next ≤ k.next = ⊎_elim (λ same. omega (arith, same, bound)) (λ few. few) none.next in
          let is = is_none none.site few in
          let same = stays_same k l none.keeper in
          let ends : k.journal.end ≡ k.journal.end + 0 = omega arith in
          record {
            room = ap (is_too_much from) is;
            boot = same.boot;
            end = same.end ∙ ends ∙ sym (ap (λ (o : Option Addition). k.journal.end + growth from o) is);
            next = same.next ∙ sym (ap (next_behind from) is);
            begun = same.begun ∙ sym (ap (begun_behind from) is);
            full = same.full;
            covers = subst (λ (x : Recorder D). left.world.next ≤ x.next) (sym none.keeper) few;
          }

      pub step_goes : Keeps (λ (x : Recorder D). x.next) (HasKept told seen may_leave moment left_since) k l (stepping now r asked) → Goes
      step_goes (inl none) = nothing_goes none
      step_goes (inr (inl kept)) =
          let few = few_itself kept.target in
          goes_on with_request (is_request kept.changed) (kept.kept.request few) few
      step_goes (inr (inr kept)) =
          let beyond = kept.beyond in
          let made = kept.made in
          let more : k.next < left.world.next = omega (arith, beyond, made) in
          goes_on with_numbers (is_numbers (site_stays kept.target) more) (kept.kept.numbers more) (made_few made)

      pub step_stays : MayKeep (λ (x : Recorder D). x.next) (MayHaveKept told seen may_leave moment left_since) k l (stepping now r asked) → Stays k l ⊎ Refuses
      step_stays (inl same) = inl (stays_same k l same)
      step_stays (inr (inl kept)) = may_go with_request (is_request kept.changed) (kept.kept.request (few_itself kept.target))
      step_stays (inr (inr kept)) =
          let beyond = kept.beyond in
          let made = kept.made in
          let more : k.next < left.world.next = omega (arith, beyond, made) in
          may_go with_numbers (is_numbers (site_stays kept.target) more) (kept.kept.numbers more)

  -- once the note was taken

  module _ (m : Recorder D) (unnoted : k.full ≡ false) (taken : m ≡ record l { full = false }) where
    pub taken_stays : Stays k l ⊎ Refuses → Stays k m
    taken_stays (inl stays) = record {
      boot = ap (λ (x : Recorder D). x.boot) taken ∙ stays.boot;
      end = ap (λ (x : Recorder D). x.journal.end) taken ∙ stays.end;
      next = ap (λ (x : Recorder D). x.next) taken ∙ stays.next;
      begun = ap (λ (x : Recorder D). x.begun) taken ∙ stays.begun;
      full = ap (λ (x : Recorder D). x.full) taken ∙ sym unnoted;
    }
    taken_stays (inr refuses) = record {
      boot = ap (λ (x : Recorder D). x.boot) taken ∙ ap (λ (x : Recorder D). x.boot) refuses.noted;
      end = ap (λ (x : Recorder D). x.journal.end) taken ∙ ap (λ (x : Recorder D). x.journal.end) refuses.noted;
      next = ap (λ (x : Recorder D). x.next) taken ∙ ap (λ (x : Recorder D). x.next) refuses.noted;
      begun = ap (λ (x : Recorder D). x.begun) taken ∙ ap (λ (x : Recorder D). x.begun) refuses.noted;
      full = ap (λ (x : Recorder D). x.full) taken ∙ sym unnoted;
    }

    -- it tells that the request is refused
    pub noted_refuses : l.full ≡ true → Stays k l ⊎ Refuses → is_refused from r asked ≡ true
    noted_refuses noted (inl stays) = let no : true ≡ false = sym noted ∙ stays.full ∙ unnoted in absurd cc
    noted_refuses noted (inr refuses) = refuses.refused
