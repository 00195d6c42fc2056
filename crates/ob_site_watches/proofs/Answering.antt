-- What marks are left of a watch is what the definitions leave of its flags.
use Rattle.std.proofs.Common.{◌≡◌, ℕ, ◌+◌, ◌*◌, ◌==◌, Bool, true, false, cond, not, List, [], ◌∷◌, map, Option, Some, None, Result, Ok, Err, refl, sym, ap, ap₂, ◌∙◌, subst, arith}
use Rattle.std.specs.Prelude.{option_map, nat_le, nat_eq}
use Rattle.std.specs.List.{AllByRecursion, IsDistinct}
use Rattle.std.proofs.lemmas.Map.Keys.{IsDistinct-head, IsDistinct-tail}
use Rattle.std.proofs.lemmas.Bool.Decides.{Decides-eqb, nat_tests}
use Rattle.ob_object.specs.Object.{Object as Node}
use Rattle.ob_watching.specs.Operations.{Look, Renew, Add, Remove, PollChanges, PollRefresh, Delete, Refuse}
use Rattle.ob_watching.specs.Sites.{Site}
use Rattle.ob_watching.specs.Tables.{lookup, replace, numbers_of}
use Rattle.ob_watching.specs.Watches as rules
use Rattle.ob_watching.specs.Watches.{ItemOf, Room, WatchOf, on_watch, reported, touched, watch_after, with_items, with_lease}
use Rattle.ob_history.specs.declared.records.Filter.{Filter}
use Rattle.ob_site_rules.specs.Build.{Text}
use Rattle.ob_site_rules.specs.declared.fault.Fault.{Fault}
use Rattle.ob_site_rules.specs.declared.fault.Fault.TheVariants.{NoSuchObject}
use Rattle.ob_site_rules.specs.Faults.{err}
use Rattle.ob_site_rules.specs.State.{State}
use Rattle.ob_requests.specs.Calls.{lease_in}
use Rattle.ob_watch.proofs.TableLemmas.{elsewhere}
use Rattle.ob_site_watches.proofs.Feeding.{fed}
use Rattle.ob_site_watches.proofs.Leased.{asked_fits}
use Rattle.ob_site_rules.specs.Replies.{sent}
use Rattle.ob_site_rules.specs.Watched.{WatchOperation, lease_asked}
use Rattle.ob_site_state.specs.Feeds.{AreFeeds, feed_logs}
use Rattle.ob_site_state.specs.Kept.{Kept}
use Rattle.ob_site_state.specs.Stamping.{tree_of}
use Rattle.ob_tree.specs.Trees.{Stamped}
use Rattle.ob_watch.specs.declared.item.Item.{Item}
use Rattle.ob_watch.specs.AsRules.{world_of}
use Rattle.ob_watch.specs.OfPlan.{of_plan}
use Rattle.ob_watch.specs.Flags.{flagged, flags, flags_of}
use Rattle.ob_watch.specs.Items.{reported_at}
use Rattle.ob_watch.specs.Marks.{AreStampsPast}
use Rattle.ob_watch.specs.Tables.{IsLease, Leased, Table, holding, is_over, lapsed_at, live, room_beside, touched_at}
use Rattle.ob_watch.proofs.LapseLemmas.{lapses_commute}
use Rattle.ob_watch.proofs.LawLemmas.{items_agree, reports_agree, tables_agree}
use Rattle.ob_watch.proofs.TableLemmas.{Numbered}
use Rattle.ob_site_watches.specs.Answers.{AllKnown, IsDone, IsReply}
use Rattle.ob_site_watches.specs.Known.{AreSoundItems}
use Rattle.ob_site_watches.specs.Leaving.{is_add, leased_if, marks_after}

-- what holds of all holds of one that is there, and of those that have not lapsed
some_same : {A : Type 0} (a b : A) → (let r : Option A = Some a in r) ≡ Some b → a ≡ b
some_same a b h = cc

none_same : {A : Type 0} (b : A) → (let r : Option A = None in r) ≡ Some b → ⊥
none_same b h = cc

pub all_there : {A : Type 0} (P : A → Type 0) (n : ℕ) (ws : List (ℕ × A)) (v : A) → AllByRecursion (λ e. P e.1) ws → lookup n ws ≡ Some v → P v
all_there P n [] v all there = absurd (none_same v there)
all_there {A} P n (w ∷ ws) v all there = go (w.0 == n) there (all_there P n ws v all.1)
  where
    go : (b : Bool) → cond b (Some w.1) (lookup n ws) ≡ Some v → (lookup n ws ≡ Some v → P v) → P v
    go true e rest = subst P (some_same w.1 v e) all.0
    go false e rest = rest e

pub all_live : (P : Leased → Type 0) (now : ℕ) (ws : Numbered) → AllByRecursion (λ e. P e.1) ws → AllByRecursion (λ e. P e.1) (live now ws)
all_live P now [] all = all
all_live P now (w ∷ ws) all = go (is_over now w.1) (all_live P now ws all.1)
  where
    go : (b : Bool) → AllByRecursion (λ e. P e.1) (live now ws) → AllByRecursion (λ e. P e.1) (cond (not b) (w ∷ live now ws) (live now ws))
    go true rest = rest
    go false rest = (all.0, rest)

-- A watch that hasn't lapsed is there.
pub live_there : (now n : ℕ) (ws : Numbered) (v : Leased) → IsDistinct nat_eq (numbers_of ws) → lookup n (live now ws) ≡ Some v → lookup n ws ≡ Some v
live_there now n [] v distinct there = absurd (none_same v there)
live_there now n (w ∷ ws) v distinct there = go (w.0 == n) refl (is_over now w.1) there (live_there now n ws v (IsDistinct-tail nat_eq w.0 (numbers_of ws) distinct))
  where
    none_there : (w.0 == n) ≡ true → lookup n ws ≡ None
    none_there is =
        let same : w.0 ≡ n = (Decides-eqb w.0 n).0 is in
        subst (λ k. lookup k ws ≡ None) same (elsewhere w.0 ws (IsDistinct-head nat_eq w.0 (numbers_of ws) distinct))

    go : (b : Bool) → (w.0 == n) ≡ b → (c : Bool) → lookup n (cond (not c) (w ∷ live now ws) (live now ws)) ≡ Some v → (lookup n (live now ws) ≡ Some v → lookup n ws ≡ Some v) → cond b (Some w.1) (lookup n ws) ≡ Some v
    go true is true there rest = absurd (none_same v (sym (none_there is) ∙ rest there))
    go true is false there rest = sym (ap (λ b. cond b (Some w.1) (lookup n (live now ws))) is) ∙ there
    go false is true there rest = rest there
    go false is false there rest = rest (sym (ap (λ b. cond b (Some w.1) (lookup n (live now ws))) is) ∙ there)

-- A lease that was just renewed hasn't run out.
pub fresh : (now lease : ℕ) → IsLease lease → nat_le (now * 1_000_000 + lease) (now * 1_000_000) ≡ false
fresh now lease fits = let l = fits.long in grind (arith, nat_tests, l)

pub same_lease : (s : State) (input : Option Node) → lease_in s.library input ≡ lease_asked s input
same_lease s None = refl
same_lease s (Some o) = refl

module _ (k : Kept) where
  abbrev m : Site
  m = of_plan k.plan

  abbrev t : Stamped
  t = tree_of k

  pub known_there : (now n : ℕ) (table : Table) (w : Leased) → AllKnown k table → lookup n (live now table.watches) ≡ Some w → AreSoundItems k w.items
  known_there now n table w known there =
      all_there (λ (v : Leased). AreSoundItems k v.items) n (live now table.watches) w (all_live (λ (v : Leased). AreSoundItems k v.items) now table.watches known) there

  all_reported_flags : AreFeeds k.plan k.now → (items : List Item) → AreStampsPast t → AreSoundItems k items → map (reported m k.now) (map (flags t) items) ≡ map (flags t) (map (reported_at t.steps (feed_logs k.now)) items)
  all_reported_flags feeds [] past known = refl
  all_reported_flags feeds (i ∷ items) past known =
      ap (λ (f : ItemOf Text Text Filter). f ∷ map (reported m k.now) (map (flags t) items)) ((reports_agree k.plan t (feed_logs k.now)).reports past k.now i (fed k.plan k.now feeds i known.0.numbered))
      ∙ ap (λ (fs : List (ItemOf Text Text Filter)). flags t (reported_at t.steps (feed_logs k.now) i) ∷ fs) (all_reported_flags feeds items past known.1)

  leased_flags : (r : Result ℕ Fault) (v : Leased) → Some (with_lease m (flagged t v) r) ≡ Some (flagged t (leased_if r v))
  leased_flags (Ok lease) v = refl
  leased_flags (Err fault) v = refl

  -- what is left of a watch
  pub agrees : (now : ℕ) (ns : List ℕ) (room : Room) (op : WatchOperation) (w : Leased) → AreFeeds k.plan k.now → AreStampsPast t → AreSoundItems k w.items → is_add op ≡ false
      → watch_after m k.now ns room (touched m now (flagged t w)) op ≡ option_map (flagged t) (marks_after k now op w)
  agrees now ns room (Look part) w feeds past known other = refl
  agrees now ns room (Renew input) w feeds past known other = leased_flags (lease_asked k.now input) (touched_at now w)
  agrees now ns room (Add asked) w feeds past known other = absurd (let e : true ≡ false = other in cc)
  agrees now ns room (Remove texts) w feeds past known other =
      ap (λ (fs : List (ItemOf Text Text Filter)). Some (with_items m (touched m now (flagged t w)) fs)) ((items_agree k.plan t).removes texts w.items)
  agrees now ns room PollChanges w feeds past known other =
      ap (λ (fs : List (ItemOf Text Text Filter)). Some (with_items m (touched m now (flagged t w)) fs)) (all_reported_flags feeds w.items past known)
  agrees now ns room PollRefresh w feeds past known other =
      ap (λ (fs : List (ItemOf Text Text Filter)). Some (with_items m (touched m now (flagged t w)) fs)) (all_reported_flags feeds w.items past known)
  agrees now ns room Delete w feeds past known other = refl
  agrees now ns room (Refuse fault) w feeds past known other = refl

  -- A watch that is left hasn't lapsed.
  abbrev pub Lasts : ℕ → Option Leased → Type 0
  Lasts now None = Unit {0}
  Lasts now (Some v) = is_over now v ≡ false

  renewed_lasts : (now : ℕ) (input : Option Node) (w : Leased) → IsLease w.lease → (r : Result ℕ Fault) → r ≡ lease_in k.now.library input → Lasts now (Some (leased_if r (touched_at now w)))
  renewed_lasts now input w fits (Ok lease) e = fresh now lease (asked_fits k.now.library input lease e)
  renewed_lasts now input w fits (Err fault) e = fresh now w.lease fits

  pub marks_last : (now : ℕ) (op : WatchOperation) (w : Leased) → IsLease w.lease → Lasts now (marks_after k now op w)
  marks_last now (Look part) w fits = fresh now w.lease fits
  marks_last now (Renew input) w fits = renewed_lasts now input w fits (lease_asked k.now input) (sym (same_lease k.now input))
  marks_last now (Add asked) w fits = fresh now w.lease fits
  marks_last now (Remove texts) w fits = fresh now w.lease fits
  marks_last now PollChanges w fits = fresh now w.lease fits
  marks_last now PollRefresh w fits = fresh now w.lease fits
  marks_last now Delete w fits = record {}
  marks_last now (Refuse fault) w fits = fresh now w.lease fits

  live_left : (now n : ℕ) (ws : Numbered) (w : Leased) (left : Option Leased) → IsDistinct nat_eq (numbers_of ws) → lookup n (live now ws) ≡ Some w → Lasts now left
      → live now (replace n left ws) ≡ replace n left (live now ws)
  live_left now n ws w None distinct there lasts = (lapses_commute now).deletes n ws
  live_left now n ws w (Some v) distinct there lasts = (lapses_commute now).replaces n v ws w distinct there lasts

  -- no watch of the number stands
  pub none_stands : (now n : ℕ) (old : Table) (op : WatchOperation) (o : Node) → lookup n (live now old.watches) ≡ None → o ≡ err NoSuchObject → IsDone k now old old n op o
  none_stands now n old op o gone e = record {
    watches = sym (ap (λ (v : Option (WatchOf Text Text Filter)). (on_watch m (world_of k.plan now k.now t (lapsed_at now old)) n op v).0) nothing);
    reply = e ∙ sym (ap (λ (v : Option (WatchOf Text Text Filter)). sent k.plan (on_watch m (world_of k.plan now k.now t (lapsed_at now old)) n op v).1) nothing);
  }
    where
      nothing : lookup n (flags_of t (live now old.watches)) ≡ None
      nothing = (tables_agree k.plan t).looks_up n (live now old.watches) ∙ ap (option_map (flagged t)) gone

  -- one does
  pub one_stands : (now n : ℕ) (old new : Table) (op : WatchOperation) (w : Leased) (left : Option Leased) (o : Node)
      → IsDistinct nat_eq (numbers_of old.watches) → lookup n (live now old.watches) ≡ Some w
      → new ≡ holding (replace n left old.watches) old → Lasts now left
      → watch_after m k.now (numbers_of (live now old.watches)) (room_beside n (live now old.watches)) (touched m now (flagged t w)) op ≡ option_map (flagged t) left
      → IsReply k now (numbers_of (live now old.watches)) (room_beside n (live now old.watches)) n w op o → IsDone k now old new n op o
  one_stands now n old new op w left o distinct there put lasts after reply = record {
    watches =
        ap (λ (u : Table). world_of k.plan now k.now t (lapsed_at now u)) put
        ∙ ap (λ (ws : Numbered). world_of k.plan now k.now t (record { watches = ws; next = old.next })) (live_left now n old.watches w left distinct there lasts)
        ∙ ap (λ (fs : List (ℕ × WatchOf Text Text Filter)). record { time = now; site = k.now; watches = fs; next = old.next })
        (sym ((tables_agree k.plan t).replaces n left (live now old.watches))
        ∙ ap (λ (v : Option (WatchOf Text Text Filter)). replace n v (flags_of t (live now old.watches)))
        (sym after ∙ ap₂ (λ (ns : List ℕ) (room : Room). watch_after m k.now ns room (touched m now (flagged t w)) op) (sym numbers) (sym room)))
        ∙ sym (ap (λ (v : Option (WatchOf Text Text Filter)). (on_watch m (world_of k.plan now k.now t (lapsed_at now old)) n op v).0) something);
    reply =
        subst (λ (ns : List ℕ). IsReply k now ns (rules.room_beside m n (flags_of t (live now old.watches))) n w op o) (sym numbers)
        (subst (λ (room : Room). IsReply k now (numbers_of (live now old.watches)) room n w op o) (sym room) reply)
        ∙ sym (ap (λ (v : Option (WatchOf Text Text Filter)). sent k.plan (on_watch m (world_of k.plan now k.now t (lapsed_at now old)) n op v).1) something);
  }
    where
      something : lookup n (flags_of t (live now old.watches)) ≡ Some (flagged t w)
      something = (tables_agree k.plan t).looks_up n (live now old.watches) ∙ ap (option_map (flagged t)) there

      numbers : numbers_of (flags_of t (live now old.watches)) ≡ numbers_of (live now old.watches)
      numbers = (tables_agree k.plan t).numbers (live now old.watches)

      room : rules.room_beside m n (flags_of t (live now old.watches)) ≡ room_beside n (live now old.watches)
      room = (tables_agree k.plan t).room n (live now old.watches)
