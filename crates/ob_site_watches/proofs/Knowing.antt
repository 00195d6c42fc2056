-- What is known of items stays known.
use Rattle.std.proofs.Common.{◌≡◌, ℕ, ◌==◌, Bool, true, false, cond, not, List, [], ◌∷◌, ◌++◌, map, Option, Some, None, Result, Ok, Err, refl, sym, subst, arith}
use Rattle.std.specs.Prelude.{option_and_then}
use Rattle.std.specs.List.{AllByRecursion, filter}
use Rattle.ob_object.specs.Object.{Object as Node}
use Rattle.ob_watching.specs.Operations.{Look, Renew, Add, Remove, PollChanges, PollRefresh, Delete, Refuse}
use Rattle.ob_watching.specs.Tables.{lookup, replace}
use Rattle.ob_site_rules.specs.Build.{Path}
use Rattle.ob_site_rules.specs.declared.fault.Fault.{Fault}
use Rattle.ob_site_rules.specs.Watched.{WatchOperation, lease_asked}
use Rattle.ob_site_state.specs.Feeds.{feed_logs}
use Rattle.ob_site_state.specs.Kept.{Kept}
use Rattle.ob_watch.specs.declared.item.Tracked.{Tracked}
use Rattle.ob_watch.specs.declared.item.Tracked.TheVariants as tracked
use Rattle.ob_watch.specs.declared.item.Item.{Item}
use Rattle.ob_watch.specs.Items.{among, reported_at, reported_by}
use Rattle.ob_watch.specs.Feeds.{FeedLog}
use Rattle.ob_watch.specs.Tables.{Leased, Table, lapsed_at, new_watch, touched_at, with_new, yielded_at}
use Rattle.ob_watch.proofs.TableLemmas.{Numbered}
use Rattle.ob_site_watches.specs.Answers.{AllKnown}
use Rattle.ob_site_watches.specs.Known.{AreSoundItems, IsPlacedBy, IsSoundItem}
use Rattle.ob_site_watches.specs.Leaving.{leased_if, leaving, marks_after}
use Rattle.ob_site_watches.proofs.Answering.{all_there}
use Rattle.ob_site_watches.proofs.Keeping.{marks_stay_past, numbers_stay, table_keeps}

placed_reported : (root : Node) (path : Path) (steps : ℕ) (feeds : List FeedLog) (t : Tracked) → IsPlacedBy root path t → IsPlacedBy root path (reported_by steps feeds t)
placed_reported root path steps feeds (tracked.Object node mark) placed = placed
placed_reported root path steps feeds (tracked.Feed feed filter given) placed = placed

module _ (k : Kept) where
  abbrev Known : ℕ × Leased → Type 0
  Known e = AreSoundItems k e.1.items

  abbrev LeftKnown : Option Leased → Type 0
  LeftKnown None = Unit {0}
  LeftKnown (Some w) = AreSoundItems k w.items

  reported_known : (items : List Item) → AreSoundItems k items → AreSoundItems k (map (reported_at k.steps (feed_logs k.now)) items)
  reported_known [] known = known
  reported_known (i ∷ items) known = (
    record {
      placed = placed_reported k.now.tree i.path k.steps (feed_logs k.now) i.tracked known.0.placed;
      numbered = numbers_stay.reports k.plan k.steps (feed_logs k.now) i known.0.numbered;
      past = marks_stay_past.reports k.steps (feed_logs k.now) i;
    },
    reported_known items known.1,
  )

  some_known : (p : Item → Bool) (items : List Item) → AreSoundItems k items → AreSoundItems k (filter p items)
  some_known p [] known = known
  some_known p (i ∷ items) known = go (p i) (some_known p items known.1)
    where
      go : (b : Bool) → AreSoundItems k (filter p items) → AreSoundItems k (cond b (i ∷ filter p items) (filter p items))
      go true rest = (known.0, rest)
      go false rest = rest

  leased_known : (r : Result ℕ Fault) (w : Leased) → AreSoundItems k w.items → AreSoundItems k (leased_if r w).items
  leased_known (Ok lease) w known = known
  leased_known (Err fault) w known = known

  marks_known : (now : ℕ) (op : WatchOperation) (w : Leased) → AreSoundItems k w.items → LeftKnown (marks_after k now op w)
  marks_known now (Look part) w known = known
  marks_known now (Renew input) w known = leased_known (lease_asked k.now input) (touched_at now w) known
  marks_known now (Add asked) w known = known
  marks_known now (Remove texts) w known = some_known (λ i. not (among texts i.text)) w.items known
  marks_known now PollChanges w known = reported_known w.items known
  marks_known now PollRefresh w known = reported_known w.items known
  marks_known now Delete w known = record {}
  marks_known now (Refuse fault) w known = known

  none_known : (n : ℕ) (ws : Numbered) → AllByRecursion Known ws → AllByRecursion Known (replace n None ws)
  none_known n [] known = known
  none_known n (w ∷ ws) known = go (w.0 == n) (none_known n ws known.1)
    where
      go : (b : Bool) → AllByRecursion Known (replace n None ws) → AllByRecursion Known (cond b (replace n None ws) (w ∷ replace n None ws))
      go true rest = rest
      go false rest = (known.0, rest)

  pub one_known : (n : ℕ) (v : Leased) (ws : Numbered) → AreSoundItems k v.items → AllByRecursion Known ws → AllByRecursion Known (replace n (Some v) ws)
  one_known n v [] own known = known
  one_known n v (w ∷ ws) own known = (go (w.0 == n), one_known n v ws own known.1)
    where
      go : (b : Bool) → AreSoundItems k (let x : Leased = cond b v w.1 in x).items
      go true = own
      go false = known.0

  replaced_known : (n : ℕ) (left : Option Leased) (ws : Numbered) → LeftKnown left → AllByRecursion Known ws → AllByRecursion Known (replace n left ws)
  replaced_known n None ws own known = none_known n ws known
  replaced_known n (Some v) ws own known = one_known n v ws own known

  -- what an operation leaves is known
  pub left_known : (now n : ℕ) (op : WatchOperation) (old : Table) → AllKnown k old → AllKnown k (leaving k now n op old)
  left_known now n op old known = replaced_known n (option_and_then (marks_after k now op) (lookup n old.watches)) old.watches (go (lookup n old.watches) refl) known
    where
      go : (o : Option Leased) → lookup n old.watches ≡ o → LeftKnown (option_and_then (marks_after k now op) o)
      go None e = record {}
      go (Some w) e = marks_known now op w (all_there (λ (v : Leased). AreSoundItems k v.items) n old.watches w known e)

-- and so it is where a watch is made
pushed_known : (k : Kept) (ws : Numbered) (n now : ℕ) → AllByRecursion (λ (e : ℕ × Leased). AreSoundItems k e.1.items) ws → AllByRecursion (λ (e : ℕ × Leased). AreSoundItems k e.1.items) (ws ++ (n, new_watch now) ∷ [])
pushed_known k [] n now known = (record {}, record {})
pushed_known k (w ∷ ws) n now known = (known.0, pushed_known k ws n now known.1)

pub made_known : (now : ℕ) (old new : Table) → new ≡ with_new now old → (k : Kept) → AllKnown k old → AllKnown k new
made_known now old new is k known = subst (λ (t : Table). AllKnown k t) (sym is) (pushed_known k old.watches old.next now known)

-- and others have given way to it
pub way_known : (now : ℕ) (before new : Table) → new ≡ with_new now (yielded_at now (lapsed_at now before)) → (k : Kept) → AllKnown k before → AllKnown k new
way_known now before new is k known =
    let keeps = table_keeps (IsSoundItem k) in
    subst (λ (t : Table). AllKnown k t) (sym is)
    (keeps.makes now (yielded_at now (lapsed_at now before)) (keeps.yields now (lapsed_at now before) (keeps.lapses now before known)))
