-- What holds of each item goes on holding.
use Rattle.std.proofs.Common.{ℕ, ◌≡◌, ◌≤◌, ◌==◌, Bool, true, false, not, cond, List, [], ◌∷◌, ◌++◌, zero, suc, map, length, filter, Option, Some, None, option_map, refl, subst, arith}
use Rattle.std.specs.Prelude.{unwrap_or}
use Rattle.std.specs.List.{AllByRecursion}
use Rattle.std.specs.Str.{bytes_eq}
use Rattle.ob_site_rules.specs.declared.plan.Plan.{Plan}
use Rattle.ob_tree.specs.declared.node.NodeId.{NodeId}
use Rattle.ob_tree.specs.Trees.{Stamped}
use Rattle.ob_watching.specs.Tables.{lookup, replace}
use Rattle.ob_watch.specs.declared.item.Tracked.{Tracked}
use Rattle.ob_watch.specs.declared.item.Tracked.TheVariants as tracked
use Rattle.ob_watch.specs.declared.item.Item.{Item}
use Rattle.ob_watch.specs.Feeds.{FeedLog}
use Rattle.ob_watch.specs.Items.{Text, among, anew_by, put_item, reported_by}
use Rattle.ob_watch.specs.Marks.{IsMarkPastBy}
use Rattle.ob_watch.specs.Tables.{Leased, at_number, idlest, is_over, lacks_room, live, new_watch, with_all_items, yielding}
use Rattle.ob_watch.proofs.TableLemmas.{Numbered}
use Rattle.ob_site_watches.proofs.Staying.{own_nodes_stay}
use Rattle.ob_site_watches.specs.Items.{OnNode, OnNodeBy, NodesStay, IsOwnNode, MarksStayPast, NumbersStay, OwnItemsStay}
use Rattle.ob_site_watches.specs.Known.{IsNumberedBy}
use Rattle.ob_site_watches.specs.Tables.{AllOf, AllItems, TableKeeps}

-- tables
module _ (P : Item → Type 0) where
  pushed : (ws : Numbered) (w : ℕ × Leased) → AllItems P ws → AllOf P w.1 → AllItems P (ws ++ w ∷ [])
  pushed [] w all own = (own, tt)
  pushed (x ∷ ws) w all own = (all.0, pushed ws w all.1 own)

  kept_live : (now : ℕ) (ws : Numbered) → AllItems P ws → AllItems P (live now ws)
  kept_live now [] all = tt
  kept_live now (w ∷ ws) all = go (is_over now w.1) (kept_live now ws all.1)
    where
      go : (b : Bool) → AllItems P (live now ws) → AllItems P (cond (not b) (w ∷ live now ws) (live now ws))
      go true rest = rest
      go false rest = (all.0, rest)

  kept_mapped : (f : Item → Item) → ((i : Item) → P i → P (f i)) → (items : List Item) → AllByRecursion P items → AllByRecursion P (map f items)
  kept_mapped f each [] all = tt
  kept_mapped f each (i ∷ items) all = (each i all.0, kept_mapped f each items all.1)

  kept_changed : (f : Item → Item) → ((i : Item) → P i → P (f i)) → (ws : Numbered) → AllItems P ws → AllItems P (with_all_items f ws)
  kept_changed f each [] all = tt
  kept_changed f each (w ∷ ws) all = (kept_mapped f each w.1.items all.0, kept_changed f each ws all.1)

  kept_found : (n : ℕ) (w : Leased) (ws : Numbered) → AllItems P ws → lookup n ws ≡ Some w → AllOf P w
  kept_found n w [] all e = absurd cc
  kept_found n w (x ∷ ws) all e = go (x.0 == n) e (λ f. kept_found n w ws all.1 f)
    where
      go : (b : Bool) → cond b (Some x.1) (lookup n ws) ≡ Some w → (lookup n ws ≡ Some w → AllOf P w) → AllOf P w
      go true e rest =
          let same : x.1 ≡ w = cc in
          subst (AllOf P) same all.0
      go false e rest = rest e

  kept_replaced : (n : ℕ) (w : Leased) (ws : Numbered) → AllItems P ws → AllOf P w → AllItems P (replace n (Some w) ws)
  kept_replaced n w [] all own = tt
  kept_replaced n w (x ∷ ws) all own = (go (x.0 == n), kept_replaced n w ws all.1 own)
    where
      go : (b : Bool) → AllOf P (cond b w x.1)
      go true = own
      go false = all.0

  kept_deleted : (n : ℕ) (ws : Numbered) → AllItems P ws → AllItems P (replace n None ws)
  kept_deleted n [] all = tt
  kept_deleted n (x ∷ ws) all = go (x.0 == n) (kept_deleted n ws all.1)
    where
      go : (b : Bool) → AllItems P (replace n None ws) → AllItems P (cond b (replace n None ws) (x ∷ replace n None ws))
      go true rest = rest
      go false rest = (all.0, rest)

  -- idle watches give way
  kept_yielding : (most now : ℕ) (ws : Numbered) → AllItems P ws → AllItems P (yielding most now ws)
  kept_yielding zero now ws all = all
  kept_yielding (suc more) now ws all = go (lacks_room ws) (idlest now ws) (λ n. kept_yielding more now (replace n None ws) (kept_deleted n ws all))
    where
      go : (b : Bool) (o : Option ℕ) → ((n : ℕ) → AllItems P (yielding more now (replace n None ws)))
          → AllItems P (cond b (unwrap_or (option_map (λ n. yielding more now (replace n None ws)) o) ws) ws)
      go true None each = all
      go true (Some n) each = each n
      go false o each = all

  kept_one : (n : ℕ) (f : Leased → Leased) → ((w : Leased) → AllOf P w → AllOf P (f w)) → (ws : Numbered) → AllItems P ws → AllItems P (at_number n f ws)
  kept_one n f each ws all = go (lookup n ws) refl
    where
      go : (o : Option Leased) → lookup n ws ≡ o → AllItems P (replace n (option_map f o) ws)
      go None e = kept_deleted n ws all
      go (Some w) e = kept_replaced n (f w) ws all (each w (kept_found n w ws all e))

  kept_some : (test : Item → Bool) (items : List Item) → AllByRecursion P items → AllByRecursion P (filter test items)
  kept_some test [] all = tt
  kept_some test (i ∷ items) all = go (test i) (kept_some test items all.1)
    where
      go : (b : Bool) → AllByRecursion P (filter test items) → AllByRecursion P (cond b (i ∷ filter test items) (filter test items))
      go true rest = (all.0, rest)
      go false rest = rest

  kept_put : (new : Item) (items : List Item) → P new → AllByRecursion P items → AllByRecursion P (put_item new items)
  kept_put new [] own all = (own, tt)
  kept_put new (i ∷ items) own all = go (bytes_eq i.text new.text) (kept_put new items own all.1)
    where
      go : (b : Bool) → AllByRecursion P (put_item new items) → AllByRecursion P (cond b (new ∷ items) (i ∷ put_item new items))
      go true rest = (own, all.1)
      go false rest = (all.0, rest)

-- so of each fact of items
pub table_keeps : (P : Item → Type 0) → TableKeeps P
table_keeps P = record {
  makes = λ now table all. pushed P table.watches (table.next, new_watch now) all tt;
  lapses = λ now table all. kept_live P now table.watches all;
  yields = λ now table all. kept_yielding P (length table.watches) now table.watches all;
  changes = λ f each ws all. kept_changed P f each ws all;
  looks_up = λ n w ws all e. kept_found P n w ws all e;
  replaces = λ n w ws all own. kept_replaced P n w ws all own;
  deletes = λ n ws all. kept_deleted P n ws all;
  changes_one = λ n f each ws all. kept_one P n f each ws all;
  removes = λ texts w all. kept_some P (λ i. not (among texts i.text)) w.items all;
  puts = λ new items own all. kept_put P new items own all;
}

-- facts of all items, from one to another
module _ (P Q : Item → Type 0) where
  items_changed : (f : Item → Item) → ((i : Item) → P i → Q (f i)) → (items : List Item) → AllByRecursion P items → AllByRecursion Q (map f items)
  items_changed f each [] all = tt
  items_changed f each (i ∷ items) all = (each i all.0, items_changed f each items all.1)

  pub all_changed : (f : Item → Item) → ((i : Item) → P i → Q (f i)) → (ws : Numbered) → AllItems P ws → AllItems Q (with_all_items f ws)
  all_changed f each [] all = tt
  all_changed f each (w ∷ ws) all = (items_changed f each w.1.items all.0, all_changed f each ws all.1)

  items_weaker : ((i : Item) → P i → Q i) → (items : List Item) → AllByRecursion P items → AllByRecursion Q items
  items_weaker each [] all = tt
  items_weaker each (i ∷ items) all = (each i all.0, items_weaker each items all.1)

  pub all_weaker : ((i : Item) → P i → Q i) → (ws : Numbered) → AllItems P ws → AllItems Q ws
  all_weaker each [] all = tt
  all_weaker each (w ∷ ws) all = (items_weaker each w.1.items all.0, all_weaker each ws all.1)

  items_both : (items : List Item) → AllByRecursion P items → AllByRecursion Q items → AllByRecursion (λ i. P i × Q i) items
  items_both [] all other = tt
  items_both (i ∷ items) all other = ((all.0, other.0), items_both items all.1 other.1)

  pub all_both : (ws : Numbered) → AllItems P ws → AllItems Q ws → AllItems (λ i. P i × Q i) ws
  all_both [] all other = tt
  all_both (w ∷ ws) all other = (items_both w.1.items all.0 other.0, all_both ws all.1 other.1)

-- items
module _ (P : Text → NodeId → Type 0) where
  on_reported : (steps : ℕ) (feeds : List FeedLog) (path : Text) (k : Tracked) → OnNodeBy P path k → OnNodeBy P path (reported_by steps feeds k)
  on_reported steps feeds path (tracked.Object node mark) on = on
  on_reported steps feeds path (tracked.Feed feed filter given) on = tt

  on_anew : (t : Stamped) (path : Text) (k : Tracked) → OnNodeBy P path k → OnNodeBy P path (anew_by t k)
  on_anew t path (tracked.Object node mark) on = on
  on_anew t path (tracked.Feed feed filter given) on = tt

pub nodes_stay : (P : Text → NodeId → Type 0) → NodesStay P
nodes_stay P = record {
  reports = λ steps feeds i on. on_reported P steps feeds i.path i.tracked on;
  renumbers = λ t i on. on_anew P t i.path i.tracked on;
}

on_other : (P Q : Text → NodeId → Type 0) → ((path : Text) (node : NodeId) → P path node → Q path node) → (path : Text) (k : Tracked) → OnNodeBy P path k → OnNodeBy Q path k
on_other P Q each path (tracked.Object node mark) on = each path node on
on_other P Q each path (tracked.Feed feed filter given) on = tt

pub own_items_stay : OwnItemsStay
own_items_stay o q d ws all =
    all_weaker (OnNode (IsOwnNode o)) (OnNode (IsOwnNode q))
    (λ i on. on_other (IsOwnNode o) (IsOwnNode q) (λ path node own. own_nodes_stay o q d path node.number own) i.path i.tracked on) ws all

past_reported : (steps : ℕ) (feeds : List FeedLog) (k : Tracked) → IsMarkPastBy steps (reported_by steps feeds k)
past_reported steps feeds (tracked.Object node mark) = omega arith
past_reported steps feeds (tracked.Feed feed filter given) = tt

past_later : (steps more : ℕ) (k : Tracked) → steps ≤ more → IsMarkPastBy steps k → IsMarkPastBy more k
past_later steps more (tracked.Object node mark) le past = omega (arith, le, past)
past_later steps more (tracked.Feed feed filter given) le past = tt

one_at_most : (b : Bool) → cond b 0 1 ≤ 1
one_at_most true = omega arith
one_at_most false = omega arith

past_anew : (t : Stamped) (k : Tracked) → IsMarkPastBy 1 (anew_by t k)
past_anew t (tracked.Object node mark) = one_at_most _
past_anew t (tracked.Feed feed filter given) = tt

pub marks_stay_past : MarksStayPast
marks_stay_past = record {
  adds = λ text path node steps. (let e : steps ≤ steps = omega arith in e);
  adds_feed = λ text path feed filter given steps. tt;
  reports = λ steps feeds i. past_reported steps feeds i.tracked;
  later = λ steps more i le past. past_later steps more i.tracked le past;
  renumbers = λ t i. past_anew t i.tracked;
}

number_reported : (plan : Plan) (steps : ℕ) (feeds : List FeedLog) (path : Text) (k : Tracked) → IsNumberedBy plan path k → IsNumberedBy plan path (reported_by steps feeds k)
number_reported plan steps feeds path (tracked.Object node mark) numbered = tt
number_reported plan steps feeds path (tracked.Feed feed filter given) numbered = numbered

number_anew : (plan : Plan) (t : Stamped) (path : Text) (k : Tracked) → IsNumberedBy plan path k → IsNumberedBy plan path (anew_by t k)
number_anew plan t path (tracked.Object node mark) numbered = tt
number_anew plan t path (tracked.Feed feed filter given) numbered = numbered

pub numbers_stay : NumbersStay
numbers_stay = record {
  reports = λ plan steps feeds i numbered. number_reported plan steps feeds i.path i.tracked numbered;
  renumbers = λ plan t i numbered. number_anew plan t i.path i.tracked numbered;
}
