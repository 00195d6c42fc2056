-- All that a watch answers can be read back by a client.
use Rattle.std.proofs.Common.{ℕ, zero, suc, ◌-◌, true, false, List, [], ◌∷◌, ◌++◌, map, Option, Some, None}
use Rattle.std.specs.List.{filter, AllByRecursion}
use Rattle.ob_watching.specs.Operations.{PollChanges, Found, ObjectAt, FeedAt, NotFound}
use Rattle.ob_watching.specs.Sites.{Site, IsLawful}
use Rattle.ob_watching.specs.Watches.{Room, Tracked, Object, Feed, Item, Reading, Asks, since, content_now, reading, lists_some, changes_of, changes, refusal, added_unless, add_found, readings_added}
use Rattle.ob_watching.proofs.Soundness.{all_filter}
use Rattle.ob_watching.proofs.Agreement.{all_dropped}

module _ (m : Site) (law : IsLawful m) where
  abbrev pub AllReadable : Asks m → List (Reading m) → Type 0
  AllReadable op rs = AllByRecursion (λ r. law.Readable op r) rs

  readable_content : (op : Asks m) (s : m.State) (text : m.Text) (path : m.Path) (t : Tracked m) → law.Readable op (record { text = text; content = content_now m s path t })
  readable_content op s text path (Object changed) = law.readable_object op s text path
  readable_content op s text path (Feed bounds given) = law.readable_events op text path _ (all_filter (λ e. law.IsEvent e) (m.passes bounds) (m.events s path) (law.events_are s path))

  pub readable_items : (op : Asks m) (s : m.State) (items : List (Item m)) → AllReadable op (map (reading m s) items)
  readable_items op s [] = tt
  readable_items op s (item ∷ items) = (readable_content op s item.text item.path item.tracked, readable_items op s items)

  readable_both : (op : Asks m) (rs qs : List (Reading m)) → AllReadable op rs → AllReadable op qs → AllReadable op (rs ++ qs)
  readable_both op [] qs h g = g
  readable_both op (r ∷ rs) qs h g = (h.0, readable_both op rs qs h.1 g)

  readable_changes_of : (s : m.State) (text : m.Text) (path : m.Path) (t : Tracked m) → AllReadable PollChanges (changes_of m s text path t)
  readable_changes_of s text path (Object false) = tt
  readable_changes_of s text path (Object true) = (law.readable_object PollChanges s text path, tt)
  readable_changes_of s text path (Feed bounds given) = go (m.gone s path - given) (filter (m.passes bounds) (since m s path given)) (all_filter (λ e. law.IsEvent e) (m.passes bounds) _ (all_dropped (λ e. law.IsEvent e) (given - m.gone s path) (m.events s path) (law.events_are s path)))
    where
      go : (dropped : ℕ) (es : List m.Event) → AllByRecursion (λ e. law.IsEvent e) es → AllReadable PollChanges (lists_some m text path dropped es)
      go zero [] h = tt
      go zero (e ∷ es) h = (law.readable_changes text path 0 (e ∷ es) h, tt)
      go (suc k) es h = (law.readable_changes text path (suc k) es h, tt)

  pub readable_changes : (s : m.State) (items : List (Item m)) → AllReadable PollChanges (changes m s items)
  readable_changes s [] = tt
  readable_changes s (item ∷ items) = readable_both PollChanges _ _ (readable_changes_of s item.text item.path item.tracked) (readable_changes s items)

  readable_one : (op : Asks m) (s : m.State) (items : List (Item m)) (new : Item m) (refused : Option m.Fault) → law.Readable op (added_unless m refused s items new).1
  readable_one op s items new (Some fault) = law.readable_fault op fault new.text
  readable_one op s items new None = readable_content op s new.text new.path new.tracked

  readable_found : (op : Asks m) (s : m.State) (room : Room) (items : List (Item m)) (text : m.Text) (found : Found m.Path m.Filter m.Fault) → law.Readable op (add_found m s room items text found).1
  readable_found op s room items text (NotFound fault) = law.readable_fault op fault text
  readable_found op s room items text (ObjectAt path) = readable_one op s items _ (refusal m room items text)
  readable_found op s room items text (FeedAt path bounds) = readable_one op s items _ (refusal m room items text)

  pub readable_added : (op : Asks m) (s : m.State) (ns : List ℕ) (room : Room) (items : List (Item m)) (asked : List (m.Text × m.Input)) → AllReadable op (readings_added m s ns room items asked)
  readable_added op s ns room items [] = tt
  readable_added op s ns room items (a ∷ asked) = (readable_found op s room items a.0 (m.find s ns a.0 a.1), readable_added op s ns room (add_found m s room items a.0 (m.find s ns a.0 a.1)).0 asked)
