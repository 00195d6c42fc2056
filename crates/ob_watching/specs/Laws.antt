-- The laws of watches, over every legal history of calls from any sound state.
use Rattle.std.specs.Prelude.{◌≡◌, ◌≢◌, ℕ, ◌+◌, ◌^◌, ◌<◌, true, cond, Contains, List, [], ◌∷◌, ◌++◌, length, Option, Some, None, ◌⊎◌}
use Rattle.std.specs.List.{filter, list_any, AllByRecursion}
use Rattle.ob_machine.specs.History.{left_by, IsLegal}
use Rattle.ob_machine.specs.History as history
use Rattle.ob_machine.specs.declared.call.Answer.TheVariants.{Done, NoMemory}
use Rattle.ob_watching.specs.Operations.{NewWatch, OneWatch, PollChanges, PollRefresh, Shows, Lists, Told, Refused, Values}
use Rattle.ob_watching.specs.Sites.{Site}
use Rattle.ob_watching.specs.Tables.{lookup, IsSuffix}
use Rattle.ob_watching.specs.Watches.{Tracked, Object, Feed, Item, Watch, World, Content, Reading, Asks, count, reading, act, has_lapsed, IsSound}
use Rattle.ob_watching.specs.Clients.{Replied, Asking, call_of, calls, replay, watched, call_gives}

module _ (m : Site) where
  -- the state after one entry
  abbrev pub step : World m → Asking m → World m
  step w e = left_by (act m) w e.request e.moment e.answer

  -- the state after a history
  abbrev pub after : World m → List (Asking m) → World m
  after = history.after (act m)

  -- each entry of a history is answered as the state before it says
  abbrev pub Legal : World m → List (Asking m) → Type 0
  Legal = IsLegal (act m)

  -- the entry is a make that was answered with this watch
  pub record IsMake (n : ℕ) (e : Asking m) : Type 0 where
    pub target : m.target e.request ≡ NewWatch
    pub lease : ℕ
    pub answer : e.answer ≡ Done (m.sent (Told n lease m.whole))

  -- the entry is this operation on the watch, answered with a WatchOut
  pub record IsRead (n : ℕ) (op : Asks m) (e : Asking m) : Type 0 where
    pub target : m.target e.request ≡ OneWatch n op
    pub reply : m.Sent
    pub answer : e.answer ≡ Done reply
    pub given : List (Reading m)
    pub heard : m.heard op reply ≡ Values given

  -- a part of a history begins with the make of the watch, or with an answered pollRefresh of it
  abbrev pub Begins : ℕ → List (Asking m) → Type 0
  Begins n [] = ⊥
  Begins n (e ∷ es) = IsMake n e ⊎ IsRead n PollRefresh e

  -- and ends with an answered poll of it
  abbrev pub Ends : ℕ → List (Asking m) → Type 0
  Ends n [] = ⊥
  Ends n (e ∷ []) = IsRead n PollChanges e ⊎ IsRead n PollRefresh e
  Ends n (e ∷ f ∷ es) = Ends n (f ∷ es)

  -- for each href, the site as it was when an add or a pollRefresh last gave it whole
  abbrev pub whole_by : ℕ → m.State → Asking m → (m.Text → m.State) → m.Text → m.State
  whole_by n s e when text = cond (list_any (λ c. call_gives m text c.operation c.answer) (call_of m n e.answer (m.target e.request))) s (when text)

  -- the same over a history, from this world on
  abbrev pub whole_at : ℕ → World m → List (Asking m) → (m.Text → m.State) → m.Text → m.State
  whole_at n w [] when = when
  whole_at n w (e ∷ es) when = whole_at n (step w e) es (whole_by n w.site e when)

  -- the feed had this event, at the start of a part of a history or after one of its entries
  abbrev pub HadEvent : World m → List (Asking m) → m.Path → m.Event → Type 0
  HadEvent w [] path event = Contains (m.events w.site path) event
  HadEvent w (e ∷ es) path event = Contains (m.events w.site path) event ⊎ HadEvent (step w e) es path event

  -- What is held of a feed: the events since it was given whole, but for those missed, as far as they pass the
  -- filter. The kept events stand last among them, so each kept one that passes is held once and in its order.
  -- Those seen and those missed are together all events since then, and each one seen is an event that the feed had.
  pub record HoldsFeed (s then : m.State) (had : m.Event → Type 0) (path : m.Path) (bounds : m.Filter) (c : Content m) : Type 0 where
    pub missed : ℕ
    pub seen : List m.Event
    pub content : c ≡ Lists (m.feed path) missed (filter (m.passes bounds) seen)
    pub kept : IsSuffix (m.events s path) seen
    pub passing : IsSuffix (filter (m.passes bounds) (m.events s path)) (filter (m.passes bounds) seen)
    pub number : length seen + missed + m.gone then path ≡ count m s path
    pub genuine : AllByRecursion (λ e. had e) seen
    -- so where the filter passes each event that the feed had, those held and those missed are all events since then
    pub unfiltered : ((e : m.Event) → had e → m.passes bounds e ≡ true) → length (filter (m.passes bounds) seen) ≡ length seen

  -- what is held of an object is the object as it is shown
  abbrev pub HoldsItem : m.State → m.State → (m.Path → m.Event → Type 0) → m.Path → Tracked m → Content m → Type 0
  HoldsItem s then had path (Object changed) c = c ≡ Shows (m.shown s path)
  HoldsItem s then had path (Feed bounds given) c = HoldsFeed s then (had path) path bounds c

  -- the items' hrefs in their order, each with what is watched
  abbrev pub HoldsAll : m.State → (m.Text → m.State) → (m.Path → m.Event → Type 0) → List (Item m) → List (Reading m) → Type 0
  HoldsAll s when had [] [] = Unit {0}
  HoldsAll s when had [] (r ∷ rs) = ⊥
  HoldsAll s when had (item ∷ items) [] = ⊥
  HoldsAll s when had (item ∷ items) (r ∷ rs) =
      ((r.text ≡ item.text) × HoldsItem s (when item.text) had item.path item.tracked r.content) × HoldsAll s when had items rs

  -- of an item no event has rolled off
  abbrev pub KeepsItem : m.State → m.State → m.Path → Tracked m → Type 0
  KeepsItem s then path (Object changed) = Unit {0}
  KeepsItem s then path (Feed bounds given) = m.gone s path ≡ m.gone then path

  -- an item of which no event has rolled off is held as a pollRefresh would give it, whatever became of the others
  abbrev pub EachExact : m.State → (m.Text → m.State) → List (Item m) → List (Reading m) → Type 0
  EachExact s when [] [] = Unit {0}
  EachExact s when [] (r ∷ rs) = ⊥
  EachExact s when (item ∷ items) [] = ⊥
  EachExact s when (item ∷ items) (r ∷ rs) =
      (KeepsItem s (when item.text) item.path item.tracked → r ≡ reading m s item) × EachExact s when items rs

  -- A client of watch n that replayed the calls of this part, which began in this state, holds what is watched.
  pub record Holds (n : ℕ) (w : World m) (part : List (Asking m)) : Type 0 where
    pub watch : Watch m
    pub stands : lookup n (after w part).watches ≡ Some watch
    pub held : HoldsAll (after w part).site (whole_at n w part (λ _. w.site)) (HadEvent w part) watch.items (replay m (calls m n part))
    -- each exactly where nothing rolled off of it since it was given whole
    pub each : EachExact (after w part).site (whole_at n w part (λ _. w.site)) watch.items (replay m (calls m n part))
    -- exactly, as a list, where nothing rolled off since it was given whole
    pub exact : AllByRecursion (λ item. KeepsItem (after w part).site (whole_at n w part (λ _. w.site) item.text) item.path item.tracked) watch.items
        → Some (replay m (calls m n part)) ≡ watched m n (after w part)

  -- A client that replays the calls on a watch from its make on, or from any pollRefresh on, holds after each
  -- poll what is watched.
  abbrev pub WatchReplays : ℕ → Type 0
  WatchReplays n = n < 2 ^ 64 → (start : World m) → IsSound m start →
      (before part : List (Asking m)) → Legal start (before ++ part) →
      Begins n part → Ends n part → Holds n (after start before) part

  -- the entry is for this watch
  abbrev pub IsOn : ℕ → Asking m → Type 0
  IsOn n e = (op : Asks m) × (m.target e.request ≡ OneWatch n op)

  -- the answer is that there is no such object, or want of memory
  abbrev pub IsNotFound : Replied m → Type 0
  IsNotFound answer = (answer ≡ Done (m.sent (Refused m.not_found))) ⊎ (answer ≡ NoMemory)

  -- the number was given before the start, or is given by a make
  abbrev pub WasMade : World m → ℕ → List (Asking m) → Type 0
  WasMade start n [] = n < start.next
  WasMade start n (e ∷ es) = IsMake n e ⊎ WasMade start n es

  -- A watch that was made and is gone, deleted or lapsed, never comes back; no make answers with its number
  -- again, and each request for it is answered with BadUriErr or for want of memory.
  abbrev pub WatchStaysGone : ℕ → Type 0
  WatchStaysGone n = n < 2 ^ 64 → (start : World m) → IsSound m start →
      (before later : List (Asking m)) → Legal start (before ++ later) →
      WasMade start n before → lookup n (after start before).watches ≡ None →
      (lookup n (after start (before ++ later)).watches ≡ None) × AllByRecursion (λ e. (IsMake n e → ⊥) × (IsOn n e → IsNotFound e.answer)) later

  -- a watch, if there is one and its lease hasn't run out by then
  abbrev pub unless_lapsed : ℕ → Option (Watch m) → Option (Watch m)
  unless_lapsed now None = None
  unless_lapsed now (Some v) = cond (has_lapsed m now v) None (Some v)

  -- want of memory drops none
  abbrev pub standing_after : Replied m → ℕ → Option (Watch m) → Option (Watch m)
  standing_after (Done reply) now v = unless_lapsed now v
  standing_after NoMemory now v = v

  -- A request for one watch leaves every other as it was, with its lease, its moment and its marks; but an
  -- answered one drops those that have lapsed.
  abbrev pub LeavesOthers : ℕ → Type 0
  LeavesOthers n = (w : World m) → IsSound m w → (e : Asking m) → IsOn n e →
      (k : ℕ) → k ≢ n → lookup k (step w e).watches ≡ standing_after e.answer (step w e).time (lookup k w.watches)
