-- The watches of a site: their state, and what a request at a moment leaves and replies.
use Rattle.std.specs.Prelude.{◌≡◌, ℕ, zero, suc, ◌+◌, ◌-◌, ◌*◌, ◌^◌, ◌≤◌, max, Bool, true, false, cond, not, ◌||◌, List, [], ◌∷◌, ◌++◌, map, length, drop, nat_lt, nat_le, Option, Some, None, option_map, unwrap_or, Result, Ok, Err}
use Rattle.std.specs.List.{filter, list_any, AllByRecursion}
use Rattle.ob_watching.specs.Operations.{Operation, Look, Renew, Add, Remove, PollChanges, PollRefresh, Delete, Refuse, Target, Itself, Nowhere, NewWatch, OneWatch, Found, ObjectAt, FeedAt, NotFound, ContentOf, Shows, Lists, Refuses, ReadingOf, ReplyOf, Answered, Told, Out, Nil, Refused}
use Rattle.ob_watching.specs.Sites.{Site}
use Rattle.ob_watching.specs.Tables.{put, is_among, lookup, map_values, replace, numbers_of, least}

-- limits of this server: watches at a time
abbrev pub max_watches : ℕ
max_watches = 1000

-- items of a watch
abbrev pub max_items : ℕ
max_items = 2048

-- items of all watches together
abbrev pub max_items_in_all : ℕ
max_items_in_all = 200_000

-- bytes of the hrefs of all items of all watches
abbrev pub max_bytes_in_all : ℕ
max_bytes_in_all = 16_777_216

-- as many bytes as the hrefs of one watch can have: 2,048 of 1,024 bytes each
abbrev pub max_bytes : ℕ
max_bytes = 2_097_152

-- for so many milliseconds since the last request to it a watch gives way to none
abbrev pub max_idle : ℕ
max_idle = 60_000

-- the last number that a watch is given
abbrev pub last_number : ℕ
last_number = 2 ^ 63 - 1

-- the lease of a new Watch in nanoseconds: a minute
abbrev pub first_lease : ℕ
first_lease = 60_000_000_000

-- What is kept of a watched object: whether it has changed since it was last reported; of a watched feed:
-- its filter, and how many of its events were reported or passed over, counted from the first event ever.
pub data TrackedOf (Filter : Type 0) : Type 0 where
  Object : (changed : Bool) → TrackedOf Filter
  Feed : (filter : Filter) → (given : ℕ) → TrackedOf Filter

-- an item: the href as it was asked, and what it names
pub record ItemOf (Text Path Filter : Type 0) : Type 0 where
  pub text : Text
  pub path : Path
  pub tracked : TrackedOf Filter

-- A Watch: its lease in nanoseconds, the moment of the last request to it in milliseconds, and its items in
-- the order in which their hrefs were first added.
pub record WatchOf (Text Path Filter : Type 0) : Type 0 where
  pub lease : ℕ
  pub touched : ℕ
  pub items : List (ItemOf Text Path Filter)

-- The state: the time in milliseconds, the site, the watches that stand by their numbers, the oldest first,
-- and the number of the next one.
pub record WorldOf (State Text Path Filter : Type 0) : Type 0 where
  pub time : ℕ
  pub site : State
  pub watches : List (ℕ × WatchOf Text Path Filter)
  pub next : ℕ

-- How many more items, and bytes of their hrefs, there may be.
pub record Room : Type 0 where
  pub items : ℕ
  pub bytes : ℕ

module _ (m : Site) where
  -- what is kept of an item of this site
  abbrev pub Tracked : Type 0
  Tracked = TrackedOf m.Filter

  -- an item of a watch of this site
  abbrev pub Item : Type 0
  Item = ItemOf m.Text m.Path m.Filter

  -- a watch of this site
  abbrev pub Watch : Type 0
  Watch = WatchOf m.Text m.Path m.Filter

  -- the state of this site and its watches
  abbrev pub World : Type 0
  World = WorldOf m.State m.Text m.Path m.Filter

  -- what an entry tells of this site
  abbrev pub Content : Type 0
  Content = ContentOf m.Object m.Event m.Err

  -- an entry: the asked text and what it tells
  abbrev pub Reading : Type 0
  Reading = ReadingOf m.Text m.Object m.Event m.Err

  -- a reply of this site, before it is sent
  abbrev pub Reply : Type 0
  Reply = ReplyOf m.Reply m.Part m.Text m.Object m.Event m.Err m.Fault

  -- what is asked of a watch of this site
  abbrev pub Asks : Type 0
  Asks = Operation m.Text m.Input m.Part m.Fault

  -- how many events the feed at a path has had, those that rolled off counted
  abbrev pub count : m.State → m.Path → ℕ
  count s path = m.gone s path + length (m.events s path)

  -- the kept events from an event number on
  abbrev pub since : m.State → m.Path → ℕ → List m.Event
  since s path given = drop (given - m.gone s path) (m.events s path)

  -- Watch.pollRefresh of one item: the object as it is, or the feed with all kept events that pass the filter
  abbrev pub content_now : m.State → m.Path → Tracked → Content
  content_now s path (Object changed) = Shows (m.shown s path)
  content_now s path (Feed bounds given) = Lists (m.feed path) 0 (filter (m.passes bounds) (m.events s path))

  -- an item as pollRefresh gives it
  abbrev pub reading : m.State → Item → Reading
  reading s item = record { text = item.text; content = content_now s item.path item.tracked }

  -- an item of which everything has been reported
  abbrev pub reported_now : m.State → m.Path → Tracked → Tracked
  reported_now s path (Object changed) = Object false
  reported_now s path (Feed bounds given) = Feed bounds (count s path)

  -- an item, all of which has been reported
  abbrev pub reported : m.State → Item → Item
  reported s item = record { text = item.text; path = item.path; tracked = reported_now s item.path item.tracked }

  -- an entry for a feed where events dropped out unreported, or some pass
  abbrev pub lists_some : m.Text → m.Path → ℕ → List m.Event → List Reading
  lists_some text path zero [] = []
  lists_some text path dropped es = record { text = text; content = Lists (m.feed path) dropped es } ∷ []

  -- Watch.pollChanges of one item: the object if it has changed; the feed's passing events since
  abbrev pub changes_of : m.State → m.Text → m.Path → Tracked → List Reading
  changes_of s text path (Object false) = []
  changes_of s text path (Object true) = record { text = text; content = Shows (m.shown s path) } ∷ []
  changes_of s text path (Feed bounds given) = lists_some text path (m.gone s path - given) (filter (m.passes bounds) (since s path given))

  -- what pollChanges gives of all items, in their order
  abbrev pub changes : m.State → List Item → List Reading
  changes s [] = []
  changes s (item ∷ items) = changes_of s item.text item.path item.tracked ++ changes s items

  -- whether an item has this text
  abbrev pub has_text : List Item → m.Text → Bool
  has_text items text = list_any (λ item. m.same_text item.text text) items

  -- an added href that is there already keeps its place
  abbrev pub put_item : Item → List Item → List Item
  put_item new items = put (λ old. m.same_text old.text new.text) (λ _. new) new items

  -- the bytes of the hrefs of items
  abbrev pub bytes_of : List Item → ℕ
  bytes_of [] = 0
  bytes_of (item ∷ items) = m.size item.text + bytes_of items

  -- the items of watches, and the bytes of their hrefs
  abbrev pub items_in_all : List (ℕ × Watch) → ℕ
  items_in_all [] = 0
  items_in_all (e ∷ es) = length e.1.items + items_in_all es

  abbrev pub bytes_in_all : List (ℕ × Watch) → ℕ
  bytes_in_all [] = 0
  bytes_in_all (e ∷ es) = bytes_of e.1.items + bytes_in_all es

  -- what watches leave of what all may have
  abbrev pub room_left : List (ℕ × Watch) → Room
  room_left ws = record { items = max_items_in_all - items_in_all ws; bytes = max_bytes_in_all - bytes_in_all ws }

  -- what the other watches leave for the one of a number
  abbrev pub room_beside : ℕ → List (ℕ × Watch) → Room
  room_beside n ws = room_left (replace n None ws)

  -- Why an href can't be added to items where the other watches leave so much room, if it can't: it is new, and the watch
  -- has its most items, or all watches have theirs, or its bytes are too many in all.
  abbrev pub refusal : Room → List Item → m.Text → Option m.Fault
  refusal room items text =
      cond (has_text items text) None
      (cond (nat_le max_items (length items)) (Some m.too_many_items)
      (cond (nat_le room.items (length items)) (Some m.too_many_in_all)
      (cond (nat_lt room.bytes (bytes_of items + m.size text)) (Some m.too_many_bytes) None)))

  -- an item is put, and read as it is, unless it is refused
  abbrev pub added_unless : Option m.Fault → m.State → List Item → Item → List Item × Reading
  added_unless None s items item = (put_item item items, reading s item)
  added_unless (Some fault) s items item = (items, record { text = item.text; content = Refuses (m.err fault) })

  -- Watch.add of one href that can be watched
  abbrev pub added : m.State → Room → List Item → Item → List Item × Reading
  added s room items item = added_unless (refusal room items item.text) s items item

  -- Watch.add of one href, by what it names
  abbrev pub add_found : m.State → Room → List Item → m.Text → Found m.Path m.Filter m.Fault → List Item × Reading
  add_found s room items text (NotFound fault) = (items, record { text = text; content = Refuses (m.err fault) })
  add_found s room items text (ObjectAt path) = added s room items (record { text = text; path = path; tracked = Object false })
  add_found s room items text (FeedAt path bounds) = added s room items (record { text = text; path = path; tracked = Feed bounds (count s path) })

  -- Watch.add: one href after the other, each with its entry of WatchOut
  abbrev pub items_added : m.State → List ℕ → Room → List Item → List (m.Text × m.Input) → List Item
  items_added s ns room items [] = items
  items_added s ns room items (a ∷ asked) = items_added s ns room (add_found s room items a.0 (m.find s ns a.0 a.1)).0 asked

  -- the entries of WatchOut that an add gives
  abbrev pub readings_added : m.State → List ℕ → Room → List Item → List (m.Text × m.Input) → List Reading
  readings_added s ns room items [] = []
  readings_added s ns room items (a ∷ asked) =
      (add_found s room items a.0 (m.find s ns a.0 a.1)).1 ∷ readings_added s ns room (add_found s room items a.0 (m.find s ns a.0 a.1)).0 asked

  -- whether a text is one of these
  abbrev pub among : List m.Text → m.Text → Bool
  among texts text = is_among m.same_text texts text

  -- of equal hrefs in one WatchIn only the first counts
  abbrev pub firsts : List m.Text → List (m.Text × m.Input) → List (m.Text × m.Input)
  firsts seen [] = []
  firsts seen (a ∷ asked) = cond (among seen a.0) (firsts seen asked) (a ∷ firsts (a.0 ∷ seen) asked)

  -- a watch with other items
  abbrev pub with_items : Watch → List Item → Watch
  with_items v items = record { lease = v.lease; touched = v.touched; items = items }

  -- what a lease that is asked for leaves of a Watch, and the reply
  abbrev pub with_lease : Watch → Result ℕ m.Fault → Watch
  with_lease v (Ok lease) = record { lease = lease; touched = v.touched; items = v.items }
  with_lease v (Err fault) = v

  -- the reply where a lease is asked for: the lease as it then is, or the refusal
  abbrev pub told_lease : ℕ → Result ℕ m.Fault → Reply
  told_lease n (Ok lease) = Told n lease m.lease
  told_lease n (Err fault) = Refused fault

  -- what an operation leaves of its Watch, beside which there is so much room; Watch.delete leaves none
  abbrev pub watch_after : m.State → List ℕ → Room → Watch → Asks → Option Watch
  watch_after s ns room v (Look part) = Some v
  watch_after s ns room v (Renew input) = Some (with_lease v (m.lease_asked s input))
  watch_after s ns room v (Add asked) = Some (with_items v (items_added s ns room v.items (firsts [] asked)))
  watch_after s ns room v (Remove texts) = Some (with_items v (filter (λ item. not (among texts item.text)) v.items))
  watch_after s ns room v PollChanges = Some (with_items v (map (reported s) v.items))
  watch_after s ns room v PollRefresh = Some (with_items v (map (reported s) v.items))
  watch_after s ns room v Delete = None
  watch_after s ns room v (Refuse fault) = Some v

  -- and its reply
  abbrev pub reply_to : m.State → List ℕ → Room → ℕ → Watch → Asks → Reply
  reply_to s ns room n v (Look part) = Told n v.lease part
  reply_to s ns room n v (Renew input) = told_lease n (m.lease_asked s input)
  reply_to s ns room n v (Add asked) = Out (readings_added s ns room v.items (firsts [] asked))
  reply_to s ns room n v (Remove texts) = Nil
  reply_to s ns room n v PollChanges = Out (changes s v.items)
  reply_to s ns room n v PollRefresh = Out (map (reading s) v.items)
  reply_to s ns room n v Delete = Nil
  reply_to s ns room n v (Refuse fault) = Refused fault

  -- a Watch.lease has run out, compared in nanoseconds
  abbrev pub has_lapsed : ℕ → Watch → Bool
  has_lapsed now v = nat_le (v.touched * 1_000_000 + v.lease) (now * 1_000_000)

  -- time never goes back, and the watches whose lease has run out are dropped
  abbrev pub begun : World → ℕ → World
  begun w moment = record {
    time = max w.time moment;
    site = w.site;
    next = w.next;
    watches = filter (λ e. not (has_lapsed (max w.time moment) e.1)) w.watches;
  }

  -- a request to a Watch renews its lease, whatever the reply is
  abbrev pub touched : ℕ → Watch → Watch
  touched now v = record { lease = v.lease; touched = now; items = v.items }

  -- one more watch, with a lease of a minute and no items
  abbrev pub made : World → World
  made w = record {
    time = w.time;
    site = w.site;
    next = w.next + 1;
    watches = w.watches ++ (w.next, record { lease = first_lease; touched = w.time; items = [] }) ∷ [];
  }

  -- the most watches stand, or the last number was given
  abbrev pub is_full : World → Bool
  is_full w = nat_le max_watches (length w.watches) || nat_lt last_number w.next

  -- there is no room for one more watch with its most items
  abbrev pub lacks_room : List (ℕ × Watch) → Bool
  lacks_room ws = nat_le max_watches (length ws) || (nat_lt (room_left ws).items max_items || nat_lt (room_left ws).bytes max_bytes)

  -- the last request to a watch lies more than a minute back
  abbrev pub is_idle : ℕ → Watch → Bool
  is_idle now v = nat_lt max_idle (now - v.touched)

  -- the idle watch whose last request lies farthest back, of several the one with the least number
  abbrev pub idlest : ℕ → List (ℕ × Watch) → Option ℕ
  idlest now ws = option_map (λ e. e.0) (least (λ v. v.touched) (filter (λ e. is_idle now e.1) ws))

  -- So many idle watches at most give way, one after the other, while there is no room.
  abbrev pub yielding : ℕ → ℕ → List (ℕ × Watch) → List (ℕ × Watch)
  yielding zero now ws = ws
  yielding (suc more) now ws = cond (lacks_room ws) (unwrap_or (option_map (λ n. yielding more now (replace n None ws)) (idlest now ws)) ws) ws

  -- idle watches have given way while there was no room for one more
  abbrev pub yielded : World → World
  yielded w = record { time = w.time; site = w.site; next = w.next; watches = yielding (length w.watches) w.time w.watches }

  -- WatchService.make, before which idle watches give way; a refused one leaves all as it was
  abbrev pub on_service : World → World → World × Reply
  on_service w v = cond (is_full v) (w, Refused m.too_many_watches) (made v, Told v.next first_lease m.whole)

  -- a request to the watch of a number, if it stands
  abbrev pub on_watch : World → ℕ → Asks → Option Watch → World × Reply
  on_watch w n op None = (w, Refused m.not_found)
  on_watch w n op (Some v) = (
    record { time = w.time; site = w.site; next = w.next; watches = replace n (watch_after w.site (numbers_of w.watches) (room_beside n w.watches) (touched w.time v) op) w.watches },
    reply_to w.site (numbers_of w.watches) (room_beside n w.watches) n (touched w.time v) op,
  )

  -- the state with another site
  abbrev pub with_site : World → m.State → World
  with_site w s = record { time = w.time; site = s; next = w.next; watches = w.watches }

  -- what a request does, and its reply, before the step ends
  abbrev pub acted : World → m.Request → Target m.Text m.Input m.Part m.Fault → World × Reply
  acted w r Itself = (let done : m.State × m.Reply = m.act w.site (numbers_of w.watches) r w.time in (with_site w done.0, Answered done.1))
  acted w r Nowhere = (w, Refused m.not_found)
  acted w r NewWatch = on_service w (yielded w)
  acted w r (OneWatch n op) = on_watch w n op (lookup n w.watches)

  -- a watched object has changed where it had before, or where it is shown otherwise before and after the step
  abbrev pub settled_at : Bool → Tracked → Tracked
  settled_at same (Object changed) = Object (changed || not same)
  settled_at same (Feed bounds given) = Feed bounds given

  -- an item as the end of a step leaves it
  abbrev pub settled : m.State → m.State → Item → Item
  settled before after item = record { text = item.text; path = item.path; tracked = settled_at (m.same (m.shown before item.path) (m.shown after item.path)) item.tracked }

  -- The reply being fixed, the histories drop down to their capacities, and changes are marked.
  abbrev pub ended : m.State → World → World
  ended before w = record {
    time = w.time;
    site = m.roll w.site;
    next = w.next;
    watches = map_values (λ v. with_items v (map (settled before (m.roll w.site)) v.items)) w.watches;
  }

  -- The state that a request at a moment leaves, and the reply as it is sent.
  abbrev pub act : World → m.Request → ℕ → World × m.Sent
  act w r moment =
      let done : World × Reply = acted (begun w moment) r (m.target r) in
      (ended w.site done.0, m.sent done.1)

  -- no two items have one href
  abbrev pub Distinct : List Item → Type 0
  Distinct [] = Unit {0}
  Distinct (item ∷ items) = AllByRecursion (λ other. m.same_text item.text other.text ≡ false) items × Distinct items

  -- numbers rise from low on, and stay below next
  abbrev pub Rises : ℕ → ℕ → List (ℕ × Watch) → Type 0
  Rises low next [] = low ≤ next
  Rises low next (e ∷ es) = (low ≤ e.0) × Rises (e.0 + 1) next es

  -- What holds of every state that the site can be in.
  pub record IsSound (w : World) : Type 0 where
    pub numbers : Rises 0 w.next w.watches
    pub next : w.next ≤ last_number + 1
    pub texts : AllByRecursion (λ e. Distinct e.1.items) w.watches
    -- each history is within its capacity
    pub rolled : m.roll w.site ≡ w.site
