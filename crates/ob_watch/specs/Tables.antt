-- Watches with marked items, and their table by number: what each call makes of them.
use Rattle.std.specs.Prelude.{◌≡◌, ℕ, zero, suc, ◌+◌, ◌-◌, ◌*◌, ◌<◌, ◌≤◌, Bool, false, cond, not, ◌||◌, List, [], ◌∷◌, ◌++◌, map, length, drop, nat_le, nat_lt, Option, None, option_map, unwrap_or, position}
use Rattle.std.specs.List.{AllByRecursion, filter}
use Rattle.ob_tree.specs.Trees.{Stamped}
use Rattle.ob_watching.specs.Tables.{least, lookup, replace}
use Rattle.ob_watching.specs.Watches.{Room, max_watches, max_items, max_items_in_all, max_bytes, max_bytes_in_all, max_idle, last_number, first_lease}
use Rattle.ob_watch.specs.declared.item.Item.{Item}
use Rattle.ob_watch.specs.Feeds.{FeedLog}
use Rattle.ob_watch.specs.Items.{Text, among, bytes_of, is_due}

-- A Watch: its lease in nanoseconds, the moment of the last request to it in milliseconds, and its items in the order in
-- which their hrefs were first added.
pub record Leased : Type 0 where
  pub lease : ℕ
  pub touched : ℕ
  pub items : List Item

-- the watches that are held by their numbers, the oldest first, and the number of the next one
pub record Table : Type 0 where
  pub watches : List (ℕ × Leased)
  pub next : ℕ

-- a second and a day in nanoseconds
abbrev pub shortest_lease : ℕ
shortest_lease = 1_000_000_000

abbrev pub longest_lease : ℕ
longest_lease = 86_400_000_000_000

-- a lease that can be asked for
pub record IsLease (lease : ℕ) : Type 0 where
  pub long : shortest_lease ≤ lease
  pub short : lease ≤ longest_lease

-- a watch with other items
abbrev pub watching : List Item → Leased → Leased
watching items w = record { lease = w.lease; touched = w.touched; items = items }

abbrev pub touched_at : ℕ → Leased → Leased
touched_at now w = record { lease = w.lease; touched = now; items = w.items }

abbrev pub leased_for : ℕ → Leased → Leased
leased_for lease w = record { lease = lease; touched = w.touched; items = w.items }

-- a watch without the items of these hrefs
abbrev pub without : List Text → Leased → Leased
without texts w = watching (filter (λ i. not (among texts i.text)) w.items) w

-- no new href can be added
abbrev pub is_full_watch : Leased → Bool
is_full_watch w = nat_le max_items (length w.items)

-- the lease has run out, compared in nanoseconds
abbrev pub is_over : ℕ → Leased → Bool
is_over now w = nat_le (w.touched * 1_000_000 + w.lease) (now * 1_000_000)

-- the lease has run out at no moment before this one
abbrev pub StandsUntil : ℕ → Leased → Type 0
StandsUntil moment w = (now : ℕ) → now < moment → is_over now w ≡ false

-- no lease has run out at a moment before this one
abbrev pub AllStandUntil : ℕ → List (ℕ × Leased) → Type 0
AllStandUntil moment ws = AllByRecursion (λ e. StandsUntil moment e.1) ws

-- the first place from one on whose item is to be reported
abbrev pub next_due : Stamped → List FeedLog → ℕ → List Item → Option ℕ
next_due t feeds place items = option_map (λ n. place + n) (position (is_due t feeds) (drop place items))

abbrev pub no_watches : Table
no_watches = record { watches = []; next = 1 }

-- the watch of a number another, if it is held
abbrev pub at_number : ℕ → (Leased → Leased) → List (ℕ × Leased) → List (ℕ × Leased)
at_number n f ws = replace n (option_map f (lookup n ws)) ws

-- the items of each watch others
abbrev pub with_all_items : (Item → Item) → List (ℕ × Leased) → List (ℕ × Leased)
with_all_items f ws = map (λ e. (e.0, watching (map f e.1.items) e.1)) ws

-- the watches whose lease has not run out
abbrev pub live : ℕ → List (ℕ × Leased) → List (ℕ × Leased)
live now ws = filter (λ e. not (is_over now e.1)) ws

-- the watches whose lease has run out are dropped
abbrev pub lapsed_at : ℕ → Table → Table
lapsed_at now t = record { watches = live now t.watches; next = t.next }

-- the most watches stand, or the last number was given
abbrev pub has_no_place : Table → Bool
has_no_place t = nat_le max_watches (length t.watches) || nat_lt last_number t.next

-- the items of watches, and the bytes of their hrefs
abbrev pub items_in_all : List (ℕ × Leased) → ℕ
items_in_all [] = 0
items_in_all (e ∷ es) = length e.1.items + items_in_all es

abbrev pub bytes_in_all : List (ℕ × Leased) → ℕ
bytes_in_all [] = 0
bytes_in_all (e ∷ es) = bytes_of e.1.items + bytes_in_all es

-- what watches leave of what all may have
abbrev pub room_left : List (ℕ × Leased) → Room
room_left ws = record { items = max_items_in_all - items_in_all ws; bytes = max_bytes_in_all - bytes_in_all ws }

-- what the other watches leave for the one of a number
abbrev pub room_beside : ℕ → List (ℕ × Leased) → Room
room_beside n ws = room_left (replace n None ws)

-- there is no room for one more watch with its most items
abbrev pub lacks_room : List (ℕ × Leased) → Bool
lacks_room ws = nat_le max_watches (length ws) || (nat_lt (room_left ws).items max_items || nat_lt (room_left ws).bytes max_bytes)

-- the last request to a watch lies more than a minute back
abbrev pub is_idle : ℕ → Leased → Bool
is_idle now w = nat_lt max_idle (now - w.touched)

-- the idle watch whose last request lies farthest back, of several the first
abbrev pub idlest : ℕ → List (ℕ × Leased) → Option ℕ
idlest now ws = option_map (λ e. e.0) (least (λ w. w.touched) (filter (λ e. is_idle now e.1) ws))

-- so many idle watches at most give way, one after the other, while there is no room
abbrev pub yielding : ℕ → ℕ → List (ℕ × Leased) → List (ℕ × Leased)
yielding zero now ws = ws
yielding (suc more) now ws = cond (lacks_room ws) (unwrap_or (option_map (λ n. yielding more now (replace n None ws)) (idlest now ws)) ws) ws

-- idle watches have given way while there was no room for one more
abbrev pub yielded_at : ℕ → Table → Table
yielded_at now t = record { watches = yielding (length t.watches) now t.watches; next = t.next }

abbrev pub new_watch : ℕ → Leased
new_watch now = record { lease = first_lease; touched = now; items = [] }

-- one more watch, made at a moment
abbrev pub with_new : ℕ → Table → Table
with_new now t = record { watches = t.watches ++ (t.next, new_watch now) ∷ []; next = t.next + 1 }

-- the table with other watches
abbrev pub holding : List (ℕ × Leased) → Table → Table
holding ws t = record { watches = ws; next = t.next }
