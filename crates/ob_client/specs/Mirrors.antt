-- What contracts see of a mirror, and what its calls make of it: by the definition of what a client holds that replays the
-- replies on a watch.
use Rattle.std.specs.Coded.{Coded, code_by, coded×, coded_list, coded_bool}
use Rattle.std.specs.Prelude.{refl, ◌≡◌, ℕ, ◌+◌, Bool, true, false, cond, ◌&&◌, nat_le, pos, codes, find, List, [], Option, Some, None, Result}
use Rattle.std.specs.declared.result.Result.TheVariants.{Ok, Err}
use Rattle.std.specs.List.{list_all}
use Rattle.std.specs.Option.{option_map_or}
use Rattle.std.specs.Str.{bytes_eq}
use Rattle.ob_values.specs.declared.value.Value.TheVariants as value
use Rattle.ob_object.specs.declared.kind.Kind.TheVariants as kind
use Rattle.ob_object.specs.declared.head.Slot.{Slot}
use Rattle.ob_object.specs.declared.head.Slot.TheVariants.{Is}
use Rattle.ob_object.specs.Object.{Object, children}
use Rattle.ob_object.specs.WellFormed.{named}
use Rattle.ob_watching.specs.Operations.{Operation, Add, Remove, PollChanges, PollRefresh, Lists, Nothing}
use Rattle.ob_watching.specs.Replay.{replay_heard}
use Rattle.ob_watching.specs.WatchOuts.{Text, Held, is_of_kind, heard}
use Rattle.ob_client.specs.Entries.{is_feed, text_of, entries_once}
use Rattle.ob_client.specs.Shown.{Content, held_code}
use Rattle.ob_client.specs.declared.mirror_fault.MirrorFault.{MirrorFault}
use Rattle.ob_client.specs.declared.mirror_fault.MirrorFault.TheVariants.{Shape, Stale, Memory}

-- What is held, and whether a reply was lost since the last pollRefresh that was taken.
pub record Mirrored : Type 0 where
  pub held : List Held
  pub stale : Bool

abbrev pub mirrored_code : Coded Object → Coded Mirrored
mirrored_code object = code_by (List Held × Bool) (coded× (coded_list (held_code object)) coded_bool) (λ m. (m.held, m.stale)) (λ p. record { held = p.0; stale = p.1 }) (λ _. refl)

-- nothing is held
abbrev pub empty : Mirrored
empty = record { held = []; stale = false }

abbrev pub lost : Mirrored → Mirrored
lost m = record { held = m.held; stale = true }

-- ---- what a reply leaves

-- what is asked of a watch; what else an operation carries doesn't count here
abbrev pub Asks : Type 0
Asks = Operation Text (Unit {0}) (Unit {0}) (Unit {0})

-- what is held after the reply to an operation
abbrev pub replied : Asks → Object → List Held → List Held
replied op reply held = replay_heard bytes_eq op (heard op reply) held

-- what is held after a remove of these hrefs was done
abbrev pub removed : List Text → Mirrored → Mirrored
removed texts m = record { held = replay_heard bytes_eq (let op : Asks = Remove texts in op) Nothing m.held; stale = m.stale }

-- the reply to a pollRefresh was taken
abbrev pub refreshed : Object → Mirrored → Mirrored
refreshed reply m = record { held = replied PollRefresh reply m.held; stale = false }

-- the reply to an add was taken
abbrev pub added : Object → Mirrored → Mirrored
added reply m = record { held = replied (Add []) reply m.held; stale = m.stale }

-- the reply to a pollChanges was taken
abbrev pub changed : Object → Mirrored → Mirrored
changed reply m = record { held = replied PollChanges reply m.held; stale = m.stale }

-- ---- what is found

-- what is held under an href
abbrev pub found : Text → List Held → Option Held
found text held = find (λ h. bytes_eq text h.text) held

abbrev pub events_in : Content → List Object
events_in (Lists feed missed events) = events
events_in _ = []

abbrev pub missed_in : Content → ℕ
missed_in (Lists feed missed events) = missed
missed_in _ = 0

-- the events of a held feed, and none under every other text
abbrev pub events_under : Text → List Held → List Object
events_under text held = option_map_or (λ h. events_in h.content) (found text held) []

-- how many events of a held feed were missed, and 0 under every other text
abbrev pub missed_under : Text → List Held → ℕ
missed_under text held = option_map_or (λ h. missed_in h.content) (found text held) 0

-- ---- what can be counted

-- the most events that are counted as missed
abbrev pub most_missed : ℕ
most_missed = 9_223_372_036_854_775_807

abbrev pub counts : ℕ → Slot → Bool
counts missed (Is (value.Int (pos n))) = nat_le 1 n && nat_le (missed + n) most_missed
counts missed _ = false

-- a child `dropped`, if there is one, is an int from 1 on that can be counted
abbrev pub has_count : ℕ → Option Object → Bool
has_count missed None = true
has_count missed (Some c) = is_of_kind kind.Int c && counts missed c.head.slot

-- an entry for a held feed, if it is a feed, can be counted
abbrev pub follows : Content → Object → Bool
follows (Lists feed missed events) entry = cond (is_feed entry) (has_count missed (named (codes "dropped") (children entry))) true
follows _ entry = true

abbrev pub can_follow : Option Held → Object → Bool
can_follow None entry = true
can_follow (Some h) entry = follows h.content entry

abbrev pub all_follow : List Held → List Object → Bool
all_follow held entries = list_all (λ o. can_follow (found (text_of o) held) o) entries

-- ---- the answers

-- The reply to a pollRefresh is taken, or it is Shape exactly where it is no WatchOut of entries with an href, each once;
-- or there was no memory. After a refusal all is as it was.
abbrev pub Refreshes : Mirrored → Mirrored → Object → Result (Unit {0}) MirrorFault → Type 0
Refreshes old new reply (Ok _) =
    (os : List Object) × (entries_once reply ≡ Some os) × (new ≡ refreshed reply old)
Refreshes old new reply (Err Shape) = (entries_once reply ≡ None) × (new ≡ old)
Refreshes old new reply (Err Stale) = ⊥
Refreshes old new reply (Err Memory) = new ≡ old

-- The same of an add; it is Stale exactly where it isn't Shape and a reply was lost.
abbrev pub Adds : Mirrored → Mirrored → Object → Result (Unit {0}) MirrorFault → Type 0
Adds old new reply (Ok _) =
    (os : List Object) × (entries_once reply ≡ Some os) × (old.stale ≡ false) × (new ≡ added reply old)
Adds old new reply (Err Shape) = (entries_once reply ≡ None) × (new ≡ old)
Adds old new reply (Err Stale) = (os : List Object) × (entries_once reply ≡ Some os) × (old.stale ≡ true) × (new ≡ old)
Adds old new reply (Err Memory) = new ≡ old

-- Of a pollChanges the entries have to be such that what was missed can be counted.
abbrev pub Follows : Mirrored → Object → List Object → Type 0
Follows old reply os = (entries_once reply ≡ Some os) × (all_follow old.held os ≡ true)

abbrev pub NoneFollow : Mirrored → Object → Option (List Object) → Type 0
NoneFollow old reply None = Unit {0}
NoneFollow old reply (Some os) = all_follow old.held os ≡ false

abbrev pub Changes : Mirrored → Mirrored → Object → Result (Unit {0}) MirrorFault → Type 0
Changes old new reply (Ok _) =
    (os : List Object) × Follows old reply os × (old.stale ≡ false) × (new ≡ changed reply old)
Changes old new reply (Err Shape) = NoneFollow old reply (entries_once reply) × (new ≡ old)
Changes old new reply (Err Stale) = (os : List Object) × Follows old reply os × (old.stale ≡ true) × (new ≡ old)
Changes old new reply (Err Memory) = new ≡ old
