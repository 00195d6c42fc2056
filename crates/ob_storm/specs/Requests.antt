-- What the clients of a storm ask. Source: oBIX 1.1, chapter 10 (Networking: Write, Invoke), chapter 12 (WatchService.make,
-- Watch.add, pollChanges, pollRefresh) and chapter 15 (AckAlarm.ack).
use Rattle.std.specs.Prelude.{ℕ, zero, suc, ◌+◌, ◌/◌, ◌%◌, cond, nat_lt, nat_eq, codes, decimal, List, [], ◌∷◌, ◌++◌, map, Option, Some, None}
use Rattle.ob_values.specs.declared.value.Value.TheVariants as value
use Rattle.ob_values.specs.declared.verb.Verb.TheVariants.{Get, Put, Post}
use Rattle.ob_object.specs.declared.kind.Kind.TheVariants as kind
use Rattle.ob_object.specs.declared.head.Slot.TheVariants.{Is}
use Rattle.ob_object.specs.Object.{Object, empty_head}
use Rattle.ob_site_rules.specs.declared.request.Request.{Request}
use Rattle.ob_site_rules.specs.Build.{Text, whole, leaf, word, number_slot}
use Rattle.ob_storm.specs.declared.storm.Storm.{Storm}
use Rattle.ob_storm.specs.Draws.{draws}

-- the path of the point of a number
abbrev pub point : ℕ → Text
point k = codes "/obix/p" ++ decimal k

-- the path of an op of the watch of a number
abbrev pub op_of_watch : ℕ → Text → Text
op_of_watch n op = codes "/obix/watch/" ++ decimal n ++ op

-- the path of the op that acknowledges the alarm of a number
abbrev pub op_of_alarm : ℕ → Text
op_of_alarm n = codes "/obix/alarm/" ++ decimal n ++ codes "/ack"

abbrev pub get : Text → Request
get target = record { verb = Get; target = target; body = None }

abbrev pub post : Text → Option Object → Request
post target body = record { verb = Post; target = target; body = body }

-- an int of a value
abbrev pub int_of : ℕ → Object
int_of v = leaf (record (empty_head kind.Int) { slot = number_slot v })

abbrev pub uri_of : Text → Object
uri_of text = leaf (record (empty_head kind.Uri) { slot = Is (value.Uri text) })

-- WatchIn with these hrefs
abbrev pub watch_in : List Text → Object
watch_in texts =
    whole (record (empty_head kind.Obj) { is = word (codes "obix:WatchIn") })
    (whole (record (empty_head kind.List) { name = Some (codes "hrefs") }) (map uri_of texts) ∷ [])

-- ten points in a row, the one behind the last being the first
abbrev pub points_from : ℕ → ℕ → List Text
points_from k zero = []
points_from k (suc n) = point (k % 100) ∷ points_from (k + 1) n

-- what a client watches: both feeds, and ten points from its own number on
abbrev pub watched_by : ℕ → List Text
watched_by client = codes "/obix/h/feed" ∷ codes "/obix/alarms/feed" ∷ points_from client 10

abbrev pub make : Request
make = post (codes "/obix/watchService/make") None

abbrev pub add : ℕ → Request
add client = post (op_of_watch client (codes "/add")) (Some (watch_in (watched_by client)))

-- so many clients from this one on make a watch each, and add to it what they watch
abbrev pub begin_from : ℕ → ℕ → List Request
begin_from client zero = []
begin_from client (suc n) = make ∷ add client ∷ begin_from (client + 1) n

abbrev pub write : ℕ → ℕ → Request
write k v = record { verb = Put; target = point k; body = Some (int_of v) }

-- what a client asks at a draw
abbrev pub request_at : ℕ → ℕ → Request
request_at client r =
    cond (nat_lt (r % 8) 5) (write (r / 8 % 100) (r / 800 % 1000))
    (cond (nat_lt (r % 8) 7) (post (op_of_watch client (codes "/pollChanges")) None)
    (cond (nat_eq (r / 8 % 10) 0) (post (op_of_watch client (codes "/pollRefresh")) None)
    (post (op_of_alarm (r / 80 % 10 + 1)) None)))

-- what so many clients ask in turn at these draws, the first being the one of number k from 0
abbrev pub in_turn : (clients k : ℕ) → List ℕ → List Request
in_turn clients k [] = []
in_turn clients k (r ∷ rs) = request_at (k % clients + 1) r ∷ in_turn clients (k + 1) rs

-- the requests before the storm, and those of it
abbrev pub beginning : Storm → List Request
beginning storm = begin_from 1 storm.clients

abbrev pub stormed : Storm → List Request
stormed storm = in_turn storm.clients 0 (draws storm.seed storm.requests)
