-- Draws and requests, worked by computing; the rows are typed from the rules.
use Rattle.std.specs.Prelude.{◌≡◌, codes, [], ◌∷◌, Some, None}
use Rattle.ob_values.specs.declared.verb.Verb.TheVariants.{Put}
use Rattle.ob_storm.specs.Draws.{draws}
use Rattle.ob_storm.specs.Requests.{post, int_of, watched_by, request_at, beginning, stormed, add, make}
use Rattle.ob_storm.specs.Lines.{lines}

-- seed 0 draws the increment's upper bits first
abbrev pub FirstDraw : Type 0
FirstDraw = draws 0 1 ≡ 167_951_807 ∷ []

-- 167,951,807 is 7 modulo 8, an eighth of it 5 modulo 10, and an eightieth 7 modulo 10
abbrev pub FirstRequest : Type 0
FirstRequest = stormed (record { seed = 0; clients = 1; requests = 1 }) ≡ post (codes "/obix/alarm/8/ack") None ∷ []

-- 413,936 is 517 * 800 + 42 * 8
abbrev pub Writes : Type 0
Writes = request_at 3 413_936 ≡ record { verb = Put; target = codes "/obix/p42"; body = Some (int_of 517) }

abbrev pub PollsChanges : Type 0
PollsChanges = request_at 3 413_941 ≡ post (codes "/obix/watch/3/pollChanges") None

-- 87 is 7 modulo 8, and an eighth of it is 10
abbrev pub PollsRefresh : Type 0
PollsRefresh = request_at 100 87 ≡ post (codes "/obix/watch/100/pollRefresh") None

-- 95 is 7 modulo 8, an eighth of it 11, and an eightieth 1
abbrev pub Acknowledges : Type 0
Acknowledges = request_at 1 95 ≡ post (codes "/obix/alarm/2/ack") None

-- behind the last point comes the first
abbrev pub WatchesRound : Type 0
WatchesRound =
    watched_by 97
    ≡ codes "/obix/h/feed" ∷ codes "/obix/alarms/feed" ∷ codes "/obix/p97" ∷ codes "/obix/p98" ∷ codes "/obix/p99" ∷ codes "/obix/p0" ∷ codes "/obix/p1"
    ∷ codes "/obix/p2" ∷ codes "/obix/p3" ∷ codes "/obix/p4" ∷ codes "/obix/p5" ∷ codes "/obix/p6" ∷ []

-- one client after the other makes a watch and adds to it
abbrev pub BeginsInOrder : Type 0
BeginsInOrder = beginning (record { seed = 5; clients = 2; requests = 0 }) ≡ make ∷ add 1 ∷ make ∷ add 2 ∷ []

abbrev pub SixLines : Type 0
SixLines =
    lines (record { requests = 1; errs = 1; objects = 0; events = 20; records = 0; alarms = 0 })
    ≡ codes "requests 1\nerrs 1\nobjects 0\nevents 20\nrecords 0\nalarms 0\n"
