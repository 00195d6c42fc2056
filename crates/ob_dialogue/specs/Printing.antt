-- What is printed of what is held.
use Rattle.std.specs.Prelude.{ℕ, codes, List, [], ◌∷◌, ◌++◌, filter, decimal, Option, Some, None, unwrap_or, option_map, slice_get}
use Rattle.std.specs.Option.{option_map_or}
use Rattle.ob_encoding.specs.Canonical.{canonical_text}
use Rattle.ob_object.specs.Object.{Object}
use Rattle.ob_watching.specs.WatchOuts.{Text, Held}
use Rattle.ob_client.specs.Entries.{is_err, entries_once}
use Rattle.ob_client.specs.Mirrors.{events_under}
use Rattle.ob_client.specs.Shown.{shown}
use Rattle.ob_console.specs.Boards.{Line, board_of}
use Rattle.ob_console.specs.Lines.{board_text}
use Rattle.ob_console.specs.Screen.{screened}
use Rattle.ob_dialogue.specs.Plans.{Topic}
use Rattle.ob_dialogue.specs.declared.plan.Topic.TheVariants as topics
use Rattle.ob_dialogue.specs.Stages.{Watching}

-- an object on a line: its canonical text, each character that a terminal obeys as a reference, which reads the same
abbrev pub line : Object → List ℕ
line o = screened (canonical_text None o) ++ codes "\n"

abbrev pub lines_of : List Object → List ℕ
lines_of [] = []
lines_of (o ∷ os) = line o ++ lines_of os

abbrev pub items_text : List Held → List ℕ
items_text [] = []
items_text (h ∷ hs) = line (shown h) ++ items_text hs

-- the events of the feed that was added
abbrev pub events_of : List Text → List Held → List Object
events_of asked held = option_map_or (λ feed. events_under feed held) (slice_get asked 0) []

-- the board of these events; none if one is no alarm
abbrev pub board_in : Watching → Option (List Line)
board_in w = board_of (events_of w.asked w.held)

-- under a heading: the items, or the board
abbrev pub body_text : Topic → Watching → Option (List ℕ)
body_text (topics.Watch hrefs) w = Some (items_text w.held)
body_text (topics.Console subject ack user) w = option_map board_text (board_in w)

abbrev pub add_heading : List ℕ
add_heading = codes "# add\n"

abbrev pub poll_heading : ℕ → List ℕ
poll_heading k = codes "# " ++ (decimal k ++ codes "\n")

-- the errs of an add, which stand behind the items alone
abbrev pub errs_text : Topic → Object → List ℕ
errs_text (topics.Watch hrefs) reply = lines_of (filter is_err (unwrap_or (entries_once reply) []))
errs_text (topics.Console subject ack user) reply = []
