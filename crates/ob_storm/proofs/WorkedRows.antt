-- The rows, by computing.
use Rattle.std.specs.Prelude.{refl}
use Rattle.std.specs.Fmt.{digits}
use Rattle.ob_storm.specs.Rows.{FirstDraw, FirstRequest, Writes, PollsChanges, PollsRefresh, Acknowledges, WatchesRound, BeginsInOrder, SixLines}

pub first_draw : FirstDraw
unfolding digits
first_draw = refl

pub first_request : FirstRequest
unfolding digits
first_request = refl

pub writes : Writes
unfolding digits
writes = refl

pub polls_changes : PollsChanges
unfolding digits
polls_changes = refl

pub polls_refresh : PollsRefresh
unfolding digits
polls_refresh = refl

pub acknowledges : Acknowledges
unfolding digits
acknowledges = refl

pub watches_round : WatchesRound
unfolding digits
watches_round = refl

pub begins_in_order : BeginsInOrder
unfolding digits
begins_in_order = refl

pub six_lines : SixLines
unfolding digits
six_lines = refl
