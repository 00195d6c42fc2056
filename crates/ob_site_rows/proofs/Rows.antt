-- The rows, by computing.
use Rattle.std.specs.Prelude.{refl}
use Rattle.std.specs.Fmt.{digits}
use Rattle.ob_contracts.specs.Inherit.{result_of}
use Rattle.ob_contracts.specs.Standard.{standard}
use Rattle.ob_site_rows.specs.Rows.{Plain, Lapses, LobbyEnds, Inherits, Overrides, Batches, Puts, Queries, Records, Alarms, Makes, Polls, Adds, Abouts, Feeds, Refuses, Ops, LeftOut, Watchables, SetBack, AckMarks, Rolls, RollsAtTheEnd, Defaults, DefaultSetBack, EqualDefault, MarksRound, AckMarksRoot, CountMarks}

pub plain : Plain
unfolding digits result_of standard
plain = refl

pub lapses : Lapses
unfolding digits result_of standard
lapses = refl

pub lobby_ends : LobbyEnds
unfolding digits result_of standard
lobby_ends = refl

pub inherits : Inherits
unfolding digits result_of standard
inherits = refl

pub overrides : Overrides
unfolding digits result_of standard
overrides = refl

pub batches : Batches
unfolding digits result_of standard
batches = refl

pub puts : Puts
unfolding digits result_of standard
puts = refl

pub queries : Queries
unfolding digits result_of standard
queries = refl

pub records : Records
unfolding digits result_of standard
records = refl

pub alarms : Alarms
unfolding digits result_of standard
alarms = refl

pub makes : Makes
unfolding digits result_of standard
makes = refl

pub polls : Polls
unfolding digits result_of standard
polls = refl

pub adds : Adds
unfolding digits result_of standard
adds = refl

pub abouts : Abouts
unfolding digits result_of standard
abouts = refl

pub feeds : Feeds
unfolding digits result_of standard
feeds = refl

pub refuses : Refuses
unfolding digits result_of standard
refuses = refl

pub ops : Ops
unfolding digits result_of standard
ops = refl

pub left_out : LeftOut
unfolding digits result_of standard
left_out = refl

pub watchables : Watchables
unfolding digits result_of standard
watchables = refl

pub set_back : SetBack
unfolding digits result_of standard
set_back = refl

pub ack_marks : AckMarks
unfolding digits result_of standard
ack_marks = refl

pub rolls : Rolls
unfolding digits result_of standard
rolls = refl

pub rolls_at_the_end : RollsAtTheEnd
unfolding digits result_of standard
rolls_at_the_end = refl

pub defaults : Defaults
unfolding digits result_of standard
defaults = refl

pub default_set_back : DefaultSetBack
unfolding digits result_of standard
default_set_back = refl

pub equal_default : EqualDefault
unfolding digits result_of standard
equal_default = refl

pub marks_round : MarksRound
unfolding digits result_of standard
marks_round = refl

pub ack_marks_root : AckMarksRoot
unfolding digits result_of standard
ack_marks_root = refl

pub count_marks : CountMarks
unfolding digits result_of standard
count_marks = refl
