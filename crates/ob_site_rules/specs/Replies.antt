-- Replies as they are sent. Source: oBIX 1.1, chapter 12 (Watches); the child `dropped` of a feed entry is this profile's
-- own. What a client reads in them is said by `specs/WatchOuts.antt` of ob_watching.
use Rattle.std.specs.Prelude.{ℕ, Bool, cond, not, ◌&&◌, nat_eq, codes, List, [], ◌∷◌, ◌++◌, map, Some, is_none}
use Rattle.ob_object.specs.declared.kind.Kind.TheVariants as kind
use Rattle.ob_object.specs.Object.{Object, in_row}
use Rattle.ob_watching.specs.Operations.{ContentOf, Shows, Lists, Refuses, ReadingOf, ReplyOf, Answered, Told, Out, Nil, Refused}
use Rattle.ob_watching.specs.WatchOuts.{is_of_kind}
use Rattle.ob_site_rules.specs.Build.{Text, under_href, valued, number_slot}
use Rattle.ob_site_rules.specs.declared.fault.Fault.{Fault}
use Rattle.ob_site_rules.specs.Faults.{err}
use Rattle.ob_site_rules.specs.declared.plan.Plan.{Plan}
use Rattle.ob_site_rules.specs.declared.watch_part.WatchPart.{WatchPart}
use Rattle.ob_site_rules.specs.Computed.{nil_object, watch_part_object, watch_out}

-- what a reading of this site tells: an object, the events of a feed, or an err
abbrev pub Content : Type 0
Content = ContentOf Object Object Object

-- a reading of this site: the asked text and what is told of it
abbrev pub Reading : Type 0
Reading = ReadingOf Text Object Object Object

-- how many events rolled off unreported, before those that are given
abbrev pub dropped_child : ℕ → List Object
dropped_child n = cond (nat_eq n 0) [] (valued kind.Int (codes "dropped") (number_slot n) ∷ [])

-- what is read as an object: a feed has its events as children
abbrev pub content_object : Content → Object
content_object (Shows o) = o
content_object (Lists feed dropped events) = record { head = feed.head; inner = in_row (dropped_child dropped ++ events) }
content_object (Refuses o) = o

-- an entry has the asked text as href
abbrev pub entry : Reading → Object
entry r = under_href (Some r.text) (content_object r.content)

-- the object that a reply is
abbrev pub sent : Plan → ReplyOf Object WatchPart Text Object Object Object Fault → Object
sent plan (Answered o) = o
sent plan (Told n lease part) = watch_part_object plan n lease part
sent plan (Out readings) = watch_out (map entry readings)
sent plan Nil = nil_object
sent plan (Refused fault) = err fault

-- an object that is read as itself
abbrev pub is_plain : Object → Bool
is_plain o = is_none o.head.href && (not (is_of_kind kind.Feed o) && not (is_of_kind kind.Err o))
