-- Requests worked on the plant of ob_site_rows, before a restart and behind it, with the texts of their answers.
use Rattle.std.specs.Prelude.{ℕ, ◌+◌, codes, List, [], ◌∷◌, ◌++◌}
use Rattle.ob_site_rules.specs.declared.request.Request.{Request}
use Rattle.ob_site_rules.specs.Build.{Text, under_name}
use Rattle.ob_site_rules.specs.Sites.{SiteState, site, step}
use Rattle.ob_site_rows.specs.Worked.{locate, plant, get, put, post, call}
use Rattle.ob_site_rows.specs.Rows.{AnswersAt, int, real, obj, user}
use Rattle.ob_lasting.specs.Lasting.{restarted}
use Rattle.ob_lasting.specs.Records.{NoteOf, Request as TheRequest, Numbers, replayed}

-- the moment of the first request: 2026-01-05T08:00:00Z
abbrev pub eight : ℕ
eight = 1_767_600_000_000

-- what requests leave of the plant, a second apart
abbrev pub left_from : ℕ → SiteState → List Request → SiteState
left_from moment s [] = s
left_from moment s (r ∷ rs) = left_from (moment + 1000) (step locate s r moment).0 rs

-- and a restart of it, with the time of the plant's opening
abbrev pub restart_after : List Request → SiteState
restart_after rs = (let s : SiteState = left_from eight plant rs in record { plan = s.plan; world = restarted (site locate s.plan) s.world eight })

-- a watch, a value, and a value of the history's source
abbrev pub morning : List Request
morning = call (codes "/obix/watchService/make") ∷ put (codes "/obix/n") (int 8) ∷ post (codes "/obix/t/writePoint") (obj (under_name (codes "value") (real 21) ∷ [])) ∷ []

-- what is asked behind it
abbrev pub later : List (ℕ × Request)
later =
    (eight + 9000, get (codes "/obix/n"))
    ∷ (eight + 9000, get (codes "/obix/h"))
    ∷ (eight + 9000, call (codes "/obix/watch/1/pollChanges"))
    ∷ (eight + 9000, call (codes "/obix/watchService/make"))
    ∷ []

-- the value and the record are there, and the watch is gone
abbrev pub there : List Text
there =
    codes "<int href=\"/obix/n\" val=\"8\" max=\"10\" min=\"0\" writable=\"true\"/>"
    ∷ codes "<obj href=\"/obix/h\" is=\"obix:History\"><ref name=\"source\" href=\"/obix/t\"/><int name=\"count\" val=\"5\" min=\"0\"/><abstime name=\"start\" val=\"2026-01-05T07:00:00Z\"/><abstime name=\"end\" val=\"2026-01-05T08:00:02Z\"/><op name=\"query\" href=\"/obix/h/query\" in=\"obix:HistoryFilter\" out=\"obix:HistoryQueryOut\"/><feed name=\"feed\" href=\"/obix/h/feed\" of=\"obix:HistoryRecord\" in=\"obix:HistoryFilter\"/><str name=\"tz\" null=\"true\"/></obj>"
    ∷ codes "<err is=\"obix:BadUriErr\" display=\"no such object\"/>"
    ∷ []

-- after a restart the next watch has the next number
abbrev pub AfterARestart : Type 0
AfterARestart = AnswersAt (restart_after morning) later (
    there ++ codes "<obj href=\"/obix/watch/2/\" is=\"obix:Watch\"><reltime name=\"lease\" href=\"/obix/watch/2/lease\" val=\"PT60S\" max=\"PT86400S\" min=\"PT1S\" writable=\"true\"/><op name=\"add\" href=\"/obix/watch/2/add\" in=\"obix:WatchIn\" out=\"obix:WatchOut\"/><op name=\"remove\" href=\"/obix/watch/2/remove\" in=\"obix:WatchIn\" out=\"obix:Nil\"/><op name=\"pollChanges\" href=\"/obix/watch/2/pollChanges\" in=\"obix:Nil\" out=\"obix:WatchOut\"/><op name=\"pollRefresh\" href=\"/obix/watch/2/pollRefresh\" in=\"obix:Nil\" out=\"obix:WatchOut\"/><op name=\"delete\" href=\"/obix/watch/2/delete\" in=\"obix:Nil\" out=\"obix:Nil\"/></obj>" ∷ []
    )

-- the record of that morning, in which the make is noted by its numbers
abbrev pub mornings_notes : List (NoteOf Request)
mornings_notes =
    Numbers 1001
    ∷ TheRequest (put (codes "/obix/n") (int 8)) (eight + 1000)
    ∷ TheRequest (post (codes "/obix/t/writePoint") (obj (under_name (codes "value") (real 21) ∷ []))) (eight + 2000)
    ∷ []

-- replayed on the plant as it was opened, it gives the same, and the next watch has the first number that it doesn't note
abbrev pub AfterAReplay : Type 0
AfterAReplay = AnswersAt (record { plan = plant.plan; world = replayed (site locate plant.plan) plant.world mornings_notes }) later (
    there ++ codes "<obj href=\"/obix/watch/1001/\" is=\"obix:Watch\"><reltime name=\"lease\" href=\"/obix/watch/1001/lease\" val=\"PT60S\" max=\"PT86400S\" min=\"PT1S\" writable=\"true\"/><op name=\"add\" href=\"/obix/watch/1001/add\" in=\"obix:WatchIn\" out=\"obix:WatchOut\"/><op name=\"remove\" href=\"/obix/watch/1001/remove\" in=\"obix:WatchIn\" out=\"obix:Nil\"/><op name=\"pollChanges\" href=\"/obix/watch/1001/pollChanges\" in=\"obix:Nil\" out=\"obix:WatchOut\"/><op name=\"pollRefresh\" href=\"/obix/watch/1001/pollRefresh\" in=\"obix:Nil\" out=\"obix:WatchOut\"/><op name=\"delete\" href=\"/obix/watch/1001/delete\" in=\"obix:Nil\" out=\"obix:Nil\"/></obj>" ∷ []
    )

-- an alarm and its acknowledgement are there, so a second one changes nothing
abbrev pub AlarmsStay : Type 0
AlarmsStay = AnswersAt (restart_after (put (codes "/obix/t") (real 35) ∷ post (codes "/obix/alarm/1/ack") (user (codes "ann")) ∷ [])) (
    (eight + 9000, post (codes "/obix/alarm/1/ack") (user (codes "bob")))
    ∷ []
    ) (
    codes "<obj is=\"obix:AckAlarmOut\"><obj name=\"alarm\" href=\"/obix/alarm/1/\" is=\"obix:AckAlarm obix:StatefulAlarm obix:PointAlarm\"><ref name=\"source\" href=\"/obix/t\"/><abstime name=\"timestamp\" val=\"2026-01-05T08:00:00Z\"/><abstime name=\"normalTimestamp\" null=\"true\"/><abstime name=\"ackTimestamp\" val=\"2026-01-05T08:00:01Z\"/><str name=\"ackUser\" val=\"ann\"/><op name=\"ack\" href=\"/obix/alarm/1/ack\" in=\"obix:AckAlarmIn\" out=\"obix:AckAlarmOut\"/><real name=\"alarmValue\" val=\"35\"/></obj></obj>"
    ∷ []
    )
