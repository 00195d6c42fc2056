-- Requests worked on these sites, one after the other, with the texts of their answers.
use Rattle.std.specs.Prelude.{◌≡◌, ℕ, ◌*◌, ◌^◌, pos, negsuc, Bool, true, false, ◌&&◌, codes, List, [], ◌∷◌, map, Some, None, reverse, is_some, unwrap_or}
use Rattle.std.specs.Str.{bytes_eq}
use Rattle.ob_values.specs.declared.value.Value.TheVariants as value
use Rattle.ob_values.specs.declared.verb.Verb.TheVariants.{Put}
use Rattle.ob_object.specs.declared.kind.Kind.TheVariants as kind
use Rattle.ob_object.specs.declared.head.Slot.TheVariants.{Null, Is}
use Rattle.ob_object.specs.Object.{Object, empty_head, children}
use Rattle.ob_site_rules.specs.declared.request.Request.{Request}
use Rattle.ob_site_rules.specs.Build.{Text, whole, leaf, valued, word, under_name, number_slot, text_slot, time_slot}
use Rattle.ob_site_rules.specs.Paths.{behind}
use Rattle.ob_site_rules.specs.Sites.{SiteState}
use Rattle.ob_site_rows.specs.Printing.{xml}
use Rattle.ob_site_rows.specs.Worked.{replies, replies_at, plant, rolling, with_default, small, unset, nested, get, put, post, call, seven}

-- the objects have these texts
abbrev pub are : List Object → List Text → Bool
are [] [] = true
are [] (t ∷ ts) = false
are (o ∷ os) [] = false
are (o ∷ os) (t ∷ ts) = bytes_eq (xml o) t && are os ts

-- these requests, a second apart, are answered so
abbrev pub Answers : SiteState → List Request → List Text → Type 0
Answers s rs ts = are (replies s rs) ts ≡ true

-- the same at given moments
abbrev pub AnswersAt : SiteState → List (ℕ × Request) → List Text → Type 0
AnswersAt s rs ts = are (replies_at s rs) ts ≡ true

abbrev pub text_of_first : List Object → Text
text_of_first [] = []
text_of_first (o ∷ os) = xml o

-- the first answer ends so
abbrev pub EndsWith : SiteState → List Request → Text → Type 0
EndsWith s rs t = is_some (behind (reverse t) (reverse (text_of_first (replies s rs)))) ≡ true

abbrev pub last_of : List Object → List Object
last_of [] = []
last_of (o ∷ []) = children o
last_of (o ∷ p ∷ os) = last_of (p ∷ os)

abbrev pub hrefs_in : List Object → List Text
hrefs_in [] = []
hrefs_in (values ∷ os) = map (λ o. unwrap_or o.head.href []) (children values)

abbrev pub same_texts : List Text → List Text → Bool
same_texts [] [] = true
same_texts [] (t ∷ ts) = false
same_texts (s ∷ ss) [] = false
same_texts (s ∷ ss) (t ∷ ts) = bytes_eq s t && same_texts ss ts

-- the last answer has entries of these hrefs
abbrev pub Reports : SiteState → List Request → List Text → Type 0
Reports s rs ts = same_texts (hrefs_in (last_of (replies s rs))) ts ≡ true

abbrev pub obj : List Object → Object
obj os = whole (empty_head kind.Obj) os

abbrev pub int : ℕ → Object
int n = leaf (record (empty_head kind.Int) { slot = number_slot n })

-- one less than minus so much
abbrev pub negative : ℕ → Object
negative n = leaf (record (empty_head kind.Int) { slot = Is (value.Int (negsuc n)) })

abbrev pub real : ℕ → Object
real n = leaf (record (empty_head kind.Real) { slot = Is (value.Real (pos (n * 10 ^ 18))) })

abbrev pub uri : Text → List Object → Object
uri t os = whole (record (empty_head kind.Uri) { slot = Is (value.Uri t) }) os

abbrev pub item : Text → Text → List Object → Object
item verb t os = whole (record (empty_head kind.Uri) { is = word verb; slot = Is (value.Uri t) }) os

abbrev pub batch_in : List Object → Object
batch_in os = whole (record (empty_head kind.List) { is = word (codes "obix:BatchIn") }) os

-- a span of so many seconds
abbrev pub span : ℕ → Object
span s = leaf (record (empty_head kind.Reltime) { slot = Is (value.Reltime (record { months = pos 0; nanos = pos (s * 10 ^ 9) })) })

abbrev pub limit : ℕ → Object
limit n = valued kind.Int (codes "limit") (number_slot n)

abbrev pub within : ℕ → List Object
within s = valued kind.Abstime (codes "start") (time_slot (Some (seven s))) ∷ valued kind.Abstime (codes "end") (time_slot (Some (seven s))) ∷ []

abbrev pub filter_in : List Object → Object
filter_in os = obj os

abbrev pub user : Text → Object
user u = obj (valued kind.Str (codes "ackUser") (text_slot u) ∷ [])

abbrev pub watch_in : List Object → Object
watch_in os = whole (record (empty_head kind.Obj) { is = word (codes "obix:WatchIn") }) (whole (record (empty_head kind.List) { name = Some (codes "hrefs") }) os ∷ [])

-- a site of one node
abbrev pub Plain : Type 0
Plain = AnswersAt small (
    (0, get (codes "/obix/"))
    ∷ (0, get (codes "/obix/x"))
    ∷ (0, get (codes "/obix/n"))
    ∷ []
    ) (
    codes "<obj href=\"/obix/\"><int href=\"/obix/n\" val=\"7\"/></obj>"
    ∷ codes "<err is=\"obix:BadUriErr\" display=\"no such object\"/>"
    ∷ codes "<int href=\"/obix/n\" val=\"7\"/>"
    ∷ []
    )

-- a watch lapses when its lease has run out, and another one stays
abbrev pub Lapses : Type 0
Lapses = AnswersAt small (
    (0, call (codes "/obix/watchService/make"))
    ∷ (0, call (codes "/obix/watchService/make"))
    ∷ (0, record { verb = Put; target = codes "/obix/watch/2/lease"; body = Some (span 300) })
    ∷ (0, post (codes "/obix/watch/2/add") (watch_in (uri (codes "/obix/n") [] ∷ [])))
    ∷ (59999, call (codes "/obix/watch/1/pollChanges"))
    ∷ (50000, get (codes "/obix/n"))
    ∷ (119999, call (codes "/obix/watch/1/pollChanges"))
    ∷ (119999, call (codes "/obix/watch/1/pollRefresh"))
    ∷ (119999, get (codes "/obix/watch/1/lease"))
    ∷ (119999, call (codes "/obix/watch/2/pollRefresh"))
    ∷ (119999, call (codes "/obix/watchService/make"))
    ∷ []
    ) (
    codes "<obj href=\"/obix/watch/1/\" is=\"obix:Watch\"><reltime name=\"lease\" href=\"/obix/watch/1/lease\" val=\"PT60S\" max=\"PT86400S\" min=\"PT1S\" writable=\"true\"/><op name=\"add\" href=\"/obix/watch/1/add\" in=\"obix:WatchIn\" out=\"obix:WatchOut\"/><op name=\"remove\" href=\"/obix/watch/1/remove\" in=\"obix:WatchIn\" out=\"obix:Nil\"/><op name=\"pollChanges\" href=\"/obix/watch/1/pollChanges\" in=\"obix:Nil\" out=\"obix:WatchOut\"/><op name=\"pollRefresh\" href=\"/obix/watch/1/pollRefresh\" in=\"obix:Nil\" out=\"obix:WatchOut\"/><op name=\"delete\" href=\"/obix/watch/1/delete\" in=\"obix:Nil\" out=\"obix:Nil\"/></obj>"
    ∷ codes "<obj href=\"/obix/watch/2/\" is=\"obix:Watch\"><reltime name=\"lease\" href=\"/obix/watch/2/lease\" val=\"PT60S\" max=\"PT86400S\" min=\"PT1S\" writable=\"true\"/><op name=\"add\" href=\"/obix/watch/2/add\" in=\"obix:WatchIn\" out=\"obix:WatchOut\"/><op name=\"remove\" href=\"/obix/watch/2/remove\" in=\"obix:WatchIn\" out=\"obix:Nil\"/><op name=\"pollChanges\" href=\"/obix/watch/2/pollChanges\" in=\"obix:Nil\" out=\"obix:WatchOut\"/><op name=\"pollRefresh\" href=\"/obix/watch/2/pollRefresh\" in=\"obix:Nil\" out=\"obix:WatchOut\"/><op name=\"delete\" href=\"/obix/watch/2/delete\" in=\"obix:Nil\" out=\"obix:Nil\"/></obj>"
    ∷ codes "<reltime href=\"/obix/watch/2/lease\" val=\"PT300S\" max=\"PT86400S\" min=\"PT1S\" writable=\"true\"/>"
    ∷ codes "<obj is=\"obix:WatchOut\"><list name=\"values\"><int href=\"/obix/n\" val=\"7\"/></list></obj>"
    ∷ codes "<obj is=\"obix:WatchOut\"><list name=\"values\"/></obj>"
    ∷ codes "<int href=\"/obix/n\" val=\"7\"/>"
    ∷ codes "<err is=\"obix:BadUriErr\" display=\"no such object\"/>"
    ∷ codes "<err is=\"obix:BadUriErr\" display=\"no such object\"/>"
    ∷ codes "<err is=\"obix:BadUriErr\" display=\"no such object\"/>"
    ∷ codes "<obj is=\"obix:WatchOut\"><list name=\"values\"><int href=\"/obix/n\" val=\"7\"/></list></obj>"
    ∷ codes "<obj href=\"/obix/watch/3/\" is=\"obix:Watch\"><reltime name=\"lease\" href=\"/obix/watch/3/lease\" val=\"PT60S\" max=\"PT86400S\" min=\"PT1S\" writable=\"true\"/><op name=\"add\" href=\"/obix/watch/3/add\" in=\"obix:WatchIn\" out=\"obix:WatchOut\"/><op name=\"remove\" href=\"/obix/watch/3/remove\" in=\"obix:WatchIn\" out=\"obix:Nil\"/><op name=\"pollChanges\" href=\"/obix/watch/3/pollChanges\" in=\"obix:Nil\" out=\"obix:WatchOut\"/><op name=\"pollRefresh\" href=\"/obix/watch/3/pollRefresh\" in=\"obix:Nil\" out=\"obix:WatchOut\"/><op name=\"delete\" href=\"/obix/watch/3/delete\" in=\"obix:Nil\" out=\"obix:Nil\"/></obj>"
    ∷ []
    )

-- the root ends with what a lobby derives
abbrev pub LobbyEnds : Type 0
LobbyEnds = EndsWith plant (get (codes "/obix/") ∷ []) (codes "<ref name=\"about\" href=\"/obix/about\" is=\"obix:About\"/><op name=\"batch\" href=\"/obix/batch\" in=\"obix:BatchIn\" out=\"obix:BatchOut\"/><ref name=\"watchService\" href=\"/obix/watchService\" is=\"obix:WatchService\"/></obj>")

-- the first contract that gives a part decides
abbrev pub Inherits : Type 0
Inherits = Answers plant (
    get (codes "/obix/p")
    ∷ get (codes "/obix/q")
    ∷ []
    ) (
    codes "<obj href=\"/obix/p\" is=\"/obix/def/A /obix/def/B\"><int name=\"x\" val=\"1\" min=\"0\"/><int name=\"y\" val=\"3\"/></obj>"
    ∷ codes "<obj href=\"/obix/q\" is=\"/obix/def/B /obix/def/A\"><int name=\"x\" val=\"2\" max=\"9\" min=\"5\"/><int name=\"y\" val=\"3\"/></obj>"
    ∷ []
    )

-- items take the contract of their list, and an own child overrides
abbrev pub Overrides : Type 0
Overrides = Answers plant (
    get (codes "/obix/l")
    ∷ get (codes "/obix/r")
    ∷ []
    ) (
    codes "<list href=\"/obix/l\" of=\"/obix/def/B\"><obj><int name=\"x\" val=\"2\" max=\"9\" min=\"5\"/><int name=\"y\" val=\"3\"/></obj></list>"
    ∷ codes "<obj href=\"/obix/r\" is=\"/obix/def/B\"><int name=\"x\" val=\"6\" max=\"9\" min=\"5\"/><int name=\"y\" val=\"3\"/></obj>"
    ∷ []
    )

-- a batch
abbrev pub Batches : Type 0
Batches = Answers plant (
    post (codes "/obix/batch") (batch_in (item (codes "obix:Read") (codes "/obix/n") [] ∷ item (codes "obix:Write") (codes "/obix/k") (under_name (codes "in") (int 2) ∷ []) ∷ item (codes "obix:Read") (codes "/obix/k") [] ∷ []))
    ∷ []
    ) (
    codes "<list is=\"obix:BatchOut\"><int href=\"/obix/n\" val=\"7\" max=\"10\" min=\"0\" writable=\"true\"/><err is=\"obix:PermissionErr\" display=\"not writable\"/><int href=\"/obix/k\" val=\"1\"/></list>"
    ∷ []
    )

-- writes within bounds, above them, and of another kind
abbrev pub Puts : Type 0
Puts = Answers plant (
    put (codes "/obix/n") (int 10)
    ∷ put (codes "/obix/n") (int 11)
    ∷ get (codes "/obix/n")
    ∷ put (codes "/obix/n") (real 1)
    ∷ []
    ) (
    codes "<int href=\"/obix/n\" val=\"10\" max=\"10\" min=\"0\" writable=\"true\"/>"
    ∷ codes "<err display=\"above max\"/>"
    ∷ codes "<int href=\"/obix/n\" val=\"10\" max=\"10\" min=\"0\" writable=\"true\"/>"
    ∷ codes "<err display=\"kind differs\"/>"
    ∷ []
    )

-- records between two times, the first one, none, and all
abbrev pub Queries : Type 0
Queries = Answers plant (
    post (codes "/obix/h/query") (filter_in (within 600))
    ∷ post (codes "/obix/h/query") (filter_in (limit 1 ∷ within 600))
    ∷ post (codes "/obix/h/query") (filter_in (limit 0 ∷ []))
    ∷ call (codes "/obix/h/query")
    ∷ []
    ) (
    codes "<obj is=\"obix:HistoryQueryOut\"><int name=\"count\" val=\"2\"/><abstime name=\"start\" val=\"2026-01-05T07:10:00Z\"/><abstime name=\"end\" val=\"2026-01-05T07:10:00Z\"/><list name=\"data\" of=\"obix:HistoryRecord\"><obj><abstime name=\"timestamp\" val=\"2026-01-05T07:10:00Z\"/><real name=\"value\" val=\"21\"/></obj><obj><abstime name=\"timestamp\" val=\"2026-01-05T07:10:00Z\"/><real name=\"value\" val=\"22\"/></obj></list></obj>"
    ∷ codes "<obj is=\"obix:HistoryQueryOut\"><int name=\"count\" val=\"1\"/><abstime name=\"start\" val=\"2026-01-05T07:10:00Z\"/><abstime name=\"end\" val=\"2026-01-05T07:10:00Z\"/><list name=\"data\" of=\"obix:HistoryRecord\"><obj><abstime name=\"timestamp\" val=\"2026-01-05T07:10:00Z\"/><real name=\"value\" val=\"21\"/></obj></list></obj>"
    ∷ codes "<obj is=\"obix:HistoryQueryOut\"><int name=\"count\" val=\"0\"/><abstime name=\"start\" null=\"true\"/><abstime name=\"end\" null=\"true\"/><list name=\"data\" of=\"obix:HistoryRecord\"/></obj>"
    ∷ codes "<obj is=\"obix:HistoryQueryOut\"><int name=\"count\" val=\"4\"/><abstime name=\"start\" val=\"2026-01-05T07:00:00Z\"/><abstime name=\"end\" val=\"2026-01-05T07:20:00Z\"/><list name=\"data\" of=\"obix:HistoryRecord\"><obj><abstime name=\"timestamp\" val=\"2026-01-05T07:00:00Z\"/><real name=\"value\" val=\"20\"/></obj><obj><abstime name=\"timestamp\" val=\"2026-01-05T07:10:00Z\"/><real name=\"value\" val=\"21\"/></obj><obj><abstime name=\"timestamp\" val=\"2026-01-05T07:10:00Z\"/><real name=\"value\" val=\"22\"/></obj><obj><abstime name=\"timestamp\" val=\"2026-01-05T07:20:00Z\"/><real name=\"value\" val=\"23\"/></obj></list></obj>"
    ∷ []
    )

-- a write is recorded, and one of an equal value isn't
abbrev pub Records : Type 0
Records = Answers plant (
    post (codes "/obix/t/writePoint") (obj (under_name (codes "value") (real 21) ∷ []))
    ∷ get (codes "/obix/h")
    ∷ post (codes "/obix/t/writePoint") (obj (under_name (codes "value") (real 21) ∷ []))
    ∷ get (codes "/obix/h")
    ∷ []
    ) (
    codes "<real href=\"/obix/t\" is=\"obix:WritablePoint\" val=\"21\" status=\"ok\" writable=\"true\"><op name=\"writePoint\" href=\"/obix/t/writePoint\" in=\"obix:WritePointIn\" out=\"obix:Point\"/></real>"
    ∷ codes "<obj href=\"/obix/h\" is=\"obix:History\"><ref name=\"source\" href=\"/obix/t\"/><int name=\"count\" val=\"5\" min=\"0\"/><abstime name=\"start\" val=\"2026-01-05T07:00:00Z\"/><abstime name=\"end\" val=\"2026-01-05T08:00:00Z\"/><op name=\"query\" href=\"/obix/h/query\" in=\"obix:HistoryFilter\" out=\"obix:HistoryQueryOut\"/><feed name=\"feed\" href=\"/obix/h/feed\" of=\"obix:HistoryRecord\" in=\"obix:HistoryFilter\"/><str name=\"tz\" null=\"true\"/></obj>"
    ∷ codes "<real href=\"/obix/t\" is=\"obix:WritablePoint\" val=\"21\" status=\"ok\" writable=\"true\"><op name=\"writePoint\" href=\"/obix/t/writePoint\" in=\"obix:WritePointIn\" out=\"obix:Point\"/></real>"
    ∷ codes "<obj href=\"/obix/h\" is=\"obix:History\"><ref name=\"source\" href=\"/obix/t\"/><int name=\"count\" val=\"5\" min=\"0\"/><abstime name=\"start\" val=\"2026-01-05T07:00:00Z\"/><abstime name=\"end\" val=\"2026-01-05T08:00:00Z\"/><op name=\"query\" href=\"/obix/h/query\" in=\"obix:HistoryFilter\" out=\"obix:HistoryQueryOut\"/><feed name=\"feed\" href=\"/obix/h/feed\" of=\"obix:HistoryRecord\" in=\"obix:HistoryFilter\"/><str name=\"tz\" null=\"true\"/></obj>"
    ∷ []
    )

-- a value out of bounds, its acknowledgement, and its return
abbrev pub Alarms : Type 0
Alarms = Answers plant (
    put (codes "/obix/t") (real 35)
    ∷ post (codes "/obix/alarm/1/ack") (user (codes "ann"))
    ∷ get (codes "/obix/t")
    ∷ post (codes "/obix/alarm/1/ack") (user (codes "bob"))
    ∷ put (codes "/obix/t") (real 25)
    ∷ []
    ) (
    codes "<real href=\"/obix/t\" is=\"obix:WritablePoint\" val=\"35\" status=\"unackedAlarm\" writable=\"true\"><op name=\"writePoint\" href=\"/obix/t/writePoint\" in=\"obix:WritePointIn\" out=\"obix:Point\"/></real>"
    ∷ codes "<obj is=\"obix:AckAlarmOut\"><obj name=\"alarm\" href=\"/obix/alarm/1/\" is=\"obix:AckAlarm obix:StatefulAlarm obix:PointAlarm\"><ref name=\"source\" href=\"/obix/t\"/><abstime name=\"timestamp\" val=\"2026-01-05T08:00:00Z\"/><abstime name=\"normalTimestamp\" null=\"true\"/><abstime name=\"ackTimestamp\" val=\"2026-01-05T08:00:01Z\"/><str name=\"ackUser\" val=\"ann\"/><op name=\"ack\" href=\"/obix/alarm/1/ack\" in=\"obix:AckAlarmIn\" out=\"obix:AckAlarmOut\"/><real name=\"alarmValue\" val=\"35\"/></obj></obj>"
    ∷ codes "<real href=\"/obix/t\" is=\"obix:WritablePoint\" val=\"35\" status=\"alarm\" writable=\"true\"><op name=\"writePoint\" href=\"/obix/t/writePoint\" in=\"obix:WritePointIn\" out=\"obix:Point\"/></real>"
    ∷ codes "<obj is=\"obix:AckAlarmOut\"><obj name=\"alarm\" href=\"/obix/alarm/1/\" is=\"obix:AckAlarm obix:StatefulAlarm obix:PointAlarm\"><ref name=\"source\" href=\"/obix/t\"/><abstime name=\"timestamp\" val=\"2026-01-05T08:00:00Z\"/><abstime name=\"normalTimestamp\" null=\"true\"/><abstime name=\"ackTimestamp\" val=\"2026-01-05T08:00:01Z\"/><str name=\"ackUser\" val=\"ann\"/><op name=\"ack\" href=\"/obix/alarm/1/ack\" in=\"obix:AckAlarmIn\" out=\"obix:AckAlarmOut\"/><real name=\"alarmValue\" val=\"35\"/></obj></obj>"
    ∷ codes "<real href=\"/obix/t\" is=\"obix:WritablePoint\" val=\"25\" status=\"ok\" writable=\"true\"><op name=\"writePoint\" href=\"/obix/t/writePoint\" in=\"obix:WritePointIn\" out=\"obix:Point\"/></real>"
    ∷ []
    )

-- a watch
abbrev pub Makes : Type 0
Makes = Answers plant (
    call (codes "/obix/watchService/make")
    ∷ get (codes "/obix/watch/1/")
    ∷ get (codes "/obix/watch/2/")
    ∷ []
    ) (
    codes "<obj href=\"/obix/watch/1/\" is=\"obix:Watch\"><reltime name=\"lease\" href=\"/obix/watch/1/lease\" val=\"PT60S\" max=\"PT86400S\" min=\"PT1S\" writable=\"true\"/><op name=\"add\" href=\"/obix/watch/1/add\" in=\"obix:WatchIn\" out=\"obix:WatchOut\"/><op name=\"remove\" href=\"/obix/watch/1/remove\" in=\"obix:WatchIn\" out=\"obix:Nil\"/><op name=\"pollChanges\" href=\"/obix/watch/1/pollChanges\" in=\"obix:Nil\" out=\"obix:WatchOut\"/><op name=\"pollRefresh\" href=\"/obix/watch/1/pollRefresh\" in=\"obix:Nil\" out=\"obix:WatchOut\"/><op name=\"delete\" href=\"/obix/watch/1/delete\" in=\"obix:Nil\" out=\"obix:Nil\"/></obj>"
    ∷ codes "<obj href=\"/obix/watch/1/\" is=\"obix:Watch\"><reltime name=\"lease\" href=\"/obix/watch/1/lease\" val=\"PT60S\" max=\"PT86400S\" min=\"PT1S\" writable=\"true\"/><op name=\"add\" href=\"/obix/watch/1/add\" in=\"obix:WatchIn\" out=\"obix:WatchOut\"/><op name=\"remove\" href=\"/obix/watch/1/remove\" in=\"obix:WatchIn\" out=\"obix:Nil\"/><op name=\"pollChanges\" href=\"/obix/watch/1/pollChanges\" in=\"obix:Nil\" out=\"obix:WatchOut\"/><op name=\"pollRefresh\" href=\"/obix/watch/1/pollRefresh\" in=\"obix:Nil\" out=\"obix:WatchOut\"/><op name=\"delete\" href=\"/obix/watch/1/delete\" in=\"obix:Nil\" out=\"obix:Nil\"/></obj>"
    ∷ codes "<err is=\"obix:BadUriErr\" display=\"no such object\"/>"
    ∷ []
    )

-- a value that went back is reported, and one that stayed isn't
abbrev pub Polls : Type 0
Polls = Answers plant (
    call (codes "/obix/watchService/make")
    ∷ post (codes "/obix/watch/1/add") (watch_in (uri (codes "/obix/n") [] ∷ []))
    ∷ put (codes "/obix/n") (int 8)
    ∷ put (codes "/obix/n") (int 7)
    ∷ call (codes "/obix/watch/1/pollChanges")
    ∷ put (codes "/obix/n") (int 7)
    ∷ call (codes "/obix/watch/1/pollChanges")
    ∷ []
    ) (
    codes "<obj href=\"/obix/watch/1/\" is=\"obix:Watch\"><reltime name=\"lease\" href=\"/obix/watch/1/lease\" val=\"PT60S\" max=\"PT86400S\" min=\"PT1S\" writable=\"true\"/><op name=\"add\" href=\"/obix/watch/1/add\" in=\"obix:WatchIn\" out=\"obix:WatchOut\"/><op name=\"remove\" href=\"/obix/watch/1/remove\" in=\"obix:WatchIn\" out=\"obix:Nil\"/><op name=\"pollChanges\" href=\"/obix/watch/1/pollChanges\" in=\"obix:Nil\" out=\"obix:WatchOut\"/><op name=\"pollRefresh\" href=\"/obix/watch/1/pollRefresh\" in=\"obix:Nil\" out=\"obix:WatchOut\"/><op name=\"delete\" href=\"/obix/watch/1/delete\" in=\"obix:Nil\" out=\"obix:Nil\"/></obj>"
    ∷ codes "<obj is=\"obix:WatchOut\"><list name=\"values\"><int href=\"/obix/n\" val=\"7\" max=\"10\" min=\"0\" writable=\"true\"/></list></obj>"
    ∷ codes "<int href=\"/obix/n\" val=\"8\" max=\"10\" min=\"0\" writable=\"true\"/>"
    ∷ codes "<int href=\"/obix/n\" val=\"7\" max=\"10\" min=\"0\" writable=\"true\"/>"
    ∷ codes "<obj is=\"obix:WatchOut\"><list name=\"values\"><int href=\"/obix/n\" val=\"7\" max=\"10\" min=\"0\" writable=\"true\"/></list></obj>"
    ∷ codes "<int href=\"/obix/n\" val=\"7\" max=\"10\" min=\"0\" writable=\"true\"/>"
    ∷ codes "<obj is=\"obix:WatchOut\"><list name=\"values\"/></obj>"
    ∷ []
    )

-- each text once, with its object or a refusal
abbrev pub Adds : Type 0
Adds = Answers plant (
    call (codes "/obix/watchService/make")
    ∷ post (codes "/obix/watch/1/add") (watch_in (uri (codes "/obix/n") [] ∷ uri (codes "http://b:81/obix/n") [] ∷ uri (codes "/obix/n") [] ∷ uri (codes "/obix/zz") [] ∷ uri (codes "/obix/h/feed") (under_name (codes "in") (filter_in (limit 5 ∷ [])) ∷ []) ∷ []))
    ∷ call (codes "/obix/watch/1/pollRefresh")
    ∷ []
    ) (
    codes "<obj href=\"/obix/watch/1/\" is=\"obix:Watch\"><reltime name=\"lease\" href=\"/obix/watch/1/lease\" val=\"PT60S\" max=\"PT86400S\" min=\"PT1S\" writable=\"true\"/><op name=\"add\" href=\"/obix/watch/1/add\" in=\"obix:WatchIn\" out=\"obix:WatchOut\"/><op name=\"remove\" href=\"/obix/watch/1/remove\" in=\"obix:WatchIn\" out=\"obix:Nil\"/><op name=\"pollChanges\" href=\"/obix/watch/1/pollChanges\" in=\"obix:Nil\" out=\"obix:WatchOut\"/><op name=\"pollRefresh\" href=\"/obix/watch/1/pollRefresh\" in=\"obix:Nil\" out=\"obix:WatchOut\"/><op name=\"delete\" href=\"/obix/watch/1/delete\" in=\"obix:Nil\" out=\"obix:Nil\"/></obj>"
    ∷ codes "<obj is=\"obix:WatchOut\"><list name=\"values\"><int href=\"/obix/n\" val=\"7\" max=\"10\" min=\"0\" writable=\"true\"/><int href=\"http://b:81/obix/n\" val=\"7\" max=\"10\" min=\"0\" writable=\"true\"/><err href=\"/obix/zz\" is=\"obix:BadUriErr\" display=\"no such object\"/><err href=\"/obix/h/feed\" is=\"obix:UnsupportedErr\" display=\"input has another shape\"/></list></obj>"
    ∷ codes "<obj is=\"obix:WatchOut\"><list name=\"values\"><int href=\"/obix/n\" val=\"7\" max=\"10\" min=\"0\" writable=\"true\"/><int href=\"http://b:81/obix/n\" val=\"7\" max=\"10\" min=\"0\" writable=\"true\"/></list></obj>"
    ∷ []
    )

-- the server
abbrev pub Abouts : Type 0
Abouts = Answers plant (
    get (codes "/obix/about")
    ∷ []
    ) (
    codes "<obj href=\"/obix/about\" is=\"obix:About\"><str name=\"obixVersion\" val=\"1.1\"/><str name=\"serverName\" val=\"obix\"/><abstime name=\"serverTime\" val=\"2026-01-05T08:00:00Z\"/><abstime name=\"serverBootTime\" val=\"2026-01-05T08:00:00Z\"/><str name=\"vendorName\" val=\"none\"/><uri name=\"vendorUrl\" val=\"\"/><str name=\"productName\" val=\"obix\"/><str name=\"productVersion\" val=\"1.0\"/><uri name=\"productUrl\" val=\"\"/><str name=\"tz\" val=\"UTC\"/></obj>"
    ∷ []
    )

-- the alarm feed has each transition
abbrev pub Feeds : Type 0
Feeds = Answers plant (
    put (codes "/obix/t") (real 35)
    ∷ post (codes "/obix/alarm/1/ack") (user (codes "ann"))
    ∷ put (codes "/obix/t") (real 25)
    ∷ call (codes "/obix/watchService/make")
    ∷ post (codes "/obix/watch/1/add") (watch_in (uri (codes "/obix/alarms/feed") [] ∷ []))
    ∷ call (codes "/obix/watch/1/pollChanges")
    ∷ []
    ) (
    codes "<real href=\"/obix/t\" is=\"obix:WritablePoint\" val=\"35\" status=\"unackedAlarm\" writable=\"true\"><op name=\"writePoint\" href=\"/obix/t/writePoint\" in=\"obix:WritePointIn\" out=\"obix:Point\"/></real>"
    ∷ codes "<obj is=\"obix:AckAlarmOut\"><obj name=\"alarm\" href=\"/obix/alarm/1/\" is=\"obix:AckAlarm obix:StatefulAlarm obix:PointAlarm\"><ref name=\"source\" href=\"/obix/t\"/><abstime name=\"timestamp\" val=\"2026-01-05T08:00:00Z\"/><abstime name=\"normalTimestamp\" null=\"true\"/><abstime name=\"ackTimestamp\" val=\"2026-01-05T08:00:01Z\"/><str name=\"ackUser\" val=\"ann\"/><op name=\"ack\" href=\"/obix/alarm/1/ack\" in=\"obix:AckAlarmIn\" out=\"obix:AckAlarmOut\"/><real name=\"alarmValue\" val=\"35\"/></obj></obj>"
    ∷ codes "<real href=\"/obix/t\" is=\"obix:WritablePoint\" val=\"25\" status=\"ok\" writable=\"true\"><op name=\"writePoint\" href=\"/obix/t/writePoint\" in=\"obix:WritePointIn\" out=\"obix:Point\"/></real>"
    ∷ codes "<obj href=\"/obix/watch/1/\" is=\"obix:Watch\"><reltime name=\"lease\" href=\"/obix/watch/1/lease\" val=\"PT60S\" max=\"PT86400S\" min=\"PT1S\" writable=\"true\"/><op name=\"add\" href=\"/obix/watch/1/add\" in=\"obix:WatchIn\" out=\"obix:WatchOut\"/><op name=\"remove\" href=\"/obix/watch/1/remove\" in=\"obix:WatchIn\" out=\"obix:Nil\"/><op name=\"pollChanges\" href=\"/obix/watch/1/pollChanges\" in=\"obix:Nil\" out=\"obix:WatchOut\"/><op name=\"pollRefresh\" href=\"/obix/watch/1/pollRefresh\" in=\"obix:Nil\" out=\"obix:WatchOut\"/><op name=\"delete\" href=\"/obix/watch/1/delete\" in=\"obix:Nil\" out=\"obix:Nil\"/></obj>"
    ∷ codes "<obj is=\"obix:WatchOut\"><list name=\"values\"><feed href=\"/obix/alarms/feed\" of=\"obix:Alarm\"><obj href=\"/obix/alarm/1/\" is=\"obix:AckAlarm obix:StatefulAlarm obix:PointAlarm\"><ref name=\"source\" href=\"/obix/t\"/><abstime name=\"timestamp\" val=\"2026-01-05T08:00:00Z\"/><abstime name=\"normalTimestamp\" null=\"true\"/><abstime name=\"ackTimestamp\" null=\"true\"/><str name=\"ackUser\" null=\"true\"/><op name=\"ack\" href=\"/obix/alarm/1/ack\" in=\"obix:AckAlarmIn\" out=\"obix:AckAlarmOut\"/><real name=\"alarmValue\" val=\"35\"/></obj><obj href=\"/obix/alarm/1/\" is=\"obix:AckAlarm obix:StatefulAlarm obix:PointAlarm\"><ref name=\"source\" href=\"/obix/t\"/><abstime name=\"timestamp\" val=\"2026-01-05T08:00:00Z\"/><abstime name=\"normalTimestamp\" null=\"true\"/><abstime name=\"ackTimestamp\" val=\"2026-01-05T08:00:01Z\"/><str name=\"ackUser\" val=\"ann\"/><op name=\"ack\" href=\"/obix/alarm/1/ack\" in=\"obix:AckAlarmIn\" out=\"obix:AckAlarmOut\"/><real name=\"alarmValue\" val=\"35\"/></obj><obj href=\"/obix/alarm/1/\" is=\"obix:AckAlarm obix:StatefulAlarm obix:PointAlarm\"><ref name=\"source\" href=\"/obix/t\"/><abstime name=\"timestamp\" val=\"2026-01-05T08:00:00Z\"/><abstime name=\"normalTimestamp\" val=\"2026-01-05T08:00:02Z\"/><abstime name=\"ackTimestamp\" val=\"2026-01-05T08:00:01Z\"/><str name=\"ackUser\" val=\"ann\"/><op name=\"ack\" href=\"/obix/alarm/1/ack\" in=\"obix:AckAlarmIn\" out=\"obix:AckAlarmOut\"/><real name=\"alarmValue\" val=\"35\"/></obj></feed></list></obj>"
    ∷ codes "<obj is=\"obix:WatchOut\"><list name=\"values\"/></obj>"
    ∷ []
    )

-- what is not done, and why
abbrev pub Refuses : Type 0
Refuses = Answers plant (
    put (codes "/obix/about") (int 1)
    ∷ put (codes "/obix/h/query") (int 1)
    ∷ put (codes "/obix/def/A") (int 1)
    ∷ put (codes "/obix/k") (int 2)
    ∷ call (codes "/obix/n")
    ∷ post (codes "/obix/t/writePoint") (obj [])
    ∷ post (codes "/obix/h/query") (obj (valued kind.Real (codes "limit") Null ∷ []))
    ∷ call (codes "/obix/zz")
    ∷ post (codes "/obix/batch") (obj [])
    ∷ record { verb = Put; target = codes "/obix/n"; body = None }
    ∷ []
    ) (
    codes "<err is=\"obix:UnsupportedErr\" display=\"verb not supported here\"/>"
    ∷ codes "<err is=\"obix:UnsupportedErr\" display=\"verb not supported here\"/>"
    ∷ codes "<err is=\"obix:UnsupportedErr\" display=\"verb not supported here\"/>"
    ∷ codes "<err is=\"obix:PermissionErr\" display=\"not writable\"/>"
    ∷ codes "<err is=\"obix:UnsupportedErr\" display=\"verb not supported here\"/>"
    ∷ codes "<err is=\"obix:UnsupportedErr\" display=\"input has another shape\"/>"
    ∷ codes "<err is=\"obix:UnsupportedErr\" display=\"input has another shape\"/>"
    ∷ codes "<err is=\"obix:BadUriErr\" display=\"no such object\"/>"
    ∷ codes "<err is=\"obix:UnsupportedErr\" display=\"input has another shape\"/>"
    ∷ codes "<err is=\"obix:UnsupportedErr\" display=\"input has another shape\"/>"
    ∷ []
    )

-- ops and feeds are got without their names, and null may be written
abbrev pub Ops : Type 0
Ops = Answers plant (
    get (codes "/obix/t/writePoint")
    ∷ get (codes "/obix/batch")
    ∷ get (codes "/obix/watchService/make")
    ∷ get (codes "/obix/h/feed")
    ∷ put (codes "/obix/n") (leaf (record (empty_head kind.Int) { slot = Null }))
    ∷ []
    ) (
    codes "<op href=\"/obix/t/writePoint\" in=\"obix:WritePointIn\" out=\"obix:Point\"/>"
    ∷ codes "<op href=\"/obix/batch\" in=\"obix:BatchIn\" out=\"obix:BatchOut\"/>"
    ∷ codes "<op href=\"/obix/watchService/make\" in=\"obix:Nil\" out=\"obix:Watch\"/>"
    ∷ codes "<feed href=\"/obix/h/feed\" of=\"obix:HistoryRecord\" in=\"obix:HistoryFilter\"/>"
    ∷ codes "<int href=\"/obix/n\" null=\"true\" max=\"10\" min=\"0\" writable=\"true\"/>"
    ∷ []
    )

-- a batch does nothing with watches, and no batch
abbrev pub LeftOut : Type 0
LeftOut = Answers plant (
    call (codes "/obix/watchService/make")
    ∷ post (codes "/obix/batch") (batch_in (item (codes "obix:Read") (codes "/obix/watch/1/") [] ∷ item (codes "obix:Read") (codes "/obix/watch/2/") [] ∷ item (codes "obix:Read") (codes "/obix/batch") [] ∷ item (codes "obix:Invoke") (codes "/obix/watchService/make") [] ∷ uri (codes "/obix/n") [] ∷ []))
    ∷ []
    ) (
    codes "<obj href=\"/obix/watch/1/\" is=\"obix:Watch\"><reltime name=\"lease\" href=\"/obix/watch/1/lease\" val=\"PT60S\" max=\"PT86400S\" min=\"PT1S\" writable=\"true\"/><op name=\"add\" href=\"/obix/watch/1/add\" in=\"obix:WatchIn\" out=\"obix:WatchOut\"/><op name=\"remove\" href=\"/obix/watch/1/remove\" in=\"obix:WatchIn\" out=\"obix:Nil\"/><op name=\"pollChanges\" href=\"/obix/watch/1/pollChanges\" in=\"obix:Nil\" out=\"obix:WatchOut\"/><op name=\"pollRefresh\" href=\"/obix/watch/1/pollRefresh\" in=\"obix:Nil\" out=\"obix:WatchOut\"/><op name=\"delete\" href=\"/obix/watch/1/delete\" in=\"obix:Nil\" out=\"obix:Nil\"/></obj>"
    ∷ codes "<list is=\"obix:BatchOut\"><err is=\"obix:UnsupportedErr\" display=\"not inside a batch\"/><err is=\"obix:BadUriErr\" display=\"no such object\"/><err is=\"obix:UnsupportedErr\" display=\"not inside a batch\"/><err is=\"obix:UnsupportedErr\" display=\"not inside a batch\"/><err is=\"obix:UnsupportedErr\" display=\"input has another shape\"/></list>"
    ∷ []
    )

-- what can be watched
abbrev pub Watchables : Type 0
Watchables = Answers plant (
    call (codes "/obix/watchService/make")
    ∷ post (codes "/obix/watch/1/add") (watch_in (uri (codes "/obix/about") [] ∷ uri (codes "/obix/t/writePoint") [] ∷ uri (codes "/obix/watch/1/") [] ∷ uri (codes "/obix/watch/7/") [] ∷ []))
    ∷ record { verb = Put; target = codes "/obix/watch/1/lease"; body = Some (span 0) }
    ∷ put (codes "/obix/watch/1/lease") (int 1)
    ∷ post (codes "/obix/watch/1/add") (watch_in (uri (codes "/obix/h/feed") [] ∷ []))
    ∷ put (codes "/obix/t") (real 21)
    ∷ call (codes "/obix/watch/1/pollChanges")
    ∷ post (codes "/obix/watch/1/remove") (watch_in (uri (codes "/obix/h/feed") [] ∷ []))
    ∷ call (codes "/obix/watch/1/pollRefresh")
    ∷ call (codes "/obix/watch/1/delete")
    ∷ call (codes "/obix/watch/1/pollRefresh")
    ∷ []
    ) (
    codes "<obj href=\"/obix/watch/1/\" is=\"obix:Watch\"><reltime name=\"lease\" href=\"/obix/watch/1/lease\" val=\"PT60S\" max=\"PT86400S\" min=\"PT1S\" writable=\"true\"/><op name=\"add\" href=\"/obix/watch/1/add\" in=\"obix:WatchIn\" out=\"obix:WatchOut\"/><op name=\"remove\" href=\"/obix/watch/1/remove\" in=\"obix:WatchIn\" out=\"obix:Nil\"/><op name=\"pollChanges\" href=\"/obix/watch/1/pollChanges\" in=\"obix:Nil\" out=\"obix:WatchOut\"/><op name=\"pollRefresh\" href=\"/obix/watch/1/pollRefresh\" in=\"obix:Nil\" out=\"obix:WatchOut\"/><op name=\"delete\" href=\"/obix/watch/1/delete\" in=\"obix:Nil\" out=\"obix:Nil\"/></obj>"
    ∷ codes "<obj is=\"obix:WatchOut\"><list name=\"values\"><err href=\"/obix/about\" is=\"obix:UnsupportedErr\" display=\"cannot be watched\"/><err href=\"/obix/t/writePoint\" is=\"obix:UnsupportedErr\" display=\"cannot be watched\"/><err href=\"/obix/watch/1/\" is=\"obix:UnsupportedErr\" display=\"cannot be watched\"/><err href=\"/obix/watch/7/\" is=\"obix:BadUriErr\" display=\"no such object\"/></list></obj>"
    ∷ codes "<err display=\"lease not from PT1S to PT86400S\"/>"
    ∷ codes "<err display=\"kind differs\"/>"
    ∷ codes "<obj is=\"obix:WatchOut\"><list name=\"values\"><feed href=\"/obix/h/feed\" of=\"obix:HistoryRecord\"><obj><abstime name=\"timestamp\" val=\"2026-01-05T07:00:00Z\"/><real name=\"value\" val=\"20\"/></obj><obj><abstime name=\"timestamp\" val=\"2026-01-05T07:10:00Z\"/><real name=\"value\" val=\"21\"/></obj><obj><abstime name=\"timestamp\" val=\"2026-01-05T07:10:00Z\"/><real name=\"value\" val=\"22\"/></obj><obj><abstime name=\"timestamp\" val=\"2026-01-05T07:20:00Z\"/><real name=\"value\" val=\"23\"/></obj></feed></list></obj>"
    ∷ codes "<real href=\"/obix/t\" is=\"obix:WritablePoint\" val=\"21\" status=\"ok\" writable=\"true\"><op name=\"writePoint\" href=\"/obix/t/writePoint\" in=\"obix:WritePointIn\" out=\"obix:Point\"/></real>"
    ∷ codes "<obj is=\"obix:WatchOut\"><list name=\"values\"><feed href=\"/obix/h/feed\" of=\"obix:HistoryRecord\"><obj><abstime name=\"timestamp\" val=\"2026-01-05T08:00:05Z\"/><real name=\"value\" val=\"21\"/></obj></feed></list></obj>"
    ∷ codes "<obj is=\"obix:Nil\" null=\"true\"/>"
    ∷ codes "<obj is=\"obix:WatchOut\"><list name=\"values\"/></obj>"
    ∷ codes "<obj is=\"obix:Nil\" null=\"true\"/>"
    ∷ codes "<err is=\"obix:BadUriErr\" display=\"no such object\"/>"
    ∷ []
    )

-- a batch that sets a point and sets it back marks nothing, and two steps that do mark it
abbrev pub SetBack : Type 0
SetBack = Answers plant (
    call (codes "/obix/watchService/make")
    ∷ post (codes "/obix/watch/1/add") (watch_in (uri (codes "/obix/n") [] ∷ []))
    ∷ post (codes "/obix/batch") (batch_in (item (codes "obix:Write") (codes "/obix/n") (under_name (codes "in") (int 8) ∷ []) ∷ item (codes "obix:Write") (codes "/obix/n") (under_name (codes "in") (int 7) ∷ []) ∷ []))
    ∷ call (codes "/obix/watch/1/pollChanges")
    ∷ put (codes "/obix/n") (int 8)
    ∷ put (codes "/obix/n") (int 7)
    ∷ call (codes "/obix/watch/1/pollChanges")
    ∷ []
    ) (
    codes "<obj href=\"/obix/watch/1/\" is=\"obix:Watch\"><reltime name=\"lease\" href=\"/obix/watch/1/lease\" val=\"PT60S\" max=\"PT86400S\" min=\"PT1S\" writable=\"true\"/><op name=\"add\" href=\"/obix/watch/1/add\" in=\"obix:WatchIn\" out=\"obix:WatchOut\"/><op name=\"remove\" href=\"/obix/watch/1/remove\" in=\"obix:WatchIn\" out=\"obix:Nil\"/><op name=\"pollChanges\" href=\"/obix/watch/1/pollChanges\" in=\"obix:Nil\" out=\"obix:WatchOut\"/><op name=\"pollRefresh\" href=\"/obix/watch/1/pollRefresh\" in=\"obix:Nil\" out=\"obix:WatchOut\"/><op name=\"delete\" href=\"/obix/watch/1/delete\" in=\"obix:Nil\" out=\"obix:Nil\"/></obj>"
    ∷ codes "<obj is=\"obix:WatchOut\"><list name=\"values\"><int href=\"/obix/n\" val=\"7\" max=\"10\" min=\"0\" writable=\"true\"/></list></obj>"
    ∷ codes "<list is=\"obix:BatchOut\"><int href=\"/obix/n\" val=\"8\" max=\"10\" min=\"0\" writable=\"true\"/><int href=\"/obix/n\" val=\"7\" max=\"10\" min=\"0\" writable=\"true\"/></list>"
    ∷ codes "<obj is=\"obix:WatchOut\"><list name=\"values\"/></obj>"
    ∷ codes "<int href=\"/obix/n\" val=\"8\" max=\"10\" min=\"0\" writable=\"true\"/>"
    ∷ codes "<int href=\"/obix/n\" val=\"7\" max=\"10\" min=\"0\" writable=\"true\"/>"
    ∷ codes "<obj is=\"obix:WatchOut\"><list name=\"values\"><int href=\"/obix/n\" val=\"7\" max=\"10\" min=\"0\" writable=\"true\"/></list></obj>"
    ∷ []
    )

-- an acknowledgement changes the status of its source, and what every watch on an object round it shows
abbrev pub AckMarks : Type 0
AckMarks = Answers plant (
    put (codes "/obix/t") (real 35)
    ∷ call (codes "/obix/watchService/make")
    ∷ post (codes "/obix/watch/1/add") (watch_in (uri (codes "/obix/t") [] ∷ uri (codes "/obix/n") [] ∷ []))
    ∷ post (codes "/obix/alarm/1/ack") (user (codes "ann"))
    ∷ call (codes "/obix/watch/1/pollChanges")
    ∷ []
    ) (
    codes "<real href=\"/obix/t\" is=\"obix:WritablePoint\" val=\"35\" status=\"unackedAlarm\" writable=\"true\"><op name=\"writePoint\" href=\"/obix/t/writePoint\" in=\"obix:WritePointIn\" out=\"obix:Point\"/></real>"
    ∷ codes "<obj href=\"/obix/watch/1/\" is=\"obix:Watch\"><reltime name=\"lease\" href=\"/obix/watch/1/lease\" val=\"PT60S\" max=\"PT86400S\" min=\"PT1S\" writable=\"true\"/><op name=\"add\" href=\"/obix/watch/1/add\" in=\"obix:WatchIn\" out=\"obix:WatchOut\"/><op name=\"remove\" href=\"/obix/watch/1/remove\" in=\"obix:WatchIn\" out=\"obix:Nil\"/><op name=\"pollChanges\" href=\"/obix/watch/1/pollChanges\" in=\"obix:Nil\" out=\"obix:WatchOut\"/><op name=\"pollRefresh\" href=\"/obix/watch/1/pollRefresh\" in=\"obix:Nil\" out=\"obix:WatchOut\"/><op name=\"delete\" href=\"/obix/watch/1/delete\" in=\"obix:Nil\" out=\"obix:Nil\"/></obj>"
    ∷ codes "<obj is=\"obix:WatchOut\"><list name=\"values\"><real href=\"/obix/t\" is=\"obix:WritablePoint\" val=\"35\" status=\"unackedAlarm\" writable=\"true\"><op name=\"writePoint\" href=\"/obix/t/writePoint\" in=\"obix:WritePointIn\" out=\"obix:Point\"/></real><int href=\"/obix/n\" val=\"7\" max=\"10\" min=\"0\" writable=\"true\"/></list></obj>"
    ∷ codes "<obj is=\"obix:AckAlarmOut\"><obj name=\"alarm\" href=\"/obix/alarm/1/\" is=\"obix:AckAlarm obix:StatefulAlarm obix:PointAlarm\"><ref name=\"source\" href=\"/obix/t\"/><abstime name=\"timestamp\" val=\"2026-01-05T08:00:00Z\"/><abstime name=\"normalTimestamp\" null=\"true\"/><abstime name=\"ackTimestamp\" val=\"2026-01-05T08:00:03Z\"/><str name=\"ackUser\" val=\"ann\"/><op name=\"ack\" href=\"/obix/alarm/1/ack\" in=\"obix:AckAlarmIn\" out=\"obix:AckAlarmOut\"/><real name=\"alarmValue\" val=\"35\"/></obj></obj>"
    ∷ codes "<obj is=\"obix:WatchOut\"><list name=\"values\"><real href=\"/obix/t\" is=\"obix:WritablePoint\" val=\"35\" status=\"alarm\" writable=\"true\"><op name=\"writePoint\" href=\"/obix/t/writePoint\" in=\"obix:WritePointIn\" out=\"obix:Point\"/></real></list></obj>"
    ∷ []
    )

-- a history that keeps two records drops its oldest ones, and says how many of them were not reported
abbrev pub Rolls : Type 0
Rolls = Answers rolling (
    get (codes "/obix/h")
    ∷ call (codes "/obix/watchService/make")
    ∷ post (codes "/obix/watch/1/add") (watch_in (uri (codes "/obix/h/feed") [] ∷ []))
    ∷ call (codes "/obix/watch/1/pollRefresh")
    ∷ put (codes "/obix/t") (real 21)
    ∷ put (codes "/obix/t") (real 24)
    ∷ put (codes "/obix/t") (real 25)
    ∷ call (codes "/obix/watch/1/pollChanges")
    ∷ get (codes "/obix/h")
    ∷ call (codes "/obix/watch/1/pollChanges")
    ∷ []
    ) (
    codes "<obj href=\"/obix/h\" is=\"obix:History\"><int name=\"capacity\" val=\"2\"/><ref name=\"source\" href=\"/obix/t\"/><int name=\"count\" val=\"2\" min=\"0\"/><abstime name=\"start\" val=\"2026-01-05T07:10:00Z\"/><abstime name=\"end\" val=\"2026-01-05T07:20:00Z\"/><op name=\"query\" href=\"/obix/h/query\" in=\"obix:HistoryFilter\" out=\"obix:HistoryQueryOut\"/><feed name=\"feed\" href=\"/obix/h/feed\" of=\"obix:HistoryRecord\" in=\"obix:HistoryFilter\"/><str name=\"tz\" null=\"true\"/></obj>"
    ∷ codes "<obj href=\"/obix/watch/1/\" is=\"obix:Watch\"><reltime name=\"lease\" href=\"/obix/watch/1/lease\" val=\"PT60S\" max=\"PT86400S\" min=\"PT1S\" writable=\"true\"/><op name=\"add\" href=\"/obix/watch/1/add\" in=\"obix:WatchIn\" out=\"obix:WatchOut\"/><op name=\"remove\" href=\"/obix/watch/1/remove\" in=\"obix:WatchIn\" out=\"obix:Nil\"/><op name=\"pollChanges\" href=\"/obix/watch/1/pollChanges\" in=\"obix:Nil\" out=\"obix:WatchOut\"/><op name=\"pollRefresh\" href=\"/obix/watch/1/pollRefresh\" in=\"obix:Nil\" out=\"obix:WatchOut\"/><op name=\"delete\" href=\"/obix/watch/1/delete\" in=\"obix:Nil\" out=\"obix:Nil\"/></obj>"
    ∷ codes "<obj is=\"obix:WatchOut\"><list name=\"values\"><feed href=\"/obix/h/feed\" of=\"obix:HistoryRecord\"><obj><abstime name=\"timestamp\" val=\"2026-01-05T07:10:00Z\"/><real name=\"value\" val=\"22\"/></obj><obj><abstime name=\"timestamp\" val=\"2026-01-05T07:20:00Z\"/><real name=\"value\" val=\"23\"/></obj></feed></list></obj>"
    ∷ codes "<obj is=\"obix:WatchOut\"><list name=\"values\"><feed href=\"/obix/h/feed\" of=\"obix:HistoryRecord\"><obj><abstime name=\"timestamp\" val=\"2026-01-05T07:10:00Z\"/><real name=\"value\" val=\"22\"/></obj><obj><abstime name=\"timestamp\" val=\"2026-01-05T07:20:00Z\"/><real name=\"value\" val=\"23\"/></obj></feed></list></obj>"
    ∷ codes "<real href=\"/obix/t\" is=\"obix:WritablePoint\" val=\"21\" status=\"ok\" writable=\"true\"><op name=\"writePoint\" href=\"/obix/t/writePoint\" in=\"obix:WritePointIn\" out=\"obix:Point\"/></real>"
    ∷ codes "<real href=\"/obix/t\" is=\"obix:WritablePoint\" val=\"24\" status=\"ok\" writable=\"true\"><op name=\"writePoint\" href=\"/obix/t/writePoint\" in=\"obix:WritePointIn\" out=\"obix:Point\"/></real>"
    ∷ codes "<real href=\"/obix/t\" is=\"obix:WritablePoint\" val=\"25\" status=\"ok\" writable=\"true\"><op name=\"writePoint\" href=\"/obix/t/writePoint\" in=\"obix:WritePointIn\" out=\"obix:Point\"/></real>"
    ∷ codes "<obj is=\"obix:WatchOut\"><list name=\"values\"><feed href=\"/obix/h/feed\" of=\"obix:HistoryRecord\"><int name=\"dropped\" val=\"1\"/><obj><abstime name=\"timestamp\" val=\"2026-01-05T08:00:05Z\"/><real name=\"value\" val=\"24\"/></obj><obj><abstime name=\"timestamp\" val=\"2026-01-05T08:00:06Z\"/><real name=\"value\" val=\"25\"/></obj></feed></list></obj>"
    ∷ codes "<obj href=\"/obix/h\" is=\"obix:History\"><int name=\"capacity\" val=\"2\"/><ref name=\"source\" href=\"/obix/t\"/><int name=\"count\" val=\"2\" min=\"0\"/><abstime name=\"start\" val=\"2026-01-05T08:00:05Z\"/><abstime name=\"end\" val=\"2026-01-05T08:00:06Z\"/><op name=\"query\" href=\"/obix/h/query\" in=\"obix:HistoryFilter\" out=\"obix:HistoryQueryOut\"/><feed name=\"feed\" href=\"/obix/h/feed\" of=\"obix:HistoryRecord\" in=\"obix:HistoryFilter\"/><str name=\"tz\" null=\"true\"/></obj>"
    ∷ codes "<obj is=\"obix:WatchOut\"><list name=\"values\"/></obj>"
    ∷ []
    )

-- the records of one batch are all there inside it, and roll at its end
abbrev pub RollsAtTheEnd : Type 0
RollsAtTheEnd = Answers rolling (
    post (codes "/obix/batch") (batch_in (item (codes "obix:Write") (codes "/obix/t") (under_name (codes "in") (real 21) ∷ []) ∷ item (codes "obix:Invoke") (codes "/obix/h/query") (under_name (codes "in") (filter_in (limit 9 ∷ [])) ∷ []) ∷ []))
    ∷ call (codes "/obix/h/query")
    ∷ []
    ) (
    codes "<list is=\"obix:BatchOut\"><real href=\"/obix/t\" is=\"obix:WritablePoint\" val=\"21\" status=\"ok\" writable=\"true\"><op name=\"writePoint\" href=\"/obix/t/writePoint\" in=\"obix:WritePointIn\" out=\"obix:Point\"/></real><obj is=\"obix:HistoryQueryOut\"><int name=\"count\" val=\"3\"/><abstime name=\"start\" val=\"2026-01-05T07:10:00Z\"/><abstime name=\"end\" val=\"2026-01-05T08:00:00Z\"/><list name=\"data\" of=\"obix:HistoryRecord\"><obj><abstime name=\"timestamp\" val=\"2026-01-05T07:10:00Z\"/><real name=\"value\" val=\"22\"/></obj><obj><abstime name=\"timestamp\" val=\"2026-01-05T07:20:00Z\"/><real name=\"value\" val=\"23\"/></obj><obj><abstime name=\"timestamp\" val=\"2026-01-05T08:00:00Z\"/><real name=\"value\" val=\"21\"/></obj></list></obj></list>"
    ∷ codes "<obj is=\"obix:HistoryQueryOut\"><int name=\"count\" val=\"2\"/><abstime name=\"start\" val=\"2026-01-05T07:20:00Z\"/><abstime name=\"end\" val=\"2026-01-05T08:00:00Z\"/><list name=\"data\" of=\"obix:HistoryRecord\"><obj><abstime name=\"timestamp\" val=\"2026-01-05T07:20:00Z\"/><real name=\"value\" val=\"23\"/></obj><obj><abstime name=\"timestamp\" val=\"2026-01-05T08:00:00Z\"/><real name=\"value\" val=\"21\"/></obj></list></obj>"
    ∷ []
    )

-- a part of a contract is written, and what inherits it is shown and reported with it
abbrev pub Defaults : Type 0
Defaults = Answers with_default (
    call (codes "/obix/watchService/make")
    ∷ post (codes "/obix/watch/1/add") (watch_in (uri (codes "/obix/p") [] ∷ uri (codes "/obix/q") [] ∷ []))
    ∷ put (codes "/obix/def/A/x") (int 4)
    ∷ call (codes "/obix/watch/1/pollChanges")
    ∷ put (codes "/obix/def/A/x") (negative 1)
    ∷ get (codes "/obix/p")
    ∷ put (codes "/obix/def/B") (int 1)
    ∷ call (codes "/obix/watch/1/pollChanges")
    ∷ []
    ) (
    codes "<obj href=\"/obix/watch/1/\" is=\"obix:Watch\"><reltime name=\"lease\" href=\"/obix/watch/1/lease\" val=\"PT60S\" max=\"PT86400S\" min=\"PT1S\" writable=\"true\"/><op name=\"add\" href=\"/obix/watch/1/add\" in=\"obix:WatchIn\" out=\"obix:WatchOut\"/><op name=\"remove\" href=\"/obix/watch/1/remove\" in=\"obix:WatchIn\" out=\"obix:Nil\"/><op name=\"pollChanges\" href=\"/obix/watch/1/pollChanges\" in=\"obix:Nil\" out=\"obix:WatchOut\"/><op name=\"pollRefresh\" href=\"/obix/watch/1/pollRefresh\" in=\"obix:Nil\" out=\"obix:WatchOut\"/><op name=\"delete\" href=\"/obix/watch/1/delete\" in=\"obix:Nil\" out=\"obix:Nil\"/></obj>"
    ∷ codes "<obj is=\"obix:WatchOut\"><list name=\"values\"><obj href=\"/obix/p\" is=\"/obix/def/A /obix/def/B\"><int name=\"x\" val=\"1\" min=\"0\" writable=\"true\"/><int name=\"y\" val=\"3\"/></obj><obj href=\"/obix/q\" is=\"/obix/def/B /obix/def/A\"><int name=\"x\" val=\"2\" max=\"9\" min=\"5\"/><int name=\"y\" val=\"3\"/></obj></list></obj>"
    ∷ codes "<int href=\"/obix/def/A/x\" val=\"4\" min=\"0\" writable=\"true\"/>"
    ∷ codes "<obj is=\"obix:WatchOut\"><list name=\"values\"><obj href=\"/obix/p\" is=\"/obix/def/A /obix/def/B\"><int name=\"x\" val=\"4\" min=\"0\" writable=\"true\"/><int name=\"y\" val=\"3\"/></obj></list></obj>"
    ∷ codes "<err display=\"below min\"/>"
    ∷ codes "<obj href=\"/obix/p\" is=\"/obix/def/A /obix/def/B\"><int name=\"x\" val=\"4\" min=\"0\" writable=\"true\"/><int name=\"y\" val=\"3\"/></obj>"
    ∷ codes "<err is=\"obix:UnsupportedErr\" display=\"verb not supported here\"/>"
    ∷ codes "<obj is=\"obix:WatchOut\"><list name=\"values\"/></obj>"
    ∷ []
    )

-- a batch that writes a part of a contract and writes it back marks nothing
abbrev pub DefaultSetBack : Type 0
DefaultSetBack = Answers with_default (
    call (codes "/obix/watchService/make")
    ∷ post (codes "/obix/watch/1/add") (watch_in (uri (codes "/obix/p") [] ∷ uri (codes "/obix/q") [] ∷ []))
    ∷ put (codes "/obix/def/A/x") (int 4)
    ∷ call (codes "/obix/watch/1/pollChanges")
    ∷ post (codes "/obix/batch") (batch_in (item (codes "obix:Write") (codes "/obix/def/A/x") (under_name (codes "in") (int 5) ∷ []) ∷ item (codes "obix:Write") (codes "/obix/def/A/x") (under_name (codes "in") (int 4) ∷ []) ∷ []))
    ∷ call (codes "/obix/watch/1/pollChanges")
    ∷ []
    ) (
    codes "<obj href=\"/obix/watch/1/\" is=\"obix:Watch\"><reltime name=\"lease\" href=\"/obix/watch/1/lease\" val=\"PT60S\" max=\"PT86400S\" min=\"PT1S\" writable=\"true\"/><op name=\"add\" href=\"/obix/watch/1/add\" in=\"obix:WatchIn\" out=\"obix:WatchOut\"/><op name=\"remove\" href=\"/obix/watch/1/remove\" in=\"obix:WatchIn\" out=\"obix:Nil\"/><op name=\"pollChanges\" href=\"/obix/watch/1/pollChanges\" in=\"obix:Nil\" out=\"obix:WatchOut\"/><op name=\"pollRefresh\" href=\"/obix/watch/1/pollRefresh\" in=\"obix:Nil\" out=\"obix:WatchOut\"/><op name=\"delete\" href=\"/obix/watch/1/delete\" in=\"obix:Nil\" out=\"obix:Nil\"/></obj>"
    ∷ codes "<obj is=\"obix:WatchOut\"><list name=\"values\"><obj href=\"/obix/p\" is=\"/obix/def/A /obix/def/B\"><int name=\"x\" val=\"1\" min=\"0\" writable=\"true\"/><int name=\"y\" val=\"3\"/></obj><obj href=\"/obix/q\" is=\"/obix/def/B /obix/def/A\"><int name=\"x\" val=\"2\" max=\"9\" min=\"5\"/><int name=\"y\" val=\"3\"/></obj></list></obj>"
    ∷ codes "<int href=\"/obix/def/A/x\" val=\"4\" min=\"0\" writable=\"true\"/>"
    ∷ codes "<obj is=\"obix:WatchOut\"><list name=\"values\"><obj href=\"/obix/p\" is=\"/obix/def/A /obix/def/B\"><int name=\"x\" val=\"4\" min=\"0\" writable=\"true\"/><int name=\"y\" val=\"3\"/></obj></list></obj>"
    ∷ codes "<list is=\"obix:BatchOut\"><int href=\"/obix/def/A/x\" val=\"5\" min=\"0\" writable=\"true\"/><int href=\"/obix/def/A/x\" val=\"4\" min=\"0\" writable=\"true\"/></list>"
    ∷ codes "<obj is=\"obix:WatchOut\"><list name=\"values\"/></obj>"
    ∷ []
    )

-- a default that is written as an equal value makes no record and no mark
abbrev pub EqualDefault : Type 0
EqualDefault = Answers unset (
    call (codes "/obix/watchService/make")
    ∷ post (codes "/obix/watch/1/add") (watch_in (uri (codes "/obix/d") [] ∷ uri (codes "/obix/g") [] ∷ []))
    ∷ put (codes "/obix/d") (int 0)
    ∷ call (codes "/obix/watch/1/pollChanges")
    ∷ get (codes "/obix/g")
    ∷ []
    ) (
    codes "<obj href=\"/obix/watch/1/\" is=\"obix:Watch\"><reltime name=\"lease\" href=\"/obix/watch/1/lease\" val=\"PT60S\" max=\"PT86400S\" min=\"PT1S\" writable=\"true\"/><op name=\"add\" href=\"/obix/watch/1/add\" in=\"obix:WatchIn\" out=\"obix:WatchOut\"/><op name=\"remove\" href=\"/obix/watch/1/remove\" in=\"obix:WatchIn\" out=\"obix:Nil\"/><op name=\"pollChanges\" href=\"/obix/watch/1/pollChanges\" in=\"obix:Nil\" out=\"obix:WatchOut\"/><op name=\"pollRefresh\" href=\"/obix/watch/1/pollRefresh\" in=\"obix:Nil\" out=\"obix:WatchOut\"/><op name=\"delete\" href=\"/obix/watch/1/delete\" in=\"obix:Nil\" out=\"obix:Nil\"/></obj>"
    ∷ codes "<obj is=\"obix:WatchOut\"><list name=\"values\"><int href=\"/obix/d\" val=\"0\" writable=\"true\"/><obj href=\"/obix/g\" is=\"obix:History\"><int name=\"count\" val=\"0\" min=\"0\"/><abstime name=\"start\" null=\"true\"/><abstime name=\"end\" null=\"true\"/><op name=\"query\" href=\"/obix/g/query\" in=\"obix:HistoryFilter\" out=\"obix:HistoryQueryOut\"/><feed name=\"feed\" href=\"/obix/g/feed\" of=\"obix:HistoryRecord\" in=\"obix:HistoryFilter\"/><str name=\"tz\" null=\"true\"/></obj></list></obj>"
    ∷ codes "<int href=\"/obix/d\" val=\"0\" writable=\"true\"/>"
    ∷ codes "<obj is=\"obix:WatchOut\"><list name=\"values\"/></obj>"
    ∷ codes "<obj href=\"/obix/g\" is=\"obix:History\"><int name=\"count\" val=\"0\" min=\"0\"/><abstime name=\"start\" null=\"true\"/><abstime name=\"end\" null=\"true\"/><op name=\"query\" href=\"/obix/g/query\" in=\"obix:HistoryFilter\" out=\"obix:HistoryQueryOut\"/><feed name=\"feed\" href=\"/obix/g/feed\" of=\"obix:HistoryRecord\" in=\"obix:HistoryFilter\"/><str name=\"tz\" null=\"true\"/></obj>"
    ∷ []
    )

-- a write to one node marks the items of all objects round it, up to the root
abbrev pub MarksRound : Type 0
MarksRound = Reports nested (
    call (codes "/obix/watchService/make")
    ∷ post (codes "/obix/watch/1/add") (watch_in (uri (codes "/obix/w") [] ∷ uri (codes "/obix/a/b/v") [] ∷ uri (codes "/obix/a/b") [] ∷ uri (codes "/obix/a") [] ∷ uri (codes "/obix/") [] ∷ []))
    ∷ put (codes "/obix/a/b/v") (int 5)
    ∷ call (codes "/obix/watch/1/pollChanges")
    ∷ []
    ) (
    codes "/obix/a/b/v"
    ∷ codes "/obix/a/b"
    ∷ codes "/obix/a"
    ∷ codes "/obix/"
    ∷ []
    )

-- an acknowledgement marks the objects round the source
abbrev pub AckMarksRoot : Type 0
AckMarksRoot = Reports plant (
    put (codes "/obix/t") (real 35)
    ∷ call (codes "/obix/watchService/make")
    ∷ post (codes "/obix/watch/1/add") (watch_in (uri (codes "/obix/") [] ∷ uri (codes "/obix/t") [] ∷ uri (codes "/obix/n") [] ∷ []))
    ∷ post (codes "/obix/alarm/1/ack") (user (codes "ann"))
    ∷ call (codes "/obix/watch/1/pollChanges")
    ∷ []
    ) (
    codes "/obix/"
    ∷ codes "/obix/t"
    ∷ []
    )

-- a record changes the history that it is put behind
abbrev pub CountMarks : Type 0
CountMarks = Reports plant (
    call (codes "/obix/watchService/make")
    ∷ post (codes "/obix/watch/1/add") (watch_in (uri (codes "/obix/h") [] ∷ uri (codes "/obix/k") [] ∷ uri (codes "/obix/alarms") [] ∷ []))
    ∷ put (codes "/obix/t") (real 35)
    ∷ call (codes "/obix/watch/1/pollChanges")
    ∷ []
    ) (
    codes "/obix/h"
    ∷ codes "/obix/alarms"
    ∷ []
    )
