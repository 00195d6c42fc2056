-- Objects that a site computes. Source: oBIX 1.1, chapters 5 (Lobby: About, Batch), 12 (Watches) and 15 (Alarming).
use Rattle.std.specs.Prelude.{ℕ, ℤ, pos, true, codes, List, [], ◌∷◌, ◌++◌, Option, Some, unwrap_or}
use Rattle.ob_times.specs.Times.{moment_instant}
use Rattle.ob_values.specs.declared.value.Value.{Value}
use Rattle.ob_values.specs.declared.value.Value.TheVariants as value
use Rattle.ob_object.specs.declared.kind.Kind.TheVariants as kind
use Rattle.ob_object.specs.declared.head.Slot.{Slot}
use Rattle.ob_object.specs.declared.head.Slot.TheVariants.{Null, Is}
use Rattle.ob_object.specs.Facets.{no_facets}
use Rattle.ob_object.specs.Object.{Object, empty_head}
use Rattle.ob_site_rules.specs.Build.{Text, whole, leaf, nameless, under_name, valued, word, text_slot, time_slot, op_at}
use Rattle.ob_site_rules.specs.declared.plan.Plan.{Plan}
use Rattle.ob_site_rules.specs.State.{at}
use Rattle.ob_site_rules.specs.declared.watch_part.WatchPart.{WatchPart}
use Rattle.ob_site_rules.specs.declared.watch_part.WatchPart.TheVariants.{Whole, Lease, Add, Remove, PollChanges, PollRefresh, Delete}
use Rattle.ob_site_rules.specs.Paths.{about_path, batch_path, service_path, make_path, watch_path}

-- Nil
abbrev pub nil_object : Object
nil_object = leaf (record (empty_head kind.Obj) { is = word (codes "obix:Nil"); slot = Null })

-- a text of About: the site's own, or else this one
abbrev pub about_text : Plan → Text → Text → Text
about_text plan name default = unwrap_or (at name plan.about) default

-- a str of About, the site's own or else this one
abbrev pub about_str : Plan → Text → Text → Object
about_str plan name default = valued kind.Str name (text_slot (about_text plan name default))

-- a uri of About, the site's own or else this one
abbrev pub about_uri : Plan → Text → Text → Object
about_uri plan name default = valued kind.Uri name (Is (value.Uri (about_text plan name default)))

-- About: what the server is, its time now and when it was started
abbrev pub about_object : Plan → ℕ → Object
about_object plan now =
    whole (record (empty_head kind.Obj) { href = Some (about_path plan); is = word (codes "obix:About") })
    (valued kind.Str (codes "obixVersion") (text_slot (codes "1.1"))
    ∷ about_str plan (codes "serverName") (codes "obix")
    ∷ valued kind.Abstime (codes "serverTime") (time_slot (Some (moment_instant now)))
    ∷ valued kind.Abstime (codes "serverBootTime") (time_slot (Some (moment_instant plan.boot)))
    ∷ about_str plan (codes "vendorName") (codes "none")
    ∷ about_uri plan (codes "vendorUrl") []
    ∷ about_str plan (codes "productName") (codes "obix")
    ∷ about_str plan (codes "productVersion") (codes "1.0")
    ∷ about_uri plan (codes "productUrl") []
    ∷ about_str plan (codes "tz") (codes "UTC")
    ∷ [])

-- the op `batch` of a lobby
abbrev pub batch_op : Plan → Object
batch_op plan = op_at (codes "batch") (batch_path plan) (codes "obix:BatchIn") (codes "obix:BatchOut")

-- the op `make` of the watch service
abbrev pub make_op : Plan → Object
make_op plan = op_at (codes "make") (make_path plan) (codes "obix:Nil") (codes "obix:Watch")

-- WatchService
abbrev pub service_object : Plan → Object
service_object plan =
    whole (record (empty_head kind.Obj) { href = Some (service_path plan); is = word (codes "obix:WatchService") }) (make_op plan ∷ [])

abbrev span_of : ℤ → Slot
span_of n = Is (value.Reltime (record { months = pos 0; nanos = n }))

abbrev span : ℤ → Option Value
span n = Some (value.Reltime (record { months = pos 0; nanos = n }))

-- a lease in nanoseconds, from a second to a day
abbrev pub lease_child : Plan → ℕ → ℕ → Object
lease_child plan n lease =
    leaf (record (empty_head kind.Reltime) {
      name = Some (codes "lease");
      href = Some (watch_path plan n ++ codes "lease");
      slot = span_of (pos lease);
      facets = record no_facets { min = span (pos 1_000_000_000); max = span (pos 86_400_000_000_000); writable = Some true };
    })

-- an op of a watch, whose path is the watch's with its name behind it
abbrev pub watch_op : Plan → ℕ → Text → Text → Text → Object
watch_op plan n name takes gives = op_at name (watch_path plan n ++ name) takes gives

-- a part of a watch, as it stands in the watch
abbrev pub watch_child : Plan → ℕ → ℕ → WatchPart → Object
watch_child plan n lease Whole = leaf (empty_head kind.Obj)
watch_child plan n lease Lease = lease_child plan n lease
watch_child plan n lease Add = watch_op plan n (codes "add") (codes "obix:WatchIn") (codes "obix:WatchOut")
watch_child plan n lease Remove = watch_op plan n (codes "remove") (codes "obix:WatchIn") (codes "obix:Nil")
watch_child plan n lease PollChanges = watch_op plan n (codes "pollChanges") (codes "obix:Nil") (codes "obix:WatchOut")
watch_child plan n lease PollRefresh = watch_op plan n (codes "pollRefresh") (codes "obix:Nil") (codes "obix:WatchOut")
watch_child plan n lease Delete = watch_op plan n (codes "delete") (codes "obix:Nil") (codes "obix:Nil")

-- Watch
abbrev pub watch_object : Plan → ℕ → ℕ → Object
watch_object plan n lease =
    whole (record (empty_head kind.Obj) { href = Some (watch_path plan n); is = word (codes "obix:Watch") })
    (watch_child plan n lease Lease
    ∷ watch_child plan n lease Add
    ∷ watch_child plan n lease Remove
    ∷ watch_child plan n lease PollChanges
    ∷ watch_child plan n lease PollRefresh
    ∷ watch_child plan n lease Delete
    ∷ [])

-- what is seen of a watch: the whole, or one of its children
abbrev pub watch_part_object : Plan → ℕ → ℕ → WatchPart → Object
watch_part_object plan n lease Whole = watch_object plan n lease
watch_part_object plan n lease part = nameless (watch_child plan n lease part)

-- AckAlarmOut, of an alarm's object
abbrev pub ack_out : Object → Object
ack_out alarm = whole (record (empty_head kind.Obj) { is = word (codes "obix:AckAlarmOut") }) (under_name (codes "alarm") alarm ∷ [])

-- BatchOut
abbrev pub batch_out : List Object → Object
batch_out results = whole (record (empty_head kind.List) { is = word (codes "obix:BatchOut") }) results

-- WatchOut
abbrev pub watch_out : List Object → Object
watch_out entries =
    whole (record (empty_head kind.Obj) { is = word (codes "obix:WatchOut") })
    (whole (record (empty_head kind.List) { name = Some (codes "values") }) entries ∷ [])
