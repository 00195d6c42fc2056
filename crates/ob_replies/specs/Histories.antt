-- The children of a history in parts: of its records, its query and its feed.
use Rattle.std.specs.Prelude.{List, [], ◌∷◌, codes, length, option_map}
use Rattle.circular_buffer.specs.Buffer.{last_item}
use Rattle.ob_history.specs.declared.records.Record.{Record}
use Rattle.ob_object.specs.declared.kind.Kind.TheVariants as kind
use Rattle.ob_object.specs.Object.{Object}
use Rattle.ob_site_rules.specs.Build.{Path, valued, time_slot, op_at, feed_at}
use Rattle.ob_site_rules.specs.Paths.{below}
use Rattle.ob_site_rules.specs.Shown.{count_child, first_record}

-- how many records, and the first and the last of their times
abbrev pub span_children : List Record → List Object
span_children records =
    count_child (length records)
    ∷ valued kind.Abstime (codes "start") (time_slot (option_map (λ r. r.time) (first_record records)))
    ∷ valued kind.Abstime (codes "end") (time_slot (option_map (λ r. r.time) (last_item records)))
    ∷ []

abbrev pub query_child : Path → Object
query_child p = op_at (codes "query") (below p (codes "query")) (codes "obix:HistoryFilter") (codes "obix:HistoryQueryOut")

abbrev pub feed_child : Path → Object
feed_child p = feed_at (codes "feed") (below p (codes "feed")) (codes "obix:HistoryRecord") (codes "obix:HistoryFilter")
