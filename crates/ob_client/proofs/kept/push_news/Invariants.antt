use Rattle.std.proofs.Common.{◌≡◌, map, take}
use Rattle.std.specs.List.{filter}
use Rattle.ob_watching.specs.WatchOuts.{without_name}
use Rattle.ob_client.proofs.FeedLemmas.{grown, is_event}
use Rattle.ob_client.proofs.kept.push_news.Given as goal

abbrev pub invariant-loop-event : goal.invariant-loop-event
invariant-loop-event l = l.feed ≡ grown l.fn.feed (map without_name (filter is_event (take l.event-index l.events)))
