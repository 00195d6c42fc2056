use Rattle.std.proofs.Common.{◌≡◌, map, take, false}
use Rattle.ob_watching.specs.WatchOuts.{entry_read}
use Rattle.ob_client.proofs.news.all_whole.Given as goal

abbrev pub invariant-loop-entry : goal.invariant-loop-entry
invariant-loop-entry l = l.news.items ≡ map (entry_read false) (take l.entry-index l.entries)
