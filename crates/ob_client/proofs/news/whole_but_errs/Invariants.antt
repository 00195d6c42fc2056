use Rattle.std.proofs.Common.{◌≡◌, map, take, false}
use Rattle.ob_watching.specs.WatchOuts.{entry_read}
use Rattle.ob_client.specs.Tables.{without_errs}
use Rattle.ob_client.proofs.news.whole_but_errs.Given as goal

abbrev pub invariant-loop-entry : goal.invariant-loop-entry
invariant-loop-entry l = l.news.items ≡ map (entry_read false) (without_errs (take l.entry-index l.entries))
