use Rattle.std.proofs.Common.{◌≡◌, map, take, true}
use Rattle.ob_watching.specs.WatchOuts.{entry_read}
use Rattle.ob_client.specs.Tables.{next, without_errs}
use Rattle.ob_client.proofs.news.next_but_errs.Given as goal

abbrev pub invariant-loop-entry : goal.invariant-loop-entry
invariant-loop-entry l = l.news.items ≡ map (λ o. next l.table (entry_read true o)) (without_errs (take l.entry-index l.entries))
