use Rattle.std.proofs.Common.{◌≡◌, ◌++◌, take}
use Rattle.ob_site_reads.proofs.Eventful.{some_records}
use Rattle.ob_site_reads.proofs.events.put_passing.Given as goal

abbrev pub invariant-loop-record : goal.invariant-loop-record
invariant-loop-record l = l.events.items ≡ l.fn.events.items ++ some_records l.bounds (take l.record-index l.records)
