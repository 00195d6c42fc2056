use Rattle.std.proofs.Common.{length}
use Rattle.ob_record.proofs.Reading.{Counted}
use Rattle.ob_record.proofs.read.count_entries.Given as goal

abbrev pub invariant-entries : goal.invariant-entries
invariant-entries l = Counted l.bytes l.len l.rest

abbrev pub decreases-entries : goal.decreases-entries
decreases-entries l = length l.rest
