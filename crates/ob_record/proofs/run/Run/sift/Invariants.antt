use Rattle.std.proofs.Common.{length}
use Rattle.ob_record.proofs.Sifts.{Sifting}
use Rattle.ob_record.proofs.run.Run.sift.Given as goal

abbrev pub invariant-entries : goal.invariant-entries
invariant-entries g l = Sifting l.initial.rest l.boot l.record.items l.len l.rest

abbrev pub decreases-entries : goal.decreases-entries
decreases-entries g l = length l.rest
