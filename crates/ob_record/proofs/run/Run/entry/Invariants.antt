use Rattle.std.proofs.Common.{◌≡◌, drop}
use Rattle.std.specs.List.{flat_map}
use Rattle.ob_record.specs.Runs.{Recorded, Records, entry_text}
use Rattle.ob_record.proofs.run.Run.entry.Given as goal

abbrev pub invariant-loop-place : goal.invariant-loop-place
invariant-loop-place l = (run : Recorded) → Records l.self run → l.rest ≡ flat_map entry_text (drop l._place run.entries)
