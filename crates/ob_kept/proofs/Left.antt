-- What the device that is taken back is told of.
use Rattle.std.proofs.Common.{◌≡◌, ℕ, ◌+◌, Bool, false, List, [], ◌∷◌, length, ap, arith, length-append}
use Rattle.ob_journal.specs.Journal.{front}
use Rattle.ob_record_journal.specs.Runs.{run_blocks}
use Rattle.ob_kept.specs.Keeping.{Keeping, IsRecoverable, IsLeft}

pub left_of : {D : Type 0} (seen : D → List ℕ) (may_leave : D → List ℕ → Type 0) (moment : D → ℕ) (left_since : D → ℕ → List ℕ → Type 0) (k : Keeping) (device : D) (failed : Bool)
    → IsRecoverable seen may_leave moment left_since k device failed → IsLeft seen may_leave moment left_since k device failed
left_of seen may_leave moment left_since k device failed is = record { crash = is.crash; file = is.file; size = size }
  where
    size : failed ≡ false → length (seen device) ≡ k.end + 1
    size alive =
        let rest = is.rest alive in
        let whole = ap length rest.settled.file in
        let gate = length-append (front (run_blocks k.boot rest.entries)) (0 ∷ []) in
        let end = rest.settled.end_is in
        omega (arith, whole, gate, end)
