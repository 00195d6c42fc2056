use Rattle.std.proofs.Common.{refl, arith, inl, inr}
use Rattle.ob_lasting.proofs.worked_runs.Goals as goal

pub returns-clause-lost_was_done : goal.returns-clause-lost_was_done
returns-clause-lost_was_done c = (
  record { calls = (record { caller = omega arith; moment = omega arith; answer = refl }, tt); lost = omega arith },
  record { end = _; ended = inr refl; restart = record { site = refl; watches = refl; next = omega arith; room = omega arith; time = omega arith } },
  record { calls = (record { caller = omega arith; moment = omega arith; answer = refl }, tt); lost = tt },
)

pub returns-clause-lost_was_not_done : goal.returns-clause-lost_was_not_done
returns-clause-lost_was_not_done c = (
  record { calls = (record { caller = omega arith; moment = omega arith; answer = refl }, tt); lost = omega arith },
  record { end = _; ended = inl refl; restart = record { site = refl; watches = refl; next = omega arith; room = omega arith; time = omega arith } },
  record { calls = (record { caller = omega arith; moment = omega arith; answer = refl }, tt); lost = tt },
)
