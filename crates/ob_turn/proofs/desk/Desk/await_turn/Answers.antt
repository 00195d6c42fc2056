use Rattle.std.proofs.Common.{rules}
use Rattle.ob_turn.proofs.Steps.{awaits_turn}
use Rattle.ob_turn.proofs.desk.Desk.await_turn.Goals as goal

pub swap-requires : goal.swap-requires
swap-requires g c = (search rules, search rules, awaits_turn g.M.Machine.act _ g.C.Call.opening (search rules) _ _ _ (search rules) (search rules))
