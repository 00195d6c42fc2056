use Rattle.std.proofs.Common.{rules}
use Rattle.ob_turn.proofs.Steps.{tries_turn}
use Rattle.ob_turn.proofs.desk.Desk.try_turn.Goals as goal

pub compare_exchange-requires : goal.compare_exchange-requires
compare_exchange-requires g c = (search rules, search rules, tries_turn g.M.Machine.act _ g.C.Call.opening (search rules) _ _ _ (search rules) (search rules))
