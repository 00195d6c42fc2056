use Rattle.std.proofs.Common.{rules}
use Rattle.ob_turn.proofs.Steps.{ends_turn_of}
use Rattle.ob_turn.proofs.desk.Desk.end_turn.Goals as goal

pub swap-requires : goal.swap-requires
swap-requires g c = (
  search rules,
  search rules,
  ends_turn_of g.M.Machine.act _ g.C.Call.opening (search rules) _ _ _ c.args.request.now c.args.moment c.args.answer.now _ c.requires.turn c.requires.alone c.requires.some c.requires.adds c.requires.moment (search rules) (search rules),
)
