use Rattle.std.proofs.Common.{Option, subst}
use Rattle.std.proofs.lemmas.Result.{IfOk-weaker}
use Rattle.ob_contracts.specs.Inherit.{Words}
use Rattle.ob_contracts.specs.Tellers.{TellsIn}
use Rattle.ob_contracts.proofs.Taught.{tells_none}
use Rattle.ob_tree.proofs.telling.told_is.Goals as goal

pub returns-then-has_long_is : goal.returns-then-has_long_is
returns-then-has_long_is c =
    IfOk-weaker c.tell.result _ _ (λ told is. subst (λ (ws : Option Words). TellsIn c.args.library.now told ws) c.is.ensures is) c.tell.ensures

pub returns-else-has_long_is : goal.returns-else-has_long_is
returns-else-has_long_is c = tells_none c.args.library.now c.args.own.now.head.is
