use Rattle.std.proofs.Common.{◌≡◌, ◌++◌, map, take}
use Rattle.ob_contracts.specs.Inherit.{bare}
use Rattle.ob_contracts.specs.Found.{lent}
use Rattle.ob_contracts.specs.Shown.{shown_result}
use Rattle.ob_contracts.proofs.reading.View.push_inherited.Given as goal

abbrev pub invariant-loop-taken : goal.invariant-loop-taken
invariant-loop-taken l =
    map shown_result l.views.items ≡ map shown_result l.initial.views.items ++ map bare (take l.taken-index (lent l.taken-items))
