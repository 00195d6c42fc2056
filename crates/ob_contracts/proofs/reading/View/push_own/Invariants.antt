use Rattle.std.proofs.Common.{◌≡◌, ◌++◌, map, take}
use Rattle.ob_contracts.specs.Shown.{shown_result, own_child_of}
use Rattle.ob_contracts.proofs.reading.View.push_own.Given as goal

abbrev pub invariant-loop-own : goal.invariant-loop-own
invariant-loop-own l =
    map shown_result l.views.items ≡ map shown_result l.initial.views.items ++ map (own_child_of l.self) (take l.own-index l.owned)
