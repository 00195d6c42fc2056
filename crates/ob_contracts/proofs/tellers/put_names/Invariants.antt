use Rattle.std.proofs.Common.{◌≡◌, ℕ, List, Some, None, cond, take}
use Rattle.std.specs.BTreeMap.{get_by_text}
use Rattle.ob_object.specs.WellFormed.{is_taken}
use Rattle.ob_contracts.specs.Inherit.{or_else}
use Rattle.ob_contracts.proofs.tellers.put_names.Given as goal

-- each name of a child up to a place has a word
abbrev pub invariant-loop-child : goal.invariant-loop-child
invariant-loop-child l =
    (n : List ℕ) → get_by_text l.names n ≡ or_else (get_by_text l.initial.names n) (cond (is_taken (Some n) (take l.child-index l.children)) (Some l.word) None)
