use Rattle.std.proofs.Common.{◌≡◌, map, take}
use Rattle.ob_contracts.specs.Found.{lent}
use Rattle.ob_contracts.specs.Inherit.{present, contract_of}
use Rattle.ob_site_file.proofs.size.contracts_for.Given as goal

abbrev pub invariant-loop-word : goal.invariant-loop-word
invariant-loop-word l = lent l.from.items ≡ present (map (contract_of l.library) (take l.word-index l.words))
