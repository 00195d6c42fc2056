use Rattle.ob_contracts.proofs.reading.View.of_told.Goals as goal

pub invariant_of-result : goal.invariant_of-result
invariant_of-result c = record { stand = c.requires }
