use Rattle.ob_vectors.proofs.contracts.standard.Given as goal

abbrev pub ghosts-standard_counted : goal.ghosts-standard_counted
ghosts-standard_counted a = record { name = a.blank.name; parts = a.blank.parts }
