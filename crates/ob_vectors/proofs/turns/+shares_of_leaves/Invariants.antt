use Rattle.ob_vectors.proofs.turns.+shares_of_leaves.Given as goal

abbrev pub decreases-shares_of_leaves : goal.decreases-shares_of_leaves
decreases-shares_of_leaves g l = l.levels
