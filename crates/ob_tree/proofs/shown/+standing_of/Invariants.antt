use Rattle.ob_tree.proofs.shown.+standing_of.Given as goal

abbrev pub decreases-standing_of : goal.decreases-standing_of
decreases-standing_of g l = l.at
