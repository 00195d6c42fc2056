use Rattle.ob_tree.proofs.Giving.{none_told}
use Rattle.ob_tree.proofs.tree.Tree.standing.Goals as goal

pub standing_told-requires : goal.standing_told-requires
standing_told-requires g c = record { within = c.requires; told = none_told c.args.library.now c.args.self.now.root }
