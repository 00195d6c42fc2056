use Rattle.std.proofs.Common.{sym, ap}
use Rattle.ob_ground.specs.Grounds.{Taught}
use Rattle.ob_ground.proofs.Telling.{told_lent}
use Rattle.ob_ground.proofs.told.Told.standing.Goals as goal

pub standing_told-requires-clause-told : goal.standing_told-requires-clause-told
standing_told-requires-clause-told g c =
    told_lent c.library.result.now c.args.tree.now.root c.args.self.now c.words.result c.words.ensures (sym c.library.ensures) c.requires.told
