use Rattle.std.proofs.Common.{sym, ap, subst}
use Rattle.std.specs.Option.{option_copied}
use Rattle.ob_contracts.specs.Inherit.{Words, words_in}
use Rattle.ob_contracts.specs.Telling.{StandFor}
use Rattle.ob_tree.proofs.Walking.{told_all}
use Rattle.ob_tree.proofs.standing.Standing.words.Goals as goal

pub returns-in-Some : goal.returns-in-Some
returns-in-Some c =
    let lib = c.args.self.now.library.now in
    let implied = option_copied c.args.self.now.implied in
    subst (λ (ws : Words). StandFor lib ws (words_in implied)) (sym c.all.ensures)
    (told_all lib (option_copied c.args.self.now.told) c.in-Some.told.now implied (ap option_copied c.in-Some.is) c.args.self.now.stand)
