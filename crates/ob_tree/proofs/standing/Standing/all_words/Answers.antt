use Rattle.std.proofs.Common.{sym, subst, cond}
use Rattle.std.specs.Prelude.{is_some}
use Rattle.std.specs.Option.{option_copied}
use Rattle.ob_contracts.specs.Inherit.{Words, or_else, words_in}
use Rattle.ob_contracts.specs.Telling.{StandFor}
use Rattle.ob_tree.proofs.Walking.{told_all, told_first, stand_same}
use Rattle.ob_tree.proofs.standing.Standing.all_words.Goals as goal

pub returns-in-Some : goal.returns-in-Some
returns-in-Some c =
    let lib = c.args.self.now.library.now in
    let own = c.args.own.now.head.is in
    let is = option_copied c.args.is in
    let told = option_copied c.args.self.now.told in
    let implied = option_copied c.args.self.now.implied in
    subst (λ (ws : Words). StandFor lib ws (words_in (or_else own implied))) (sym c.all.ensures)
    (told_all lib (cond (is_some own) is told) c.in-Some.told.now (or_else own implied) (sym c.in-Some.ensures) (told_first lib is told own implied c.requires c.args.self.now.stand))

pub returns-in-None : goal.returns-in-None
returns-in-None c =
    stand_same c.args.self.now.library.now (option_copied c.words_of.result) (or_else c.args.own.now.head.is (option_copied c.args.self.now.implied)) c.words_of.ensures
