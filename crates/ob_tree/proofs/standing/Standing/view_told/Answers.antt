use Rattle.std.proofs.Common.{Option, cond, sym, subst, ◌∙◌, ap}
use Rattle.std.specs.Prelude.{is_some}
use Rattle.std.specs.Option.{option_copied}
use Rattle.ob_object.specs.Object.{Object}
use Rattle.ob_contracts.specs.Inherit.{implied_by, or_else}
use Rattle.ob_contracts.specs.Tellers.{Telling, TellsIn}
use Rattle.ob_contracts.proofs.Views.{result_head}
use Rattle.ob_tree.specs.Standings.{is_of}
use Rattle.ob_tree.proofs.Walking.{told_first}
use Rattle.ob_tree.proofs.standing.Standing.view_told.Goals as goal

pub with_told-requires : goal.with_told-requires
with_told-requires g c =
    let lib = c.args.self.now.library.now in
    let own = c.args.object.now.head.is in
    let told = option_copied c.args.self.now.told in
    let implied = option_copied c.args.self.now.implied in
    subst (λ (t : Option Telling). TellsIn lib t (or_else own implied)) (sym (c.told_of-told.ensures ∙ ap (λ (t : Option Telling). cond (is_some own) t told) c.is_of.ensures))
    (told_first lib (is_of (option_copied c.args.told)) told own implied c.requires.is c.args.self.now.stand)

pub returns-clause-view : goal.returns-clause-view
returns-clause-view g c = c.with_told.ensures.effective

pub returns-clause-words : goal.returns-clause-words
returns-clause-words g c =
    ap (λ (o : Object). implied_by o.head) c.with_told.ensures.result_of
    ∙ ap implied_by (result_head c.args.self.now.library.now c.args.object.now (option_copied c.args.self.now.implied) (option_copied c.args.self.now.over))
