use Rattle.std.proofs.Common.{List, [], ◌∷◌, ◌++◌, ap, subst, sym, ◌∙◌, None, Some}
use Rattle.ob_watch.specs.declared.item.Item.{Item}
use Rattle.ob_watch.specs.Undo.{Undoes}
use Rattle.ob_watch.proofs.UndoLemmas.{kept_none, kept_one, one_more_undone, undo_of}
use Rattle.ob_watch.proofs.additions.Additions.put.Goals as goal

pub returns-in-Some-clause-back : goal.returns-in-Some-clause-back
returns-in-Some-clause-back c = λ original undoes.
    let left = undo_of c.self.inside.before c.push_reserved.new.self.items in
    subst (λ (items : List Item). Undoes left items original) (sym c.in_ok-old.ensures.put)
    (one_more_undone c.args.self.now left c.args.item c.args.items.now original (Some c.in-Some.old) (sym c.in-Some.is ∙ c.in_ok-old.ensures.old)
    (kept_one c.self.inside.before c.self.inside.replaced.items c.push_reserved.new.self.items c.in-Some.old c.args.self.now c.self.view_is
    (c.push_reserved.ensures.items ∙ ap (λ (xs : List Item). xs ++ c.in-Some.old ∷ []) c.reserve.ensures.items))
    undoes)

pub returns-in-None-clause-back : goal.returns-in-None-clause-back
returns-in-None-clause-back c = λ original undoes.
    let left = undo_of c.self.inside.before c.reserve.new.self.items in
    subst (λ (items : List Item). Undoes left items original) (sym c.in_ok-old.ensures.put)
    (one_more_undone c.args.self.now left c.args.item c.args.items.now original None (sym c.in-None.is ∙ c.in_ok-old.ensures.old)
    (kept_none c.self.inside.before c.self.inside.replaced.items c.reserve.new.self.items c.args.self.now c.self.view_is c.reserve.ensures.items)
    undoes)
