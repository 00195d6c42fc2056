use Rattle.std.proofs.Common.{◌∷◌, [], ◌++◌, take, List, sym, ap, subst, ◌∙◌, arith}
use Rattle.std.proofs.lemmas.List.{take_more, take_all}
use Rattle.ob_object.specs.Object.{Object, in_row}
use Rattle.ob_object.specs.WellFormed.{RowIsWellFormed}
use Rattle.ob_object.proofs.Names.{RowIsWellFormed-more}
use Rattle.ob_object.proofs.object.know_row.Goals as goal

pub loop-object-preserved : goal.loop-object-preserved
loop-object-preserved c =
    let os = c.args.objects.now in
    let i = c.loop-object.object-index in
    let x = c.object-item.result in
    subst (λ (l : List Object). RowIsWellFormed (in_row l)) (sym (take_more os i x c.loop-object-test.true ∙ ap (λ (o : Object). take i os ++ o ∷ []) (sym c.object-item.is)))
    (RowIsWellFormed-more (take i os) x c.loop-object.invariant c.head-head.ensures.well_formed)

pub returns : goal.returns
returns c = subst (λ (l : List Object). RowIsWellFormed (in_row l)) (take_all c.loop-object.object-index c.args.objects.now (omega arith)) c.loop-object.invariant
