use Rattle.std.proofs.Common.{subst, sym, ◌∙◌, All, length-append}
use Rattle.std.proofs.lemmas.List.Elements.{All-filter, All-take}
use Rattle.ob_history.specs.Records.{InOrder, passes, IsRecord}
use Rattle.ob_history.proofs.Asked.{asked_within, InOrder-part}
use Rattle.ob_history.proofs.slices.asked_of.Goals as goal

pub end_until-to-requires : goal.end_until-to-requires
end_until-to-requires c = subst InOrder (sym c.between.ensures) (InOrder-part _ _ _ c.requires.in_order)

pub returns-clause-value : goal.returns-clause-value
returns-clause-value c =
    c.between-2.ensures ∙ asked_within c.args.bounds.now _ _ _ _ _ _ c.requires.in_order (sym (length-append c.args.front.now c.args.back.now)) c.first_from-from.ensures.count c.limited-last.ensures c.between.ensures c.end_until-to.ensures.count

pub returns-clause-records : goal.returns-clause-records
returns-clause-records c =
    let value = c.between-2.ensures ∙ asked_within c.args.bounds.now _ _ _ _ _ _ c.requires.in_order (sym (length-append c.args.front.now c.args.back.now)) c.first_from-from.ensures.count c.limited-last.ensures c.between.ensures c.end_until-to.ensures.count in
    subst (All IsRecord) (sym value) (All-take IsRecord _ _ (All-filter (passes c.args.bounds.now) IsRecord _ c.requires.records))
