use Rattle.std.proofs.Common.{Bool, Some, None, [], ◌∷◌, ◌++◌, map, cond, sym, ap, ◌∙◌}
use Rattle.std.specs.Option.{option_copied}
use Rattle.ob_object.specs.Kinds.{is_ref}
use Rattle.ob_contracts.specs.Inherit.{contract_of, present}
use Rattle.ob_contracts.specs.Places.{named_in}
use Rattle.ob_contracts.proofs.Taught.{over_untold}
use Rattle.ob_contracts.proofs.lookup.Sources.of.Goals as goal

pub returns-then-is_ref-clause-told : goal.returns-then-is_ref-clause-told
returns-then-is_ref-clause-told c =
    c.none.ensures.untold ∙ sym (ap (λ (b : Bool). cond b None c.args.told) (ap is_ref (sym c.kind.ensures) ∙ sym c.is_ref.ensures ∙ c.if-is_ref.true))

pub returns-then-is_ref-clause-child : goal.returns-then-is_ref-clause-child
returns-then-is_ref-clause-child c = λ n.
    let lib = c.args.library.now in
    let over = option_copied c.args.over in
    over_untold c.none.result [] (ap option_copied c.none.ensures.untold) c.none.ensures.places (Some n)
    ∙ sym (ap (λ (b : Bool). cond b None (named_in lib (option_copied c.args.told) (present (cond b [] (map (contract_of lib) c.args.words.now ++ over ∷ []))) over n))
    (ap is_ref (sym c.kind.ensures) ∙ sym c.is_ref.ensures ∙ c.if-is_ref.true))

pub returns-clause-told : goal.returns-clause-told
returns-clause-told c =
    sym (ap (λ (b : Bool). cond b None c.args.told) (ap is_ref (sym c.kind.ensures) ∙ sym c.is_ref.ensures ∙ c.if-is_ref.false))

pub returns-clause-child : goal.returns-clause-child
returns-clause-child c = λ n.
    let lib = c.args.library.now in
    let over = option_copied c.args.over in
    sym (ap (λ (b : Bool). cond b None (named_in lib (option_copied c.args.told) (present (cond b [] (map (contract_of lib) c.args.words.now ++ over ∷ []))) over n))
    (ap is_ref (sym c.kind.ensures) ∙ sym c.is_ref.ensures ∙ c.if-is_ref.false))
