use Rattle.std.proofs.Common.{sym, ap, ◌∙◌}
use Rattle.std.specs.Option.{option_copied}
use Rattle.ob_object.specs.Kinds.{has_of}
use Rattle.ob_contracts.specs.Inherit.{sources}
use Rattle.ob_roles.proofs.Handed.{gives_is, gives_none}
use Rattle.ob_roles.proofs.given.gives_of.Goals as goal

pub returns-then-has_of : goal.returns-then-has_of
returns-then-has_of c = λ lib implied k.
    c.first_words.ensures ∙ gives_is lib c.args.head.now c.args.base.now implied (option_copied c.args.over) (sym (ap has_of c.kind.ensures) ∙ sym c.has_of.ensures ∙ c.if-has_of.true) k

pub returns : goal.returns
returns c = λ lib implied k.
    gives_none c.args.head.now (sources lib c.args.head.now implied (option_copied c.args.over)) (sym (ap has_of c.kind.ensures) ∙ sym c.has_of.ensures ∙ c.if-has_of.false)
