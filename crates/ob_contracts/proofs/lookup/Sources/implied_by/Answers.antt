use Rattle.std.proofs.Common.{sym, ap, ◌∙◌}
use Rattle.ob_object.specs.declared.head.Head.{Head}
use Rattle.ob_object.specs.Kinds.{has_of}
use Rattle.ob_object.specs.Object.{Object}
use Rattle.ob_contracts.specs.Places.{sources_of}
use Rattle.ob_contracts.proofs.Giving.{gives_words}
use Rattle.ob_contracts.proofs.lookup.Sources.implied_by.Goals as goal

pub returns-then-has_of : goal.returns-then-has_of
returns-then-has_of c =
    c.of.ensures ∙ ap (λ (h : Head). h.of) c.head.ensures.value ∙ ap (λ (o : Object). o.head.of) c.holder.ensures
    ∙ gives_words c.args.self.now.own.now (sources_of c.args.self.now) (sym (ap has_of c.kind.ensures) ∙ sym c.has_of.ensures ∙ c.if-has_of.true)
