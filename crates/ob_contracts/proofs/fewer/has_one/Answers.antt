use Rattle.std.proofs.Common.{◌&&◌, ap, ap₂, sym, ◌∙◌}
use Rattle.ob_object.specs.declared.kind.Kind.{Kind}
use Rattle.ob_object.specs.Kinds.{same_kind}
use Rattle.ob_contracts.proofs.Heads.{one_here}
use Rattle.ob_contracts.proofs.fewer.has_one.Goals as goal

pub returns-then-has_part : goal.returns-then-has_part
returns-then-has_part c =
    one_here c.args.heads.now c.loop-head.head-index c.head-item.result c.args.kind c.args.part.now c.loop-head-test.true c.head-item.is
    (ap₂ (λ a b. a && b) (ap (λ (k : Kind). same_kind k c.args.kind) (sym c.kind.ensures) ∙ sym c.same.ensures ∙ c.if-same.true) (sym c.has_part.ensures ∙ c.if-has_part.true))
    ∙ c.loop-head.invariant
