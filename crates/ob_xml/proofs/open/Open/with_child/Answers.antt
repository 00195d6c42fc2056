use Rattle.std.proofs.Common.{sym, subst}
use Rattle.ob_object.specs.Object.{Object, children}
use Rattle.ob_object.specs.WellFormed.{with_child}
use Rattle.ob_xml.specs.Indexes.{NameSet, IsIndex, with_name}
use Rattle.ob_xml.proofs.Indexing.{index_with}
use Rattle.ob_xml.proofs.open.Open.with_child.Goals as goal

pub invariant_of-result : goal.invariant_of-result
invariant_of-result c =
    subst (λ (names : NameSet). IsIndex names (children c.push_new.new.self)) (sym c.in-Ok.ensures)
    (subst (λ (o : Object). IsIndex (with_name c.args.child.head.name c.self.inside.names) (children o)) (sym c.in-Ok-push_new.ensures)
    (subst (λ (o : Object). IsIndex (with_name c.args.child.head.name c.self.inside.names) (children (with_child o c.args.child))) (sym c.deref_mut.ensures.value)
    (index_with c.self.inside.names c.self.inside.obj.value c.args.child c.self.invariant)))
