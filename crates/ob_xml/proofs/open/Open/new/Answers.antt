use Rattle.std.proofs.Common.{sym, subst, ◌∙◌}
use Rattle.std.specs.FinSet as set
use Rattle.ob_object.specs.Object.{Object, children}
use Rattle.ob_xml.specs.Indexes.{NameSet, IsIndex}
use Rattle.ob_xml.proofs.Indexing.{index_none}
use Rattle.ob_xml.proofs.open.Open.new.Goals as goal

pub invariant_of-result : goal.invariant_of-result
invariant_of-result c =
    subst (λ (names : NameSet). IsIndex names (children c.in-Ok.obj.value)) (sym c.new-in-Ok.ensures)
    (subst (λ (o : Object). IsIndex set.empty (children o)) (sym (c.in-Ok.ensures.ok ∙ c.from_attributes.ensures)) index_none)
