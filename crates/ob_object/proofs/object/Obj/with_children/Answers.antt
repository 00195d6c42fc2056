use Rattle.std.proofs.Common.{List, subst, sym}
use Rattle.ob_object.specs.Object.{Object, in_row, listed-in_row}
use Rattle.ob_object.specs.WellFormed.{NamesDiffer, RowIsWellFormed}
use Rattle.ob_object.proofs.object.Obj.with_children.Goals as goal

pub invariant_of-result : goal.invariant_of-result
invariant_of-result c = record {
  head_fits = c.requires.fits;
  names_differ = subst NamesDiffer (sym (listed-in_row c.args.children.items)) c.requires.differ;
  row = subst (λ (os : List Object). RowIsWellFormed (in_row os)) c.deref.ensures.value c.know_row.ensures;
}
