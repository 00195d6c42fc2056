use Rattle.std.proofs.Common.{IsTrue, subst, sym, ◌∙◌}
use Rattle.ob_object.specs.declared.head.Head.{Head}
use Rattle.ob_object.specs.Fits.{fits_head}
use Rattle.ob_tree.proofs.laying.put_leaf.Goals as goal

pub from_attributes-requires : goal.from_attributes-requires
from_attributes-requires c = subst (λ (h : Head). IsTrue (fits_head h)) (sym (c.in_ok-head.ensures ∙ c.head.ensures.value)) c.head.ensures.fits
