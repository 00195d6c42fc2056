use Rattle.std.proofs.Common.{IsTrue, sym, subst}
use Rattle.std.specs.Option.{option_copied}
use Rattle.ob_object.specs.declared.kind.Kind.{Kind}
use Rattle.ob_object.specs.Fits.{fits_if_there}
use Rattle.ob_site_actions.proofs.Passed.{min_fits, max_fits}
use Rattle.ob_site_actions.proofs.value.listed_fault.Goals as goal

pub check_write-requires-clause-min : goal.check_write-requires-clause-min
check_write-requires-clause-min c =
    subst (λ (k : Kind). IsTrue (fits_if_there k (option_copied c.min.result))) (sym c.kind.ensures)
    (min_fits c.args.object.now.head c.head-head.result.now _ c.head-head.ensures.fits c.head-head.ensures.value c.min.ensures)

pub check_write-requires-clause-max : goal.check_write-requires-clause-max
check_write-requires-clause-max c =
    subst (λ (k : Kind). IsTrue (fits_if_there k (option_copied c.max.result))) (sym c.kind.ensures)
    (max_fits c.args.object.now.head c.head-head.result.now _ c.head-head.ensures.fits c.head-head.ensures.value c.max.ensures)
