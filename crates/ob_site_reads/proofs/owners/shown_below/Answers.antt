use Rattle.std.proofs.Common.{◌∷◌, [], ◌++◌, subst}
use Rattle.std.proofs.lemmas.Result.{IfOk-weaker}
use Rattle.ob_site_reads.specs.Deriving.{IsOff, IsOffBelow, ShownOr}
use Rattle.ob_site_reads.specs.Parents.{IsParent}
use Rattle.ob_site_reads.proofs.ByRole.{or_else_that, off_parent, off_no_parent}
use Rattle.ob_site_reads.proofs.owners.shown_below.Goals as goal

pub returns-in-Some : goal.returns-in-Some
returns-in-Some g c =
    let plan = c.args.state.now.plan in
    let s = c.args.state.now.now in
    let p = c.args.path.now in
    let q = c.in-Some.parent in
    let is_parent = subst (IsParent p) c.in-Some.is c.in_ok-parent.ensures in
    let both = IsOff plan s p q × IsOff plan s p (q ++ 47 ∷ []) in
    IfOk-weaker c.shown_by_parent.result (ShownOr plan s p both) (ShownOr plan s p (IsOffBelow plan s p))
    (λ o is. or_else_that plan s p both (IsOffBelow plan s p) o (λ off. off_parent plan s p q is_parent off.0 off.1) is) c.shown_by_parent.ensures

pub returns-in-None : goal.returns-in-None
returns-in-None g c =
    off_no_parent c.args.state.now.plan c.args.state.now.now c.args.path.now (subst (IsParent c.args.path.now) c.in-None.is c.in_ok-parent.ensures)
