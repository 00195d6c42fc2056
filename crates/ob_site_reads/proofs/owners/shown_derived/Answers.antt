use Rattle.std.proofs.Common.{sym, ◌∙◌, subst}
use Rattle.std.proofs.lemmas.Result.{IfOk-weaker}
use Rattle.ob_site_rules.specs.declared.plan.Plan.{Plan}
use Rattle.ob_shown_laws.specs.Alike.{row}
use Rattle.ob_shown_laws.specs.OwnShown.{IsNotDerived}
use Rattle.ob_site_reads.specs.Deriving.{IsOff, IsOffBelow, ShownOr}
use Rattle.ob_site_reads.proofs.ByRole.{off_there, or_else_that}
use Rattle.ob_site_reads.proofs.Nowhere.{nowhere}
use Rattle.ob_site_reads.proofs.owners.shown_derived.Goals as goal

pub returns : goal.returns
returns g c =
    let plan = c.args.state.now.plan in
    let s = c.args.state.now.now in
    let p = c.args.path.now in
    let found : ShownOr plan s p (IsOff plan s p plan.root) c.in_ok-shown.shown = subst (λ (x : Plan). ShownOr plan s p (IsOff plan s p x.root) c.in_ok-shown.shown) c.plan.ensures c.in_ok-shown.ensures in
    let root = off_there plan s p (IsOff plan s p plan.root) c.in_ok-shown.shown (sym c.is_some.ensures ∙ c.if-is_some.false) found in
    IfOk-weaker c.shown_below.result (ShownOr plan s p (IsOffBelow plan s p)) (ShownOr plan s p (IsNotDerived plan s p (row s.tree)))
    (λ o is. or_else_that plan s p (IsOffBelow plan s p) (IsNotDerived plan s p (row s.tree)) o (λ off. nowhere plan s p root off) is) c.shown_below.ensures
