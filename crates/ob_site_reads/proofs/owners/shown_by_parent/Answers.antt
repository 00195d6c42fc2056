use Rattle.std.proofs.Common.{◌∷◌, [], ◌++◌, sym, ◌∙◌, subst}
use Rattle.std.proofs.lemmas.Result.{IfOk-weaker}
use Rattle.ob_site_reads.specs.Deriving.{IsOff, ShownOr}
use Rattle.ob_site_reads.proofs.ByRole.{off_there, or_else_that}
use Rattle.ob_site_reads.proofs.owners.shown_by_parent.Goals as goal

pub returns : goal.returns
returns g c =
    let plan = c.args.state.now.plan in
    let s = c.args.state.now.now in
    let p = c.args.path.now in
    let q = c.in_ok-parent.parent in
    let plain = off_there plan s p (IsOff plan s p c.args.parent.now) c.in_ok-shown.shown (sym c.is_some.ensures ∙ c.if-is_some.false) c.in_ok-shown.ensures in
    let both = IsOff plan s p c.args.parent.now × IsOff plan s p (c.args.parent.now ++ 47 ∷ []) in
    IfOk-weaker c.shown_by-2.result (ShownOr plan s p (IsOff plan s p q)) (ShownOr plan s p both)
    (λ o is. or_else_that plan s p (IsOff plan s p q) both o (λ off. (plain, subst (IsOff plan s p) c.in_ok-parent.ensures off)) is) c.shown_by-2.ensures
