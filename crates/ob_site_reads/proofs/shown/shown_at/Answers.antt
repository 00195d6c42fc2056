use Rattle.std.proofs.Common.{◌≡◌, ap, ◌∙◌}
use Rattle.std.proofs.lemmas.Result.{IfOk-weaker}
use Rattle.ob_site_rules.specs.Shown.{shown}
use Rattle.ob_shown_laws.specs.Alike.{row}
use Rattle.ob_shown_laws.specs.OwnShown.{IsNotDerived}
use Rattle.ob_tree.specs.Laid.{paths}
use Rattle.ob_tree.specs.Paths.{place_of}
use Rattle.ob_tree.specs.Trees.{Stamped}
use Rattle.ob_site_reads.specs.Deriving.{ShownOr}
use Rattle.ob_site_reads.proofs.ByRole.{nothing}
use Rattle.ob_site_reads.proofs.shown.shown_at.Goals as goal

pub returns-in-None : goal.returns-in-None
returns-in-None g c =
    let plan = c.args.state.now.plan in
    let s = c.args.state.now.now in
    let p = c.args.path.now in
    IfOk-weaker c.shown_derived.result (ShownOr plan s p (IsNotDerived plan s p (row s.tree))) (λ o. o ≡ shown plan s p)
    (λ o is. nothing plan s p o (c.in-None.ensures.place ∙ ap (λ (t : Stamped). place_of p (paths t.root)) c.tree.ensures.value) is) c.shown_derived.ensures
