use Rattle.std.proofs.Common.{◌≡◌, List, map, ap, ◌∙◌, Bor}
use Rattle.std.proofs.lemmas.Result.{IfOk-weaker}
use Rattle.ob_object.specs.Object.{Object, children}
use Rattle.ob_contracts.specs.Found.{lent}
use Rattle.ob_contracts.specs.Inherit.{bare, missing}
use Rattle.ob_contracts.specs.Settings.{sources_in}
use Rattle.ob_contracts.specs.Shown.{finish, view_sources}
use Rattle.ob_contracts.proofs.completing.inherited.Goals as goal

pub returns : goal.returns
returns c =
    let s = c.args.setting in
    let o = c.args.object.now in
    let view = c.uncounted-view.result in
    let taken : lent c.deref.result.now ≡ missing (children o) (sources_in s o) =
    ap (λ (rs : List (Bor Object)). lent rs) c.deref.ensures.value
    ∙ c.in_ok-taken.ensures
    ∙ ap (λ (p : Object). missing (children p) (view_sources view)) c.uncounted-view.ensures.own
    ∙ ap (missing (children o)) c.uncounted-view.ensures.sources in
    IfOk-weaker c.copies.result _ _ (λ made is. is ∙ ap (map (λ (x : Object). finish s.defaults (bare x))) taken) c.copies.ensures
