use Rattle.std.proofs.Common.{◌≡◌, List, Option, IsTrue, ap, ◌∙◌, subst}
use Rattle.std.proofs.lemmas.Result.{IfOk-weaker}
use Rattle.ob_object.specs.Completed.{completed}
use Rattle.ob_object.specs.Fits.{fits_head}
use Rattle.ob_object.specs.Object.{Object}
use Rattle.ob_contracts.specs.Given.{headed}
use Rattle.ob_contracts.specs.Inherit.{present}
use Rattle.ob_contracts.specs.Places.{sources_of}
use Rattle.ob_contracts.specs.Settings.{sources_in}
use Rattle.ob_contracts.specs.Shown.{finish}
use Rattle.ob_contracts.proofs.Becoming.{head_by}
use Rattle.ob_contracts.proofs.completing.given_head.Goals as goal

pub returns-clause-completes : goal.returns-clause-completes
returns-clause-completes c =
    let s = c.args.setting in
    let o = c.args.object.now in
    let looked = c.looked.result in
    let ss = sources_of looked.sources in
    let own : looked.sources.own.now ≡ o = c.looked.ensures.own ∙ c.sources.ensures.own ∙ c.uncounted-view.ensures.own in
    let from : ss ≡ sources_in s o = ap (λ (ps : List (Option Object)). present ps) (c.looked.ensures.places ∙ c.sources.ensures.places) ∙ c.uncounted-view.ensures.sources in
    IfOk-weaker c.given.result _ _
    (λ g is. head_by s o ss (completed o.head g) (subst (λ (p : Object). completed p.head g ≡ (finish s.defaults (headed p ss)).head) own is) from) c.given.ensures

pub returns-clause-fits : goal.returns-clause-fits
returns-clause-fits c =
    subst (λ (o : Object). IsTrue (fits_head (finish c.args.setting.defaults o).head)) c.uncounted-view.ensures.result_of (c.know_names.ensures.fits c.args.setting.defaults)
