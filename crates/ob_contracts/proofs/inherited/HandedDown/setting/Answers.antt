use Rattle.std.proofs.Common.{◌≡◌, Option, sym, ap, ◌∙◌}
use Rattle.std.specs.Option.{option_copied}
use Rattle.ob_object.specs.Object.{Object}
use Rattle.ob_contracts.specs.Inherit.{Contracts, overridden, result_of}
use Rattle.ob_contracts.specs.Shown.{finish, view_sources}
use Rattle.ob_contracts.proofs.inherited.HandedDown.setting.Goals as goal

pub returns : goal.returns
returns c = λ v hands lib.
    let d = c.args.defaults in
    let child = c.args.child.now in
    let implied = option_copied c.args.self.now.implied in
    ap (λ (l : Contracts). finish d (result_of l child implied (option_copied c.find_over.result))) (sym lib)
    ∙ ap (λ (o : Option Object). finish d (result_of v.library.now child implied o)) (c.find_over.ensures (view_sources v) hands.over)
    ∙ ap (finish d) (hands.implied child (overridden child.head.name (view_sources v)))
