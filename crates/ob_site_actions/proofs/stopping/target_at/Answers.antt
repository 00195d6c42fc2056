use Rattle.std.proofs.Common.{◌≡◌, Some, option_map}
use Rattle.std.specs.Prelude.{IfSome}
use Rattle.std.proofs.lemmas.Result.{IfOk-weaker}
use Rattle.ob_site_rules.specs.Shown.{shown}
use Rattle.ob_site_reads.specs.Targets.{target}
use Rattle.ob_site_actions.specs.Targets.{IsTarget}
use Rattle.ob_site_actions.proofs.Targets.{all_targets}
use Rattle.ob_site_actions.proofs.stopping.target_at.Goals as goal

pub returns : goal.returns
returns g c =
    let k = c.args.state.now in
    let p = c.args.path.now in
    IfOk-weaker c.own_target.result (λ found. IfSome found (λ o. option_map target (shown k.plan k.now p) ≡ Some o)) (λ found. IfSome found (λ o. IsTarget k.plan k.now p o))
    (λ found is. all_targets k.plan k.now p found is) c.own_target.ensures
