use Rattle.std.proofs.Common.{◌≡◌, None}
use Rattle.std.specs.Option.{option_copied}
use Rattle.std.proofs.lemmas.Result.{IfErr-weaker}
use Rattle.ob_values.specs.declared.verb.Verb.TheVariants.{Put}
use Rattle.ob_site_rules.specs.State.{at}
use Rattle.ob_site_rules.specs.Places.{computed_places}
use Rattle.ob_site_actions.specs.Own.{StopsPut}
use Rattle.ob_site_actions.specs.Refusing.{StopsThere}
use Rattle.ob_site_actions.proofs.ByHead.{all_placed, put_stopped}
use Rattle.ob_site_actions.proofs.refusing.put_there.Goals as goal

pub returns-then-free-clause-ok : goal.returns-then-free-clause-ok
returns-then-free-clause-ok g c =
    let k = c.args.state.now in
    let p = c.args.path.now in
    all_placed k c.put_own.new.state p (option_copied c.args.body) c.put_own.result (c.in_ok-free.ensures c.if-free.true) c.put_own.ensures.ok

pub returns-then-free-clause-stop : goal.returns-then-free-clause-stop
returns-then-free-clause-stop g c =
    let k = c.args.state.now in
    let p = c.args.path.now in
    let body = option_copied c.args.body in
    let free : at p (computed_places k.plan k.now) ≡ None = c.in_ok-free.ensures c.if-free.true in
    IfErr-weaker c.put_own.result (StopsPut k c.put_own.new.state p body) (StopsThere k c.put_own.new.state p Put body)
    (λ stop stops. put_stopped k c.put_own.new.state p body stop free stops) c.put_own.ensures.stop
