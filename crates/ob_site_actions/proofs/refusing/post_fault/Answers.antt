use Rattle.std.specs.Option.{option_copied}
use Rattle.ob_site_actions.proofs.ByHead.{never_called}
use Rattle.ob_site_actions.proofs.refusing.post_fault.Goals as goal

pub returns-in-Some : goal.returns-in-Some
returns-in-Some c =
    let k = c.args.state.now in
    never_called k.plan k.now k.time c.args.path.now (option_copied c.args.body) c.in-Some._kind c.in-Some.ensures
