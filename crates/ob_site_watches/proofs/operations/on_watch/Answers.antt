use Rattle.std.proofs.Common.{sym, subst}
use Rattle.ob_requests.specs.declared.target.Operation.{Operation}
use Rattle.ob_requests.specs.Targets.{operation_of}
use Rattle.ob_site_state.specs.Stamping.{tree_of}
use Rattle.ob_watch.specs.Flags.{flags_of}
use Rattle.ob_watch.specs.Tables.{live}
use Rattle.ob_watching.specs.Tables.{lookup}
use Rattle.ob_site_watches.specs.Polls.{WatchTakes}
use Rattle.ob_site_watches.proofs.Polled.{whatever}
use Rattle.ob_site_watches.proofs.operations.on_watch.Goals as goal

pub returns-in-Add-clause-steps : goal.returns-in-Add-clause-steps
returns-in-Add-clause-steps g c =
    let w = lookup c.args.call.now.number (flags_of (tree_of c.args.state.now) (live c.args.call.now.moment c.args.watches.now.watches)) in
    whatever c.add.result _
    (subst (λ (a : Operation). WatchTakes c.args.state.now.plan c.args.state.now.now w (operation_of a) c.args.steps.now c.add.new.steps) (sym c.in-Add.is) tt)
