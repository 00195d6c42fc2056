use Rattle.ob_watching.specs.Operations.{OneWatch}
use Rattle.ob_requests.specs.Targets.{operation_of}
use Rattle.ob_site.proofs.Asked.{asked_so, asked_steps}
use Rattle.ob_site.proofs.Known.{known_of, kept_through}
use Rattle.ob_site.proofs.Unchanged.{quietly}
use Rattle.ob_site.proofs.quiet.to_watch.Goals as goal

pub on_watch-requires-clause-past : goal.on_watch-requires-clause-past
on_watch-requires-clause-past g c = c.requires.kept.past

pub on_watch-requires-clause-known : goal.on_watch-requires-clause-known
on_watch-requires-clause-known g c = known_of c.args.state.now c.args.watches.now c.requires.kept

pub returns-clause-done : goal.returns-clause-done
returns-clause-done g c = λ r.
    let k = c.args.state.now in
    let t = c.args.watches.now in
    let u = c.on_watch.new.watches in
    let op = operation_of c.args.asks in
    quietly k c.end_quietly.new.state t u c.end_quietly.new.watches r (OneWatch c.args.number op) c.in_ok-reply.reply c.requires
    (asked_so k c.time.result t u c.args.number op c.in_ok-reply.reply c.time.ensures c.in_ok-reply.ensures.done r)
    (kept_through k t u c.requires.kept (λ known. c.on_watch.ensures.known))
    c.end_quietly.ensures.state c.end_quietly.ensures.watches

pub returns-clause-steps : goal.returns-clause-steps
returns-clause-steps g c =
    asked_steps c.args.state.now c.time.result c.args.watches.now c.args.number (operation_of c.args.asks) c.args.steps.now c.on_watch.new.steps c.time.ensures c.in_ok-reply.ensures.steps
