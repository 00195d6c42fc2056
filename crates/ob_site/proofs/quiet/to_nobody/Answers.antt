use Rattle.ob_watching.specs.Operations.{Nowhere}
use Rattle.ob_site.proofs.Asked.{nobody}
use Rattle.ob_site.proofs.Unchanged.{quietly}
use Rattle.ob_site.proofs.quiet.to_nobody.Goals as goal

pub returns-clause-done : goal.returns-clause-done
returns-clause-done c = λ r.
    let k = c.args.state.now in
    let t = c.args.watches.now in
    quietly k c.end_quietly.new.state t t c.end_quietly.new.watches r Nowhere c.in_ok-reply.reply c.requires (nobody k t r c.in_ok-reply.reply c.in_ok-reply.ensures) c.requires.kept c.end_quietly.ensures.state c.end_quietly.ensures.watches
