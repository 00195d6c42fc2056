use Rattle.ob_kept.proofs.Shorter.{alike_so}
use Rattle.ob_kept.proofs.compacting.leads_alike.Goals as goal

pub returns-in_ok-may_go_on-in-Ok-clause-alike : goal.returns-in_ok-may_go_on-in-Ok-clause-alike
returns-in_ok-may_go_on-in-Ok-clause-alike g c = λ alike recorded records.
    let again = c.in-Ok.again in
    alike_so (g.F.Files.content c.args.files.now c.args.name.now) recorded again.boot again.ns again.opening.value again.site c.args.done.now.site
    c.in-Ok.ensures.opened (c.in-Ok.ensures.redone recorded records) c.in-Ok.ensures.begun.2 (c.in_ok-may_go_on-in-Ok.ensures alike)
