use Rattle.std.proofs.Common.{ℕ, List, ap, sym, subst}
use Rattle.ob_journal.specs.Journal.{Says}
use Rattle.ob_record.specs.Blocks.{IsBlock}
use Rattle.ob_kept.proofs.Reopens.{ready_kept, reopens_so, says_through}
use Rattle.ob_kept.proofs.reopening.reopen.Goals as goal

pub kept-requires : goal.kept-requires
kept-requires g c = λ told.
    let d = g.D.Device in
    let r = c.in-Ok.ready in
    ready_kept d.seen d.may_leave d.moment d.left_since c.args.device c.of-opened.result.value c.read_site.new.device c.repair.new.device c.args.boot r.boot r.opening.value r.site r.begun
    (g.F.Files.content c.args.files.now c.args.name.now) r.ns c.of-opened.ensures (c.requires.durable told) (c.read_site.ensures.any_moment told) (c.read_site.ensures.seen told)
    (c.in-Ok.ensures.redoes told) c.in-Ok.ensures.opened c.in-Ok.ensures.sound c.in-Ok-repair.end (c.in-Ok-repair.ensures.settled told) (c.repair.ensures.any_moment told)

pub returns-in-Ok-repair-clause-reopens : goal.returns-in-Ok-repair-clause-reopens
returns-in-Ok-repair-clause-reopens g c =
    let d = g.D.Device in
    let r = c.in-Ok.ready in
    reopens_so d.is_told (g.F.Files.content c.args.files.now c.args.name.now) (d.seen c.args.device) (d.moment c.args.device) c.args.boot r.boot (d.moment c.of-opened.result.value) r.ns c.kept.result.ns
    r.opening.value r.site c.in-Ok-repair.end r.begun c.kept.result.kept c.kept.ensures.ns c.kept.ensures.kept (ap d.moment c.of-opened.ensures) c.in-Ok.ensures.opened c.in-Ok.ensures.redoes
    (λ told blocks says. (c.in-Ok-repair.ensures.settled told blocks (subst (λ (file : List ℕ). Says IsBlock file blocks) (sym (c.read_site.ensures.seen told)) says)).end_is)
    c.in-Ok.ensures.sound

pub returns-in-Err-repair-clause-back : goal.returns-in-Err-repair-clause-back
returns-in-Err-repair-clause-back g c = λ told blocks says.
    let d = g.D.Device in
    says_through d.may_leave d.moment d.left_since c.args.device c.read_site.new.device c.repair.new.device (d.seen c.args.device) blocks (c.requires.durable told) (c.read_site.ensures.any_moment told) says
    (c.repair.ensures.any_moment told blocks (subst (λ (file : List ℕ). Says IsBlock file blocks) (sym (c.read_site.ensures.seen told)) says))
