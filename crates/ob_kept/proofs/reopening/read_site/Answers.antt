use Rattle.std.proofs.Common.{sym, subst}
use Rattle.ob_kept.specs.Reopening.{Refuses}
use Rattle.ob_kept.proofs.Reading.{redoes_if, refused_if, refuses_saying}
use Rattle.ob_kept.proofs.reopening.read_site.Goals as goal

pub returns-in-Some-clause-redoes : goal.returns-in-Some-clause-redoes
returns-in-Some-clause-redoes g c = λ told.
    redoes_if c.ready_redone.result (g.D.Device.seen c.args.device.now) c.args.boot c.in-Some.run' c.in-Ok.said.extent c.one_meaning.ensures (rw c.in-Some.is at (c.in-Ok.ensures.said told))
    c.ready_redone.ensures.redone c.ready_redone.ensures.begun

pub returns-in-Some-clause-refused : goal.returns-in-Some-clause-refused
returns-in-Some-clause-refused g c =
    refused_if c.ready_redone.result g.D.Device.is_told (g.F.Files.content c.args.files.now c.args.name.now) (g.D.Device.seen c.args.device.now) c.args.boot c.in-Some.run' c.one_run.ensures c.is_record.ensures
    (λ told. rw c.in-Some.is at (c.in-Ok.ensures.said told)) c.ready_redone.ensures.refused

pub returns-in-Err-clause-refused : goal.returns-in-Err-clause-refused
returns-in-Err-clause-refused g c =
    let content = g.F.Files.content c.args.files.now c.args.name.now in
    let file = g.D.Device.seen c.args.device.now in
    subst (Refuses g.D.Device.is_told content file c.args.boot) (sym c.of_saying.ensures)
    (refuses_saying g.D.Device.is_told content file c.args.boot c.in-Err.fault (λ told. c.in-Err.ensures.none told) (λ told. c.in-Err.ensures.place told))
