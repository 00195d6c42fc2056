use Rattle.std.proofs.Common.{◌≡◌, sym, subst}
use Rattle.std.proofs.lemmas.Result.{err_from_is_err_and}
use Rattle.ob_kept.specs.declared.fault.CompactFault.TheVariants as faults
use Rattle.ob_kept.specs.Reopening.{Refuses}
use Rattle.ob_kept.proofs.Reading.{refuses_saying}
use Rattle.ob_kept.proofs.Shorter.{says_compacted, uncompacted_run}
use Rattle.ob_kept.proofs.compacting.compact.Goals as goal

pub returns-in-Err-clause-refused : goal.returns-in-Err-clause-refused
returns-in-Err-clause-refused g c =
    let content = g.F.Files.content c.args.files.now c.args.name.now in
    let file = g.D.Device.seen c.args.device.now in
    subst (Refuses g.D.Device.is_told content file 0) (sym c.of_saying.ensures)
    (refuses_saying g.D.Device.is_told content file 0 c.in-Err.fault (λ told. c.in-Err.ensures.none told) (λ told. c.in-Err.ensures.place told))

pub returns-clause-says : goal.returns-clause-says
returns-clause-says g c = λ told.
    says_compacted (g.F.Files.content c.args.files.now c.args.name.now) (g.D.Device.seen c.args.device.now) (g.D.Device.seen c.write_whole-2.new.device) c.in-Some.run' c.in_ok-shorter.shorter c.len.result c.len-2.result
    (rw c.in-Some.is at (c.in-Ok.ensures.said told)) c.in_ok-shorter.ensures.compacts (c.in_ok-write_whole-2.ensures.says told) c.len.ensures c.len-2.ensures

pub returns-in_err-shorter-clause-refused : goal.returns-in_err-shorter-clause-refused
returns-in_err-shorter-clause-refused g c =
    let fault = c.in_err-shorter.field-0.0 in
    let p = err_from_is_err_and c.from_residual-in_err-shorter.result c.from_residual-in_err-shorter.ensures.1 in
    let fault_is : p.0 ≡ faults.Reopen fault = cc p.2 in
    rw (p.1, fault_is)
    (uncompacted_run g.D.Device.is_told (g.F.Files.content c.args.files.now c.args.name.now) (g.D.Device.seen c.args.device.now) (g.D.Device.seen c.args.fresh.now) c.in-Some.run' fault c.one_run.ensures c.is_record.ensures
    (λ told. rw c.in-Some.is at (c.in-Ok.ensures.said told)) c.in_err-shorter.ensures.refused)
