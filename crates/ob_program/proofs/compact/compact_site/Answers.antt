use Rattle.std.proofs.Common.{◌∙◌}
use Rattle.ob_program.proofs.CompactLemmas.{comes_cut, comes_none, comes_printed, comes_unprinted, file_end_rose}
use Rattle.ob_program.proofs.compact.compact_site.Goals as goal

pub returns-in-Err-clause-comes : goal.returns-in-Err-clause-comes
returns-in-Err-clause-comes g c =
    let d = g.V.D.Device in
    comes_none d.is_told d.seen d.may_leave d.moment d.left_since d.faults _ _ _ _ _ _ _ (g.K.Sink.held c.args.sink.now) c.compact_file.result c.in-Err.end c.in-Err.is c.compact_file.ensures

pub returns-in-Err-clause-rose : goal.returns-in-Err-clause-rose
returns-in-Err-clause-rose g c =
    let d = g.V.D.Device in
    file_end_rose d.is_told d.seen d.may_leave d.moment d.left_since d.faults _ _ _ _ _ _ _ c.compact_file.result c.in-Err.end (g.K.Sink.faults c.args.sink.now) c.in-Err.is c.compact_file.ensures

pub returns-in_default-clause-comes : goal.returns-in_default-clause-comes
returns-in_default-clause-comes g c =
    let d = g.V.D.Device in
    comes_unprinted d.is_told d.seen d.may_leave d.moment d.left_since d.faults _ _ _ _ _ _ _ (g.K.Sink.held c.args.sink.now) c.compact_file.result c.in-Ok.compacted c.in-Ok.is c.compact_file.ensures

pub returns-in-Ok-write_all-clause-comes : goal.returns-in-Ok-write_all-clause-comes
returns-in-Ok-write_all-clause-comes g c =
    let d = g.V.D.Device in
    comes_printed d.is_told d.seen d.may_leave d.moment d.left_since d.faults _ _ _ _ _ _ _ _ _ c.compact_file.result c.in-Ok.compacted c.deref.result.now c.write_all.result c.in-Ok-write_all.field-0 c.in-Ok.is
    (c.deref.ensures.value ∙ c.in-Ok-compacted_line.ensures) c.in-Ok-write_all.is c.write_all.ensures.sends c.compact_file.ensures

pub returns-clause-comes : goal.returns-clause-comes
returns-clause-comes g c =
    let d = g.V.D.Device in
    comes_cut d.is_told d.seen d.may_leave d.moment d.left_since d.faults _ _ _ _ _ _ _ _ _ c.compact_file.result c.in-Ok.compacted c.deref.result.now c.write_all.result c.in-Ok.is
    (c.deref.ensures.value ∙ c.in-Ok-compacted_line.ensures) c.write_all.ensures.sends c.compact_file.ensures
