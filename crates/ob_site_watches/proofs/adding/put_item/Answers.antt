use Rattle.std.proofs.Common.{sym, ◌∙◌}
use Rattle.ob_site_watches.proofs.Grown.{put_added, put_failed, put_full}
use Rattle.ob_site_watches.proofs.adding.put_item.Goals as goal

pub returns-in-Ok : goal.returns-in-Ok
returns-in-Ok c = λ k read w there.
    put_added c.args.place.now.number k c.args.place.now.room c.args.read.item c.args.watches.now c.add.new.self c.args.undo.now c.add.new.undo c.add.result w c.in-Ok.field-0 c.args.read.entry there read c.in-Ok.is c.add.ensures

pub returns-in-Some : goal.returns-in-Some
returns-in-Some c = λ k read w there.
    put_full c.args.place.now.number k c.args.place.now.room c.args.read.item c.args.watches.now c.add.new.self c.args.undo.now c.add.new.undo c.add.result w c.refused_after.result c.args.read.entry c.in-Err.fault c.in-Some.fault
    there read c.in-Err.is (sym (c.fault_told.ensures k.plan) ∙ c.in-Some.is) c.add.ensures c.refused_after.ensures

pub returns : goal.returns
returns c = λ k read w there.
    put_failed c.args.place.now.number k c.args.place.now.room c.args.read.item c.args.watches.now c.add.new.self c.args.undo.now c.add.new.undo c.add.result w c.in-Err.fault (record {}) there c.in-Err.is c.add.ensures
