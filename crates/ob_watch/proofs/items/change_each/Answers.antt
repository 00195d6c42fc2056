use Rattle.std.proofs.Common.{length, ap, ◌∙◌, arith}
use Rattle.ob_watch.specs.Items.{changed_by}
use Rattle.ob_watch.proofs.Lists.{altered_on, altered_end, length_altered}
use Rattle.ob_watch.proofs.items.change_each.Goals as goal

pub index_mut-item-requires : goal.index_mut-item-requires
index_mut-item-requires g c = omega (arith, ap length c.loop-place.invariant ∙ length_altered (changed_by (g.C.Change.made c.args.change.now)) c.loop-place.place c.args.held.now.entries)

pub loop-place-preserved : goal.loop-place-preserved
loop-place-preserved g c =
    altered_on (changed_by (g.C.Change.made c.args.change.now)) c.loop-place.place c.args.held.now.entries c.loop-place.held.entries _ _
    c.loop-place.invariant c.index_mut-item.ensures.value c.change.ensures

pub returns : goal.returns
returns g c = altered_end (changed_by (g.C.Change.made c.args.change.now)) c.loop-place.place c.args.held.now.entries c.loop-place.held.entries (omega arith) c.loop-place.invariant
