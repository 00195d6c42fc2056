use Rattle.std.proofs.Common.{Bool, sym, subst}
use Rattle.ob_kept.specs.Keeping.{Keeping, IsLeft, kept_of}
use Rattle.ob_kept.proofs.Left.{left_of}
use Rattle.ob_kept.proofs.kept.Kept.into_device.Goals as goal

pub returns : goal.returns
returns g c = λ told.
    let d = g.D.Device in
    let inside = c.self.inside in
    let k = inside.recorder in
    let seen : Keeping = kept_of d.moment inside.site k inside.opening inside.opened inside.past.items in
    subst (λ (x : Keeping). IsLeft d.seen d.may_leave d.moment d.left_since x c.into_device.result.0 c.into_device.result.1) c.self.view_is
    (subst (λ (x : g.row.D.Denot × Bool). IsLeft d.seen d.may_leave d.moment d.left_since seen x.0 x.1) (sym c.into_device.ensures)
    (left_of d.seen d.may_leave d.moment d.left_since seen k.journal.device k.failed (c.self.invariant.2 told)))
