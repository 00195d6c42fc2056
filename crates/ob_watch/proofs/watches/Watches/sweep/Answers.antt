use Rattle.std.proofs.Common.{not, arith}
use Rattle.ob_watch.specs.Tables.{is_over}
use Rattle.ob_watch.proofs.LapseLemmas.{none_swept}
use Rattle.ob_watch.proofs.TableLemmas.{numbered_filter}
use Rattle.ob_watch.proofs.watches.Watches.sweep.Goals as goal

pub invariant_of-self : goal.invariant_of-self
invariant_of-self c = (
  numbered_filter c.self.inside.next c.self.inside.map.entries (λ e. not (is_over c.args.now e.1)) c.drop_lapsed.new.held.entries c.drop_lapsed.ensures c.self.invariant.0,
  c.soonest_held-self-inside.ensures,
)

pub returns-then-ms-self : goal.returns-then-ms-self
returns-then-ms-self c = none_swept c.self.inside.soonest c.args.now c.self.inside.map.entries c.self.inside.next c.args.self.now c.self.view_is (omega (arith, c.if-ms-self.true, c.ms.ensures.value)) c.self.invariant.1
