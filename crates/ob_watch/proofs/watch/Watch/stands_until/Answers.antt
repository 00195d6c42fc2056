use Rattle.std.proofs.Common.{subst, arith}
use Rattle.ob_watch.specs.Tables.{StandsUntil}
use Rattle.ob_watch.proofs.LapseLemmas.{to_its_end}
use Rattle.ob_watch.proofs.watch.Watch.stands_until.Goals as goal

pub returns : goal.returns
returns c =
    subst (StandsUntil c.saturating_add.result) c.self.view_is
    (to_its_end c.saturating_add.result (record { lease = c.self.inside.lease; touched = c.self.inside.touched; items = c.self.inside.items }) (omega arith))
