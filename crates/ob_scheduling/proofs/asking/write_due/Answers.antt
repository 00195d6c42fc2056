use Rattle.std.proofs.Common.{[], sym, ◌∙◌}
use Rattle.std.proofs.lemmas.Map.Keys.{le_from_is_le}
use Rattle.jiff.specs.Words.{plain_zone}
use Rattle.ob_weekly.proofs.Quiet.{no_firings}
use Rattle.ob_scheduling.proofs.Writes.{asked_none}
use Rattle.ob_scheduling.proofs.asking.write_due.Goals as goal

pub returns-then-le : goal.returns-then-le
returns-then-le g c =
    let k = c.args.keeper.now in
    let within = le_from_is_le c.args.moment k.quiet (sym c.le.ensures ∙ c.if-le.true) in
    ([], asked_none g.M.Machine.act c.args.machine.now, ([], no_firings (plain_zone k.schedules.zone) k.schedules.list.items k.greatest c.args.moment k.quiet k.silence within, tt))
