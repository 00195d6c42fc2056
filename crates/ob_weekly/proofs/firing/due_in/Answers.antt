use Rattle.jiff.specs.Words.{plain_zone}
use Rattle.ob_weekly.specs.Search.{IsDueIn}
use Rattle.ob_weekly.proofs.Told.{are_all}
use Rattle.ob_weekly.proofs.firing.due_in.Goals as goal

pub returns : goal.returns
returns c =
    are_all (IsDueIn (plain_zone c.args.zone.now) c.args.schedule c.args.entries.now c.args.span.low c.args.span.to) c.new-dues.result.items c.push_entries.new.dues.items c.put_in_order.new.dues.items c.new-dues.ensures.items c.in_ok-push_entries.ensures c.in_ok-put_in_order.ensures
