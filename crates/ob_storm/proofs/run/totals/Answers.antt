use Rattle.ob_storm.proofs.TotalLemmas.{counted_all}
use Rattle.ob_storm.proofs.run.totals.Goals as goal

pub returns : goal.returns
returns g c =
    counted_all g.M.Machine.act c.args.storm.now c.args.clients.now c.begin.new.clients c.pour.new.clients c.read_count.new.clients c.in_ok-tally.tally
    c.in_ok-records.records c.in_ok-alarms.alarms c.in_ok-begin.ensures c.in_ok-tally.ensures.left c.in_ok-tally.ensures.tallied c.in_ok-records.ensures
    c.in_ok-alarms.ensures.0
