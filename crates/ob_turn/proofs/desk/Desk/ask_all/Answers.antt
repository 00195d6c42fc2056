use Rattle.ob_turn.proofs.Working.{working_more}
use Rattle.ob_turn.proofs.desk.Desk.ask_all.Goals as goal

pub loop-job-preserved : goal.loop-job-preserved
loop-job-preserved g c =
    let e = c.ask.ensures in
    let l = c.loop-job in
    working_more g.M.Machine.act c.args.self.now.opening l.job-index _ l.job-items c.job-item.result c.ask.result _ l.pass c.ask.new.pass e.seen.0 l.invariant (rw l.auto.job-items c.loop-job-test.true) e.same e.seen.2 e.legal e.calls
