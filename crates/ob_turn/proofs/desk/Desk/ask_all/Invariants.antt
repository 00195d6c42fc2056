use Rattle.ob_turn.proofs.Working.{Working}
use Rattle.ob_turn.proofs.desk.Desk.ask_all.Given as goal

abbrev pub invariant-loop-job : goal.invariant-loop-job
invariant-loop-job g l = Working g.M.Machine.act l.self.opening l.job-index l.initial.job-items l.job-items l.initial.pass l.pass
