use Rattle.ob_storm.proofs.RunLemmas.{Pours}
use Rattle.ob_storm.proofs.run.pour.Given as goal

abbrev pub invariant-loop-place : goal.invariant-loop-place
invariant-loop-place g l = Pours g.M.Machine.act l.first l.storm.clients l.storm.requests l.fn.clients l.storm.seed l.clients l.place l.state l.tally
