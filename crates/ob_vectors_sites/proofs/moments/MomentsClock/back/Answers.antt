use Rattle.std.proofs.Common.{None}
use Rattle.ob_io.proofs.TwinLemmas.{untold}
use Rattle.ob_vectors_sites.proofs.moments.MomentsClock.back.Goals as goal

pub returns-clause-twin : goal.returns-clause-twin
returns-clause-twin c = untold None None 0
