use Rattle.ob_server.proofs.AloneLemmas.{serves_alone, unopened}
use Rattle.ob_server.proofs.alone.serve_alone.Goals as goal

pub returns-in_default-clause-serves : goal.returns-in_default-clause-serves
returns-in_default-clause-serves g c = unopened _ _ _ _ _ _

pub returns-clause-serves : goal.returns-clause-serves
returns-clause-serves g c =
    serves_alone g.M.Machine.act c.args.machine c.in-Ok.desk.opening _ _ _ _ _ _ _ _ c.in-Ok.desk.table c.in-Ok.pass c.serve_link-end.new.pass
    c.in-Ok.ensures.opening c.in-Ok.ensures.pass c.serve_link-end.ensures.pass c.serve_link-end.ensures.serves
