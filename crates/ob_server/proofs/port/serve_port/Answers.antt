use Rattle.std.proofs.Common.{[], is_some, option_copied}
use Rattle.ob_server.proofs.PortLemmas.{doors_none}
use Rattle.ob_server.proofs.port.serve_port.Goals as goal

pub returns-in-Err-clause-serves : goal.returns-in-Err-clause-serves
returns-in-Err-clause-serves g c = (
  [],
  doors_none g.D.Door.faults g.D.Door.handed g.D.Door.returned g.D.Door.visits g.C.Clock.given g.C.Clock.pace g.C.Clock.faults g.D.Door.is_closed g.M.Machine.act
      (option_copied c.args.serving.now.ns) c.args.machine c.args.staff.workers c.args.staff.quota (is_some c.args.staff.stays) _ _,
  c.in-Err.ensures.refused,
)
