use Rattle.std.proofs.Common.{None}
use Rattle.ob_io.proofs.KeptLemmas.{untold_door}
use Rattle.ob_system.proofs.port.TcpPortPort.back.Goals as goal

pub returns-then-door-gt0-clause-door : goal.returns-then-door-gt0-clause-door
returns-then-door-gt0-clause-door g c = untold_door c.args.door.faults c.args.door.handed c.args.door.returned c.args.door.is_closed None

pub returns-clause-door : goal.returns-clause-door
returns-clause-door g c = untold_door c.args.door.faults c.args.door.handed c.args.door.returned c.args.door.is_closed None
