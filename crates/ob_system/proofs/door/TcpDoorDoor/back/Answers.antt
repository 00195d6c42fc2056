use Rattle.std.proofs.Common.{None}
use Rattle.ob_io.proofs.KeptLemmas.{untold_link}
use Rattle.ob_system.proofs.door.TcpDoorDoor.back.Goals as goal

pub returns-clause-visit : goal.returns-clause-visit
returns-clause-visit g c = untold_link None None None c.args.link.read_faults c.args.link.write_faults
