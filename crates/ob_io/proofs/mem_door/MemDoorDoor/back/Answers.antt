use Rattle.ob_io.proofs.KeptLemmas.{visited}
use Rattle.ob_io.proofs.mem_door.MemDoorDoor.back.Goals as goal

pub returns-clause-visit : goal.returns-clause-visit
returns-clause-visit g c =
    let l = g.L.Link in
    let kept = c.args.self.now.back in
    let after = c.keep.new.self in
    visited l.left l.taken l.held l.read_faults l.write_faults kept.is_told after.is_told kept.things.items after.things.items c.args.link c.keep.ensures
