use Rattle.std.proofs.Common.{length, ◌==◌}
use Rattle.ob_io.proofs.KeptLemmas.{came_back}
use Rattle.ob_io.specs.Kept.{visits_of}
use Rattle.ob_io.proofs.mem_port.MemPortPort.back.Goals as goal

pub returns-clause-door : goal.returns-clause-door
returns-clause-door g c =
    let l = g.L.Link in
    came_back (λ d. d.calls.faults) (λ d. d.handed) (λ d. d.returned)
    (λ d. length d.waiting.items == 0) (λ d. visits_of l.left l.taken l.held l.read_faults l.write_faults d.back.is_told d.back.things.items) _ _ _ _ c.args.door c.keep.ensures
