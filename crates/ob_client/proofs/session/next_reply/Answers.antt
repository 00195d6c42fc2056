use Rattle.std.proofs.Common.{◌++◌, ◌∙◌, length, ap, sym, arith}
use Rattle.ob_io.specs.Links.{inlet, Takes-then}
use Rattle.ob_client.proofs.SessionLemmas.{reads_stop, reads_reply, reads_fault, held_behind, same_kept, reading_lives, not_dead}
use Rattle.ob_client.proofs.UnfinishedLemmas.{front_size}
use Rattle.ob_client.proofs.session.next_reply.Goals as goal

pub returns-in-Ok-Some-clause-reads : goal.returns-in-Ok-Some-clause-reads
returns-in-Ok-Some-clause-reads g c =
    let i = c.pieces.invariant in
    reads_reply _ _ c.args.framer.now c.pieces.framer c.take.new.self i.taken c.in-Ok-Some.reply c.in-Ok-Some.field-0 c.in-Ok-Some.field-0-is i.takes i.held c.in-Ok-Some.ensures.next

pub returns-in-Err-read_piece-clause-reads : goal.returns-in-Err-read_piece-clause-reads
returns-in-Err-read_piece-clause-reads g c =
    let i = c.pieces.invariant in
    reads_stop _ (inlet (g.L.Link.left c.pieces.link) (g.L.Link.taken c.pieces.link)) _ c.args.framer.now c.pieces.framer c.take.new.self c.read_piece.new.framer i.taken c.in-Err-read_piece.fault c.in-Ok-None.field-0 c.in-Ok-None.field-0-is i.takes i.held c.in-Ok-None.ensures.next c.in-Err-read_piece.ensures.piece

pub returns-in-Err-clause-reads : goal.returns-in-Err-clause-reads
returns-in-Err-clause-reads g c =
    let i = c.pieces.invariant in
    reads_fault _ _ c.args.framer.now c.pieces.framer c.take.new.self i.taken c.in-Err.fault c.fault_of.result c.fault_of.ensures i.takes i.held c.in-Err.ensures.next

pub pieces-preserved : goal.pieces-preserved
pieces-preserved g c =
    let i = c.pieces.invariant in
    let p = c.in-Ok.ensures.piece in
    record {
      taken = i.taken ++ p.taken;
      takes = Takes-then (inlet (g.L.Link.left c.args.link.now) (g.L.Link.taken c.args.link.now)) (inlet (g.L.Link.left c.pieces.link) (g.L.Link.taken c.pieces.link)) (inlet (g.L.Link.left c.read_piece.new.link) (g.L.Link.taken c.read_piece.new.link)) i.taken p.taken i.takes p.takes;
      held = held_behind _ _ c.args.framer.now c.pieces.framer c.take.new.self c.read_piece.new.framer i.taken (same_kept c.pieces.framer c.take.new.self c.in-Ok-None.field-0 c.in-Ok-None.field-0-is c.in-Ok-None.ensures.takes) i.held p;
      written = c.read_piece.ensures.apart.0 ∙ i.written;
      writes = c.read_piece.ensures.apart.1 ∙ i.writes;
      later = omega (arith, i.later, c.read_piece.ensures.later);
    }

pub pieces-smaller : goal.pieces-smaller
pieces-smaller g c =
    let few = front_size c.pieces.framer c.take.new.self c.in-Ok-None.field-0 c.in-Ok-None.field-0-is c.in-Ok-None.ensures.takes in
    let same = same_kept c.pieces.framer c.take.new.self c.in-Ok-None.field-0 c.in-Ok-None.field-0-is c.in-Ok-None.ensures.takes in
    omega (arith, few, ap length same, c.in-Ok.ensures.grows)

pub returns-in-Ok-Some-clause-alive : goal.returns-in-Ok-Some-clause-alive
returns-in-Ok-Some-clause-alive g c = λ f. f

pub returns-in-Err-read_piece-clause-alive : goal.returns-in-Err-read_piece-clause-alive
returns-in-Err-read_piece-clause-alive g c = reading_lives c.in-Err-read_piece.fault c.in-Err-read_piece.ensures.piece.causes

pub returns-in-Err-clause-alive : goal.returns-in-Err-clause-alive
returns-in-Err-clause-alive g c = λ f. not_dead c.in-Err.fault (sym c.fault_of.ensures ∙ f)
