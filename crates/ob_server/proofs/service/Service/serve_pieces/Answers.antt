use Rattle.std.proofs.Common.{◌==◌, ◌∙◌, refl, ap, arith, ℕ}
use Rattle.ob_io.specs.Links.{inlet}
use Rattle.ob_server.proofs.ExchangeLemmas.{continues_none, continues_then}
use Rattle.ob_server.proofs.ServeLemmas.{serving_none, serves_as, serving_along, serving_held, serves_along, held_answered, ends_of, ends_at, ends_budget, ends_unstarted, fed, stop_cause, pause_cause, stop_along, pause_along, cause_as}
use Rattle.ob_server.proofs.service.Service.serve_pieces.Goals as goal

pub pieces-init : goal.pieces-init
pieces-init g c = record {
  serving = serving_none _ _ _ c.in-Ok.made c.in-Ok.ensures.empty c.in-Ok.ensures.taken;
  pass = continues_none _ _ _;
  pace = refl;
  reads = omega arith;
  writes = omega arith;
  clocks = omega arith;
  same_pass = refl;
  same_link = refl;
  same_clock = refl;
}

pub pieces-preserved : goal.pieces-preserved
pieces-preserved g c =
    let i = c.pieces.invariant in
    let here = serving_along _ _ _ (g.L.Link.left c.answer_held.new.connection.link.now) _ (g.L.Link.taken c.answer_held.new.connection.link.now) _ _ _ _ c.answer_held.ensures.apart.0 c.answer_held.ensures.apart.1 i.serving in
    let rests = held_answered _ _ _ _ _ _ _ _ _ here c.in_default-answer_held.field-0 c.in_default-answer_held.ensures.answers in
    let read = c.in-Ok-read_piece.ensures.bytes in
    record {
      serving = serving_held _ _ _ _ _ _ _ _ _ _ c.read_piece.ensures.apart.0
          (fed _ _ _ (inlet (g.L.Link.left c.read_piece.new.link) (g.L.Link.taken c.read_piece.new.link)) _ _ _ _ rests read.0 c.in-Ok-read_piece.count c.read_piece.new.framer read.1 read.2 (omega (arith, read.4, c.min-most.ensures)) read.5 read.6);
      pass = continues_then _ _ _ _ _ i.pass c.answer_held.ensures.pass;
      pace = c.answer_held.ensures.pace ∙ i.pace;
      reads = omega (arith, i.reads, c.answer_held.ensures.apart.2, c.read_piece.ensures.later);
      writes = omega (arith, i.writes, c.answer_held.ensures.cause.writes_later, c.read_piece.ensures.apart.1);
      clocks = omega (arith, i.clocks, c.answer_held.ensures.cause.clocks_later);
      same_pass = c.answer_held.ensures.same.0 ∙ i.same_pass;
      same_link = c.answer_held.ensures.same.1 ∙ i.same_link;
      same_clock = c.answer_held.ensures.same.2 ∙ i.same_clock;
    }

pub returns-in-Err-clause-serves : goal.returns-in-Err-clause-serves
returns-in-Err-clause-serves g c =
    let here = serving_along _ _ _ (g.L.Link.left c.answer_held.new.connection.link.now) _ (g.L.Link.taken c.answer_held.new.connection.link.now) _ _ _ _ c.answer_held.ensures.apart.0 c.answer_held.ensures.apart.1 c.pieces.invariant.serving in
    serves_as _ _ _ _ _ _ _ c.end_of.ensures
    (ends_of _ _ _ _ _ _ _ _ _ here c.in-Err.stop c.place.result c.place.ensures c.in-Err.ensures.answers)

pub returns-then-room-eq0-clause-serves : goal.returns-then-room-eq0-clause-serves
returns-then-room-eq0-clause-serves g c =
    let here = serving_along _ _ _ (g.L.Link.left c.answer_held.new.connection.link.now) _ (g.L.Link.taken c.answer_held.new.connection.link.now) _ _ _ _ c.answer_held.ensures.apart.0 c.answer_held.ensures.apart.1 c.pieces.invariant.serving in
    ends_budget _ _ _ _ _ _ _ (held_answered _ _ _ _ _ _ _ _ _ here c.in_default-answer_held.field-0 c.in_default-answer_held.ensures.answers) c.if-room-eq0.true

pub returns-in-Err-read_piece-clause-serves : goal.returns-in-Err-read_piece-clause-serves
returns-in-Err-read_piece-clause-serves g c =
    let here = serving_along _ _ _ (g.L.Link.left c.answer_held.new.connection.link.now) _ (g.L.Link.taken c.answer_held.new.connection.link.now) _ _ _ _ c.answer_held.ensures.apart.0 c.answer_held.ensures.apart.1 c.pieces.invariant.serving in
    let rests = held_answered _ _ _ _ _ _ _ _ _ here c.in_default-answer_held.field-0 c.in_default-answer_held.ensures.answers in
    serves_as _ _ _ _ _ _ _ c.end_at.ensures
    (serves_along _ _ _ _ _ _ _ _ _ c.read_piece.ensures.apart.0
    (ends_at _ _ _ (inlet (g.L.Link.left c.read_piece.new.link) (g.L.Link.taken c.read_piece.new.link)) _ _ _ c.read_piece.new.framer _ c.min-most.result c.in-Err-read_piece.pause _ rests (ap (λ (n : ℕ). n == 0) c.kept.ensures) c.in-Err-read_piece.ensures.bytes))

pub returns-in_default-clause-serves : goal.returns-in_default-clause-serves
returns-in_default-clause-serves g c = ends_unstarted _ _ _

-- ---- the pass, and the causes

pub returns-in_default-clause-pass : goal.returns-in_default-clause-pass
returns-in_default-clause-pass g c = continues_none _ _ _

pub returns-in_default-clause-cause : goal.returns-in_default-clause-cause
returns-in_default-clause-cause g c = record { reads_later = omega arith; writes_later = omega arith; clocks_later = omega arith; rose = tt }

pub returns-in-Err-clause-pass : goal.returns-in-Err-clause-pass
returns-in-Err-clause-pass g c = continues_then _ _ _ _ _ c.pieces.invariant.pass c.answer_held.ensures.pass

pub returns-in-Err-clause-cause : goal.returns-in-Err-clause-cause
returns-in-Err-clause-cause g c =
    let i = c.pieces.invariant in
    let cause = c.in-Err.ensures.cause in
    cause_as _ _ _ _ _ _ _ _ c.end_of.ensures
    (stop_cause _ _ _ _ _ _ c.place.result c.in-Err.stop (omega (arith, i.reads, c.answer_held.ensures.apart.2))
    (omega (arith, i.writes, cause.writes_later)) (omega (arith, i.clocks, cause.clocks_later))
    (stop_along c.in-Err.stop _ _ _ _ _ _ i.writes i.clocks cause.rose))

pub returns-then-room-eq0-clause-pass : goal.returns-then-room-eq0-clause-pass
returns-then-room-eq0-clause-pass g c = continues_then _ _ _ _ _ c.pieces.invariant.pass c.answer_held.ensures.pass

pub returns-then-room-eq0-clause-cause : goal.returns-then-room-eq0-clause-cause
returns-then-room-eq0-clause-cause g c =
    let i = c.pieces.invariant in
    let cause = c.answer_held.ensures.cause in
    record {
      reads_later = omega (arith, i.reads, c.answer_held.ensures.apart.2);
      writes_later = omega (arith, i.writes, cause.writes_later);
      clocks_later = omega (arith, i.clocks, cause.clocks_later);
      rose = tt;
    }

pub returns-in-Err-read_piece-clause-pass : goal.returns-in-Err-read_piece-clause-pass
returns-in-Err-read_piece-clause-pass g c = continues_then _ _ _ _ _ c.pieces.invariant.pass c.answer_held.ensures.pass

pub returns-in-Err-read_piece-clause-cause : goal.returns-in-Err-read_piece-clause-cause
returns-in-Err-read_piece-clause-cause g c =
    let i = c.pieces.invariant in
    let cause = c.answer_held.ensures.cause in
    cause_as _ _ _ _ _ _ _ _ c.end_at.ensures
    (pause_cause _ _ _ _ _ _ c.in-Err-read_piece.pause _ (omega (arith, i.reads, c.answer_held.ensures.apart.2, c.read_piece.ensures.later))
    (omega (arith, i.writes, cause.writes_later, c.read_piece.ensures.apart.1)) (omega (arith, i.clocks, cause.clocks_later))
    (pause_along c.in-Err-read_piece.pause _ (g.L.Link.read_faults c.answer_held.new.connection.link.now) _ (omega (arith, i.reads, c.answer_held.ensures.apart.2)) c.in-Err-read_piece.ensures.rose))

-- ---- the clock's pace

pub returns-in_default-clause-pace : goal.returns-in_default-clause-pace
returns-in_default-clause-pace g c = refl

pub returns-in-Err-clause-pace : goal.returns-in-Err-clause-pace
returns-in-Err-clause-pace g c = c.answer_held.ensures.pace ∙ c.pieces.invariant.pace

pub returns-then-room-eq0-clause-pace : goal.returns-then-room-eq0-clause-pace
returns-then-room-eq0-clause-pace g c = c.answer_held.ensures.pace ∙ c.pieces.invariant.pace

pub returns-in-Err-read_piece-clause-pace : goal.returns-in-Err-read_piece-clause-pace
returns-in-Err-read_piece-clause-pace g c = c.answer_held.ensures.pace ∙ c.pieces.invariant.pace
