use Rattle.std.proofs.Common.{◌==◌, ◌∙◌, refl, ap, arith, ℕ}
use Rattle.ob_io.specs.Links.{inlet}
use Rattle.ob_server.proofs.ServeLemmas.{stop_cause, pause_cause, stop_along, pause_along, cause_as}
use Rattle.ob_server.proofs.AnsweringLemmas.{going_none, going_held, link_as, link_held, link_stopped, link_paused, link_budget, link_ended, link_fed, link_unstarted}
use Rattle.ob_server.proofs.answering.Connection.serve_pieces.Goals as goal

pub pieces-init : goal.pieces-init
pieces-init g c = record {
  going = going_none _ _ _ _ c.in-Ok.made _ _ c.in-Ok.ensures.empty c.in-Ok.ensures.taken;
  pace = refl;
  reads = omega arith;
  writes = omega arith;
  clocks = omega arith;
  same_answerer = refl;
  same_outside = refl;
  same_link = refl;
  same_clock = refl;
}

pub pieces-preserved : goal.pieces-preserved
pieces-preserved g c =
    let i = c.pieces.invariant in
    let apart = c.answer_held.ensures.apart in
    let paused = link_paused _ _ _ _ _ _ _ _ _ _ _ _ _ _ _ _ _ _ _ apart.0 apart.1 i.going c.in_default-answer_held.field-0 c.in_default-answer_held.ensures.answers in
    let read = c.in-Ok-read_piece.ensures.bytes in
    record {
      going = going_held _ _ _ _ _ _ _ _ _ _ _ _ _ c.read_piece.ensures.apart.0
          (link_fed _ _ _ _ _ _ _ _ _ _ _ _ _ _ _ _ _ _ _ apart.0 apart.1 i.going (inlet (g.L.Link.left c.read_piece.new.link) (g.L.Link.taken c.read_piece.new.link)) read.0 c.in-Ok-read_piece.count c.read_piece.new.framer
          paused read.1 read.2 (omega (arith, read.4, c.min-most.ensures)) read.5 read.6);
      pace = c.answer_held.ensures.pace ∙ i.pace;
      reads = omega (arith, i.reads, apart.2, c.read_piece.ensures.later);
      writes = omega (arith, i.writes, c.answer_held.ensures.cause.writes_later, c.read_piece.ensures.apart.1);
      clocks = omega (arith, i.clocks, c.answer_held.ensures.cause.clocks_later);
      same_answerer = c.answer_held.ensures.same.0 ∙ i.same_answerer;
      same_outside = c.answer_held.ensures.same.1 ∙ i.same_outside;
      same_link = c.answer_held.ensures.same.2 ∙ i.same_link;
      same_clock = c.answer_held.ensures.same.3 ∙ i.same_clock;
    }

pub returns-in-Err-clause-serves : goal.returns-in-Err-clause-serves
returns-in-Err-clause-serves g c =
    let apart = c.answer_held.ensures.apart in
    link_as _ _ _ _ _ _ _ _ _ _ _ _ c.end_of.ensures
    (link_stopped _ _ _ _ _ _ _ _ _ _ _ _ _ _ _ _ _ _ _ apart.0 apart.1 c.pieces.invariant.going c.in-Err.stop c.place.result c.place.ensures c.in-Err.ensures.answers)

pub returns-then-room-eq0-clause-serves : goal.returns-then-room-eq0-clause-serves
returns-then-room-eq0-clause-serves g c =
    let apart = c.answer_held.ensures.apart in
    let going = c.pieces.invariant.going in
    let paused = link_paused _ _ _ _ _ _ _ _ _ _ _ _ _ _ _ _ _ _ _ apart.0 apart.1 going c.in_default-answer_held.field-0 c.in_default-answer_held.ensures.answers in
    link_budget _ _ _ _ _ _ _ _ _ _ _ _ _ _ _ _ _ _ _ apart.0 apart.1 going paused c.if-room-eq0.true

pub returns-in-Err-read_piece-clause-serves : goal.returns-in-Err-read_piece-clause-serves
returns-in-Err-read_piece-clause-serves g c =
    let apart = c.answer_held.ensures.apart in
    let going = c.pieces.invariant.going in
    let paused = link_paused _ _ _ _ _ _ _ _ _ _ _ _ _ _ _ _ _ _ _ apart.0 apart.1 going c.in_default-answer_held.field-0 c.in_default-answer_held.ensures.answers in
    link_as _ _ _ _ _ _ _ _ _ _ _ _ c.end_at.ensures
    (link_held _ _ _ _ _ _ _ _ _ _ _ _ c.read_piece.ensures.apart.0
    (link_ended _ _ _ _ _ _ _ _ _ _ _ _ _ _ _ _ _ _ _ apart.0 apart.1 going (inlet (g.L.Link.left c.read_piece.new.link) (g.L.Link.taken c.read_piece.new.link)) c.read_piece.new.framer c.min-most.result
    c.in-Err-read_piece.pause _ paused (ap (λ (n : ℕ). n == 0) c.kept.ensures) c.in-Err-read_piece.ensures.bytes))

pub returns-in_default-clause-serves : goal.returns-in_default-clause-serves
returns-in_default-clause-serves g c = link_unstarted _ _ _ _ _ _

-- ---- the causes, and the clock's pace

pub returns-in_default-clause-cause : goal.returns-in_default-clause-cause
returns-in_default-clause-cause g c = record { reads_later = omega arith; writes_later = omega arith; clocks_later = omega arith; rose = tt }

pub returns-in-Err-clause-cause : goal.returns-in-Err-clause-cause
returns-in-Err-clause-cause g c =
    let i = c.pieces.invariant in
    let cause = c.in-Err.ensures.cause in
    cause_as _ _ _ _ _ _ _ _ c.end_of.ensures
    (stop_cause _ _ _ _ _ _ c.place.result c.in-Err.stop (omega (arith, i.reads, c.answer_held.ensures.apart.2))
    (omega (arith, i.writes, cause.writes_later)) (omega (arith, i.clocks, cause.clocks_later))
    (stop_along c.in-Err.stop _ _ _ _ _ _ i.writes i.clocks cause.rose))

pub returns-then-room-eq0-clause-cause : goal.returns-then-room-eq0-clause-cause
returns-then-room-eq0-clause-cause g c =
    let i = c.pieces.invariant in
    let cause = c.answer_held.ensures.cause in
    record {
      reads_later = omega (arith, i.reads, c.answer_held.ensures.apart.2);
      writes_later = omega (arith, i.writes, cause.writes_later);
      clocks_later = omega (arith, i.clocks, cause.clocks_later);
      rose = tt;
    }

pub returns-in-Err-read_piece-clause-cause : goal.returns-in-Err-read_piece-clause-cause
returns-in-Err-read_piece-clause-cause g c =
    let i = c.pieces.invariant in
    let cause = c.answer_held.ensures.cause in
    cause_as _ _ _ _ _ _ _ _ c.end_at.ensures
    (pause_cause _ _ _ _ _ _ c.in-Err-read_piece.pause _ (omega (arith, i.reads, c.answer_held.ensures.apart.2, c.read_piece.ensures.later))
    (omega (arith, i.writes, cause.writes_later, c.read_piece.ensures.apart.1)) (omega (arith, i.clocks, cause.clocks_later))
    (pause_along c.in-Err-read_piece.pause _ (g.L.Link.read_faults c.answer_held.new.self.link.now) _ (omega (arith, i.reads, c.answer_held.ensures.apart.2)) c.in-Err-read_piece.ensures.rose))

pub returns-in_default-clause-pace : goal.returns-in_default-clause-pace
returns-in_default-clause-pace g c = refl

pub returns-in-Err-clause-pace : goal.returns-in-Err-clause-pace
returns-in-Err-clause-pace g c = c.answer_held.ensures.pace ∙ c.pieces.invariant.pace

pub returns-then-room-eq0-clause-pace : goal.returns-then-room-eq0-clause-pace
returns-then-room-eq0-clause-pace g c = c.answer_held.ensures.pace ∙ c.pieces.invariant.pace

pub returns-in-Err-read_piece-clause-pace : goal.returns-in-Err-read_piece-clause-pace
returns-in-Err-read_piece-clause-pace g c = c.answer_held.ensures.pace ∙ c.pieces.invariant.pace
