use Rattle.std.proofs.Common.{◌≢◌, ◌∙◌, ℕ, [], rules, refl, sym, ap, subst, arith, inl, inr}
use Rattle.ob_http.specs.declared.fault.FrameFault.TheVariants as faults
use Rattle.ob_http.specs.Answer.{refusal_text}
use Rattle.ob_http.specs.Requests.{Framed}
use Rattle.ob_http.specs.Stream.{Received, faulted}
use Rattle.ob_server.specs.declared.end.Break.TheVariants as breaks
use Rattle.ob_server.proofs.HeldLemmas.{sorts_some, sorts_none, next_first, next_closes, next_goes_on, next_size, next_place, next_shorter, next_refused, rose_along, break_along, write_broke}
use Rattle.ob_server.proofs.ExchangeLemmas.{went_none, went_sent, sent_whole}
use Rattle.ob_server.proofs.AnsweringLemmas.{holding_none, holding_more, held_nothing, held_asked, held_broke, held_cut, held_refused}
use Rattle.ob_server.proofs.answering.Connection.answer_held.Goals as goal

pub next-init : goal.next-init
next-init g c = record { holding = holding_none _ _ _ _ _ _; pace = refl; left = refl; took = refl; reads = refl; writes = omega arith; clocks = omega arith; same_answerer = refl; same_outside = refl; same_link = refl; same_clock = refl }

pub returns-in-Ok-None-clause-answers : goal.returns-in-Ok-None-clause-answers
returns-in-Ok-None-clause-answers g c =
    let rest = sorts_none c.next.framer c.take_next.new.framer _ c.in-Ok-None.field-0-is c.in-Ok-None.ensures in
    held_nothing _ _ _ _ _ _ _ _ _ _ c.next.invariant.holding c.take_next.new.framer tt rest.same rest.rests

pub returns-in-Err-answer_one-clause-answers : goal.returns-in-Err-answer_one-clause-answers
returns-in-Err-answer_one-clause-answers g c =
    let next = sorts_some c.next.framer c.take_next.new.framer _ c.in-Ok-Some.next c.in-Ok-Some.field-0-is c.in-Ok-Some.ensures in
    held_broke _ _ _ _ _ _ _ _ _ _ _ _ _ _ c.next.invariant.holding next.request c.in-Err-answer_one.broken
    (c.in-Err-answer_one.ensures.answers next.request next.sorts next.closes)
    (next_first c.next.framer c.take_next.new.framer c.in-Ok-Some.next next)
    (next_size c.next.framer c.take_next.new.framer c.in-Ok-Some.next next)
    (next_place c.next.framer c.take_next.new.framer c.in-Ok-Some.next next)

pub returns-then-close-clause-answers : goal.returns-then-close-clause-answers
returns-then-close-clause-answers g c =
    let next = sorts_some c.next.framer c.take_next.new.framer _ c.in-Ok-Some.next c.in-Ok-Some.field-0-is c.in-Ok-Some.ensures in
    held_asked _ _ _ _ _ _ _ _ _ _ _ _ _ _ c.next.invariant.holding next.request c.in_default.field-0
    (c.in_default.ensures.answers next.request next.sorts next.closes)
    (next_closes c.next.framer c.take_next.new.framer c.in-Ok-Some.next next c.if-close.true)
    (next_size c.next.framer c.take_next.new.framer c.in-Ok-Some.next next)
    (next_place c.next.framer c.take_next.new.framer c.in-Ok-Some.next next)

pub next-smaller : goal.next-smaller
next-smaller g c =
    next_shorter c.next.framer c.take_next.new.framer c.in-Ok-Some.next
    (sorts_some c.next.framer c.take_next.new.framer _ c.in-Ok-Some.next c.in-Ok-Some.field-0-is c.in-Ok-Some.ensures)

pub next-preserved : goal.next-preserved
next-preserved g c =
    let i = c.next.invariant in
    let next = sorts_some c.next.framer c.take_next.new.framer _ c.in-Ok-Some.next c.in-Ok-Some.field-0-is c.in-Ok-Some.ensures in
    record {
      holding = holding_more _ _ _ _ _ _ _ _ _ _ _ _ _ _ i.holding next.request c.in_default.field-0
          (c.in_default.ensures.answers next.request next.sorts next.closes)
          (next_goes_on c.next.framer c.take_next.new.framer c.in-Ok-Some.next next c.if-close.false)
          (next_size c.next.framer c.take_next.new.framer c.in-Ok-Some.next next)
          (next_place c.next.framer c.take_next.new.framer c.in-Ok-Some.next next);
      pace = c.answer_one.ensures.pace ∙ i.pace;
      left = c.answer_one.ensures.apart.0 ∙ i.left;
      took = c.answer_one.ensures.apart.1 ∙ i.took;
      reads = c.answer_one.ensures.apart.2 ∙ i.reads;
      writes = omega (arith, c.answer_one.ensures.cause.writes_later);
      clocks = omega (arith, c.answer_one.ensures.cause.clocks_later);
      same_answerer = c.answer_one.ensures.same.0 ∙ i.same_answerer;
      same_outside = c.answer_one.ensures.same.1 ∙ i.same_outside;
      same_link = c.answer_one.ensures.same.2 ∙ i.same_link;
      same_clock = c.answer_one.ensures.same.3 ∙ i.same_clock;
    }

pub returns-in-Err-Memory-clause-answers : goal.returns-in-Err-Memory-clause-answers
returns-in-Err-Memory-clause-answers g c =
    held_cut _ _ _ _ _ _ _ _ _ _ c.next.invariant.holding _ breaks.Memory c.take_next.new.framer [] (went_none _) (λ stream requests taken. inl ([], refl))
    c.in-Err-Memory.ensures.same

pub returns-in-Err-refuse-clause-answers : goal.returns-in-Err-refuse-clause-answers
returns-in-Err-refuse-clause-answers g c =
    let counts : c.in-Err.fault ≢ faults.Memory = search rules in
    let sends = c.in-Err-refuse.ensures.sends in
    held_cut _ _ _ _ _ _ _ _ _ _ c.next.invariant.holding _ c.in-Err-refuse.broken c.take_next.new.framer sends.sent
    (went_sent _ _ (g.C.Clock.given c.next.self.clock.now) c.next.invariant.holding.calls sends.sent sends.gained)
    (λ stream requests taken. inr (
      c.in-Err.fault,
      subst (λ (at : ℕ). Framed stream requests (faulted c.in-Err.fault at)) (ap (λ (r : Received). r.place) (sym c.in-Err.ensures.same))
          (next_refused c.next.framer c.take_next.new.framer c.in-Err.fault counts c.in-Err.ensures stream requests taken),
      sends.front,
    ))
    c.in-Err.ensures.same

pub returns-in-Err-clause-answers : goal.returns-in-Err-clause-answers
returns-in-Err-clause-answers g c =
    let counts : c.in-Err.fault ≢ faults.Memory = search rules in
    let sends = c.in_default-refuse.ensures.sends in
    held_refused _ _ _ _ _ _ _ _ _ _ c.next.invariant.holding _ c.in-Err.fault c.take_next.new.framer counts c.in-Err.ensures.same
    (went_sent _ _ (g.C.Clock.given c.next.self.clock.now) c.next.invariant.holding.calls (refusal_text c.in-Err.fault)
    (sent_whole _ _ c.in_default-refuse.field-0 (refusal_text c.in-Err.fault) sends))
    (next_refused c.next.framer c.take_next.new.framer c.in-Err.fault counts c.in-Err.ensures)

-- ---- the link's other side, the causes, and the clock's pace

pub returns-in-Ok-None-clause-apart : goal.returns-in-Ok-None-clause-apart
returns-in-Ok-None-clause-apart g c =
    let i = c.next.invariant in
    (i.left, i.took, i.reads)

pub returns-in-Ok-None-clause-cause : goal.returns-in-Ok-None-clause-cause
returns-in-Ok-None-clause-cause g c =
    let i = c.next.invariant in
    record { writes_later = i.writes; clocks_later = i.clocks; rose = tt }

pub returns-in-Ok-None-clause-pace : goal.returns-in-Ok-None-clause-pace
returns-in-Ok-None-clause-pace g c = c.next.invariant.pace

pub returns-in-Err-Memory-clause-apart : goal.returns-in-Err-Memory-clause-apart
returns-in-Err-Memory-clause-apart g c =
    let i = c.next.invariant in
    (i.left, i.took, i.reads)

pub returns-in-Err-Memory-clause-cause : goal.returns-in-Err-Memory-clause-cause
returns-in-Err-Memory-clause-cause g c =
    let i = c.next.invariant in
    record { writes_later = i.writes; clocks_later = i.clocks; rose = tt }

pub returns-in-Err-Memory-clause-pace : goal.returns-in-Err-Memory-clause-pace
returns-in-Err-Memory-clause-pace g c = c.next.invariant.pace

pub returns-in-Err-answer_one-clause-apart : goal.returns-in-Err-answer_one-clause-apart
returns-in-Err-answer_one-clause-apart g c =
    let i = c.next.invariant in
    let apart = c.answer_one.ensures.apart in
    (apart.0 ∙ i.left, apart.1 ∙ i.took, apart.2 ∙ i.reads)

pub returns-in-Err-answer_one-clause-cause : goal.returns-in-Err-answer_one-clause-cause
returns-in-Err-answer_one-clause-cause g c =
    let i = c.next.invariant in
    let cause = c.answer_one.ensures.cause in
    record {
      writes_later = omega (arith, i.writes, cause.writes_later);
      clocks_later = omega (arith, i.clocks, cause.clocks_later);
      rose = break_along c.in-Err-answer_one.broken _ _ _ _ _ _ i.writes i.clocks c.in-Err-answer_one.ensures.cause.rose;
    }

pub returns-in-Err-answer_one-clause-pace : goal.returns-in-Err-answer_one-clause-pace
returns-in-Err-answer_one-clause-pace g c = c.answer_one.ensures.pace ∙ c.next.invariant.pace

pub returns-then-close-clause-apart : goal.returns-then-close-clause-apart
returns-then-close-clause-apart g c =
    let i = c.next.invariant in
    let apart = c.answer_one.ensures.apart in
    (apart.0 ∙ i.left, apart.1 ∙ i.took, apart.2 ∙ i.reads)

pub returns-then-close-clause-cause : goal.returns-then-close-clause-cause
returns-then-close-clause-cause g c =
    let i = c.next.invariant in
    let cause = c.answer_one.ensures.cause in
    record {
      writes_later = omega (arith, i.writes, cause.writes_later);
      clocks_later = omega (arith, i.clocks, cause.clocks_later);
      rose = tt;
    }

pub returns-then-close-clause-pace : goal.returns-then-close-clause-pace
returns-then-close-clause-pace g c = c.answer_one.ensures.pace ∙ c.next.invariant.pace

pub returns-in-Err-refuse-clause-apart : goal.returns-in-Err-refuse-clause-apart
returns-in-Err-refuse-clause-apart g c =
    let i = c.next.invariant in
    let apart = c.refuse.ensures.apart in
    (apart.0 ∙ i.left, apart.1 ∙ i.took, apart.2 ∙ i.reads)

pub returns-in-Err-refuse-clause-cause : goal.returns-in-Err-refuse-clause-cause
returns-in-Err-refuse-clause-cause g c =
    let i = c.next.invariant in
    record {
      writes_later = omega (arith, i.writes, c.refuse.ensures.later);
      clocks_later = i.clocks;
      rose = write_broke c.in-Err-refuse.broken _ _ _ _ c.in-Err-refuse.ensures.write_fault.0
          (rose_along _ _ _ i.writes c.in-Err-refuse.ensures.write_fault.1);
    }

pub returns-in-Err-refuse-clause-pace : goal.returns-in-Err-refuse-clause-pace
returns-in-Err-refuse-clause-pace g c = c.next.invariant.pace

pub returns-in-Err-clause-apart : goal.returns-in-Err-clause-apart
returns-in-Err-clause-apart g c =
    let i = c.next.invariant in
    let apart = c.refuse.ensures.apart in
    (apart.0 ∙ i.left, apart.1 ∙ i.took, apart.2 ∙ i.reads)

pub returns-in-Err-clause-cause : goal.returns-in-Err-clause-cause
returns-in-Err-clause-cause g c =
    let i = c.next.invariant in
    record { writes_later = omega (arith, i.writes, c.refuse.ensures.later); clocks_later = i.clocks; rose = tt }

pub returns-in-Err-clause-pace : goal.returns-in-Err-clause-pace
returns-in-Err-clause-pace g c = c.next.invariant.pace
