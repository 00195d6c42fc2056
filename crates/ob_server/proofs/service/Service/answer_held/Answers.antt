use Rattle.std.proofs.Common.{◌≢◌, subst, rules, [], ℕ, refl, sym, ap, ◌∙◌, arith, inl, inr}
use Rattle.ob_http.specs.declared.fault.FrameFault.TheVariants as faults
use Rattle.ob_http.specs.Answer.{refusal_text}
use Rattle.ob_http.specs.Stream.{Received}
use Rattle.ob_http.specs.Requests.{Framed}
use Rattle.ob_http.specs.Stream.{faulted}
use Rattle.ob_turn.specs.Standing.{mine}
use Rattle.ob_server.specs.declared.end.Break.TheVariants as breaks
use Rattle.ob_server.proofs.HeldLemmas.{answering_none, one_more, nothing_held, asked_end, broke_between, broke_at, refused_next, sorts_some, sorts_none, next_first, next_closes, next_goes_on, next_size, next_place, next_shorter, next_refused, rose_along, break_along, write_broke}
use Rattle.ob_server.proofs.ExchangeLemmas.{went_none, went_sent, sent_whole, continues_none, continues_then}
use Rattle.ob_server.proofs.service.Service.answer_held.Goals as goal

pub loop-next-init : goal.loop-next-init
loop-next-init g c = record { answering = answering_none _ _ _; pass = continues_none _ _ _; pace = refl; left = refl; took = refl; reads = refl; writes = omega arith; clocks = omega arith; same_pass = refl; same_link = refl; same_clock = refl }

pub returns-in-Ok-None-clause-answers : goal.returns-in-Ok-None-clause-answers
returns-in-Ok-None-clause-answers g c =
    let rest = sorts_none c.loop-next.framer c.take_next.new.framer _ c.in-Ok-None.field-0-is c.in-Ok-None.ensures in
    nothing_held _ _ _ _ _ c.loop-next.invariant.answering c.take_next.new.framer tt rest.same rest.rests

pub returns-in-Err-answer_one-clause-answers : goal.returns-in-Err-answer_one-clause-answers
returns-in-Err-answer_one-clause-answers g c =
    let next = sorts_some c.loop-next.framer c.take_next.new.framer _ c.in-Ok-Some.next c.in-Ok-Some.field-0-is c.in-Ok-Some.ensures in
    broke_at _ _ _ _ _ c.loop-next.invariant.answering next.request c.in-Err-answer_one.broken c.take_next.new.framer _
    (c.in-Err-answer_one.ensures.answers next.request next.sorts next.closes)
    (next_first c.loop-next.framer c.take_next.new.framer c.in-Ok-Some.next next)
    (next_size c.loop-next.framer c.take_next.new.framer c.in-Ok-Some.next next)
    (next_place c.loop-next.framer c.take_next.new.framer c.in-Ok-Some.next next)

pub returns-then-close-clause-answers : goal.returns-then-close-clause-answers
returns-then-close-clause-answers g c =
    let next = sorts_some c.loop-next.framer c.take_next.new.framer _ c.in-Ok-Some.next c.in-Ok-Some.field-0-is c.in-Ok-Some.ensures in
    asked_end _ _ _ _ _ c.loop-next.invariant.answering next.request c.take_next.new.framer _ c.in_default.field-0
    (c.in_default.ensures.answers next.request next.sorts next.closes)
    (next_closes c.loop-next.framer c.take_next.new.framer c.in-Ok-Some.next next c.if-close.true)
    (next_size c.loop-next.framer c.take_next.new.framer c.in-Ok-Some.next next)
    (next_place c.loop-next.framer c.take_next.new.framer c.in-Ok-Some.next next)

pub loop-next-smaller : goal.loop-next-smaller
loop-next-smaller g c =
    next_shorter c.loop-next.framer c.take_next.new.framer c.in-Ok-Some.next
    (sorts_some c.loop-next.framer c.take_next.new.framer _ c.in-Ok-Some.next c.in-Ok-Some.field-0-is c.in-Ok-Some.ensures)

pub loop-next-preserved : goal.loop-next-preserved
loop-next-preserved g c =
    let i = c.loop-next.invariant in
    let next = sorts_some c.loop-next.framer c.take_next.new.framer _ c.in-Ok-Some.next c.in-Ok-Some.field-0-is c.in-Ok-Some.ensures in
    record {
      answering = one_more _ _ _ _ _ i.answering next.request c.take_next.new.framer _ c.in_default.field-0
          (c.in_default.ensures.answers next.request next.sorts next.closes)
          (next_goes_on c.loop-next.framer c.take_next.new.framer c.in-Ok-Some.next next c.if-close.false)
          (next_size c.loop-next.framer c.take_next.new.framer c.in-Ok-Some.next next)
          (next_place c.loop-next.framer c.take_next.new.framer c.in-Ok-Some.next next);
      pass = continues_then _ _ _ _ _ i.pass c.answer_one.ensures.pass;
      pace = c.answer_one.ensures.pace ∙ i.pace;
      left = c.answer_one.ensures.apart.0 ∙ i.left;
      took = c.answer_one.ensures.apart.1 ∙ i.took;
      reads = c.answer_one.ensures.apart.2 ∙ i.reads;
      writes = omega (arith, c.answer_one.ensures.cause.writes_later);
      clocks = omega (arith, c.answer_one.ensures.cause.clocks_later);
      same_pass = c.answer_one.ensures.same.0 ∙ i.same_pass;
      same_link = c.answer_one.ensures.same.1 ∙ i.same_link;
      same_clock = c.answer_one.ensures.same.2 ∙ i.same_clock;
    }

pub returns-in-Err-Memory-clause-answers : goal.returns-in-Err-Memory-clause-answers
returns-in-Err-Memory-clause-answers g c =
    broke_between _ _ _ _ _ c.loop-next.invariant.answering breaks.Memory c.take_next.new.framer _ [] (went_none _) (λ stream requests taken. inl ([], refl))
    c.in-Err-Memory.ensures.same

pub returns-in-Err-refuse-clause-answers : goal.returns-in-Err-refuse-clause-answers
returns-in-Err-refuse-clause-answers g c =
    let counts : c.in-Err.fault ≢ faults.Memory = search rules in
    let sends = c.in-Err-refuse.ensures.sends in
    broke_between _ _ _ _ _ c.loop-next.invariant.answering c.in-Err-refuse.broken c.take_next.new.framer _ sends.sent
    (went_sent _ _ (g.C.Clock.given c.loop-next.connection.clock.now) (mine c.loop-next.connection.pass.now) sends.sent sends.gained)
    (λ stream requests taken. inr (
      c.in-Err.fault,
      subst (λ (at : ℕ). Framed stream requests (faulted c.in-Err.fault at)) (ap (λ (r : Received). r.place) (sym c.in-Err.ensures.same))
          (next_refused c.loop-next.framer c.take_next.new.framer c.in-Err.fault counts c.in-Err.ensures stream requests taken),
      sends.front,
    ))
    c.in-Err.ensures.same

pub returns-in-Err-clause-answers : goal.returns-in-Err-clause-answers
returns-in-Err-clause-answers g c =
    let counts : c.in-Err.fault ≢ faults.Memory = search rules in
    let sends = c.in_default-refuse.ensures.sends in
    refused_next _ _ _ _ _ c.loop-next.invariant.answering c.in-Err.fault c.take_next.new.framer _ counts c.in-Err.ensures.same
    (went_sent _ _ (g.C.Clock.given c.loop-next.connection.clock.now) (mine c.loop-next.connection.pass.now) (refusal_text c.in-Err.fault)
    (sent_whole _ _ c.in_default-refuse.field-0 (refusal_text c.in-Err.fault) sends))
    (next_refused c.loop-next.framer c.take_next.new.framer c.in-Err.fault counts c.in-Err.ensures)

-- ---- the pass, the link's other side, and the causes

pub returns-in-Ok-None-clause-pass : goal.returns-in-Ok-None-clause-pass
returns-in-Ok-None-clause-pass g c =
    c.loop-next.invariant.pass

pub returns-in-Ok-None-clause-apart : goal.returns-in-Ok-None-clause-apart
returns-in-Ok-None-clause-apart g c =
    let i = c.loop-next.invariant in
    (i.left, i.took, i.reads)

pub returns-in-Ok-None-clause-cause : goal.returns-in-Ok-None-clause-cause
returns-in-Ok-None-clause-cause g c =
    let i = c.loop-next.invariant in
    record { writes_later = i.writes; clocks_later = i.clocks; rose = tt }

pub returns-in-Err-Memory-clause-pass : goal.returns-in-Err-Memory-clause-pass
returns-in-Err-Memory-clause-pass g c =
    c.loop-next.invariant.pass

pub returns-in-Err-Memory-clause-apart : goal.returns-in-Err-Memory-clause-apart
returns-in-Err-Memory-clause-apart g c =
    let i = c.loop-next.invariant in
    (i.left, i.took, i.reads)

pub returns-in-Err-Memory-clause-cause : goal.returns-in-Err-Memory-clause-cause
returns-in-Err-Memory-clause-cause g c =
    let i = c.loop-next.invariant in
    record { writes_later = i.writes; clocks_later = i.clocks; rose = tt }

pub returns-in-Err-answer_one-clause-pass : goal.returns-in-Err-answer_one-clause-pass
returns-in-Err-answer_one-clause-pass g c =
    continues_then _ _ _ _ _ c.loop-next.invariant.pass c.answer_one.ensures.pass

pub returns-in-Err-answer_one-clause-apart : goal.returns-in-Err-answer_one-clause-apart
returns-in-Err-answer_one-clause-apart g c =
    let i = c.loop-next.invariant in
    let apart = c.answer_one.ensures.apart in
    (apart.0 ∙ i.left, apart.1 ∙ i.took, apart.2 ∙ i.reads)

pub returns-in-Err-answer_one-clause-cause : goal.returns-in-Err-answer_one-clause-cause
returns-in-Err-answer_one-clause-cause g c =
    let i = c.loop-next.invariant in
    let cause = c.answer_one.ensures.cause in
    record {
      writes_later = omega (arith, i.writes, cause.writes_later);
      clocks_later = omega (arith, i.clocks, cause.clocks_later);
      rose = break_along c.in-Err-answer_one.broken _ _ _ _ _ _ i.writes i.clocks c.in-Err-answer_one.ensures.cause.rose;
    }

pub returns-then-close-clause-pass : goal.returns-then-close-clause-pass
returns-then-close-clause-pass g c =
    continues_then _ _ _ _ _ c.loop-next.invariant.pass c.answer_one.ensures.pass

pub returns-then-close-clause-apart : goal.returns-then-close-clause-apart
returns-then-close-clause-apart g c =
    let i = c.loop-next.invariant in
    let apart = c.answer_one.ensures.apart in
    (apart.0 ∙ i.left, apart.1 ∙ i.took, apart.2 ∙ i.reads)

pub returns-then-close-clause-cause : goal.returns-then-close-clause-cause
returns-then-close-clause-cause g c =
    let i = c.loop-next.invariant in
    let cause = c.answer_one.ensures.cause in
    record {
      writes_later = omega (arith, i.writes, cause.writes_later);
      clocks_later = omega (arith, i.clocks, cause.clocks_later);
      rose = tt;
    }

pub returns-in-Err-refuse-clause-pass : goal.returns-in-Err-refuse-clause-pass
returns-in-Err-refuse-clause-pass g c =
    c.loop-next.invariant.pass

pub returns-in-Err-refuse-clause-apart : goal.returns-in-Err-refuse-clause-apart
returns-in-Err-refuse-clause-apart g c =
    let i = c.loop-next.invariant in
    let apart = c.refuse.ensures.apart in
    (apart.0 ∙ i.left, apart.1 ∙ i.took, apart.2 ∙ i.reads)

pub returns-in-Err-refuse-clause-cause : goal.returns-in-Err-refuse-clause-cause
returns-in-Err-refuse-clause-cause g c =
    let i = c.loop-next.invariant in
    record {
      writes_later = omega (arith, i.writes, c.refuse.ensures.later);
      clocks_later = i.clocks;
      rose = write_broke c.in-Err-refuse.broken _ _ _ _ c.in-Err-refuse.ensures.write_fault.0
          (rose_along _ _ _ i.writes c.in-Err-refuse.ensures.write_fault.1);
    }

pub returns-in-Err-clause-pass : goal.returns-in-Err-clause-pass
returns-in-Err-clause-pass g c =
    c.loop-next.invariant.pass

pub returns-in-Err-clause-apart : goal.returns-in-Err-clause-apart
returns-in-Err-clause-apart g c =
    let i = c.loop-next.invariant in
    let apart = c.refuse.ensures.apart in
    (apart.0 ∙ i.left, apart.1 ∙ i.took, apart.2 ∙ i.reads)

pub returns-in-Err-clause-cause : goal.returns-in-Err-clause-cause
returns-in-Err-clause-cause g c =
    let i = c.loop-next.invariant in
    record {
      writes_later = omega (arith, i.writes, c.refuse.ensures.later);
      clocks_later = i.clocks;
      rose = tt;
    }

-- ---- the clock's pace

pub returns-in-Ok-None-clause-pace : goal.returns-in-Ok-None-clause-pace
returns-in-Ok-None-clause-pace g c = c.loop-next.invariant.pace

pub returns-in-Err-Memory-clause-pace : goal.returns-in-Err-Memory-clause-pace
returns-in-Err-Memory-clause-pace g c = c.loop-next.invariant.pace

pub returns-in-Err-answer_one-clause-pace : goal.returns-in-Err-answer_one-clause-pace
returns-in-Err-answer_one-clause-pace g c = c.answer_one.ensures.pace ∙ c.loop-next.invariant.pace

pub returns-then-close-clause-pace : goal.returns-then-close-clause-pace
returns-then-close-clause-pace g c = c.answer_one.ensures.pace ∙ c.loop-next.invariant.pace

pub returns-in-Err-refuse-clause-pace : goal.returns-in-Err-refuse-clause-pace
returns-in-Err-refuse-clause-pace g c = c.loop-next.invariant.pace

pub returns-in-Err-clause-pace : goal.returns-in-Err-clause-pace
returns-in-Err-clause-pace g c = c.loop-next.invariant.pace
