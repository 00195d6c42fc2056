use Rattle.std.proofs.Common.{◌≢◌, rules, refl, ◌∙◌, arith}
use Rattle.ob_http.specs.declared.fault.FrameFault.TheVariants as faults
use Rattle.ob_server.proofs.HeldLemmas.{sorts_some, sorts_none, next_first, next_closes, next_goes_on, next_size, next_place, next_shorter, next_refused, break_along}
use Rattle.ob_record.proofs.LinkLaws.{holding_none, holding_more, held_nothing, held_asked, held_broke, held_memory, held_refused}
use Rattle.ob_record.proofs.link.record_held.Goals as goal

pub next-init : goal.next-init
next-init g c = record { holding = holding_none _ _ _ _ _; pace = refl; left = refl; took = refl; reads = refl; writes = omega arith; clocks = omega arith }

pub returns-in-Ok-None-clause-records : goal.returns-in-Ok-None-clause-records
returns-in-Ok-None-clause-records g c =
    let rest = sorts_none c.next.framer c.take_next.new.framer _ c.in-Ok-None.field-0-is c.in-Ok-None.ensures in
    held_nothing _ _ _ _ _ _ _ _ _ c.next.invariant.holding c.take_next.new.framer tt rest.same rest.rests

pub returns-in-Err-record_one-clause-records : goal.returns-in-Err-record_one-clause-records
returns-in-Err-record_one-clause-records g c =
    let next = sorts_some c.next.framer c.take_next.new.framer _ c.in-Ok-Some.next c.in-Ok-Some.field-0-is c.in-Ok-Some.ensures in
    held_broke _ _ _ _ _ _ _ _ _ _ _ _ _ c.next.invariant.holding next.request c.in-Err-record_one.broken
    (c.in-Err-record_one.ensures.records next.request next.sorts next.closes next.short)
    (next_first c.next.framer c.take_next.new.framer c.in-Ok-Some.next next)
    (next_size c.next.framer c.take_next.new.framer c.in-Ok-Some.next next)
    (next_place c.next.framer c.take_next.new.framer c.in-Ok-Some.next next)

pub returns-then-close-clause-records : goal.returns-then-close-clause-records
returns-then-close-clause-records g c =
    let next = sorts_some c.next.framer c.take_next.new.framer _ c.in-Ok-Some.next c.in-Ok-Some.field-0-is c.in-Ok-Some.ensures in
    held_asked _ _ _ _ _ _ _ _ _ _ _ _ _ c.next.invariant.holding next.request c.in_default.field-0
    (c.in_default.ensures.records next.request next.sorts next.closes next.short)
    (next_closes c.next.framer c.take_next.new.framer c.in-Ok-Some.next next c.if-close.true)
    (next_size c.next.framer c.take_next.new.framer c.in-Ok-Some.next next)
    (next_place c.next.framer c.take_next.new.framer c.in-Ok-Some.next next)

pub next-smaller : goal.next-smaller
next-smaller g c =
    next_shorter c.next.framer c.take_next.new.framer c.in-Ok-Some.next
    (sorts_some c.next.framer c.take_next.new.framer _ c.in-Ok-Some.next c.in-Ok-Some.field-0-is c.in-Ok-Some.ensures)

pub next-preserved : goal.next-preserved
next-preserved g c =
    let i = c.next.invariant in
    let next = sorts_some c.next.framer c.take_next.new.framer _ c.in-Ok-Some.next c.in-Ok-Some.field-0-is c.in-Ok-Some.ensures in
    record {
      holding = holding_more _ _ _ _ _ _ _ _ _ _ _ _ _ i.holding next.request c.in_default.field-0
          (c.in_default.ensures.records next.request next.sorts next.closes next.short)
          (next_goes_on c.next.framer c.take_next.new.framer c.in-Ok-Some.next next c.if-close.false)
          (next_size c.next.framer c.take_next.new.framer c.in-Ok-Some.next next)
          (next_place c.next.framer c.take_next.new.framer c.in-Ok-Some.next next);
      pace = c.record_one.ensures.pace ∙ i.pace;
      left = c.record_one.ensures.apart.0 ∙ i.left;
      took = c.record_one.ensures.apart.1 ∙ i.took;
      reads = c.record_one.ensures.apart.2 ∙ i.reads;
      writes = omega (arith, c.record_one.ensures.cause.writes_later);
      clocks = omega (arith, c.record_one.ensures.cause.clocks_later);
    }

pub returns-in-Err-Memory-clause-records : goal.returns-in-Err-Memory-clause-records
returns-in-Err-Memory-clause-records g c = held_memory _ _ _ _ _ _ _ _ _ c.next.invariant.holding c.take_next.new.framer c.in-Err-Memory.ensures.same

pub returns-in-Err-clause-records : goal.returns-in-Err-clause-records
returns-in-Err-clause-records g c =
    let counts : c.in-Err.fault ≢ faults.Memory = search rules in
    held_refused _ _ _ _ _ _ _ _ _ c.next.invariant.holding c.in-Err.fault c.take_next.new.framer counts c.in-Err.ensures.same
    (next_refused c.next.framer c.take_next.new.framer c.in-Err.fault counts c.in-Err.ensures)

-- ---- the link's other side, the causes, and the clock's pace

pub returns-in-Ok-None-clause-apart : goal.returns-in-Ok-None-clause-apart
returns-in-Ok-None-clause-apart g c =
    let i = c.next.invariant in
    (i.left, i.took, i.reads)

pub returns-in-Ok-None-clause-cause : goal.returns-in-Ok-None-clause-cause
returns-in-Ok-None-clause-cause g c =
    let i = c.next.invariant in
    record { writes_later = i.writes; clocks_later = i.clocks; rose = tt }

pub returns-in-Ok-None-clause-pace : goal.returns-in-Ok-None-clause-pace
returns-in-Ok-None-clause-pace g c = c.next.invariant.pace

pub returns-in-Err-Memory-clause-apart : goal.returns-in-Err-Memory-clause-apart
returns-in-Err-Memory-clause-apart g c =
    let i = c.next.invariant in
    (i.left, i.took, i.reads)

pub returns-in-Err-Memory-clause-cause : goal.returns-in-Err-Memory-clause-cause
returns-in-Err-Memory-clause-cause g c =
    let i = c.next.invariant in
    record { writes_later = i.writes; clocks_later = i.clocks; rose = tt }

pub returns-in-Err-Memory-clause-pace : goal.returns-in-Err-Memory-clause-pace
returns-in-Err-Memory-clause-pace g c = c.next.invariant.pace

pub returns-in-Err-record_one-clause-apart : goal.returns-in-Err-record_one-clause-apart
returns-in-Err-record_one-clause-apart g c =
    let i = c.next.invariant in
    let apart = c.record_one.ensures.apart in
    (apart.0 ∙ i.left, apart.1 ∙ i.took, apart.2 ∙ i.reads)

pub returns-in-Err-record_one-clause-cause : goal.returns-in-Err-record_one-clause-cause
returns-in-Err-record_one-clause-cause g c =
    let i = c.next.invariant in
    let cause = c.record_one.ensures.cause in
    record {
      writes_later = omega (arith, i.writes, cause.writes_later);
      clocks_later = omega (arith, i.clocks, cause.clocks_later);
      rose = break_along c.in-Err-record_one.broken _ _ _ _ _ _ i.writes i.clocks c.in-Err-record_one.ensures.cause.rose;
    }

pub returns-in-Err-record_one-clause-pace : goal.returns-in-Err-record_one-clause-pace
returns-in-Err-record_one-clause-pace g c = c.record_one.ensures.pace ∙ c.next.invariant.pace

pub returns-then-close-clause-apart : goal.returns-then-close-clause-apart
returns-then-close-clause-apart g c =
    let i = c.next.invariant in
    let apart = c.record_one.ensures.apart in
    (apart.0 ∙ i.left, apart.1 ∙ i.took, apart.2 ∙ i.reads)

pub returns-then-close-clause-cause : goal.returns-then-close-clause-cause
returns-then-close-clause-cause g c =
    let i = c.next.invariant in
    let cause = c.record_one.ensures.cause in
    record {
      writes_later = omega (arith, i.writes, cause.writes_later);
      clocks_later = omega (arith, i.clocks, cause.clocks_later);
      rose = tt;
    }

pub returns-then-close-clause-pace : goal.returns-then-close-clause-pace
returns-then-close-clause-pace g c = c.record_one.ensures.pace ∙ c.next.invariant.pace

pub returns-in-Err-clause-apart : goal.returns-in-Err-clause-apart
returns-in-Err-clause-apart g c =
    let i = c.next.invariant in
    (i.left, i.took, i.reads)

pub returns-in-Err-clause-cause : goal.returns-in-Err-clause-cause
returns-in-Err-clause-cause g c =
    let i = c.next.invariant in
    record { writes_later = i.writes; clocks_later = i.clocks; rose = tt }

pub returns-in-Err-clause-pace : goal.returns-in-Err-clause-pace
returns-in-Err-clause-pace g c = c.next.invariant.pace
