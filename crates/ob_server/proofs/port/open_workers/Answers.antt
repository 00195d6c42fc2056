use Rattle.std.proofs.Common.{◌≡◌, List, ℕ, refl, inl, ap, sym, subst, ◌∙◌, arith, length, map}
use Rattle.ob_server.specs.Port.{AreReady}
use Rattle.ob_server.specs.Together.{AreSplit}
use Rattle.ob_server.specs.Working.{Counts}
use Rattle.ob_server.proofs.HeldLemmas.{rose_along}
use Rattle.ob_server.proofs.PortLemmas.{ready_snoc, opened_more, length_grown, spare_back, counts_at}
use Rattle.ob_server.proofs.TogetherLemmas.{split_none}
use Rattle.ob_server.proofs.WorkLemmas.{counts_then, counts_one}
use Rattle.ob_server.proofs.port.open_workers.Goals as goal

pub loop-init : goal.loop-init
loop-init g c =
    let none = sym c.requires.none in
    record {
      ready = subst (λ (ws : List _). AreReady g.P.D.Door.faults g.P.D.Door.handed g.P.D.Door.returned g.P.D.Door.visits g.C.Clock.given g.C.Clock.pace g.C.Clock.faults (g.C.Clock.pace c.args.timed.now.clock.now) ws) none tt;
      split = subst (λ (ws : List _). AreSplit c.args.pass.now c.args.pass.now (map (λ w. w.pass) ws)) none (split_none _);
      left = omega arith;
      room = c.requires.room;
      count = ap (λ (ws : List _). length ws) c.requires.none;
      opened = subst (λ (ws : List _). Counts (g.P.Port.opened c.args.timed.now.port.now) (length ws) (g.P.Port.opened c.args.timed.now.port.now)) none (inl (omega arith));
      returned = refl;
      doors = refl;
      listens = refl;
      given = refl;
      pace = refl;
      twins = refl;
      door_faults = omega arith;
      clock_faults = omega arith;
      same_port = refl;
      same_clock = refl;
    }

pub split-requires-clause-of : goal.split-requires-clause-of
split-requires-clause-of g c = ap (λ z. z.table) c.loop.invariant.split.same ∙ c.requires.of

pub split-requires-clause-left : goal.split-requires-clause-left
split-requires-clause-left g c = omega (arith, c.loop.invariant.left, c.requires.left, c.loop-test.true)

pub loop-preserved : goal.loop-preserved
loop-preserved g c =
    let i = c.loop.invariant in
    let items = c.push_reserved.ensures.items in
    let e = c.in-Ok-door.ensures in
    let t = c.in-Ok.ensures in
    record {
      ready = subst (λ (ws : List _). AreReady g.P.D.Door.faults g.P.D.Door.handed g.P.D.Door.returned g.P.D.Door.visits g.C.Clock.given g.C.Clock.pace g.C.Clock.faults (g.C.Clock.pace c.args.timed.now.clock.now) ws) (sym items)
          (ready_snoc _ _ _ _ _ _ _ _ _ _ i.ready (record { uncalled = c.split.ensures.calls.1; door = e.unused; clock = t.fresh; pace_is = t.same ∙ i.pace; links = refl; end = refl }));
      split = subst (λ (ws : List _). AreSplit c.args.pass.now c.split.new.self (map (λ w. w.pass) ws)) (sym items)
          (opened_more _ _ _ c.loop.workers.items _ _ i.split c.split.ensures.kept c.split.ensures.given c.split.ensures.calls.0 c.split.ensures.counts.1);
      left = omega (arith, i.left, c.split.ensures.counts.0);
      room = c.push_reserved.ensures.capacity ∙ i.room;
      count = omega (arith, i.count, length_grown _ _ _ items);
      opened = subst (λ (n : ℕ). Counts (g.P.Port.opened c.args.timed.now.port.now) n (g.P.Port.opened c.door.new.self)) (sym (length_grown _ _ _ items)) (counts_then _ _ _ _ 1 i.opened (counts_one _ _ e.opened));
      returned = e.apart.0 ∙ i.returned;
      doors = e.apart.2 ∙ i.doors;
      listens = e.apart.1 ∙ i.listens;
      given = t.apart.0 ∙ i.given;
      pace = t.pace ∙ i.pace;
      twins = t.apart.1 ∙ i.twins;
      door_faults = omega (arith, i.door_faults, e.cause.later);
      clock_faults = omega (arith, i.clock_faults, t.cause.later);
      same_port = i.same_port;
      same_clock = i.same_clock;
    }

pub returns-in_default-clause-opened : goal.returns-in_default-clause-opened
returns-in_default-clause-opened g c =
    let i = c.loop.invariant in
    let t = c.in_default.ensures in
    record {
      are_ready = i.ready;
      split = i.split;
      all = tt;
      opened = i.opened;
      port_same = (i.returned, i.listens, i.doors);
      spare = inl (t.apart.1 ∙ i.twins);
      clock_same = (t.apart.0 ∙ i.given, t.pace ∙ i.pace);
      door_faults = i.door_faults;
      clock_faults = omega (arith, i.clock_faults, t.cause.later);
      fault = refl;
      door_fault = λ is. absurd (cc);
      clock_fault = λ is. rose_along _ _ _ i.clock_faults t.cause.failed;
    }

pub returns-in_default-door-clause-opened : goal.returns-in_default-door-clause-opened
returns-in_default-door-clause-opened g c =
    let i = c.loop.invariant in
    let t = c.in-Ok.ensures in
    let e = c.in_default-door.ensures in
    let b = c.back.ensures in
    record {
      are_ready = i.ready;
      split = i.split;
      all = tt;
      opened = counts_at _ _ _ _ _ refl e.opened i.opened;
      port_same = (e.apart.0 ∙ i.returned, e.apart.1 ∙ i.listens, e.apart.2 ∙ i.doors);
      spare = spare_back _ _ _ _ _ t.fresh (t.apart.1 ∙ i.twins) b.twin;
      clock_same = (b.apart ∙ (t.apart.0 ∙ i.given), b.pace ∙ (t.pace ∙ i.pace));
      door_faults = omega (arith, i.door_faults, e.cause.later);
      clock_faults = omega (arith, i.clock_faults, t.cause.later, b.later);
      fault = refl;
      door_fault = λ is. rose_along _ _ _ i.door_faults e.cause.failed;
      clock_fault = λ is. absurd (cc);
    }

pub returns-clause-opened : goal.returns-clause-opened
returns-clause-opened g c =
    let i = c.loop.invariant in
    let all : length c.loop.workers.items ≡ c.args.count = i.count ∙ omega (arith, c.loop-test.false, c.loop.auto.counter-end) in
    record {
      are_ready = i.ready;
      split = i.split;
      all = (all, i.twins);
      opened = i.opened;
      port_same = (i.returned, i.listens, i.doors);
      spare = inl i.twins;
      clock_same = (i.given, i.pace);
      door_faults = i.door_faults;
      clock_faults = i.clock_faults;
      fault = tt;
      door_fault = λ is. absurd (cc);
      clock_fault = λ is. absurd (cc);
    }
