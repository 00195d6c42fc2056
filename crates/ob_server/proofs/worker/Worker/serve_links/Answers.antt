use Rattle.std.proofs.Common.{◌∙◌, refl, arith}
use Rattle.ob_server.specs.declared.worker.WorkerEnd.TheVariants as workers
use Rattle.ob_server.proofs.ExchangeLemmas.{continues_none, continues_then}
use Rattle.ob_server.proofs.WorkLemmas.{working_none, works_on, work_stopped, work_ended, work_had, stop_comes, stopped_by, goes_by_end}
use Rattle.ob_server.proofs.worker.Worker.serve_links.Goals as goal

pub loop-links-init : goal.loop-links-init
loop-links-init g c = record { working = working_none _ _ _; pass = continues_none _ _ _; pace = refl; doors = omega arith; clocks = omega arith }

pub returns-in-Some-clause-worked : goal.returns-in-Some-clause-worked
returns-in-Some-clause-worked g c =
    let one = c.in-Link.ensures.did in
    work_stopped _ _ _ _ _ _ c.loop-links.invariant.working one.0 c.in-Some.stop one.1 one.3
    (stopped_by _ one.0.end c.in-Link.end c.stops_with.result c.in-Some.stop one.2 c.in-Some.is c.stops_with.ensures)

pub returns-in-Some-clause-comes : goal.returns-in-Some-clause-comes
returns-in-Some-clause-comes g c =
    stop_comes c.in-Link.end c.in-Some.stop _ _ _ _ _ _ _ _ _ (stopped_by _ _ _ c.stops_with.result c.in-Some.stop refl c.in-Some.is c.stops_with.ensures) c.loop-links.invariant.clocks c.in-Link.ensures.comes

pub loop-links-preserved : goal.loop-links-preserved
loop-links-preserved g c =
    let i = c.loop-links.invariant in
    let one = c.in-Link.ensures.did in
    record {
      working = works_on _ _ _ _ _ _ i.working one.0 one.1 one.3
          (goes_by_end _ one.0.end c.in-Link.end c.stops_with.result one.2 c.in_default.is c.stops_with.ensures);
      pass = continues_then _ _ _ _ _ i.pass c.serve_next.ensures.pass;
      pace = c.serve_next.ensures.pace ∙ i.pace;
      doors = omega (arith, i.doors, c.serve_next.ensures.doors_later);
      clocks = omega (arith, i.clocks, c.serve_next.ensures.clocks_later);
    }

pub returns-in-Closed-clause-worked : goal.returns-in-Closed-clause-worked
returns-in-Closed-clause-worked g c = work_ended _ _ _ _ _ _ c.loop-links.invariant.working workers.Closed c.in-Closed.ensures.did refl

pub returns-in-Fault-clause-worked : goal.returns-in-Fault-clause-worked
returns-in-Fault-clause-worked g c = work_ended _ _ _ _ _ _ c.loop-links.invariant.working workers.DoorFault c.in-Fault.ensures.did refl

pub returns-clause-worked : goal.returns-clause-worked
returns-clause-worked g c =
    work_had _ _ _ _ _ _ (omega (arith, c.loop-links-test.false, c.loop-links.auto.links-end)) c.loop-links.invariant.working

pub returns-in-Some-clause-pass : goal.returns-in-Some-clause-pass
returns-in-Some-clause-pass g c = continues_then _ _ _ _ _ c.loop-links.invariant.pass c.serve_next.ensures.pass

pub returns-in-Closed-clause-pass : goal.returns-in-Closed-clause-pass
returns-in-Closed-clause-pass g c = continues_then _ _ _ _ _ c.loop-links.invariant.pass c.serve_next.ensures.pass

pub returns-in-Fault-clause-pass : goal.returns-in-Fault-clause-pass
returns-in-Fault-clause-pass g c = continues_then _ _ _ _ _ c.loop-links.invariant.pass c.serve_next.ensures.pass
