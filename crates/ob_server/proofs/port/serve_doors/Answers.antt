use Rattle.std.proofs.Common.{◌<◌, length, is_some, option_copied, ◌∙◌, arith}
use Rattle.ob_server.proofs.PortLemmas.{table_at, served_whole, idle_whole, doors_none, doors_served, doors_unserved, served_cause, unserved_cause}
use Rattle.ob_server.proofs.port.serve_doors.Goals as goal

pub join_workers-requires-clause-each : goal.join_workers-requires-clause-each
join_workers-requires-clause-each g c κs within = table_at _ c.args.pass.now c.open_workers.new.workers.items c.requires.of c.open_workers.ensures.opened.split.each

pub serve-workers-requires-clause-of : goal.serve-workers-requires-clause-of
serve-workers-requires-clause-of g c κs within = table_at _ c.args.pass.now c.open_workers.new.workers.items c.requires.of c.open_workers.ensures.opened.split.each

pub join_workers-requires-2-clause-each : goal.join_workers-requires-2-clause-each
join_workers-requires-2-clause-each g c κs within = λ k d less.
    let less_before : k < length c.open_workers.new.workers.items = omega (arith, less, c.serve-workers.ensures.same) in
    (c.serve-workers.ensures.ran k d less_before).pass.table
    ∙ table_at _ c.args.pass.now c.open_workers.new.workers.items c.requires.of c.open_workers.ensures.opened.split.each k d less_before

pub returns-in-Err-clause-serves : goal.returns-in-Err-clause-serves
returns-in-Err-clause-serves g c =
    doors_unserved g.D.Door.faults g.D.Door.handed g.D.Door.returned g.D.Door.visits g.C.Clock.given g.C.Clock.pace g.C.Clock.faults g.D.Door.is_closed g.M.Machine.act (option_copied c.args.service.now.ns) c.args.service.now.desk.now.opening c.args.staff.workers c.args.staff.quota (is_some c.args.staff.stays)
    c.args.pass.now c.open_workers.new.pass c.join_workers.new.pass c.open_workers.new.workers.items c.open_workers.result _ _ _ _ _ _ c.in-Err.end
    c.requires.first c.open_workers.ensures.opened (rw c.in-Err.is at c.open_workers.ensures.opened.fault) c.join_workers.ensures

pub returns-in-Err-clause-count : goal.returns-in-Err-clause-count
returns-in-Err-clause-count g c =
    (idle_whole g.D.Door.faults g.D.Door.handed g.D.Door.returned g.D.Door.visits g.C.Clock.given g.C.Clock.pace g.C.Clock.faults g.D.Door.is_closed g.M.Machine.act (option_copied c.args.service.now.ns) c.args.service.now.desk.now.opening (is_some c.args.staff.stays) (g.C.Clock.pace c.args.timed.now.clock.now)
    c.args.pass.now c.open_workers.new.pass c.join_workers.new.pass c.open_workers.new.workers.items
    c.requires.first c.open_workers.ensures.opened.split c.open_workers.ensures.opened.are_ready c.join_workers.ensures.joined).shares

pub returns-in-Err-clause-cause : goal.returns-in-Err-clause-cause
returns-in-Err-clause-cause g c =
    unserved_cause g.D.Door.faults g.D.Door.handed g.D.Door.returned g.D.Door.visits g.C.Clock.given g.C.Clock.pace g.C.Clock.faults g.D.Door.is_closed g.M.Machine.act (option_copied c.args.service.now.ns) c.args.service.now.desk.now.opening c.args.staff.workers c.args.staff.quota (is_some c.args.staff.stays)
    c.args.pass.now c.open_workers.new.pass c.join_workers.new.pass c.open_workers.new.workers.items c.open_workers.result _ _ _ _ _ _ c.in-Err.end
    c.open_workers.ensures.opened c.in-Err.is (rw c.in-Err.is at c.open_workers.ensures.opened.fault) c.join_workers.ensures

pub returns-clause-serves : goal.returns-clause-serves
returns-clause-serves g c =
    doors_served g.D.Door.faults g.D.Door.handed g.D.Door.returned g.D.Door.visits g.C.Clock.given g.C.Clock.pace g.C.Clock.faults g.D.Door.is_closed g.M.Machine.act (option_copied c.args.service.now.ns) c.args.service.now.desk.now.opening c.args.staff.workers c.args.staff.quota (is_some c.args.staff.stays)
    c.args.pass.now c.open_workers.new.pass c.join_workers-2.new.pass c.open_workers.new.workers.items c.serve-workers.result.workers.items c.open_workers.result _ _ _ _ _ _ _ _
    c.requires.first c.open_workers.ensures.opened (rw c.in_default-open_workers.is at c.open_workers.ensures.opened.all) c.serve-workers.ensures.same c.serve-workers.ensures.ran
    c.serve-workers.ensures.links c.serve-workers.ensures.end c.join_workers-2.ensures

pub returns-clause-count : goal.returns-clause-count
returns-clause-count g c =
    (served_whole g.D.Door.faults g.D.Door.handed g.D.Door.returned g.D.Door.visits g.C.Clock.given g.C.Clock.pace g.C.Clock.faults g.D.Door.is_closed g.M.Machine.act (option_copied c.args.service.now.ns) c.args.service.now.desk.now.opening (is_some c.args.staff.stays) (g.C.Clock.pace c.args.timed.now.clock.now) c.args.staff.quota
    c.args.pass.now c.open_workers.new.pass c.join_workers-2.new.pass c.open_workers.new.workers.items c.serve-workers.result.workers.items
    c.requires.first c.open_workers.ensures.opened.split c.serve-workers.ensures.same c.serve-workers.ensures.ran c.join_workers-2.ensures.joined).shares

pub returns-clause-cause : goal.returns-clause-cause
returns-clause-cause g c =
    served_cause g.D.Door.faults g.D.Door.handed g.D.Door.returned g.D.Door.visits g.C.Clock.given g.C.Clock.pace g.C.Clock.faults g.D.Door.is_closed g.M.Machine.act (option_copied c.args.service.now.ns) c.args.service.now.desk.now.opening c.args.staff.workers c.args.staff.quota (is_some c.args.staff.stays)
    c.args.pass.now c.open_workers.new.pass c.join_workers-2.new.pass c.open_workers.new.workers.items c.serve-workers.result.workers.items c.open_workers.result _ _ _ _ _ _ _
    c.open_workers.ensures.opened c.serve-workers.ensures.same c.serve-workers.ensures.ran c.serve-workers.ensures.end c.join_workers-2.ensures
