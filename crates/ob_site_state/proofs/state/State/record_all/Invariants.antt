use Rattle.std.proofs.Common.{◌≡◌, take}
use Rattle.ob_times.specs.Times.{moment_instant}
use Rattle.ob_site_rules.specs.State.{State}
use Rattle.ob_site_rules.specs.Writes.{with_record}
use Rattle.ob_site_state.specs.Roles.{recorders_of}
use Rattle.ob_site_state.specs.Kept.{Kept}
use Rattle.ob_site_state.proofs.Recording.{with_logs}
use Rattle.ob_site_state.proofs.state.State.record_all.Given as goal

abbrev pub invariant-loop-next : goal.invariant-loop-next
invariant-loop-next l =
    let old : Kept = l.fn.self in
    let now : State = record old.now { logs = with_logs (with_record (record { time = moment_instant old.time; kind = l.kind; slot = l.slot })) (take l.next (recorders_of old.plan l.source)) old.now.logs } in
    l.self ≡ record old { now = now }
