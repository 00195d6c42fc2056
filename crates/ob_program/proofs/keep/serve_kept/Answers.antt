use Rattle.std.proofs.Common.{true, List, option_copied, sym, ◌∙◌}
use Rattle.ob_kept.specs.Fronts.{KeepsLaws}
use Rattle.ob_kept.specs.Keeping.{kept_act}
use Rattle.ob_server.specs.Exchange.{Call}
use Rattle.ob_program.proofs.ServingLemmas.{unlistened, unannounced, served_there, on_err}
use Rattle.ob_program.proofs.keep.serve_kept.Goals as goal

pub returns-then-is_err-clause-at : goal.returns-then-is_err-clause-at
returns-then-is_err-clause-at g c =
    let l = c.listen.ensures in
    unlistened g.P.D.Door.faults g.P.D.Door.handed g.P.D.Door.returned g.P.D.Door.visits g.P.D.Door.is_closed g.C.Clock.given g.C.Clock.pace g.C.Clock.faults
    kept_act c.args.kept (λ (history : List Call). KeepsLaws c.args.kept history c.args.kept) true (option_copied c.args.ns) c.args.service.host.now c.args.service.port c.args.service.workers c.args.service.quota
    _ _ _ _ _ (record { failed = _; listens = l.listens; apart = l.apart; later = l.cause.later })
    (on_err c.listen.result _ (sym c.is_err.ensures.value ∙ c.if-is_err.true) l.cause.failed)

pub returns-in-Some-clause-at : goal.returns-in-Some-clause-at
returns-in-Some-clause-at g c =
    let l = c.listen.ensures in
    unannounced g.P.D.Door.faults g.P.D.Door.handed g.P.D.Door.returned g.P.D.Door.visits g.P.D.Door.is_closed g.C.Clock.given g.C.Clock.pace g.C.Clock.faults
    kept_act c.args.kept (λ (history : List Call). KeepsLaws c.args.kept history c.args.kept) true (option_copied c.args.ns) c.args.service.host.now c.args.service.port c.args.service.workers c.args.service.quota
    _ _ _ _ _ _ _ c.in-Some.end (record { failed = _; listens = l.listens; apart = l.apart; later = l.cause.later }) (sym c.is_err.ensures.value ∙ c.if-is_err.false)
    c.in-Some.ensures.prints c.in-Some.ensures.rose c.announce.ensures.later

pub returns-clause-at : goal.returns-clause-at
returns-clause-at g c =
    let l = c.listen.ensures in
    let a = c.announce.ensures in
    let s = c.serve_port-served.ensures in
    let r = c.report.ensures in
    served_there g.P.D.Door.faults g.P.D.Door.handed g.P.D.Door.returned g.P.D.Door.visits g.P.D.Door.is_closed g.C.Clock.given g.C.Clock.pace g.C.Clock.faults
    kept_act c.args.kept (λ (history : List Call). KeepsLaws c.args.kept history c.serve_port-served.result.machine) true (option_copied c.args.ns) c.args.service.host.now c.args.service.port
    c.args.service.workers c.args.service.quota
    _ _ _ _ _ _ _ _ _ _ _ c.announce.result c.report.result _ _ _ _
    (record { failed = _; listens = l.listens; apart = l.apart; later = l.cause.later }) (sym c.is_err.ensures.value ∙ c.if-is_err.false)
    c.in_default.is a.prints a.later s.serves s.cause r.prints r.rose r.later c.end_with-end.ensures
