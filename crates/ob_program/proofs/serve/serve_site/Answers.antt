use Rattle.std.proofs.Common.{option_copied, sym, ◌∙◌, false}
use Rattle.ob_site_laws.specs.Seen.{KeepsWatches}
use Rattle.ob_site_laws.specs.SiteLaws.{acts}
use Rattle.ob_program.proofs.ServingLemmas.{unlistened, unannounced, served_there, on_err}
use Rattle.ob_program.proofs.serve.serve_site.Goals as goal

pub returns-then-is_err-clause-at : goal.returns-then-is_err-clause-at
returns-then-is_err-clause-at g c =
    let l = c.listen.ensures in (
      _,
      unlistened g.P.D.Door.faults g.P.D.Door.handed g.P.D.Door.returned g.P.D.Door.visits g.P.D.Door.is_closed g.C.Clock.given g.C.Clock.pace g.C.Clock.faults
          acts c.args.site (KeepsWatches c.args.site) false (option_copied c.args.ns) c.args.service.host.now c.args.service.port c.args.service.workers c.args.service.quota
          _ _ _ _ _ (record { failed = _; listens = l.listens; apart = l.apart; later = l.cause.later })
          (on_err c.listen.result _ (sym c.is_err.ensures.value ∙ c.if-is_err.true) l.cause.failed),
    )

pub returns-in-Some-clause-at : goal.returns-in-Some-clause-at
returns-in-Some-clause-at g c =
    let l = c.listen.ensures in (
      _,
      unannounced g.P.D.Door.faults g.P.D.Door.handed g.P.D.Door.returned g.P.D.Door.visits g.P.D.Door.is_closed g.C.Clock.given g.C.Clock.pace g.C.Clock.faults
          acts c.args.site (KeepsWatches c.args.site) false (option_copied c.args.ns) c.args.service.host.now c.args.service.port c.args.service.workers c.args.service.quota
          _ _ _ _ _ _ _ c.in-Some.end (record { failed = _; listens = l.listens; apart = l.apart; later = l.cause.later }) (sym c.is_err.ensures.value ∙ c.if-is_err.false)
          c.in-Some.ensures.prints c.in-Some.ensures.rose c.announce.ensures.later,
    )

pub returns-clause-at : goal.returns-clause-at
returns-clause-at g c =
    let l = c.listen.ensures in
    let a = c.announce.ensures in
    let s = c.serve_port-served.ensures in
    let r = c.report.ensures in (
      _,
      served_there g.P.D.Door.faults g.P.D.Door.handed g.P.D.Door.returned g.P.D.Door.visits g.P.D.Door.is_closed g.C.Clock.given g.C.Clock.pace g.C.Clock.faults
          acts c.args.site (KeepsWatches c.args.site) false (option_copied c.args.ns) c.args.service.host.now c.args.service.port c.args.service.workers c.args.service.quota
          _ _ _ _ _ _ _ _ _ _ _ c.announce.result c.report.result _ _ _ _
          (record { failed = _; listens = l.listens; apart = l.apart; later = l.cause.later }) (sym c.is_err.ensures.value ∙ c.if-is_err.false)
          c.in_default.is a.prints a.later s.serves s.cause r.prints r.rose r.later c.end_with.ensures,
    )
