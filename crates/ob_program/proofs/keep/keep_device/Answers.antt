use Rattle.std.proofs.Common.{List, Option, ℕ, option_copied, sym, subst, ◌∙◌}
use Rattle.ob_kept.specs.Keeping.{Keeping}
use Rattle.ob_kept.specs.Reopening.{Reopens}
use Rattle.ob_program.proofs.KeepLemmas.{kept_none, kept_served}
use Rattle.ob_program.proofs.keep.keep_device.Goals as goal

pub returns-in-Ok-clause-keeps : goal.returns-in-Ok-clause-keeps
returns-in-Ok-clause-keeps g c =
    let d = g.V.Device in
    let content = g.F.Files.content c.args.files.now c.args.kept.service.site.now in
    let told : Option (List ℕ) → Keeping → Type 0 = λ ns k. Reopens d.is_told content (d.seen c.args.boot.device) (d.moment c.args.boot.device) c.args.boot.moment ns k in
    let opened = subst (λ (ns : Option (List ℕ)). told ns c.into_parts-ns.result.1) (sym (c.as_ref.ensures.value ∙ c.into_parts-ns.ensures.ns))
    (subst (λ (k : Keeping). told c.in-Ok.reopened.ns k) (sym c.into_parts-ns.ensures.kept) c.in-Ok.ensures.reopens) in
    kept_served d.is_told d.seen d.may_leave d.moment d.left_since d.faults
    g.P.D.Door.faults g.P.D.Door.handed g.P.D.Door.returned g.P.D.Door.visits g.P.D.Door.is_closed g.C.Clock.given g.C.Clock.pace g.C.Clock.faults
    content c.args.kept.service.host.now c.args.kept.service.port c.args.kept.service.workers c.args.kept.service.quota _ _
    c.args.boot.moment _ _ _ _ _ _ _ _ c.args.boot.device c.into_device-device.result.0 (option_copied c.as_ref.result) c.into_parts-ns.result.1 c.serve_kept-site.result.0 c.into_device-device.result.1 c.serve_kept-site.result.1
    c.of_service.result c.of_service.ensures opened c.serve_kept-site.ensures.at c.into_device-device.ensures c.reopen.ensures.later

pub returns-in-Err-clause-keeps : goal.returns-in-Err-clause-keeps
returns-in-Err-clause-keeps g c =
    let d = g.V.Device in
    let content = g.F.Files.content c.args.files.now c.args.kept.service.site.now in
    let e = c.in-Err.ensures in
    kept_none d.is_told d.seen d.may_leave d.moment d.left_since d.faults
    g.P.D.Door.faults g.P.D.Door.handed g.P.D.Door.returned g.P.D.Door.visits g.P.D.Door.is_closed g.C.Clock.given g.C.Clock.pace g.C.Clock.faults
    content c.args.kept.service.host.now c.args.kept.service.port c.args.kept.service.workers c.args.kept.service.quota _ _
    c.args.boot.moment _ _ _ _ c.args.boot.device c.in-Err.back c.in-Err.fault c.of_reopen.result c.of_reopen.ensures e.refuses e.back e.causes c.reopen.ensures.later
