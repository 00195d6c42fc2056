use Rattle.std.proofs.Common.{◌∙◌, ℕ, List, Option, subst}
use Rattle.ob_io.specs.Told.{Gains, IsFront, Gains-none}
use Rattle.ob_times.specs.Times.{IsMoment}
use Rattle.ob_record.proofs.RecordedRuns.{run_wanting, run_cut, run_recorded}
use Rattle.ob_record.proofs.link.record_from.Goals as goal

pub returns-in_default-clause-records : goal.returns-in_default-clause-records
returns-in_default-clause-records g c =
    run_wanting g.M.Machine.act c.args.machine.now c.args.boot _ _ _ (subst IsMoment c.ms.ensures.value c.ms.ensures.range) (Gains-none _)

pub returns-in_default-send-clause-records : goal.returns-in_default-send-clause-records
returns-in_default-send-clause-records g c =
    let sends = c.in_default-send.ensures.sends in
    run_cut g.M.Machine.act c.args.machine.now c.args.boot _ _ _ _ _ _ _ sends.sent c.in_default-send.ensures.apart.0 c.in_default-send.ensures.apart.1
    (subst IsMoment c.ms.ensures.value c.ms.ensures.range) sends.gained
    (subst (λ (l : List ℕ). IsFront sends.sent l) (c.deref.ensures.value ∙ c.in-Ok.ensures) sends.front)

pub returns-clause-records : goal.returns-clause-records
returns-clause-records g c =
    let sends = c.in-Ok-send.ensures.sends in
    run_recorded g.M.Machine.act c.args.machine.now _ c.args.boot _ _ _ _ _ _ (g.L.Link.held c.send.new.link) _ _ _ _
    c.in-Ok-send.ensures.apart.0 c.in-Ok-send.ensures.apart.1 (subst IsMoment c.ms.ensures.value c.ms.ensures.range)
    (subst (λ (l : List ℕ). Gains (g.L.Link.held c.args.link.now) l (g.L.Link.held c.send.new.link)) (sends.whole ∙ (c.deref.ensures.value ∙ c.in-Ok.ensures)) sends.gained)
    c.record_link.ensures.records
