use Rattle.std.proofs.Common.{ℕ, sym, subst}
use Rattle.std.specs.Prelude.{IfSome}
use Rattle.ob_load.specs.Loads.{IsSite}
use Rattle.ob_program.specs.declared.audit.AuditEnd.{AuditEnd}
use Rattle.ob_program.specs.Audit.{Unjudged, Refuses}
use Rattle.ob_program.specs.Stdio.{site_bytes}
use Rattle.ob_program.proofs.AuditLemmas.{load_unjudged}
use Rattle.ob_program.proofs.audit.judge.Goals as goal

pub returns-in-Err-clause-none : goal.returns-in-Err-clause-none
returns-in-Err-clause-none g c = λ recorded records.
    let site = g.F.Files.content c.args.files.now c.args.name.now in
    let boot = recorded.boot in
    let before = g.F.Files.faults c.args.files.now in
    let later = g.F.Files.faults c.load.new.files in
    subst (λ (end : AuditEnd). Unjudged site boot before later end) (sym c.of_load.ensures)
    (load_unjudged site boot before later c.in-Err.fault (subst (λ (moment : ℕ). Refuses site moment c.in-Err.fault) (c.boot.ensures recorded records) c.in-Err.ensures.refused) (λ is. c.in-Err.ensures.cause.failed (let same = is in cc)))

pub returns-in-Ok-audit-clause-judged : goal.returns-in-Ok-audit-clause-judged
returns-in-Ok-audit-clause-judged g c = λ recorded records.
    let site = g.F.Files.content c.args.files.now c.args.name.now in
    record {
      opening = c.in-Ok.loaded.site;
      opened = (c.in-Ok.loaded.ns, subst (λ (moment : ℕ). IfSome site (λ whole. IsSite (site_bytes whole) moment c.in-Ok.loaded.ns c.in-Ok.loaded.site)) (c.boot.ensures recorded records) c.in-Ok.ensures.site);
      last = _;
      audits = c.in-Ok-audit.ensures recorded records;
    }
