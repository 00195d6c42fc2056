use Rattle.std.proofs.Common.{sym, subst}
use Rattle.ob_program.specs.declared.audit.AuditEnd.{AuditEnd}
use Rattle.ob_program.specs.Audit.{JudgesNone}
use Rattle.ob_program.proofs.AuditLemmas.{run_unjudged, judged_file, unjudged_file}
use Rattle.ob_program.proofs.audit.judge_file.Goals as goal

pub returns-in-Err-clause-none : goal.returns-in-Err-clause-none
returns-in-Err-clause-none g c =
    let site = g.F.Files.content c.args.files.now c.args.words.site.now in
    let file = g.F.Files.content c.args.files.now c.args.words.file.now in
    let before = g.F.Files.faults c.args.files.now in
    let later = g.F.Files.faults c.read_run.new.files in
    subst (λ (end : AuditEnd). JudgesNone site file before later end) (sym c.of_run.ensures)
    (run_unjudged site file before later c.in-Err.fault c.in-Err.ensures.none (λ is. c.in-Err.ensures.failed (let same = is in cc)))

pub returns-clause-judged : goal.returns-clause-judged
returns-clause-judged g c =
    judged_file (g.F.Files.content c.args.files.now c.args.words.site.now) (g.F.Files.content c.read_run.new.files c.args.words.site.now) (g.F.Files.content c.args.files.now c.args.words.file.now)
    c.in-Ok.run' c.judge.result (c.read_run.ensures.same c.args.words.site.now) c.in-Ok.ensures.run c.judge.ensures.judged

pub returns-clause-none : goal.returns-clause-none
returns-clause-none g c =
    unjudged_file (g.F.Files.content c.args.files.now c.args.words.site.now) (g.F.Files.content c.read_run.new.files c.args.words.site.now) (g.F.Files.content c.args.files.now c.args.words.file.now)
    c.in-Ok.run' (g.F.Files.faults c.args.files.now) (g.F.Files.faults c.read_run.new.files) (g.F.Files.faults c.judge.new.files) c.judge.result
    (c.read_run.ensures.same c.args.words.site.now) c.read_run.ensures.later c.in-Ok.ensures.run c.judge.ensures.none
