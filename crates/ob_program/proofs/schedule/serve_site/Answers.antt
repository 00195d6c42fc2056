use Rattle.std.proofs.Common.{ℕ, List, Option, sym, subst, arith}
use Rattle.ob_program.specs.declared.form.FormEnd.TheVariants as ends
use Rattle.ob_program.specs.declared.stdio.StdioEnd.{StdioEnd}
use Rattle.ob_program.specs.Schedule.{IsScheduled, SaysNone, ScheduleComesAt}
use Rattle.ob_program.proofs.StdioLemmas.{served_cause, whole_at}
use Rattle.ob_program.proofs.ScheduleLemmas.{serves_schedules, comes_unopened, comes_unscheduled, unscheduled_serves_none, unscheduled_cause}
use Rattle.ob_program.proofs.schedule.serve_site.Goals as goal

pub returns-in-Err-clause-comes : goal.returns-in-Err-clause-comes
returns-in-Err-clause-comes g c =
    let site : Option (List ℕ) = g.F.Files.content c.args.files.now c.args.service.site.now in
    let file : Option (List ℕ) = g.F.Files.content c.args.files.now c.args.service.file.now in
    let left : Option (List ℕ) = g.L.Link.left c.args.timed.now.link.now in
    let taken : Option (List ℕ) = g.L.Link.taken c.args.timed.now.link.now in
    let held : Option (List ℕ) = g.L.Link.held c.args.timed.now.link.now in
    let given : Option (List ℕ) = g.C.Clock.given c.args.timed.now.clock.now in
    subst (λ (end : StdioEnd). ScheduleComesAt site file c.args.boot (ends.Stdio end) left taken left taken held held given given) (sym c.of_fault.ensures)
    (comes_unopened c.in-Err.fault site file c.args.boot left taken held given c.in-Err.ensures.refused)

pub returns-in-Ok-read_form-clause-comes : goal.returns-in-Ok-read_form-clause-comes
returns-in-Ok-read_form-clause-comes g c =
    let site : Option (List ℕ) = g.F.Files.content c.args.files.now c.args.service.site.now in
    let file : Option (List ℕ) = g.F.Files.content c.args.files.now c.args.service.file.now in
    let opening = c.in-Ok.loaded.site in
    let says = subst (λ (f : Option (List ℕ)). IsScheduled f opening c.in-Ok-read_form.schedules) (c.load.ensures.same c.args.service.file.now) c.in-Ok-read_form.ensures.says in
    serves_schedules site file c.args.boot _ opening c.in-Ok-read_form.schedules _ _ _ _ _ _ _ _ c.answer_site-end.result c.in-Ok.ensures.site c.answer_site-end.ensures.sound says c.answer_site-end.ensures.serves

pub returns-in-Err-read_form-clause-comes : goal.returns-in-Err-read_form-clause-comes
returns-in-Err-read_form-clause-comes g c =
    let site : Option (List ℕ) = g.F.Files.content c.args.files.now c.args.service.site.now in
    let file : Option (List ℕ) = g.F.Files.content c.args.files.now c.args.service.file.now in
    let opening = c.in-Ok.loaded.site in
    let none = subst (λ (f : Option (List ℕ)). SaysNone f opening c.in-Err-read_form.end) (c.load.ensures.same c.args.service.file.now) c.in-Err-read_form.ensures.none in
    comes_unscheduled site file c.args.boot _ opening c.in-Err-read_form.end _ _ _ _ c.in-Ok.ensures.site none

pub returns-in-Ok-read_form-clause-cause : goal.returns-in-Ok-read_form-clause-cause
returns-in-Ok-read_form-clause-cause g c =
    let load = c.load.ensures.cause.later in
    let read = c.read_form.ensures.later in
    served_cause _ _ _ _ _ _ _ _ _ (omega (arith, load, read)) c.answer_site-end.ensures.cause

pub returns-in-Err-read_form-clause-cause : goal.returns-in-Err-read_form-clause-cause
returns-in-Err-read_form-clause-cause g c =
    unscheduled_cause (g.F.Files.content c.load.new.files c.args.service.file.now) c.in-Ok.loaded.site c.in-Err-read_form.end (g.F.Files.faults c.args.files.now) (g.F.Files.faults c.load.new.files) (g.F.Files.faults c.read_form.new.files)
    _ _ _ c.load.ensures.cause.later c.read_form.ensures.later c.in-Err-read_form.ensures.failed c.in-Err-read_form.ensures.none

pub returns-in-Ok-read_form-clause-unused : goal.returns-in-Ok-read_form-clause-unused
returns-in-Ok-read_form-clause-unused g c = λ none. absurd none

pub returns-in-Ok-read_form-clause-whole : goal.returns-in-Ok-read_form-clause-whole
returns-in-Ok-read_form-clause-whole g c = λ end is.
    whole_at (g.L.Link.left c.args.timed.now.link.now) (g.L.Link.read_faults c.args.timed.now.link.now) (g.L.Link.read_faults c.answer_site-end.new.timed.link.now)
    (g.L.Link.write_faults c.args.timed.now.link.now) (g.L.Link.write_faults c.answer_site-end.new.timed.link.now)
    (g.C.Clock.faults c.args.timed.now.clock.now) (g.C.Clock.faults c.answer_site-end.new.timed.clock.now) c.answer_site-end.result end is c.answer_site-end.ensures.whole

pub returns-in-Err-read_form-clause-whole : goal.returns-in-Err-read_form-clause-whole
returns-in-Err-read_form-clause-whole g c = λ end is.
    absurd (unscheduled_serves_none (g.F.Files.content c.load.new.files c.args.service.file.now) c.in-Ok.loaded.site c.in-Err-read_form.end end c.in-Err-read_form.ensures.none is)
