use Rattle.std.proofs.Common.{ℕ, List, Option, sym, subst}
use Rattle.ob_program.specs.declared.stdio.StdioEnd.{StdioEnd}
use Rattle.ob_program.specs.Stdio.{Comes}
use Rattle.ob_program.proofs.StdioLemmas.{serves_site, records_site, served_cause, whole_at, comes_answers, comes_record, comes_refused}
use Rattle.ob_program.proofs.stdio.serve_site.Goals as goal

pub returns-in-Answers-clause-comes : goal.returns-in-Answers-clause-comes
returns-in-Answers-clause-comes g c =
    comes_answers c.args.service.output (g.F.Files.content c.args.files.now c.args.service.site.now) c.args.boot c.answer_site.result _ _ _ _ _ _ _ _ c.in-Answers.is
    (serves_site (g.F.Files.content c.args.files.now c.args.service.site.now) c.args.boot _ _ _ _ _ _ _ _ _ _ _ c.in-Ok.ensures.site c.answer_site.ensures.sound c.answer_site.ensures.serves)

pub returns-in-Record-clause-comes : goal.returns-in-Record-clause-comes
returns-in-Record-clause-comes g c =
    comes_record c.args.service.output (g.F.Files.content c.args.files.now c.args.service.site.now) c.args.boot c.record_site.result _ _ _ _ _ _ _ _ c.in-Record.is
    (records_site (g.F.Files.content c.args.files.now c.args.service.site.now) c.args.boot _ _ _ _ _ _ _ _ _ _ _ _ c.in-Ok.ensures.site c.record_site.ensures.sound c.record_site.ensures.records.1)

pub returns-in-Err-clause-comes : goal.returns-in-Err-clause-comes
returns-in-Err-clause-comes g c =
    let file : Option (List ℕ) = g.F.Files.content c.args.files.now c.args.service.site.now in
    let left : Option (List ℕ) = g.L.Link.left c.args.timed.now.link.now in
    let taken : Option (List ℕ) = g.L.Link.taken c.args.timed.now.link.now in
    let held : Option (List ℕ) = g.L.Link.held c.args.timed.now.link.now in
    let given : Option (List ℕ) = g.C.Clock.given c.args.timed.now.clock.now in
    subst (λ (end : StdioEnd). Comes c.args.service.output file c.args.boot end left taken left taken held held given given) (sym c.of_fault.ensures)
    (comes_refused c.args.service.output c.in-Err.fault file c.args.boot left taken held given c.in-Err.ensures.refused)

pub returns-in-Answers-clause-cause : goal.returns-in-Answers-clause-cause
returns-in-Answers-clause-cause g c = served_cause _ _ _ _ _ _ _ _ _ c.load.ensures.cause.later c.answer_site.ensures.cause

pub returns-in-Record-clause-cause : goal.returns-in-Record-clause-cause
returns-in-Record-clause-cause g c = served_cause _ _ _ _ _ _ _ _ _ c.load.ensures.cause.later c.record_site.ensures.cause

pub returns-in-Answers-clause-unused : goal.returns-in-Answers-clause-unused
returns-in-Answers-clause-unused g c = λ none. absurd none

pub returns-in-Record-clause-unused : goal.returns-in-Record-clause-unused
returns-in-Record-clause-unused g c = λ none. absurd none

pub returns-in-Answers-clause-whole : goal.returns-in-Answers-clause-whole
returns-in-Answers-clause-whole g c = λ end is.
    whole_at (g.L.Link.left c.args.timed.now.link.now) (g.L.Link.read_faults c.args.timed.now.link.now) (g.L.Link.read_faults c.answer_site.new.timed.link.now)
    (g.L.Link.write_faults c.args.timed.now.link.now) (g.L.Link.write_faults c.answer_site.new.timed.link.now)
    (g.C.Clock.faults c.args.timed.now.clock.now) (g.C.Clock.faults c.answer_site.new.timed.clock.now) c.answer_site.result end is c.answer_site.ensures.whole

pub returns-in-Record-clause-whole : goal.returns-in-Record-clause-whole
returns-in-Record-clause-whole g c = λ end is.
    whole_at (g.L.Link.left c.args.timed.now.link.now) (g.L.Link.read_faults c.args.timed.now.link.now) (g.L.Link.read_faults c.record_site.new.timed.link.now)
    (g.L.Link.write_faults c.args.timed.now.link.now) (g.L.Link.write_faults c.record_site.new.timed.link.now)
    (g.C.Clock.faults c.args.timed.now.clock.now) (g.C.Clock.faults c.record_site.new.timed.clock.now) c.record_site.result end is c.record_site.ensures.whole
