use Rattle.std.proofs.Common.{◌≡◌, ℕ, List, Option, sym, ap, subst}
use Rattle.std.specs.Prelude.{IfSome}
use Rattle.ob_documents.specs.Spelling.{Spells}
use Rattle.ob_object.specs.Object.{Object}
use Rattle.ob_program.proofs.FormLemmas.{spells_file}
use Rattle.ob_program.proofs.ScheduleLemmas.{scheduled_if_ok, none_if_err}
use Rattle.ob_program.proofs.schedule.read_form.Goals as goal

pub returns-clause-says : goal.returns-clause-says
returns-clause-says g c =
    let file = g.F.Files.content c.args.files.now c.args.name.now in
    let doc = c.in-Ok.doc in
    let root : doc.root ≡ c.into_parts-ns.result.1 = sym (ap (λ p. p.1) c.into_parts-ns.ensures) in
    let spelled = subst (λ (o : Object). IfSome file (λ whole. Spells whole doc.ns o)) root (spells_file c.spelled.ensures file doc c.in-Ok.ensures.reads) in
    scheduled_if_ok file c.args.site.now doc.ns c.into_parts-ns.result.1 spelled c.schedules_in.result c.schedules_in.ensures.says

pub returns-clause-none : goal.returns-clause-none
returns-clause-none g c =
    let file = g.F.Files.content c.args.files.now c.args.name.now in
    let doc = c.in-Ok.doc in
    let root : doc.root ≡ c.into_parts-ns.result.1 = sym (ap (λ p. p.1) c.into_parts-ns.ensures) in
    let spelled = subst (λ (o : Object). IfSome file (λ whole. Spells whole doc.ns o)) root (spells_file c.spelled.ensures file doc c.in-Ok.ensures.reads) in
    none_if_err file c.args.site.now doc.ns c.into_parts-ns.result.1 spelled c.schedules_in.result c.schedules_in.ensures.none
