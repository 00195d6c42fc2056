use Rattle.std.proofs.Common.{List, ℕ, Option, sym, subst}
use Rattle.std.specs.Prelude.{IfSome}
use Rattle.ob_documents.specs.Spelling.{Spells}
use Rattle.ob_object.specs.Object.{Object}
use Rattle.ob_program.specs.Super.{FollowsNone}
use Rattle.ob_program.specs.declared.form.FormEnd.{FormEnd}
use Rattle.ob_program.proofs.FormLemmas.{spells_file}
use Rattle.ob_program.proofs.SuperLemmas.{unformed_follows_none}
use Rattle.ob_program.proofs.supervise.read_config.Goals as goal

pub returns-in-Ok-new-clause-follows : goal.returns-in-Ok-new-clause-follows
returns-in-Ok-new-clause-follows g c =
    let file = g.F.Files.content c.args.files.now c.args.asked.config.now in
    record {
      ns = c.into_parts-ns.result.0;
      root = c.into_parts-ns.result.1;
      spelled = subst (λ (parts : Option (List ℕ) × Object). IfSome file (λ whole. Spells whole parts.0 parts.1)) (sym c.into_parts-ns.ensures)
          (spells_file c.spelled.ensures file c.in-Ok.doc c.in-Ok.ensures.reads);
      form = c.in-Ok-new.ensures.configured.0;
      tells = c.in-Ok-new.ensures.configured.1;
    }

pub returns-clause-none : goal.returns-clause-none
returns-clause-none g c =
    let file = g.F.Files.content c.args.files.now c.args.asked.config.now in
    subst (λ (end : FormEnd). FollowsNone file end) (sym c.of_config.ensures)
    (unformed_follows_none g.row.L.Denot file c.into_parts-ns.result.0 c.into_parts-ns.result.1 c.args.asked.wait_ms c.in-Err-new.fault
    (subst (λ (parts : Option (List ℕ) × Object). IfSome file (λ whole. Spells whole parts.0 parts.1)) (sym c.into_parts-ns.ensures)
    (spells_file c.spelled.ensures file c.in-Ok.doc c.in-Ok.ensures.reads)) c.in-Err-new.ensures.configured)
