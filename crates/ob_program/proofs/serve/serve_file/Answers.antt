use Rattle.std.proofs.Common.{ℕ, List, Option, Err, sym, ap, subst, ◌∙◌}
use Rattle.std.specs.Prelude.{IfSome}
use Rattle.ob_load.specs.Loads.{IsSite}
use Rattle.ob_program.specs.Stdio.{site_bytes}
use Rattle.ob_program.proofs.ServeLemmas.{comes_served, comes_unserved}
use Rattle.ob_program.proofs.serve.serve_file.Goals as goal

pub returns-in-Ok-load-clause-comes : goal.returns-in-Ok-load-clause-comes
returns-in-Ok-load-clause-comes g c =
    let file : Option (List ℕ) = g.F.Files.content c.args.files.now c.args.service.site.now in
    let opened = subst (λ (ns : Option (List ℕ)). IfSome file (λ whole. IsSite (site_bytes whole) c.in-Ok.boot ns c.in-Ok-load.field-0.site)) (sym c.as_ref.ensures.value) c.in-Ok-load.ensures.site in
    comes_served _ _ _ _ _ _ _ _ file _ _ _ _ _ _ _ _ _ _ _ _ _ _ _ c.in-Ok.boot _ _ _ _ c.in-Ok.ensures.gave c.now.ensures.apart c.now.ensures.cause.later opened c.sound_law.ensures c.serve_site.ensures.at.1

pub returns-in-Err-clause-comes : goal.returns-in-Err-clause-comes
returns-in-Err-clause-comes g c =
    comes_unserved _ _ _ _ _ _ _ _ _ _ _ _ _ _ _ _ _ _ _ _ c.in-Ok.boot c.in-Err.fault _ c.in-Ok.ensures.gave c.now.ensures.apart c.of_fault.ensures c.in-Err.ensures.refused
    (λ e. c.load.ensures.cause.failed (c.in-Err.is ∙ ap (λ f. Err f) e))
