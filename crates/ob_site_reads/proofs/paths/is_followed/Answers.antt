use Rattle.std.proofs.Common.{ℕ, List, ◌++◌, sym, ap₂, ◌∙◌}
use Rattle.ob_site_reads.proofs.Fronts.{followed}
use Rattle.ob_site_reads.proofs.paths.is_followed.Goals as goal

pub returns-in-Some : goal.returns-in-Some
returns-in-Some c =
    let cut = c.in-Some.ensures.cases in
    c.eq.ensures
    ∙ followed c.args.front.now c.args.tail.now c.in-Some.rest.now c.args.path.now
    (sym c.as_str.ensures.value ∙ cut.1.1 ∙ ap₂ (λ (f r : List ℕ). f ++ r) c.as_str-2.ensures.value (sym cut.2))
