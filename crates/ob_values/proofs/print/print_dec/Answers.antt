use Rattle.std.proofs.Common.{List, ℕ, Bool, ◌++◌, ap, sym, ◌∙◌, subst}
use Rattle.std.specs.Prelude.{decimal, unsigned_abs, ◌/◌, ◌^◌}
use Rattle.std.specs.Int.{is_negative}
use Rattle.ob_spelling.specs.White.{trim}
use Rattle.ob_spelling.specs.Places.{fraction_text, minus}
use Rattle.ob_values.specs.Real.{IsRealSpelled}
use Rattle.ob_values.proofs.PrintedLemmas.{spelled_real}
use Rattle.ob_values.proofs.print.print_dec.Goals as goal

pub returns-clause-spelled : goal.returns-clause-spelled
returns-clause-spelled c =
    let z = c.args.dec.now in
    let p = c.around_point-negative in
    let text =
    c.print_point.ensures
    ∙ ap (λ (b : Bool). minus b ++ (decimal p.result.1 ++ fraction_text 18 p.result.2)) p.ensures.negative
    ∙ ap (λ (n : ℕ). minus (is_negative z) ++ (decimal n ++ fraction_text 18 p.result.2)) p.ensures.whole
    ∙ ap (λ (n : ℕ). minus (is_negative z) ++ (decimal (unsigned_abs z / 10 ^ 18) ++ fraction_text 18 n)) p.ensures.fraction
    in
    subst (λ (t : List ℕ). IsRealSpelled (trim t) z) (sym text) (spelled_real z p.ensures.decimal)
