use Rattle.std.proofs.Common.{◌≡◌, ℕ, Bool, Ok, ap, sym, ◌∙◌, subst, rules, FitsSigned, w64}
use Rattle.std.specs.Prelude.{ℤ}
use Rattle.std.proofs.lemmas.Int.{to_z-of_z}
use Rattle.ob_spelling.specs.Numeral.{number, capped, signed, is_negative, after_sign}
use Rattle.ob_values.specs.Readers.{ReadsInteger}
use Rattle.ob_values.proofs.IntegerLemmas.{no_integer, some_integer, far_integer, cut_fits, fits_cut}
use Rattle.ob_values.proofs.integer.integer_of.Goals as goal

pub returns-in_default : goal.returns-in_default
returns-in_default c = no_integer c.args.text.now c.in_default.ensures.none

pub returns-in_default-of_size : goal.returns-in_default-of_size
returns-in_default-of_size c =
    let text = c.args.text.now in
    let split = c.in-Some.ensures.some in
    let read : signed c.in-Some.negative c.in-Some.size ≡ signed (is_negative text) (capped (number (after_sign text))) =
    ap (λ (b : Bool). signed b c.in-Some.size) split.sign ∙ ap (λ (n : ℕ). signed (is_negative text) n) split.digits in
    far_integer text split.numeral (λ fits.
    let exact = fits_cut (is_negative text) (number (after_sign text)) fits in
    let whole = subst (FitsSigned w64) (sym (read ∙ ap (λ (n : ℕ). signed (is_negative text) n) exact)) fits in
    let broken = c.in_default-of_size.ensures.some.1 whole in absurd cc)

pub returns : goal.returns
returns c =
    let text = c.args.text.now in
    let split = c.in-Some.ensures.some in
    let number_is = c.in-Some-of_size.number in
    let read : signed c.in-Some.negative c.in-Some.size ≡ signed (is_negative text) (capped (number (after_sign text))) =
    ap (λ (b : Bool). signed b c.in-Some.size) split.sign ∙ ap (λ (n : ℕ). signed (is_negative text) n) split.digits in
    let z : number_is ≡ signed (is_negative text) (capped (number (after_sign text))) = c.in-Some-of_size.ensures.value ∙ read in
    let fits : FitsSigned w64 number_is = search rules in
    let exact = cut_fits (is_negative text) (number (after_sign text)) (subst (FitsSigned w64) z fits) in
    subst (ReadsInteger text) (ap (λ (i : ℤ). Ok i) (sym (to_z-of_z w64 number_is fits)))
    (some_integer text number_is split.numeral (z ∙ ap (λ (n : ℕ). signed (is_negative text) n) exact) fits)
