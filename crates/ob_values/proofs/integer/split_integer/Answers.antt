use Rattle.std.proofs.Common.{◌≡◌, ◌≢◌, ℕ, List, length, ap, sym, ◌∙◌, arith, rules}
use Rattle.std.proofs.lemmas.List.{nil_from_length}
use Rattle.ob_spelling.specs.Numeral.{number, capped, after_sign}
use Rattle.ob_spelling.specs.DigitRun.{digits_front, after_digits}
use Rattle.ob_values.proofs.IntegerLemmas.{numeral_read, numeral_ends}
use Rattle.ob_values.proofs.integer.split_integer.Goals as goal

pub returns-then-is_empty-clause-none : goal.returns-then-is_empty-clause-none
returns-then-is_empty-clause-none c = λ n.
    let none : length c.split_sign-negative.result.1.now ≡ 0 = search rules in
    let some = n.0 in
    omega (arith, none, ap length c.split_sign-negative.ensures.rest)

pub returns-then-not-is_empty-clause-none : goal.returns-then-not-is_empty-clause-none
returns-then-not-is_empty-clause-none c = λ n.
    let rest = c.split_number-size.ensures.rest ∙ ap after_digits c.split_sign-negative.ensures.rest in
    let some : length c.split_number-size.result.1.now ≢ 0 = search rules in
    some (ap length (rest ∙ (numeral_ends c.args.text.now n).1))

pub returns-clause-some : goal.returns-clause-some
returns-clause-some c =
    let text = c.args.text.now in
    let digits = c.split_sign-negative.ensures.rest in
    let rest : c.split_number-size.result.1.now ≡ after_digits (after_sign text) = c.split_number-size.ensures.rest ∙ ap after_digits digits in
    let some : length c.split_sign-negative.result.1.now ≢ 0 = search rules in
    let none : length c.split_number-size.result.1.now ≡ 0 = search rules in
    let numeral = numeral_read text (λ e. some (ap length digits ∙ e)) (sym rest ∙ nil_from_length _ none) in
    record {
      numeral = numeral;
      sign = c.split_sign-negative.ensures.negative;
      digits =
          c.split_number-size.ensures.number
          ∙ ap (λ (t : List ℕ). capped (number (digits_front t))) digits
          ∙ ap (λ (t : List ℕ). capped (number t)) (numeral_ends text numeral).0;
    }
