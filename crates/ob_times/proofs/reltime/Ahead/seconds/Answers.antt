use Rattle.std.proofs.Common.{false, eqb, ◌≡◌, ◌≢◌, ℕ, ◌-◌, List, [], ◌∷◌, ◌++◌, length, take, get_or, refl, ap, sym, ◌∙◌, subst, arith, rules, inl, inr}
use Rattle.std.proofs.lemmas.Bool.{both_ways}
use Rattle.std.proofs.lemmas.Bool.Decides.{nat_tests}
use Rattle.std.proofs.lemmas.List.{length-append}
use Rattle.ob_spelling.specs.Numeral.{number}
use Rattle.ob_spelling.specs.DigitRun.{digits_front, after_digits}
use Rattle.ob_spelling.proofs.DigitsLemmas.{front_and_after, front_digits}
use Rattle.ob_spelling.proofs.WhiteLemmas.{front_and_last}
use Rattle.ob_times.specs.CivilText.{IsFraction}
use Rattle.ob_times.proofs.SpanLemmas.{seconds_read, before_last, last_is}
use Rattle.ob_times.proofs.reltime.Ahead.seconds.Goals as goal

no_text : (n : ℕ) → false ≡ eqb n 0 → n ≢ 0
no_text n e h = absurd (grind (arith, nat_tests))

pub returns-then-has_no_digit-clause-none : goal.returns-then-has_no_digit-clause-none
returns-then-has_no_digit-clause-none c = λ seconds nanos h.
    let text = c.args.self.text.now in
    let none : length (digits_front text) ≡ 0 = c.has_no_digit.ensures.0 c.if-has_no_digit.true in
    elim h [
      | inl empty ↦ absurd (no_text (length text) (sym c.if-is_empty.false ∙ c.is_empty.ensures) (ap length empty.0))
      | inr some ↦ let r = seconds_read text seconds nanos some in absurd (omega (arith, none, ap length r.front, some.numeral.0))
    ]

pub returns-in_default-split_fraction-clause-none :
    goal.returns-in_default-split_fraction-clause-none
returns-in_default-split_fraction-clause-none c = λ seconds nanos h.
    let text = c.args.self.text.now in
    elim h [
      | inl empty ↦ absurd (no_text (length text) (sym c.if-is_empty.false ∙ c.is_empty.ensures) (ap length empty.0))
      | inr some ↦
          let r = seconds_read text seconds nanos some in
          let fraction = before_last c.args.self.rest.now some.fraction 83 (c.requires.rest_is ∙ r.back) in
          c.in_default-split_fraction.ensures.none nanos (subst (λ (t : List ℕ). IsFraction t nanos) (sym fraction) some.is_fraction)
    ]

pub returns-clause-some : goal.returns-clause-some
returns-clause-some c =
    let text = c.args.self.text.now in
    let rest = c.args.self.rest.now in
    let fraction = take (length rest - 1) rest in
    let last : get_or rest (length rest - 1) 0 ≡ 83 = search rules in
    let no_zero : length (digits_front text) ≢ 0 = λ e. both_ways c.has_no_digit.result c.if-has_no_digit.false (c.has_no_digit.ensures.1 e) in
    let back : after_digits text ≡ fraction ++ 83 ∷ [] = sym c.requires.rest_is ∙ front_and_last rest c.in-83.len_at_least ∙ ap (λ (b : ℕ). fraction ++ b ∷ []) last in (
      number (digits_front text),
      inr (record {
        digits = digits_front text;
        fraction = fraction;
        numeral = (omega arith, front_digits text);
        is_fraction = c.in-Some.ensures.some;
        text_is = front_and_after text ∙ ap (λ (t : List ℕ). digits_front text ++ t) back;
        value = refl;
      }),
      c.requires.number_is,
    )

pub returns-in_default-clause-none : goal.returns-in_default-clause-none
returns-in_default-clause-none c = λ seconds nanos h.
    let text = c.args.self.text.now in
    elim h [
      | inl empty ↦ absurd (no_text (length text) (sym c.if-is_empty.false ∙ c.is_empty.ensures) (ap length empty.0))
      | inr some ↦
          let r = seconds_read text seconds nanos some in
          absurd (omega (arith, ap length (c.requires.rest_is ∙ r.back), length-append some.fraction (83 ∷ [])))
    ]

pub returns-in_default-2-clause-none : goal.returns-in_default-2-clause-none
returns-in_default-2-clause-none c = λ seconds nanos h.
    let text = c.args.self.text.now in
    let rest = c.args.self.rest.now in
    let other : get_or rest (length rest - 1) 0 ≢ 83 = search rules in
    elim h [
      | inl empty ↦ absurd (no_text (length text) (sym c.if-is_empty.false ∙ c.is_empty.ensures) (ap length empty.0))
      | inr some ↦
          let r = seconds_read text seconds nanos some in
          other (last_is rest some.fraction 83 (c.requires.rest_is ∙ r.back))
    ]
