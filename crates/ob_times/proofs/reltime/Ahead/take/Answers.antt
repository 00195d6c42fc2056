use Rattle.std.proofs.Common.{◌≡◌, ◌≢◌, ℕ, List, [], length, drop, get_or, ap, sym, ◌∙◌, arith}
use Rattle.std.proofs.lemmas.Bool.{both_ways}
use Rattle.std.proofs.lemmas.List.{take_rest, nil_from_length}
use Rattle.ob_spelling.specs.Numeral.{number, capped}
use Rattle.ob_spelling.specs.DigitRun.{digits_front, after_digits}
use Rattle.ob_times.proofs.AmountLemmas.{mark, Amount, amount_empty, amount_other, amount_there}
use Rattle.ob_times.proofs.reltime.Ahead.take.Goals as goal
use Rattle.ob_times.proofs.reltime.Ahead.take.Goals.{then-unit-letter-via-then-unit-letter, then-unit-letter-via-else-unit-letter+then-has_no_digit}

ended : (c : goal.In_default) → Amount c.args.letter c.args.self.text.now 0 c.args.self.text.now
ended c =
    let text = c.args.self.text.now in
    let none : after_digits text ≡ [] = sym c.requires.read.rest_is ∙ nil_from_length _ (omega arith) in
    let at : mark text ≡ 0 = ap (λ (t : List ℕ). get_or t 0 0) none in
    amount_other c.args.letter text (λ e. absurd (omega (arith, e, at, c.requires.letter)))

none : (c : goal.Joined-then-unit-letter) → Amount c.args.letter c.args.self.text.now 0 c.args.self.text.now
none c =
    let at = ap (λ (t : List ℕ). get_or t 0 0) c.requires.read.rest_is in
    elim c.then-unit-letter.branch [
      | then-unit-letter-via-then-unit-letter w ↦ amount_other c.args.letter c.args.self.text.now (λ e. w.if-unit-letter.true (at ∙ e))
      | then-unit-letter-via-else-unit-letter+then-has_no_digit w ↦ amount_empty c.args.letter c.args.self.text.now (w.has_no_digit.ensures.0 w.if-has_no_digit.true)
    ]

there : (c : goal.After-new) → Amount c.args.letter c.args.self.text.now (number (digits_front c.args.self.text.now)) (drop 1 (after_digits c.args.self.text.now))
there c =
    let text = c.args.self.text.now in
    let at = ap (λ (t : List ℕ). get_or t 0 0) c.requires.read.rest_is in
    let no_zero : length (digits_front text) ≢ 0 = λ e. both_ways c.has_no_digit.result c.if-has_no_digit.false (c.has_no_digit.ensures.1 e) in
    amount_there c.args.letter text (omega arith) (sym at ∙ c.if-unit-letter.false)

pub returns-in_default-clause-amount : goal.returns-in_default-clause-amount
returns-in_default-clause-amount c = let a = ended c in omega (arith, a.amount)

pub returns-in_default-clause-rest : goal.returns-in_default-clause-rest
returns-in_default-clause-rest c = sym (ended c).after

pub returns-then-unit-letter-clause-amount : goal.returns-then-unit-letter-clause-amount
returns-then-unit-letter-clause-amount c = let a = none c in omega (arith, a.amount)

pub returns-then-unit-letter-clause-rest : goal.returns-then-unit-letter-clause-rest
returns-then-unit-letter-clause-rest c = sym (none c).after

pub returns-clause-amount : goal.returns-clause-amount
returns-clause-amount c = c.requires.read.number_is ∙ ap capped (sym (there c).amount)

pub returns-clause-rest : goal.returns-clause-rest
returns-clause-rest c =
    c.new.ensures.text ∙ take_rest c.args.self.rest.now 1 ∙ ap (drop 1) c.requires.read.rest_is ∙ sym (there c).after
