use Rattle.std.proofs.Common.{arith, ◌≡◌, ◌∙◌, List, ℕ, [], sym, subst, ◌≤◌, ◌<◌, length}
use Rattle.std.proofs.lemmas.Bool.Decides.{nat_tests}
use Rattle.ob_spelling.specs.DigitRun.{after_digits}
use Rattle.ob_command.proofs.NumberLemmas.{numbered, too_large, other_bytes, something_after, empty}
use Rattle.ob_command.proofs.number.number_up_to.Goals as goal

pub returns-in_default-empty : goal.returns-in_default-empty
returns-in_default-empty c =
    let text = c.args.text.now in
    let none : after_digits text ≡ [] = sym c.split_number-number.ensures.rest ∙ empty c.split_number-number.result.1.now c.in_default-empty.len_below in
    let some : 0 < length text = grind (arith, nat_tests) in
    numbered c.args.most text c.split_number-number.result.0 c.split_number-number.ensures.number some (omega arith) none c.if-number-most.true

pub returns-in_default : goal.returns-in_default
returns-in_default c =
    let text = c.args.text.now in
    let none : after_digits text ≡ [] = sym c.split_number-number.ensures.rest ∙ empty c.split_number-number.result.1.now c.in_default-empty.len_below in
    too_large c.args.most text c.split_number-number.result.0 c.split_number-number.ensures.number (omega arith) none c.if-number-most.false

pub returns-in_default-2 : goal.returns-in_default-2
returns-in_default-2 c =
    other_bytes c.args.most c.args.text.now
    (something_after c.args.text.now (subst (λ (xs : List ℕ). 1 ≤ length xs) c.split_number-number.ensures.rest c.in_default.len_at_least))
