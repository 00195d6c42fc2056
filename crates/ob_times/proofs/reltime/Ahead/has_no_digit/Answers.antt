use Rattle.std.proofs.Common.{◌≡◌, ◌+◌, length, ap, ◌∙◌, arith}
use Rattle.std.proofs.lemmas.Bool.Decides.{nat_tests}
use Rattle.std.proofs.lemmas.List.{length-append}
use Rattle.ob_spelling.specs.DigitRun.{digits_front, after_digits}
use Rattle.ob_spelling.proofs.DigitsLemmas.{front_and_after}
use Rattle.ob_times.proofs.reltime.Ahead.has_no_digit.Goals as goal

pub returns : goal.returns
returns c =
    let text = c.args.self.text.now in
    let whole : length text ≡ length (digits_front text) + length (after_digits text) = ap length (front_and_after text) ∙ length-append (digits_front text) (after_digits text) in
    let rest : length c.args.self.rest.now ≡ length (after_digits text) = ap length c.requires.rest_is in
    ((λ h. grind (arith, nat_tests)), (λ h. grind (arith, nat_tests)))
