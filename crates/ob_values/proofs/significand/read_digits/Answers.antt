use Rattle.std.proofs.Common.{Option, None, subst}
use Rattle.ob_spelling.specs.DigitRun.{digits_front}
use Rattle.ob_spelling.proofs.DigitsLemmas.{front_digits}
use Rattle.ob_values.specs.Significand.{IsRead}
use Rattle.ob_values.specs.declared.significand.Significand.{Significand}
use Rattle.ob_values.proofs.SignificandLemmas.{wide_digits}
use Rattle.ob_values.proofs.significand.read_digits.Goals as goal

pub returns-in-None-clause-number : goal.returns-in-None-clause-number
returns-in-None-clause-number c = λ n h.
    let wide : IsRead None n = subst (λ (o : Option Significand). IsRead o n) c.in-None.is h in
    wide_digits n (digits_front c.args.text.now) wide (front_digits c.args.text.now)
