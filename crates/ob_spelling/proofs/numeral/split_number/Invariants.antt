use Rattle.std.proofs.Common.{◌≡◌, ◌++◌, take, drop}
use Rattle.ob_spelling.specs.Numeral.{number, capped}
use Rattle.ob_spelling.specs.DigitRun.{digits_front, after_digits}
use Rattle.ob_spelling.proofs.numeral.split_number.Given as goal

abbrev pub invariant-loop-len : goal.invariant-loop-len
invariant-loop-len l = record {
  digits : take l.len l.text ++ digits_front (drop l.len l.text) ≡ digits_front l.text;
  rest : after_digits (drop l.len l.text) ≡ after_digits l.text;
  all : l.all ≡ capped (number (take l.len l.text));
}
