use Rattle.std.proofs.Common.{◌≡◌, ℕ, List, [], ◌∷◌, ◌++◌, length, codes, decimal, None, refl, sym, ap, ◌∙◌, lit<, lit≤}
use Rattle.std.proofs.lemmas.Fmt.{decimal_digit, decimal_step}
use Rattle.ob_spelling.specs.DigitRun.{digits_front, after_digits}
use Rattle.ob_record.specs.Broken.{in_entry}
use Rattle.ob_record.specs.Reading.{boot_at, number_at, open_at, parts_at, verb_at}
use Rattle.ob_record.specs.Rows.{run_of}
use Rattle.ob_record.specs.Runs.{run_text}
use Rattle.ob_record.proofs.Reading.{none_parted, no_first_line, no_second_line}
use Rattle.ob_record.proofs.laws.worked_rows.Goals as goal

zero_is : decimal 0 ≡ 48 ∷ []
zero_is = decimal_digit 0 (lit< tt)

seven_is : decimal 7 ≡ 55 ∷ []
seven_is = decimal_digit 7 (lit< tt)

two_digits : decimal 29 ≡ 50 ∷ 57 ∷ []
two_digits = decimal_step 29 (lit≤ tt) (lit< tt) ∙ ap (λ (l : List ℕ). l ++ 57 ∷ []) (decimal_digit 2 (lit< tt))

twenty_three : decimal 23 ≡ 50 ∷ 51 ∷ []
twenty_three = decimal_step 23 (lit≤ tt) (lit< tt) ∙ ap (λ (l : List ℕ). l ++ 51 ∷ []) (decimal_digit 2 (lit< tt))

sixty : decimal 60 ≡ 54 ∷ 48 ∷ []
sixty = decimal_step 60 (lit≤ tt) (lit< tt) ∙ ap (λ (l : List ℕ). l ++ 48 ∷ []) (decimal_digit 6 (lit< tt))

ten : decimal 10 ≡ 49 ∷ 48 ∷ []
ten = decimal_step 10 (lit≤ tt) (lit< tt) ∙ ap (λ (l : List ℕ). l ++ 48 ∷ []) (decimal_digit 1 (lit< tt))

hundred : decimal 100 ≡ 49 ∷ 48 ∷ 48 ∷ []
hundred = decimal_step 100 (lit≤ tt) (lit< tt) ∙ ap (λ (l : List ℕ). l ++ 48 ∷ []) ten

thousand : decimal 1000 ≡ 49 ∷ 48 ∷ 48 ∷ 48 ∷ []
thousand = decimal_step 1000 (lit≤ tt) (lit< tt) ∙ ap (λ (l : List ℕ). l ++ 48 ∷ []) hundred

opened : run_text (run_of 0 []) ≡ codes "obix-record 1\nboot 0\n"
opened = rw zero_is refl

cut_unread : parts_at (codes "0 GET") ≡ None
unfolding parts_at open_at number_at verb_at digits_front after_digits
cut_unread = refl

two_zeros : boot_at (codes "boot 00\n") ≡ None
unfolding boot_at number_at digits_front after_digits
two_zeros = refl

pub returns : goal.returns
returns c = record {
  nothing_asked = opened;
  one_read = rw (zero_is, seven_is, two_digits) refl;
  no_memory = rw (sixty, thousand, twenty_three, zero_is) refl;
  cut_in_entry = in_entry (run_of 0 []) (codes "0 GET") (record { boot = lit≤ tt; entries = tt }) (ap (λ (l : List ℕ). length l) (sym opened))
      (ap (λ (l : List ℕ). l ++ codes "0 GET") (sym opened)) (λ none. absurd cc) (none_parted (codes "0 GET") cut_unread);
  other_first_line = no_first_line (codes "obix-record 2\nboot 0\n") refl;
  boot_with_a_zero = no_second_line (codes "obix-record 1\nboot 00\n") (codes "boot 00\n") refl two_zeros;
}
