use Rattle.std.proofs.Common.{◌≡◌, ◌≢◌, ℕ, ◌+◌, ◌-◌, ◌*◌, ◌^◌, ◌<◌, ◌≤◌, List, [], ◌∷◌, ◌++◌, length, take, drop, get_or, refl, ap, sym, ◌∙◌, subst, arith, rules}
use Rattle.std.proofs.lemmas.List.{length-append, append-nil, take_rest, nil_from_length}
use Rattle.ob_spelling.specs.Numeral.{number}
use Rattle.ob_spelling.specs.DigitRun.{digits_front, after_digits}
use Rattle.ob_spelling.proofs.FrontLemmas.{head_and_tail}
use Rattle.ob_spelling.proofs.DigitsLemmas.{front_and_after}
use Rattle.ob_values.specs.Significand.{IsRead}
use Rattle.ob_values.proofs.SignificandLemmas.{more_zeros}
use Rattle.ob_values.proofs.RealLemmas.{parts, fraction_found, fraction_missing, whole_found, whole_missing, whole_first}
use Rattle.ob_values.proofs.real.read_mantissa.Goals as goal
use Rattle.ob_values.proofs.real.read_mantissa.Goals.{in_default-via-then-rest-lt1, in_default-via-else-rest-lt1+in_default-1}

-- the bytes of a text are its digits and what follows them
lengths : (text : List ℕ) → length text ≡ length (digits_front text) + length (after_digits text)
lengths text = ap length (front_and_after text) ∙ length-append (digits_front text) (after_digits text)

pub read_digits-significand-requires : goal.read_digits-significand-requires
read_digits-significand-requires c =
    let few = lengths c.args.text.now in
    more_zeros _ (0 + length (digits_front c.args.text.now)) 9223372036854775808 (omega arith) (c.read_digits-whole.ensures.zeros 0 (omega (arith, c.zero.ensures.zeros)))

pub overflow_sub-places : goal.overflow_sub-places
overflow_sub-places c =
    let rest = c.read_digits-whole.result.1.now in
    omega (arith, lengths (take (length rest - 1) (drop 1 rest)), ap length c.read_digits-significand.ensures.rest)

behind_point : (text rest : List ℕ) → rest ≡ after_digits text → 1 ≤ length rest → get_or rest 0 0 ≡ 46 → after_digits text ≡ 46 ∷ take (length rest - 1) (drop 1 rest)
behind_point text rest e some point =
    sym e ∙ head_and_tail rest some ∙ ap (λ (b : ℕ). b ∷ drop 1 rest) point ∙ ap (λ (t : List ℕ). 46 ∷ t) (sym (take_rest rest 1))

pub returns-then-places-eq0-clause-none : goal.returns-then-places-eq0-clause-none
returns-then-places-eq0-clause-none c =
    let rest = c.read_digits-whole.result.1.now in
    let point : get_or rest 0 0 ≡ 46 = search rules in
    let behind = behind_point c.args.text.now rest c.read_digits-whole.ensures.rest c.in-46.len_at_least point in
    fraction_missing c.args.text.now _ behind (omega (arith, c.if-places-eq0.true, lengths (take (length rest - 1) (drop 1 rest)), ap length c.read_digits-significand.ensures.rest))

pub returns-else-places-eq0-clause-some : goal.returns-else-places-eq0-clause-some
returns-else-places-eq0-clause-some c =
    let text = c.args.text.now in
    let rest = c.read_digits-whole.result.1.now in
    let fraction = take (length rest - 1) (drop 1 rest) in
    let point : get_or rest 0 0 ≡ 46 = search rules in
    let behind = behind_point text rest c.read_digits-whole.ensures.rest c.in-46.len_at_least point in
    let all = lengths fraction in
    let left = ap length c.read_digits-significand.ensures.rest in
    let whole = c.read_digits-whole.ensures in
    let zeros = c.read_digits-significand.ensures.zeros (0 + length (digits_front text)) (whole.zeros 0 (omega (arith, c.zero.ensures.zeros))) in (
      parts (digits_front text) (digits_front fraction) (after_digits fraction),
      fraction_found text fraction behind (omega (arith, c.if-places-eq0.false, all, left)),
      record {
        digits = subst (IsRead c.read_digits-significand.result.0) (whole_first (digits_front text) (digits_front fraction)) (c.read_digits-significand.ensures.number _ (whole.number 0 c.zero.ensures.value));
        zeros = more_zeros _ _ (length (digits_front text) + length (digits_front fraction)) (omega arith) zeros;
        places = omega (arith, all, left);
        whole_short = omega (arith, lengths text);
        fraction_short = omega (arith, lengths text, all, ap length behind);
        rest = c.read_digits-significand.ensures.rest;
      },
    )

no_bytes : (rest : List ℕ) → length rest < 1 → get_or rest 0 0 ≢ 46
no_bytes rest h = λ e. absurd (omega (arith, sym (ap (λ (t : List ℕ). get_or t 0 0) (nil_from_length rest (omega arith))) ∙ e))

pub returns-then-rest-text-clause-none : goal.returns-then-rest-text-clause-none
returns-then-rest-text-clause-none c =
    let text = c.args.text.now in
    let rest = c.read_digits-whole.result.1.now in
    let other : get_or rest 0 0 ≢ 46 = elim c.in_default.branch [
      | in_default-via-then-rest-lt1 w ↦ no_bytes rest (search rules)
      | in_default-via-else-rest-lt1+in_default-1 w ↦ search rules
    ] in
    whole_missing text (subst (λ (t : List ℕ). get_or t 0 0 ≢ 46) c.read_digits-whole.ensures.rest other) (omega (arith, lengths text, c.if-rest-text.true, ap length c.read_digits-whole.ensures.rest))

pub returns-else-rest-text-clause-some : goal.returns-else-rest-text-clause-some
returns-else-rest-text-clause-some c =
    let text = c.args.text.now in
    let rest = c.read_digits-whole.result.1.now in
    let other : get_or rest 0 0 ≢ 46 = elim c.in_default.branch [
      | in_default-via-then-rest-lt1 w ↦ no_bytes rest (search rules)
      | in_default-via-else-rest-lt1+in_default-1 w ↦ search rules
    ] in
    let left = ap length c.read_digits-whole.ensures.rest in
    let same : 0 * 10 ^ length (digits_front text) + number (digits_front text) ≡ number (digits_front text ++ []) = omega (arith, ap number (append-nil (digits_front text))) in (
      parts (digits_front text) [] (after_digits text),
      whole_found text (subst (λ (t : List ℕ). get_or t 0 0 ≢ 46) c.read_digits-whole.ensures.rest other) (omega (arith, lengths text, left, c.if-rest-text.false)),
      record {
        digits = subst (IsRead c.read_digits-whole.result.0) same (c.read_digits-whole.ensures.number 0 c.zero.ensures.value);
        zeros = more_zeros _ _ (length (digits_front text) + 0) (omega arith) (c.read_digits-whole.ensures.zeros 0 (omega (arith, c.zero.ensures.zeros)));
        places = refl;
        whole_short = omega (arith, lengths text);
        fraction_short = omega arith;
        rest = c.read_digits-whole.ensures.rest;
      },
    )
