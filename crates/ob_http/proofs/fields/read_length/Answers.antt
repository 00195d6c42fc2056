use Rattle.std.proofs.Common.{◌-◌, ◌∙◌, sym, arith, get_or}
use Rattle.ob_http.proofs.NumberLemmas.{digit_fits, number_fits, list_all_more, digit_range, number_more}
use Rattle.ob_http.proofs.fields.read_length.Goals as goal

pub overflow_mul-number : goal.overflow_mul-number
overflow_mul-number c =
    let d = digit_fits c.loop-digit.number 0 c.loop-digit.digit-index c.loop-digit.invariant.bound (omega arith) (omega arith) in
    omega arith

pub overflow_add-number : goal.overflow_add-number
overflow_add-number c =
    let d = digit_fits c.loop-digit.number (get_or c.args.value.now c.loop-digit.digit-index 0 - 48) c.loop-digit.digit-index c.loop-digit.invariant.bound (let range = digit_range (get_or c.args.value.now c.loop-digit.digit-index 0) (sym c.is_ascii_digit.ensures.value ∙ c.if-not-is_ascii_digit.false) in omega arith) (omega arith) in
    omega arith

pub loop-digit-preserved : goal.loop-digit-preserved
loop-digit-preserved c = record {
  value = number_more c.args.value.now _ _ c.loop-digit-test.true c.loop-digit.invariant.value (sym c.is_ascii_digit.ensures.value ∙ c.if-not-is_ascii_digit.false);
  digits = list_all_more _ c.args.value.now c.loop-digit.digit-index c.loop-digit-test.true c.loop-digit.invariant.digits (sym c.is_ascii_digit.ensures.value ∙ c.if-not-is_ascii_digit.false);
  bound = (digit_fits c.loop-digit.number (get_or c.args.value.now c.loop-digit.digit-index 0 - 48) c.loop-digit.digit-index c.loop-digit.invariant.bound (let range = digit_range (get_or c.args.value.now c.loop-digit.digit-index 0) (sym c.is_ascii_digit.ensures.value ∙ c.if-not-is_ascii_digit.false) in omega arith) (omega arith)).0;
}

pub returns-clause-small : goal.returns-clause-small
returns-clause-small c = number_fits c.loop-digit.number c.loop-digit.digit-index c.loop-digit.invariant.bound (omega arith)
