use Rattle.std.proofs.Common.{ℕ, List, ap, sym, ◌∙◌, arith}
use Rattle.std.proofs.lemmas.List.{drop_all}
use Rattle.ob_spelling.specs.Numeral.{number, capped}
use Rattle.ob_spelling.proofs.NumberLemmas.{number_more}
use Rattle.ob_spelling.proofs.DigitsLemmas.{counts_more, stops_at, stops_at_end}
use Rattle.ob_spelling.proofs.numeral.split_number.Goals as goal

pub returns-then-not-is_ascii_digit-clause-number :
    goal.returns-then-not-is_ascii_digit-clause-number
returns-then-not-is_ascii_digit-clause-number c =
    let s = stops_at c.args.text.now c.loop-len.len c.loop-len-test.true (sym c.is_ascii_digit.ensures.value ∙ c.if-not-is_ascii_digit.true) c.loop-len.invariant.digits c.loop-len.invariant.rest in
    c.loop-len.invariant.all ∙ ap (λ (t : List ℕ). capped (number t)) s.digits

pub returns-then-not-is_ascii_digit-clause-rest : goal.returns-then-not-is_ascii_digit-clause-rest
returns-then-not-is_ascii_digit-clause-rest c =
    let s = stops_at c.args.text.now c.loop-len.len c.loop-len-test.true (sym c.is_ascii_digit.ensures.value ∙ c.if-not-is_ascii_digit.true) c.loop-len.invariant.digits c.loop-len.invariant.rest in
    c.split_at.ensures.back ∙ s.rest

pub loop-len-preserved : goal.loop-len-preserved
loop-len-preserved c =
    let more = counts_more c.args.text.now c.loop-len.len c.loop-len-test.true (sym c.is_ascii_digit.ensures.value ∙ c.if-not-is_ascii_digit.false) c.loop-len.invariant.digits c.loop-len.invariant.rest in
    let e = number_more 0 c.args.text.now c.loop-len.len c.loop-len-test.true in
    record {
      digits = more.digits;
      rest = more.rest;
      all = omega (arith, e, c.with_digit-all.ensures _ c.loop-len.invariant.all);
    }

pub returns-clause-number : goal.returns-clause-number
returns-clause-number c =
    let s = stops_at_end c.args.text.now c.loop-len.len c.loop-len-test.false c.loop-len.invariant.digits c.loop-len.invariant.rest in
    c.loop-len.invariant.all ∙ ap (λ (t : List ℕ). capped (number t)) s.digits

pub returns-clause-rest : goal.returns-clause-rest
returns-clause-rest c =
    let s = stops_at_end c.args.text.now c.loop-len.len c.loop-len-test.false c.loop-len.invariant.digits c.loop-len.invariant.rest in
    sym (drop_all c.loop-len.len c.args.text.now c.loop-len-test.false) ∙ s.rest
