use Rattle.std.proofs.Common.{◌≡◌, ℕ, ◌<◌, List, ◌∷◌, ◌++◌, length, refl, ap, sym, ◌∙◌, subst, arith}
use Rattle.std.proofs.lemmas.Bool.Decides.{nat_tests}
use Rattle.ob_spelling.specs.Places.{minus}
use Rattle.ob_spelling.specs.Numeral.{capped}
use Rattle.ob_times.specs.SpanText.{IsClockPart, amount_at, after_amount}
use Rattle.ob_times.proofs.AmountLemmas.{front_amount}
use Rattle.ob_times.proofs.SpanLemmas.{span_read, same_front_of}
use Rattle.ob_times.proofs.reltime.split_span.Goals as goal

pub returns-in_default-split_clock-clause-none : goal.returns-in_default-split_clock-clause-none
returns-in_default-split_clock-clause-none c = λ p h.
    let body = c.in-Some.body.now in
    let same = same_front_of c.in-Some.negative p.negative body _ (sym c.in-Some.ensures.some ∙ h.text_is) in
    let r = span_read c.args.text.now body p h same.bodies in
    let rest = c.take-days.ensures.rest ∙ ap (after_amount 68) (c.take-months.ensures.rest ∙ ap (after_amount 77) (c.take-years.ensures.rest ∙ ap (after_amount 89) c.new.ensures.text)) in
    c.in_default-split_clock.ensures.none p.clock (subst (λ (t : List ℕ). IsClockPart t p.clock) (sym (rest ∙ r.rest)) h.is_clock)

pub returns-clause-some : goal.returns-clause-some
returns-clause-some c =
    let body = c.in-Some.body.now in
    let x = front_amount 89 body (omega arith) in
    let y = front_amount 77 (after_amount 89 body) (omega arith) in
    let z = front_amount 68 (after_amount 77 (after_amount 89 body)) (omega arith) in
    let clock = after_amount 68 (after_amount 77 (after_amount 89 body)) in
    let years = c.take-years.ensures.rest ∙ ap (after_amount 89) c.new.ensures.text in
    let months = c.take-months.ensures.rest ∙ ap (after_amount 77) years in
    let s = c.in-Some-split_clock.ensures.some in
    let some : 0 < length body = grind (arith, nat_tests) in
    let parts : body ≡ x.taken ++ (y.taken ++ (z.taken ++ clock)) =
    x.text_is ∙ ap (λ (t : List ℕ). x.taken ++ t) (y.text_is ∙ ap (λ (t : List ℕ). y.taken ++ t) z.text_is) in (
      record {
        negative = c.in-Some.negative;
        years = amount_at 89 body;
        months = amount_at 77 (after_amount 89 body);
        days = amount_at 68 (after_amount 77 (after_amount 89 body));
        clock = s.0;
      },
      record {
        years = x.taken;
        months = y.taken;
        days = z.taken;
        clock = clock;
        is_years = x.is_amount;
        is_months = y.is_amount;
        is_days = z.is_amount;
        is_clock = subst (λ (t : List ℕ). IsClockPart t s.0) (c.take-days.ensures.rest ∙ ap (after_amount 68) months) s.1;
        some = subst (λ (t : List ℕ). 0 < length t) parts some;
        text_is = c.in-Some.ensures.some ∙ ap (λ (t : List ℕ). minus c.in-Some.negative ++ 80 ∷ t) parts;
      },
      record {
        negative = refl;
        years = c.take-years.ensures.amount ∙ ap (λ (t : List ℕ). capped (amount_at 89 t)) c.new.ensures.text;
        months = c.take-months.ensures.amount ∙ ap (λ (t : List ℕ). capped (amount_at 77 t)) years;
        days = c.take-days.ensures.amount ∙ ap (λ (t : List ℕ). capped (amount_at 68 t)) months;
        clock = s.2;
      },
    )
