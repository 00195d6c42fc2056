use Rattle.std.proofs.Common.{◌≡◌, ℕ, ◌-◌, ◌<◌, List, ◌∷◌, ◌++◌, length, take, drop, get_or, refl, ap, sym, ◌∙◌, subst, arith, rules, inl, inr}
use Rattle.std.proofs.lemmas.Bool.Decides.{nat_tests}
use Rattle.std.proofs.lemmas.List.{take_rest, nil_from_length}
use Rattle.ob_spelling.proofs.FrontLemmas.{head_and_tail}
use Rattle.ob_spelling.specs.Numeral.{capped}
use Rattle.ob_times.specs.SpanText.{IsSeconds, amount_at, after_amount}
use Rattle.ob_times.proofs.AmountLemmas.{front_amount}
use Rattle.ob_times.proofs.SpanLemmas.{clock_read}
use Rattle.ob_times.proofs.reltime.split_clock.Goals as goal

pub returns-in-empty-clause-some : goal.returns-in-empty-clause-some
returns-in-empty-clause-some c = (
  record { hours = 0; minutes = 0; seconds = 0; nanos = 0 },
  inl (nil_from_length _ (omega arith), refl),
  record { hours = refl; minutes = refl; seconds = refl; nanos = refl; nanos_below = omega arith },
)

pub returns-in_default-seconds-clause-none : goal.returns-in_default-seconds-clause-none
returns-in_default-seconds-clause-none c = λ p h.
    let rest = c.take-minutes.ensures.rest ∙ ap (after_amount 77) (c.take-hours.ensures.rest ∙ ap (after_amount 72) (c.new.ensures.text ∙ take_rest c.args.text.now 1)) in
    elim h [
      | inl empty ↦ absurd (omega (arith, ap length empty.0, c.in-84.len_at_least))
      | inr some ↦
          let r = clock_read c.args.text.now p some in
          c.in_default-seconds.ensures.none p.seconds p.nanos (subst (λ (t : List ℕ). IsSeconds t p.seconds p.nanos) (sym (rest ∙ r.rest)) some.is_seconds)
    ]

pub returns-clause-some : goal.returns-clause-some
returns-clause-some c =
    let text = c.args.text.now in
    let body = drop 1 text in
    let tail = take_rest text 1 in
    let cut = c.new.ensures.text ∙ tail in
    let front = c.take-hours.ensures.rest ∙ ap (after_amount 72) cut in
    let a = front_amount 72 body (omega arith) in
    let b = front_amount 77 (after_amount 72 body) (omega arith) in
    let s = c.in-Some.ensures.some in
    let first : get_or text 0 0 ≡ 84 = search rules in
    let some : 0 < length (take (length text - 1) (drop 1 text)) = grind (arith, nat_tests) in
    let long : 0 < length body = subst (λ (t : List ℕ). 0 < length t) tail some in
    let parts : body ≡ a.taken ++ (b.taken ++ after_amount 77 (after_amount 72 body)) = a.text_is ∙ ap (λ (t : List ℕ). a.taken ++ t) b.text_is in (
      record { hours = amount_at 72 body; minutes = amount_at 77 (after_amount 72 body); seconds = s.0; nanos = c.in-Some.nanos },
      inr (record {
        hours = a.taken;
        minutes = b.taken;
        seconds = after_amount 77 (after_amount 72 body);
        is_hours = a.is_amount;
        is_minutes = b.is_amount;
        is_seconds = subst (λ (t : List ℕ). IsSeconds t s.0 c.in-Some.nanos) (c.take-minutes.ensures.rest ∙ ap (after_amount 77) front) s.1;
        some = subst (λ (t : List ℕ). 0 < length t) parts long;
        text_is = head_and_tail text c.in-84.len_at_least ∙ ap (λ (d : ℕ). d ∷ body) first ∙ ap (λ (t : List ℕ). 84 ∷ t) parts;
      }),
      record {
        hours = c.take-hours.ensures.amount ∙ ap (λ (t : List ℕ). capped (amount_at 72 t)) cut;
        minutes = c.take-minutes.ensures.amount ∙ ap (λ (t : List ℕ). capped (amount_at 77 t)) front;
        seconds = s.2;
        nanos = refl;
        nanos_below = c.in-Some.ensures.small;
      },
    )
