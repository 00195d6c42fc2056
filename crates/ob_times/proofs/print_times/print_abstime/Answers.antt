use Rattle.std.proofs.Common.{◌≡◌, ℕ, ◌∷◌, ◌++◌, ap, sym, ◌∙◌, arith, rules, FitsSigned, w16}
use mir.Val.{to_z, of_z}
use Rattle.std.specs.Prelude.{ℤ}
use Rattle.std.proofs.lemmas.Int.{ints, to_z-of_z}
use Rattle.ob_times.specs.Times.{Instant}
use Rattle.ob_times.specs.PrintedTimes.{civil_text, time_text, zone_text}
use Rattle.ob_times.proofs.PrintedTimesLemmas.{ShowsInstant, instant_spelled, instant_text-parts}
use Rattle.ob_times.proofs.print_times.print_abstime.Goals as goal

same_nanos : (c : goal.After-print_local) → c.parts-nanos.result.1 ≡ c.args.instant.now.nanos
same_nanos c = ap (λ (i : Instant). i.nanos) (sym c.parts-nanos.ensures.value)

same_offset : (c : goal.After-print_local) → c.parts-nanos.result.2 ≡ c.args.instant.now.offset
same_offset c = ap (λ (i : Instant). i.offset) (sym c.parts-nanos.ensures.value)

fits : (c : goal.After-print_local) → FitsSigned w16 c.parts-nanos.result.2
fits c = search rules

abbrev printed : (c : goal.After-print_local) → ShowsInstant c.args.instant.now c.print_local.result.bytes
printed c =
    let a = c.args.instant.now in
    let date = c.local-date.result.0 in
    let second = c.local-date.result.1 in
    record {
      date = date;
      second = second;
      second_below = c.local-date.ensures.second;
      instant = c.local-date.ensures.instant;
      text_is =
          c.print_local.ensures.bytes
          ∙ ap (λ (n : ℕ). civil_text date ++ 84 ∷ (time_text second n ++ zone_text (to_z w16 (of_z w16 c.parts-nanos.result.2)))) (same_nanos c)
          ∙ ap (λ (o : ℤ). civil_text date ++ 84 ∷ (time_text second a.nanos ++ zone_text o)) (to_z-of_z w16 c.parts-nanos.result.2 (fits c) ∙ same_offset c);
    }

pub returns-clause-printed : goal.returns-clause-printed
returns-clause-printed c =
    (printed c).text_is
    ∙ instant_text-parts c.args.instant.now c.local-date.result.0 c.local-date.result.1 c.print_local.ensures.since_year_1 c.local-date.ensures.day c.local-date.ensures.of_day

pub returns-clause-spelled : goal.returns-clause-spelled
returns-clause-spelled c =
    let r = c.parts-nanos.ensures.range in
    let n = same_nanos c in
    let o = same_offset c in
    let below = r.nanos_below in
    let low = r.offset_low in
    let high = r.offset_high in
    instant_spelled c.args.instant.now c.print_local.result.bytes (printed c) c.print_local.ensures.since_year_1 (omega arith) (omega (arith, ints))
