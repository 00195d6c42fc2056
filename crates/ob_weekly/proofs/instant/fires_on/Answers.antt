use Rattle.std.proofs.Common.{arith, ap, sym, subst, ◌∙◌, ◌≡◌, ◌+◌, to_z, of_z, w64}
use Rattle.std.proofs.lemmas.Int.{ints}
use Rattle.jiff.specs.Words.{plain_zone}
use Rattle.jiff_core.specs.Calendar.{weekday_number}
use Rattle.ob_weekly.specs.Search.{FiresOn}
use Rattle.ob_weekly.proofs.instant.fires_on.Goals as goal

pub returns : goal.returns
returns c =
    let s = c.instant.ensures.some in
    let the_day : to_z w64 (of_z w64 c.args.day) ≡ c.args.day = omega (arith, ints, c.requires.day) in
    let same : to_z w64 (of_z w64 c.instant.result) ≡ c.instant.result = omega (arith, ints) in
    subst (FiresOn (plain_zone c.args.zone.now) c.args.entry.now c.args.day) (sym same) (record {
      civil = s.0;
      date = s.1 ∙ the_day;
      weekday = ap (λ d. weekday_number d + 1) (s.1 ∙ the_day) ∙ c.requires.weekday;
      time = s.2;
      instant = c.instant.ensures.value s.0 s.1 s.2;
    })
