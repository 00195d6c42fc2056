-- Twins that come back.
use Rattle.std.proofs.Common.{◌≡◌, ℕ, nat_lt, Bool, true, false, cond, List, [], ◌∷◌, ◌++◌, map, Option, Some, None, refl, ap, ◌∙◌}
use Rattle.std.proofs.lemmas.Bool.{cond-true}
use Rattle.std.proofs.lemmas.List.{map-append}
use Rattle.ob_io.specs.Ticks.{told_ticks}
use Rattle.ob_io.specs.Twins.{Twin, GainsTwin}
use Rattle.ob_io.specs.ClockMemory.{twin_of}
use Rattle.ob_io.specs.declared.mem_clock.Returned.{Returned}

-- a clock that tells no twins says nothing of this one
pub untold : (given : Option (List ℕ)) (twins : Option (List Twin)) (faults : ℕ) → GainsTwin twins None given faults
untold given twins faults = (record { faults = 0; moments = [] }, tt, λ some. absurd (let no : false ≡ true = some in cc))

-- a twin that was kept is the last of those that are told
pub kept : (t : Bool) (rs rs' : List Returned) (r : Returned) → rs' ≡ rs ++ r ∷ [] → nat_lt r.ticker.k 18446744073709551615 ≡ true
    → GainsTwin (cond t (Some (map twin_of rs)) None) (cond t (Some (map twin_of rs')) None) (told_ticks r.ticker.at r.ticker.tick r.ticker.k) r.faults
kept false rs rs' r back few = untold (told_ticks r.ticker.at r.ticker.tick r.ticker.k) None r.faults
kept true rs rs' r back few = (
  twin_of r,
  ap (map twin_of) back ∙ map-append twin_of rs (r ∷ []),
  λ some. record {
    faults_are = refl;
    moments_are = cond-true _ _ _ few;
  },
)
