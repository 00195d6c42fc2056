-- Numbers of parts.
use Rattle.std.specs.Prelude.{◌+◌, ◌<◌, ◌^◌, List, [], ◌∷◌}
use Rattle.ob_object.specs.Object.{parts}
use Rattle.ob_site_rules.specs.Loading.{Part}

-- the number of a part, and those of what is in it, fit 64 bits
abbrev pub IsNumbered : Part → Type 0
IsNumbered p = p.number + parts p.own < 2 ^ 64

-- those of all parts do
abbrev pub AreNumbered : List Part → Type 0
AreNumbered [] = Unit {0}
AreNumbered (p ∷ ps) = IsNumbered p × AreNumbered ps
