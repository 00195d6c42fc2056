-- What a function returned is what was to come, unless memory ran out.
use Rattle.std.specs.Prelude.{◌≡◌, Result, Ok, Err}
use Rattle.ob_xml.specs.declared.refused.Why.{Why}
use Rattle.ob_xml.specs.declared.refused.Why.TheVariants.{Memory}

abbrev pub Fails : {Y : Type 0} → Why → Result Y Why → Type 0
Fails {Y} Memory r = Unit {0}
Fails {Y} why r = r ≡ Err why

abbrev pub Gives : {X Y : Type 0} → (X → Y) → Result X Why → Result Y Why → Type 0
Gives view (Ok x) r = r ≡ Ok (view x)
Gives view (Err why) r = Fails why r
