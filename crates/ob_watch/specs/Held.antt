-- What contracts see of the maps that hold items and watches.
use Rattle.std.specs.Prelude.{◌≡◌, ℕ, ◌<◌, List, map, nat_eq, string_bytes, String}
use Rattle.std.specs.declared.alloc.Global.{Global}
use Rattle.std.specs.List.{AllByRecursion, IsDistinct}
use Rattle.std.specs.Map.{keys_of}
use Rattle.ob_watch.specs.declared.item.Item.{Item}

-- items under the texts of their hrefs
abbrev pub Entries : Type 0
Entries = List (String Global × Item)

abbrev pub items_of : Entries → List Item
items_of es = map (λ e. e.1) es

-- each item stands under its own href
abbrev pub StandUnderOwn : Entries → Type 0
StandUnderOwn es = AllByRecursion (λ e. e.1.text ≡ string_bytes e.0) es

-- each number is below this one
abbrev pub AreBelow : {A : Type 0} → ℕ → List (ℕ × A) → Type 0
AreBelow next es = AllByRecursion (λ e. e.0 < next) es

-- the numbers differ, and each is below the next one
pub record AreNumbered {A : Type 0} (next : ℕ) (es : List (ℕ × A)) : Type 0 where
  pub differ : IsDistinct nat_eq (keys_of es)
  pub below : AreBelow next es
