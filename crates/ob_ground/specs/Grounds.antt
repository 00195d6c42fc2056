-- What a `Ground` and a `Told` stand for.
use Rattle.std.specs.Prelude.{ℕ, List, Option, option_map, option_and_then, refl}
use Rattle.std.specs.Coded.{Coded, code_by, coded×, coded_ℕ, coded_list, coded_option}
use Rattle.std.specs.Ordering.{nat_cmp}
use Rattle.std.specs.BTreeMap.{is_at}
use Rattle.std.specs.Map.{lookup}
use Rattle.ob_object.specs.Object.{Object}
use Rattle.ob_contracts.specs.Inherit.{Contracts}
use Rattle.ob_contracts.specs.Tellers.{Telling, telling_code}
use Rattle.ob_tree.specs.declared.instead.Instead.{Instead}
use Rattle.ob_tree.specs.Contexts.{Context, handed_down, under}
use Rattle.ob_tree.specs.Laid.{head_at, leaf}
use Rattle.ob_tree.specs.Shown.{effective_in, handed_at, standing_at}
use Rattle.ob_tree.specs.Told.{AreToldBy}
use Rattle.ob_tree.specs.Trees.{Stamped}

-- a library, and a tree with its stamps
pub record Grounded : Type 0 where
  pub library : Contracts
  pub tree : Stamped

-- a library, and by the numbers of objects the words that are looked up in place of their own, and of those that they give
pub record Taught : Type 0 where
  pub library : Contracts
  pub words : List (ℕ × Instead)

-- the words for the object of a number
abbrev pub words_at : Taught → ℕ → Option Instead
words_at t n = lookup (is_at (nat_cmp n)) t.words

-- all of them stand for those of the objects of a root, and for those that these give to their children where they stand
unfoldable pub WordsStand : Object → Taught → Type 0
WordsStand root t = AreToldBy t.library root (words_at t)

-- where a child of a name stands, or would stand, in the object of a number
abbrev pub inside_at : Contracts → ℕ → Option (List ℕ) → Object → Option Context
inside_at lib n name o = option_and_then (λ h. option_map (λ c. under (handed_down c h) name) (standing_at lib n o)) (head_at n o)

-- what the object of a number comes to where it stands, but for its own children
abbrev pub alone_at : Contracts → ℕ → Object → Option Object
alone_at lib n o = option_map (effective_in (handed_at lib n o)) (option_map leaf (head_at n o))

abbrev pub grounded_code : Coded Contracts → Coded Stamped → Coded Grounded
grounded_code library tree = code_by (Contracts × Stamped) (coded× library tree) (λ g. (g.library, g.tree)) (λ p. record { library = p.0; tree = p.1 }) (λ _. refl)

abbrev pub instead_code : Coded Instead
instead_code = code_by (Option Telling × Option Telling) (coded× (coded_option telling_code) (coded_option telling_code)) (λ i. (i.is, i.items)) (λ p. record { is = p.0; items = p.1 }) (λ _. refl)

abbrev pub told_code : Coded (List (ℕ × Instead))
told_code = coded_list (coded× coded_ℕ instead_code)

abbrev pub taught_code : Coded Contracts → Coded Taught
taught_code library = code_by (Contracts × List (ℕ × Instead)) (coded× library told_code) (λ t. (t.library, t.words)) (λ p. record { library = p.0; words = p.1 }) (λ _. refl)
