-- What is told of the nodes outside the contracts by their paths.
use Rattle.std.specs.Prelude.{◌≡◌, ℕ, Bool, cond, List, Option, Some, None, is_some, option_map}
use Rattle.std.specs.Ordering.{nat_cmp}
use Rattle.std.specs.Cmp.Lexicographic.{slice_cmp}
use Rattle.std.specs.BTreeMap.{BTreeMap, get}
use Rattle.std.specs.BTreeSet.{BTreeSet, contains}
use Rattle.ob_object.specs.declared.kind.Kind.{Kind}
use Rattle.ob_object.specs.Kinds.{has_values}
use Rattle.ob_site_rules.specs.Build.{Path}
use Rattle.ob_site_rules.specs.Loading.{Part, node_there, is_number_kind}
use Rattle.ob_site_file.specs.declared.nodes.Nodes.{Nodes}

-- whether a path is among these
abbrev pub has_path : BTreeSet (List ℕ) → Path → Bool
has_path paths p = contains (slice_cmp nat_cmp) paths p

-- the kind under a path
abbrev pub kind_under : BTreeMap (List ℕ) Kind → Path → Option Kind
kind_under kinds p = get (slice_cmp nat_cmp) kinds p

-- the kind that was there, or else this one, if it is asked for
abbrev pub or_this : Option Kind → Bool → Kind → Option Kind
or_this None asked k = cond asked (Some k) None
or_this (Some l) asked k = Some l

-- Of the nodes among these parts outside the contracts, the paths of those with values, and at each path the kind of the first one
-- with a number, as a source asks for them.
pub record Sees (nodes : Nodes) (ps : List Part) : Type 0 where
  pub values : (p : Path) → has_path nodes.values p ≡ is_some (node_there has_values ps p)
  pub numbers : (p : Path) → kind_under nodes.numbers p ≡ option_map (λ o. o.head.kind) (node_there is_number_kind ps p)
