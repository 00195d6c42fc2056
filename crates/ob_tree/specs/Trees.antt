-- What a `Tree` stands for.
use Rattle.std.specs.Prelude.{◌≡◌, ℕ, List, [], length, Some, None, String, refl}
use Rattle.std.specs.Coded.{Coded, code_by, coded×, coded_ℕ, coded_list}
use Rattle.std.specs.BTreeMap.{BTreeMap, get_by_text}
use Rattle.ob_object.specs.declared.head.Head.{Head}
use Rattle.ob_object.specs.Object.{Object, parts}
use Rattle.ob_object.specs.WellFormed.{IsWellFormed}
use Rattle.ob_tree.specs.declared.spot.Spot.{Spot}
use Rattle.ob_tree.specs.declared.fault.TreeFault.{TreeFault}
use Rattle.ob_tree.specs.declared.fault.TreeFault.TheVariants.{PathTwice, Memory}
use Rattle.ob_tree.specs.Paths.{Path, place_of, first_twice}
use Rattle.ob_tree.specs.Laid.{heads_of, spots_of, object_of, said, AreLeaves, paths}

-- the root with all that is in it; the stamp of each object, in document order; and the number of steps
pub record Stamped : Type 0 where
  pub root : Object
  pub stamps : List ℕ
  pub steps : ℕ

abbrev pub stamped_code : Coded Object → Coded Stamped
stamped_code object =
    code_by (Object × (List ℕ × ℕ)) (coded× object (coded× (coded_list coded_ℕ) coded_ℕ)) (λ t. (t.root, (t.stamps, t.steps))) (λ p. record { root = p.0; stamps = p.1.0; steps = p.1.1 }) (λ _. refl)

-- Heads, spots, stamps and an index are those of an object: all in document order, each path found, and no two nodes of
-- one path.
pub record IsLaid {Y : Type 0} (o : Object) (hs : List Head) (ss : List Spot) (stamps : List ℕ) (index : BTreeMap (String Y) ℕ) : Type 0 where
  pub heads_are : hs ≡ heads_of o
  pub spots_are : ss ≡ spots_of 0 None o
  pub stamped : length stamps ≡ parts o
  pub found : (p : Path) → get_by_text index p ≡ place_of p (paths o)
  pub differ : first_twice [] (paths o) ≡ None
  pub well_formed : IsWellFormed o

-- Objects without children, spots, stamps and an index are those of an object that is laid out.
pub record IsArena {Y : Type 0} (os : List Object) (ss : List Spot) (stamps : List ℕ) (index : BTreeMap (String Y) ℕ) : Type 0 where
  pub leaves : AreLeaves os
  pub laid : IsLaid (object_of (said os) ss) (said os) ss stamps index

-- why the tree of an object was not built
abbrev pub IsUnbuilt : Object → TreeFault → Type 0
IsUnbuilt o (PathTwice path) = first_twice [] (paths o) ≡ Some path
IsUnbuilt o Memory = Unit {0}
