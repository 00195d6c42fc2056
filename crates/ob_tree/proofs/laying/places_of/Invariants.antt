use Rattle.std.proofs.Common.{◌≡◌, List, [], ℕ, map, take, drop}
use Rattle.std.specs.BTreeMap.{get_by_text}
use Rattle.ob_object.specs.Paths.{node_path}
use Rattle.ob_tree.specs.Paths.{place_of, first_twice}
use Rattle.ob_tree.specs.Laid.{said}
use Rattle.ob_tree.proofs.laying.places_of.Given as goal

abbrev pub invariant-loop-place : goal.invariant-loop-place
invariant-loop-place l = record {
  found : (p : List ℕ) → get_by_text l.places p ≡ place_of p (map node_path (take l.place (said l.leaves)));
  rest : first_twice (map node_path (take l.place (said l.leaves))) (map node_path (drop l.place (said l.leaves))) ≡ first_twice [] (map node_path (said l.leaves));
}
