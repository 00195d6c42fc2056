-- A document has at most 32 levels.
use Rattle.std.proofs.Common.{ℕ, suc, ◌+◌, ◌≤◌, List, Option, arith}
use Rattle.ob_object.specs.Object.{Objects, none, node, Object}
use Rattle.ob_documents.specs.Carried.{IsRowCarried, IsCarried}
use Rattle.ob_site.specs.Between.{IsShallow}
use Rattle.ob_tree.specs.Depths.{levels}

-- what stands in so many others
carried_levels : (level : ℕ) (r : Objects) → level ≤ 32 → IsRowCarried level r → level + levels r ≤ 32
carried_levels level none le c = omega (arith, le)
carried_levels level (node h below rest) le c =
    omega (arith, carried_levels (suc level) below (omega (arith, c.0)) c.2, carried_levels level rest le c.3)

pub carried_shallow : (ns : Option (List ℕ)) (o : Object) → IsCarried ns o → IsShallow o
carried_shallow ns o c = omega (arith, carried_levels 1 o.inner (omega arith) c.row)
