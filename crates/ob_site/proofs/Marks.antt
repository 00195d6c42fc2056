-- There is a stamp for each own object.
use Rattle.std.proofs.Common.{◌≡◌, ℕ, zero, suc, List, [], ◌∷◌, map, length, replicate, None, refl, sym, ap, ◌∙◌}
use Rattle.ob_object.specs.Object.{parts}
use Rattle.ob_tree.specs.Laid.{spots_of}
use Rattle.ob_tree.specs.LastTouch.{Begins, Touches, done, all_done}
use Rattle.ob_tree.specs.Trees.{Stamped}
use Rattle.ob_tree.proofs.StandsFor.{count_spots}
use Rattle.ob_tree.proofs.Touched.{length-stamped}
use Rattle.ob_site_state.specs.Stamping.{after_step}

long_touches : (ns : List ℕ) (t : Stamped) → length t.stamps ≡ parts t.root → length (all_done (map Touches ns) t).stamps ≡ parts t.root
long_touches [] t long = long
long_touches (n ∷ ns) t long =
    long_touches ns (done (Touches n) t)
    (length-stamped n t.steps 0 (spots_of 0 None t.root) t.stamps (long ∙ sym (count_spots t.root (spots_of 0 None t.root) refl)) ∙ long)

-- and so after one more step
pub long_after : (ns : List ℕ) (t : Stamped) → length t.stamps ≡ parts t.root → length (after_step ns t).stamps ≡ parts t.root
long_after ns t long = long_touches ns (done Begins t) long

pub long_same : (n x : ℕ) → length (replicate n x) ≡ n
long_same zero x = refl
long_same (suc n) x = ap suc (long_same n x)
