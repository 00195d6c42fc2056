-- When a site is opened with one log more.
use Rattle.std.proofs.Common.{◌≡◌, ℕ, List, [], ◌∷◌, ◌++◌, map, max, refl}
use Rattle.ob_site_rules.specs.Build.{Path}
use Rattle.ob_site_rules.specs.State.{Log}
use Rattle.ob_site_rules.specs.Loading.{greatest}
use Rattle.ob_step_laws.specs.Ordered.{moment_from, opening_time}

greatest-append : (n : ℕ) (xs ys : List ℕ) → greatest n (xs ++ ys) ≡ greatest (greatest n xs) ys
greatest-append n [] ys = refl
greatest-append n (x ∷ xs) ys = greatest-append (max n x) xs ys

pub opens_later : (n : ℕ) (l : Path × Log) (ls : List (Path × Log))
    → opening_time n (l ∷ ls) ≡ opening_time (greatest n (map (λ r. moment_from r.time) l.1.kept)) ls
opens_later n l ls = greatest-append n (map (λ r. moment_from r.time) l.1.kept) _
