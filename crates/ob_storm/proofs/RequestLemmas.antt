-- What a client watches.
use Rattle.std.proofs.Common.{arith, ◌≡◌, ◌+◌, ◌%◌, ℕ, zero, suc, true, List, [], ◌∷◌, ◌++◌, refl, ap, ◌∙◌, sym, map, append_assoc}
use Rattle.std.specs.Prelude.{is_none}
use Rattle.std.specs.List.{list_all}
use Rattle.ob_object.specs.Object.{Object}
use Rattle.ob_site_rules.specs.Build.{Text}
use Rattle.ob_storm.specs.Requests.{point, points_from, uri_of}

-- the point behind the first so many
points_behind : (k n : ℕ) → points_from k (suc n) ≡ points_from k n ++ point ((k + n) % 100) ∷ []
points_behind k zero = ap (λ (m : ℕ). point (m % 100) ∷ []) (let e : k ≡ k + 0 = omega arith in e)
points_behind k (suc n) =
    ap (λ (ps : List Text). point (k % 100) ∷ ps)
    (points_behind (k + 1) n ∙ ap (λ (m : ℕ). points_from (k + 1) n ++ point (m % 100) ∷ []) (let e : k + 1 + n ≡ k + suc n = omega arith in e))

map_append : (xs ys : List Text) → map uri_of (xs ++ ys) ≡ map uri_of xs ++ map uri_of ys
map_append [] ys = refl
map_append (x ∷ xs) ys = ap (λ (os : List Object). uri_of x ∷ os) (map_append xs ys)

-- one more of them is put behind others
pub one_more_point : (os : List Object) (k n : ℕ) → (os ++ map uri_of (points_from k n)) ++ uri_of (point ((k + n) % 100)) ∷ [] ≡ os ++ map uri_of (points_from k (n + 1))
one_more_point os k n =
    append_assoc os (map uri_of (points_from k n)) (uri_of (point ((k + n) % 100)) ∷ [])
    ∙ ap (λ (more : List Object). os ++ more)
    (sym (map_append (points_from k n) (point ((k + n) % 100) ∷ [])) ∙ ap (λ (ts : List Text). map uri_of ts) (sym (points_behind k n) ∙ ap (points_from k) (let e : suc n ≡ n + 1 = omega arith in e)))

-- uris have no names
pub uris_nameless : (ts : List Text) → list_all (λ o. is_none o.head.name) (map uri_of ts) ≡ true
uris_nameless [] = refl
uris_nameless (t ∷ ts) = uris_nameless ts
