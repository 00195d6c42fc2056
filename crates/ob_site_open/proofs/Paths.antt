-- Paths that are apart, as a tree asks for them.
use Rattle.std.proofs.Common.{◌≡◌, ℕ, Bool, true, false, cond, ◌||◌, bytes_eq, List, [], ◌∷◌, ◌++◌, Option, Some, None, option_map, suc, refl, sym, ap, ap₂, ◌∙◌, append_assoc, subst, true≢false}
use Rattle.std.specs.Prelude.{is_some}
use Rattle.std.proofs.lemmas.List.{map-append}
use Rattle.std.proofs.lemmas.Slice.Eq.{bytes_eq-Decides}
use Rattle.ob_values.proofs.Bools.{or_true, or_false}
use Rattle.ob_values.proofs.Lists.{bytes_itself}
use Rattle.ob_object.specs.Object.{Objects, none, node, Object}
use Rattle.ob_object.specs.Paths.{node_path}
use Rattle.ob_site_rules.specs.Build.{Path}
use Rattle.ob_site_rules.specs.State.{is_among}
use Rattle.ob_site_rules.specs.Loading.{listed_path, row_of}
use Rattle.ob_tree.specs.Laid.{heads, paths}
use Rattle.ob_tree.specs.Paths.{place_of, first_twice}
use Rattle.ob_shown_laws.proofs.Places.{row_paths as tree_paths, paths_by_row, has, has-append}
use Rattle.ob_step_laws.specs.Laws.{Apart, row_paths}

-- the paths that are there
abbrev listed : List (Option Path) → List Path
listed [] = []
listed (q ∷ qs) = listed_path q ++ listed qs

listed-append : (xs ys : List (Option Path)) → listed (xs ++ ys) ≡ listed xs ++ listed ys
listed-append [] ys = refl
listed-append (x ∷ xs) ys = ap (λ l. listed_path x ++ l) (listed-append xs ys) ∙ sym (append_assoc (listed_path x) (listed xs) (listed ys))

listed_row : (r : Objects) → listed (tree_paths r) ≡ row_paths r
listed_row none = refl
listed_row (node h inner rest) =
    ap (λ l. listed_path (node_path h) ++ l)
    (ap listed (map-append node_path (heads inner) (heads rest))
    ∙ listed-append (tree_paths inner) (tree_paths rest)
    ∙ ap₂ (λ a b. a ++ b) (listed_row inner) (listed_row rest))

-- a path that none of the others is
other : (p q : Path) (qs : List Path) → is_among q qs ≡ false → is_among p qs ≡ true → bytes_eq q p ≡ false
other p q qs out there = go (bytes_eq q p) refl
  where
    go : (b : Bool) → bytes_eq q p ≡ b → bytes_eq q p ≡ false
    go false e = e
    go true e = absurd (true≢false (sym there ∙ ap (λ (x : Path). is_among x qs) (sym ((bytes_eq-Decides q p).0 e)) ∙ out))

-- none of these paths is among those before
abbrev NotBefore : List (Option Path) → List Path → Type 0
NotBefore before ps = (p : Path) → is_among p ps ≡ true → has p before ≡ false

none_twice : (before qs : List (Option Path)) → Apart (listed qs) → NotBefore before (listed qs) → first_twice before qs ≡ None
none_twice before [] a out = refl
none_twice before (None ∷ qs) a out =
    none_twice (before ++ None ∷ []) qs a (λ p h. has-append p before (None ∷ []) ∙ or_false (has p before) ∙ out p h)
none_twice before (Some q ∷ qs) a out =
    ap (λ b. cond b (Some q) (first_twice (before ++ Some q ∷ []) qs)) (out q (ap (λ b. b || is_among q (listed qs)) (bytes_itself q)))
    ∙ none_twice (before ++ Some q ∷ []) qs a.1 (λ p h.
    has-append p before (Some q ∷ [])
    ∙ ap₂ (λ x y. x || y) (out p (ap (λ b. bytes_eq q p || b) h ∙ or_true (bytes_eq q p))) (ap (λ b. let o : Option ℕ = cond b (Some 0) None in is_some o) (other p q (listed qs) a.0 h)))

-- the place of a path that is there
some_if : (b : Bool) (o : Option ℕ) → is_some (cond b (Some 0) (option_map suc o)) ≡ (b || is_some o)
some_if true o = refl
some_if false None = refl
some_if false (Some n) = refl

listed_has : (p : Path) (qs : List (Option Path)) → is_some (place_of p qs) ≡ is_among p (listed qs)
listed_has p [] = refl
listed_has p (None ∷ qs) = some_if false (place_of p qs) ∙ listed_has p qs
listed_has p (Some q ∷ qs) = some_if (bytes_eq q p) (place_of p qs) ∙ ap (λ b. bytes_eq q p || b) (listed_has p qs)

pub has_place : (p : Path) (o : Object) → is_among p (row_paths (row_of o)) ≡ true → is_some (place_of p (paths o)) ≡ true
has_place p o h =
    ap (λ qs. is_some (place_of p qs)) (paths_by_row o) ∙ listed_has p (tree_paths (row_of o)) ∙ ap (is_among p) (listed_row (row_of o)) ∙ h

-- of a tree whose paths are apart none stands twice
pub tree_differs : (o : Object) → Apart (row_paths (row_of o)) → first_twice [] (paths o) ≡ None
tree_differs o a =
    ap (first_twice []) (paths_by_row o)
    ∙ none_twice [] (tree_paths (row_of o)) (subst Apart (sym (listed_row (row_of o))) a) (λ p h. refl)
