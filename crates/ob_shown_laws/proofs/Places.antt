-- Nodes by their places in document order.
use Rattle.std.proofs.Common.{ℕ, ◌≡◌, suc, ◌+◌, Bool, true, false, ◌||◌, cond, List, [], ◌∷◌, ◌++◌, map, length, Option, Some, None, option_map, refl, sym, ap, ap₂, ◌∙◌, true≢false, arith, append_assoc, length-append}
use Rattle.std.specs.Prelude.{is_some}
use Rattle.std.proofs.lemmas.List.{map-append}
use Rattle.ob_values.proofs.Bools.{or_first}
use Rattle.ob_object.specs.declared.head.Head.{Head}
use Rattle.ob_object.specs.Object.{Objects, none, node, Object, count}
use Rattle.ob_object.specs.Paths.{is_path, node_path}
use Rattle.ob_contracts.specs.Inherit.{or_else, only_if}
use Rattle.ob_contracts.proofs.Missing.{append-none}
use Rattle.ob_site_rules.specs.Build.{Path}
use Rattle.ob_shown_laws.specs.Numbered.{number_in}
use Rattle.ob_shown_laws.proofs.Looking.{at_path}
use Rattle.ob_tree.specs.Shown.{row}
use Rattle.ob_tree.specs.Laid.{heads, paths}
use Rattle.ob_tree.specs.Paths.{place_of, is_twice, first_twice}

abbrev pub row_paths : Objects → List (Option Path)
row_paths r = map node_path (heads r)

pub paths_by_row : (o : Object) → paths o ≡ row_paths (row o)
paths_by_row o = ap (λ (hs : List Head). map node_path (o.head ∷ hs)) (sym (append-none (heads o.inner)))

row_paths-node : (h : Head) (inner rest : Objects) → row_paths (node h inner rest) ≡ node_path h ∷ (row_paths inner ++ row_paths rest)
row_paths-node h inner rest = ap (λ l. node_path h ∷ l) (map-append node_path (heads inner) (heads rest))

length-paths : (r : Objects) → length (row_paths r) ≡ count r
length-paths none = refl
length-paths (node h inner rest) =
    ap length (row_paths-node h inner rest)
    ∙ ap suc (length-append (row_paths inner) (row_paths rest) ∙ ap₂ (λ a b. a + b) (length-paths inner) (length-paths rest))
    ∙ one
  where
    one : suc (count inner + count rest) ≡ count inner + count rest + 1
    one = omega arith

-- the place in two lists
place-append : (p : Path) (xs ys : List (Option Path)) → place_of p (xs ++ ys) ≡ or_else (place_of p xs) (option_map (λ n. n + length xs) (place_of p ys))
place-append p [] ys = go (place_of p ys)
  where
    go : (o : Option ℕ) → o ≡ option_map (λ n. n + 0) o
    go None = refl
    go (Some n) = let e : n ≡ n + 0 = omega arith in ap (λ (k : ℕ). Some k) e
place-append p (x ∷ xs) ys = ap (λ o. cond (is_path p x) (Some 0) (option_map suc o)) (place-append p xs ys) ∙ go (is_path p x) (place_of p xs) (place_of p ys)
  where
    go : (b : Bool) (i l : Option ℕ) → cond b (Some 0) (option_map suc (or_else i (option_map (λ n. n + length xs) l))) ≡ or_else (cond b (Some 0) (option_map suc i)) (option_map (λ n. n + suc (length xs)) l)
    go true i l = refl
    go false (Some n) l = refl
    go false None None = refl
    go false None (Some n) = let e : suc (n + length xs) ≡ n + suc (length xs) = omega arith in ap (λ (k : ℕ). Some k) e

pub number_place : (p : Path) (os : Objects) → place_of p (row_paths os) ≡ number_in p os
number_place p none = refl
number_place p (node h inner rest) =
    ap (place_of p) (row_paths-node h inner rest)
    ∙ ap (λ o. cond (is_path p (node_path h)) (Some 0) (option_map suc o))
    (place-append p (row_paths inner) (row_paths rest)
    ∙ ap₂ (λ i l. or_else i (option_map (λ n. n + length (row_paths inner)) l)) (number_place p inner) (number_place p rest)
    ∙ ap (λ k. or_else (number_in p inner) (option_map (λ n. n + k) (number_in p rest))) (length-paths inner))
    ∙ go (is_path p (node_path h)) (number_in p inner) (number_in p rest)
  where
    go : (b : Bool) (i l : Option ℕ) → cond b (Some 0) (option_map suc (or_else i (option_map (λ n. n + count inner) l))) ≡ or_else (only_if b (Some 0)) (or_else (option_map (λ n. n + 1) i) (option_map (λ n. n + (count inner + 1)) l))
    go true i l = refl
    go false (Some n) l = let e : suc n ≡ n + 1 = omega arith in ap (λ (k : ℕ). Some k) e
    go false None None = refl
    go false None (Some n) = let e : suc (n + count inner) ≡ n + (count inner + 1) = omega arith in ap (λ (k : ℕ). Some k) e

pub place_at : (p : Path) (o : Object) → place_of p (paths o) ≡ number_in p (row o)
place_at p o = ap (place_of p) (paths_by_row o) ∙ number_place p (row o)

-- paths that none has twice
abbrev pub has : Path → List (Option Path) → Bool
has p qs = is_some (place_of p qs)

some_either : (a b : Option ℕ) → is_some (or_else a b) ≡ (is_some a || is_some b)
some_either None b = refl
some_either (Some x) b = refl

some_mapped : (f : ℕ → ℕ) (o : Option ℕ) → is_some (option_map f o) ≡ is_some o
some_mapped f None = refl
some_mapped f (Some n) = refl

pub has-append : (p : Path) (xs ys : List (Option Path)) → has p (xs ++ ys) ≡ (has p xs || has p ys)
has-append p xs ys =
    ap is_some (place-append p xs ys)
    ∙ some_either (place_of p xs) (option_map (λ n. n + length xs) (place_of p ys))
    ∙ ap (λ b. has p xs || b) (some_mapped (λ n. n + length xs) (place_of p ys))

-- a list of paths in two parts
pub in_parts : (before xs ys : List (Option Path)) → first_twice before (xs ++ ys) ≡ None → (first_twice before xs ≡ None) × (first_twice (before ++ xs) ys ≡ None)
in_parts before [] ys e = (refl, ap (λ (l : List (Option Path)). first_twice l ys) (append-none before) ∙ e)
in_parts before (x ∷ xs) ys e = go (is_twice before x) x refl refl e (λ f. in_parts (before ++ x ∷ []) xs ys f)
  where
    some_none : {p : Path} → Some p ≡ None → ⊥
    some_none e = cc

    go : (b : Bool) (q : Option Path) → x ≡ q → is_twice before x ≡ b → cond b x (first_twice (before ++ x ∷ []) (xs ++ ys)) ≡ None
        → (first_twice (before ++ x ∷ []) (xs ++ ys) ≡ None → (first_twice (before ++ x ∷ []) xs ≡ None) × (first_twice ((before ++ x ∷ []) ++ xs) ys ≡ None))
        → (first_twice before (x ∷ xs) ≡ None) × (first_twice (before ++ (x ∷ xs)) ys ≡ None)
    go true None is twice f later = absurd (true≢false (sym twice ∙ ap (is_twice before) is))
    go true (Some p) is twice f later = absurd (some_none (sym is ∙ f))
    go false q is twice f later =
        let both = later f in
        (ap (λ b. cond b x (first_twice (before ++ x ∷ []) xs)) twice ∙ both.0, ap (λ (l : List (Option Path)). first_twice l ys) (sym (append_assoc before (x ∷ []) xs)) ∙ both.1)

-- what is there before isn't there behind
pub apart : (p : Path) (before qs : List (Option Path)) → first_twice before qs ≡ None → has p before ≡ true → has p qs ≡ false
apart p before [] e there = refl
apart p before (q ∷ qs) e there = go (is_twice before q) q refl refl e (λ f g. apart p (before ++ q ∷ []) qs f g)
  where
    more : has p (before ++ q ∷ []) ≡ true
    more = has-append p before (q ∷ []) ∙ or_first (has p before) (has p (q ∷ [])) there

    some_none : {x : Path} → Some x ≡ None → ⊥
    some_none e = cc

    here : (b : Bool) → is_path p q ≡ b → is_twice before q ≡ false → has p qs ≡ false → is_some (cond b (Some 0) (option_map suc (place_of p qs))) ≡ false
    here true is once behind = absurd (true≢false (sym there ∙ sym (ap (is_twice before) (at_path p q is)) ∙ once))
    here false is once behind = some_mapped suc (place_of p qs) ∙ behind

    go : (b : Bool) (o : Option Path) → q ≡ o → is_twice before q ≡ b → cond b q (first_twice (before ++ q ∷ []) qs) ≡ None
        → (first_twice (before ++ q ∷ []) qs ≡ None → has p (before ++ q ∷ []) ≡ true → has p qs ≡ false) → has p (q ∷ qs) ≡ false
    go true None is twice f later = absurd (true≢false (sym twice ∙ ap (is_twice before) is))
    go true (Some x) is twice f later = absurd (some_none (sym is ∙ f))
    go false o is once f later = here (is_path p q) refl once (later f more)
