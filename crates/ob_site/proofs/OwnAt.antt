-- The own object at a path, found by its number.
use Rattle.std.proofs.Common.{ℕ, ◌≡◌, suc, Bool, true, false, cond, List, [], ◌∷◌, ◌++◌, map, Option, Some, None, option_map, refl, sym, ap, ap₂, ◌∙◌}
use Rattle.std.specs.Prelude.{slice_get, option_and_then, option_copied}
use Rattle.ob_object.specs.declared.head.Head.{Head}
use Rattle.ob_object.specs.Object.{Objects, none, node, Object}
use Rattle.ob_object.specs.Paths.{is_path, node_path}
use Rattle.ob_contracts.specs.Inherit.{or_else, only_if}
use Rattle.ob_contracts.proofs.Missing.{append-none}
use Rattle.ob_site_rules.specs.Build.{Path, leaf}
use Rattle.ob_site_rules.specs.Shown.{node_in, node_of}
use Rattle.ob_tree.specs.Laid.{heads, heads_of, head_at, paths}
use Rattle.ob_tree.specs.Paths.{place_of}
use Rattle.ob_tree.specs.Shown.{row}

-- the first of some heads that is that of the node of a path
abbrev first : Path → List Head → Option Head
first p [] = None
first p (h ∷ hs) = cond (is_path p (node_path h)) (Some h) (first p hs)

first-append : (p : Path) (xs ys : List Head) → first p (xs ++ ys) ≡ or_else (first p xs) (first p ys)
first-append p [] ys = refl
first-append p (h ∷ hs) ys = ap (λ o. cond (is_path p (node_path h)) (Some h) o) (first-append p hs ys) ∙ go (is_path p (node_path h)) (first p hs) (first p ys)
  where
    go : (b : Bool) (i l : Option Head) → cond b (Some h) (or_else i l) ≡ or_else (cond b (Some h) i) l
    go true i l = refl
    go false i l = refl

abbrev head_of : Object → Head
head_of o = o.head

-- it is that of the first node of the path
head_found : (p : Path) (r : Objects) → option_map head_of (node_in p r) ≡ first p (heads r)
head_found p none = refl
head_found p (node h inner rest) =
    go (is_path p (node_path h)) (node_in p inner) (node_in p rest)
    ∙ ap (λ o. cond (is_path p (node_path h)) (Some h) o) (ap₂ or_else (head_found p inner) (head_found p rest) ∙ sym (first-append p (heads inner) (heads rest)))
  where
    go : (b : Bool) (i l : Option Object) → option_map head_of (or_else (only_if b (Some (record { head = h; inner = inner }))) (or_else i l)) ≡ cond b (Some h) (or_else (option_map head_of i) (option_map head_of l))
    go true i l = refl
    go false (Some x) l = refl
    go false None l = refl

-- and it stands at the number of its path
first_at : (p : Path) (hs : List Head) → option_and_then (λ n. slice_get hs n) (place_of p (map node_path hs)) ≡ first p hs
first_at p [] = refl
first_at p (h ∷ hs) = go (is_path p (node_path h)) (place_of p (map node_path hs)) (first_at p hs)
  where
    go : (b : Bool) (o : Option ℕ) → option_and_then (λ n. slice_get hs n) o ≡ first p hs
        → option_and_then (λ n. slice_get (h ∷ hs) n) (cond b (Some 0) (option_map suc o)) ≡ cond b (Some h) (first p hs)
    go true o e = refl
    go false None e = e
    go false (Some n) e = e

found_at : (p : Path) (o : Object) → option_map head_of (node_of p o) ≡ option_and_then (λ n. head_at n o) (place_of p (paths o))
found_at p o =
    head_found p (row o)
    ∙ ap (λ (hs : List Head). first p (o.head ∷ hs)) (append-none (heads o.inner))
    ∙ sym (first_at p (heads_of o))

by_head : (o : Option Object) → option_map (λ (x : Object). leaf x.head) o ≡ option_map leaf (option_map head_of o)
by_head None = refl
by_head (Some x) = refl

-- where a path has a number, the own object of that number is that of the path
pub own_there : (p : Path) (o : Object) (n : ℕ) (x : Object) → place_of p (paths o) ≡ Some n → Some x ≡ option_map leaf (head_at n o) → Some x ≡ option_map (λ (x : Object). leaf x.head) (node_of p o)
own_there p o n x at is =
    is ∙ ap (λ q. option_map leaf (option_and_then (λ k. head_at k o) q)) (sym at) ∙ ap (option_map leaf) (sym (found_at p o)) ∙ sym (by_head (node_of p o))

-- and where it has none, there is no own object
pub none_there : (p : Path) (o : Object) → place_of p (paths o) ≡ None → None ≡ option_map (λ (x : Object). leaf x.head) (node_of p o)
none_there p o off =
    ap (λ q. option_map leaf (option_and_then (λ k. head_at k o) q)) (sym off) ∙ ap (option_map leaf) (sym (found_at p o)) ∙ sym (by_head (node_of p o))
