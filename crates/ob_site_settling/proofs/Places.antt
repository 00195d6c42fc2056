-- Own nodes by their numbers.
use Rattle.std.proofs.Common.{ℕ, ◌≡◌, zero, suc, Bool, true, false, cond, List, [], ◌∷◌, ◌++◌, Option, Some, None, option_map, refl, sym, ap, ◌∙◌, true≢false}
use Rattle.std.specs.Prelude.{is_some, slice_get}
use Rattle.ob_object.specs.declared.head.Head.{Head}
use Rattle.ob_object.specs.Object.{Object}
use Rattle.ob_object.specs.Paths.{node_path, is_path}
use Rattle.ob_site_rules.specs.Build.{Path}
use Rattle.ob_values.proofs.Lists.{bytes_itself}
use Rattle.ob_values.proofs.Bools.{or_second}
use Rattle.ob_tree.specs.Laid.{heads_of, head_at, paths}
use Rattle.ob_tree.specs.Paths.{place_of, first_twice}
use Rattle.ob_shown_laws.proofs.Places.{has, has-append, in_parts, apart}
use Rattle.ob_shown_laws.proofs.Bridging.{one_path}
use Rattle.ob_site_settling.proofs.Notes.{got_map}

-- the path of the object of a number
pub path_at : (o : Object) (n : ℕ) (h : Head) → head_at n o ≡ Some h → slice_get (paths o) n ≡ Some (node_path h)
path_at o n h e = got_map node_path (heads_of o) n h e

placed : (p : Path) (before qs : List (Option Path)) (n : ℕ) → first_twice before qs ≡ None → slice_get qs n ≡ Some (Some p) → place_of p qs ≡ Some n
placed p before [] n once e = absurd cc
placed p before (q ∷ qs) zero once e =
    let same : q ≡ Some p = cc in
    ap (λ (o : Option Path). cond (is_path p o) (Some 0) (option_map suc (place_of p qs))) same
    ∙ ap (λ b. cond b (Some 0) (option_map suc (place_of p qs))) (bytes_itself p)
placed p before (q ∷ qs) (suc n) once e =
    let rest : first_twice (before ++ q ∷ []) qs ≡ None = (in_parts before (q ∷ []) qs once).1 in
    let later : place_of p qs ≡ Some n = placed p (before ++ q ∷ []) qs n rest e in
    go (is_path p q) refl rest later
  where
    go : (b : Bool) → is_path p q ≡ b → first_twice (before ++ q ∷ []) qs ≡ None → place_of p qs ≡ Some n → cond b (Some 0) (option_map suc (place_of p qs)) ≡ Some (suc n)
    go true f rest later =
        let twice : has p qs ≡ false =
        apart p (before ++ q ∷ []) qs rest (has-append p before (q ∷ []) ∙ or_second (has p before) (has p (q ∷ [])) (one_path p q f)) in
        absurd (true≢false (sym (ap (λ (o : Option ℕ). is_some o) later) ∙ twice))
    go false f rest later = ap (λ (o : Option ℕ). option_map suc o) later

pub placed_at : (o : Object) (n : ℕ) (h : Head) (p : Path) → first_twice [] (paths o) ≡ None → head_at n o ≡ Some h → node_path h ≡ Some p → place_of p (paths o) ≡ Some n
placed_at o n h p once here is = placed p [] (paths o) n once (path_at o n h here ∙ ap (λ (q : Option Path). Some q) is)

-- the object at the place of a path has a path
node_at : (p : Path) (qs : List (Option Path)) (n : ℕ) (q : Option Path) → place_of p qs ≡ Some n → slice_get qs n ≡ Some q → is_some q ≡ true
node_at p [] n q e f = absurd cc
node_at p (r ∷ qs) n q e f = go (is_path p r) (place_of p qs) refl refl e f (λ m g h. node_at p qs m q g h)
  where
    some_number : {a b : ℕ} → Some a ≡ Some b → a ≡ b
    some_number g = cc

    some_path : {a b : Option Path} → Some a ≡ Some b → a ≡ b
    some_path g = cc

    here : (o : Option Path) → is_path p o ≡ true → is_some o ≡ true
    here None g = absurd cc
    here (Some x) g = refl

    go : (b : Bool) (o : Option ℕ) → is_path p r ≡ b → place_of p qs ≡ o → cond b (Some 0) (option_map suc o) ≡ Some n → slice_get (r ∷ qs) n ≡ Some q
        → ((m : ℕ) → place_of p qs ≡ Some m → slice_get qs m ≡ Some q → is_some q ≡ true) → is_some q ≡ true
    go true o g k e f later =
        let same : r ≡ q = some_path (ap (slice_get (r ∷ qs)) (some_number e) ∙ f) in
        ap (λ (x : Option Path). is_some x) (sym same) ∙ here r g
    go false None g k e f later = absurd cc
    go false (Some m) g k e f later = later m k (ap (slice_get (r ∷ qs)) (some_number e) ∙ f)

pub node_there : (o : Object) (p : Path) (n : ℕ) (h : Head) → place_of p (paths o) ≡ Some n → head_at n o ≡ Some h → is_some (node_path h) ≡ true
node_there o p n h e here = node_at p (paths o) n (node_path h) e (path_at o n h here)
