-- The tree of a site has no more levels than its document: opening adds none, and steps set slots alone.
use Rattle.std.proofs.Common.{◌≡◌, ℕ, zero, suc, ◌+◌, ◌-◌, ◌≤◌, Bool, true, false, cond, List, [], ◌∷◌, Option, Some, refl, ap, ap₂, subst, arith}
use Rattle.std.specs.Prelude.{nat_lt, max, Ok}
use Rattle.ob_object.specs.declared.head.Head.{Head}
use Rattle.ob_object.specs.Object.{Objects, none, node, Object, count}
use Rattle.ob_hrefs.specs.Hrefs.{site_path, made_object, row_with_paths}
use Rattle.ob_site_rules.specs.declared.roles.Roles.{Roles}
use Rattle.ob_site_rules.specs.Loading.{kept_row, kept_root}
use Rattle.ob_site_rules.specs.Opening.{opening, standard_words}
use Rattle.ob_site_rules.specs.Roles.{all_roles, is_dropped, role_at}
use Rattle.ob_step_laws.proofs.Begins.{Begins, begins, words_of}
use Rattle.ob_site_rules.specs.Build.{Path, Text}
use Rattle.ob_site_rules.specs.Sites.{SiteState}
use Rattle.ob_site_watches.specs.Polls.{steps_for}
use Rattle.ob_tree.specs.Depths.{levels}
use Rattle.ob_tree.specs.Laid.{changed_in, changed}
use Rattle.ob_tree.specs.Shown.{row}
use Rattle.ob_site.specs.Between.{IsShallow}

-- an object that says something else of itself
by_place : (f : Head → Head) (n : ℕ) (h : Head) (inner rest : Objects) (b : Bool) → ((m : ℕ) → levels (changed_in f m inner) ≡ levels inner) → ((m : ℕ) → levels (changed_in f m rest) ≡ levels rest)
    → levels (cond b (node h (changed_in f n inner) rest) (node h inner (changed_in f (n - count inner) rest))) ≡ max (levels inner + 1) (levels rest)
by_place f n h inner rest true left right = ap (λ (k : ℕ). max (k + 1) (levels rest)) (left n)
by_place f n h inner rest false left right = ap (λ (k : ℕ). max (levels inner + 1) k) (right (n - count inner))

levels_changed_in : (f : Head → Head) (r : Objects) (n : ℕ) → levels (changed_in f n r) ≡ levels r
levels_changed_in f none n = refl
levels_changed_in f (node h inner rest) zero = refl
levels_changed_in f (node h inner rest) (suc n) = by_place f n h inner rest (nat_lt n (count inner)) (levels_changed_in f inner) (levels_changed_in f rest)

pub levels_changed : (f : Head → Head) (n : ℕ) (o : Object) → levels (row (changed f n o)) ≡ levels (row o)
levels_changed f zero o = refl
levels_changed f (suc n) o = ap (λ (k : ℕ). max (k + 1) 0) (levels_changed_in f o.inner n)

-- paths in place of texts
levels_made : (resolve : Text → Option Path) (r : Objects) → levels (row_with_paths resolve r) ≡ levels r
levels_made resolve none = refl
levels_made resolve (node h inner rest) = ap₂ (λ (j k : ℕ). max (j + 1) k) (levels_made resolve inner) (levels_made resolve rest)

-- what is kept of a row
by_dropped : (h : Head) (inner rest kept others : Objects) (b : Bool) → levels kept ≤ levels inner → levels others ≤ levels rest
    → levels (cond b others (node h kept others)) ≤ max (levels inner + 1) (levels rest)
by_dropped h inner rest kept others true below later = omega (arith, later)
by_dropped h inner rest kept others false below later = omega (arith, below, later)

levels_kept : (rs : List Roles) (n : ℕ) (above : Roles) (r : Objects) → levels (kept_row rs n above r) ≤ levels r
levels_kept rs n above none = omega arith
levels_kept rs n above (node h inner rest) =
    by_dropped h inner rest (kept_row rs (n + 1) (role_at rs n) inner) (kept_row rs (n + 1 + count inner) above rest) (is_dropped above h)
    (levels_kept rs (n + 1) (role_at rs n) inner) (levels_kept rs (n + 1 + count inner) above rest)

-- the root that is kept of a made one
kept_made : (rs : List Roles) (resolve : Text → Option Path) (href : Option Path) (root : Object) → levels (row (kept_root rs (made_object resolve href root))) ≤ levels (row root)
kept_made rs resolve href root =
    let kept : levels (kept_row rs 1 (role_at rs 0) (row_with_paths resolve root.inner)) ≤ levels (row_with_paths resolve root.inner) = levels_kept rs 1 (role_at rs 0) (row_with_paths resolve root.inner) in
    let made : levels (row_with_paths resolve root.inner) ≡ levels root.inner = levels_made resolve root.inner in
    omega (arith, kept, made)

-- the tree that a document opens
pub opened_shallow : (root : Object) (boot : ℕ) (st : SiteState) → opening root boot ≡ Ok st → IsShallow root → IsShallow st.world.site.tree
opened_shallow root boot st opens shallow =
    let b : Begins root boot st = begins root boot st opens in
    let m : Object = made_object (site_path b.base) (Some b.base.path) root in
    let kept : levels (row (kept_root (all_roles (words_of standard_words m) m) m)) ≤ levels (row root) = kept_made (all_roles (words_of standard_words m) m) (site_path b.base) (Some b.base.path) root in
    let all : IsShallow (kept_root (all_roles (words_of standard_words m) m) m) = omega (arith, kept, shallow) in
    subst (λ (x : SiteState). IsShallow x.world.site.tree) b.opens.is all

-- as many steps or more, where more are round each object
pub more_round : (a b : ℕ) (os : List Object) → a ≤ b → steps_for a os ≤ steps_for b os
more_round a b [] le = omega arith
more_round a b (o ∷ os) le = omega (arith, le, more_round a b os le)
