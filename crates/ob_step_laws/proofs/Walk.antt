-- The parts of a row, one after the other.
use Rattle.std.proofs.Common.{◌≡◌, ℕ, ◌+◌, Bool, true, false, cond, ◌||◌, List, [], ◌∷◌, ◌++◌, Option, Some, None, refl, ap, ◌∙◌, append-nil}
use Rattle.std.specs.List.{AllByRecursion}
use Rattle.ob_object.specs.declared.head.Head.{Head}
use Rattle.ob_object.specs.Object.{Object, Objects, none, node, count}
use Rattle.ob_site_rules.specs.Build.{Text}
use Rattle.ob_site_rules.specs.declared.roles.Roles.{Roles}
use Rattle.ob_site_rules.specs.Roles.{no_roles, name_among, is_dropped, holds_contracts, role_at}
use Rattle.ob_site_rules.specs.Loading.{Part, parts_of, kept_row, kept_root, row_of}
use Rattle.ob_step_laws.proofs.Lists.{each_both}

-- the part that an object is
abbrev pub part_here : List Roles → ℕ → Bool → Head → Objects → Part
part_here rs n inside h inner = record { number = n; own = record { head = h; inner = inner }; roles = role_at rs n; inside = inside }

no_name : (o : Option Text) → name_among [] o ≡ false
no_name None = refl
no_name (Some n) = refl

-- without roles nothing is dropped
pub none_dropped : (h : Head) → is_dropped no_roles h ≡ false
none_dropped h = ap (λ b. b || false) (no_name h.name)

-- a fact of a row that tells one of each part of it
pub record Walks (rs : List Roles) (P : Part → Type 0) (R : ℕ → Roles → Objects → Type 0) : Type 0 where
  pub here : (n : ℕ) (above : Roles) (inside : Bool) (h : Head) (inner rest : Objects) → is_dropped above h ≡ false → R n above (node h inner rest) → P (part_here rs n inside h inner)
  pub below : (n : ℕ) (above : Roles) (h : Head) (inner rest : Objects) → is_dropped above h ≡ false → R n above (node h inner rest) → R (n + 1) (role_at rs n) inner
  pub later : (n : ℕ) (above : Roles) (h : Head) (inner rest : Objects) → R n above (node h inner rest) → R (n + 1 + count inner) above rest

pub each_part : (rs : List Roles) (P : Part → Type 0) (R : ℕ → Roles → Objects → Type 0) → Walks rs P R → (n : ℕ) (inside : Bool) (above : Roles) (r : Objects) → R n above r
    → AllByRecursion P (parts_of rs n inside above r)
each_part rs P R w n inside above none f = tt
each_part rs P R w n inside above (node h inner rest) f =
    go (is_dropped above h) refl
    (λ e. each_part rs P R w (n + 1) (inside || holds_contracts above.root h) (role_at rs n) inner (w.below n above h inner rest e f))
    (each_part rs P R w (n + 1 + count inner) inside above rest (w.later n above h inner rest f))
  where
    go : (b : Bool) → is_dropped above h ≡ b
        → (is_dropped above h ≡ false → AllByRecursion P (parts_of rs (n + 1) (inside || holds_contracts above.root h) (role_at rs n) inner))
        → AllByRecursion P (parts_of rs (n + 1 + count inner) inside above rest)
        → AllByRecursion P (cond b [] (part_here rs n inside h inner ∷ parts_of rs (n + 1) (inside || holds_contracts above.root h) (role_at rs n) inner) ++ parts_of rs (n + 1 + count inner) inside above rest)
    go true e within later = later
    go false e within later = (
      w.here n above inside h inner rest e f,
      each_both P (parts_of rs (n + 1) (inside || holds_contracts above.root h) (role_at rs n) inner) (parts_of rs (n + 1 + count inner) inside above rest) (within e) later,
    )

-- the parts of a root: itself, and those in it
pub root_parts : (rs : List Roles) (o : Object) → parts_of rs 0 false no_roles (row_of o) ≡ part_here rs 0 false o.head o.inner ∷ parts_of rs 1 false (role_at rs 0) o.inner
root_parts rs o =
    let all : List Part = part_here rs 0 false o.head o.inner ∷ parts_of rs 1 false (role_at rs 0) o.inner in
    ap (λ b. cond b [] all ++ []) (none_dropped o.head) ∙ append-nil all

-- the root is kept
pub root_kept : (rs : List Roles) (o : Object) → kept_row rs 0 no_roles (row_of o) ≡ row_of (kept_root rs o)
root_kept rs o = ap (λ b. cond b none (node o.head (kept_row rs 1 (role_at rs 0) o.inner) none)) (none_dropped o.head)
