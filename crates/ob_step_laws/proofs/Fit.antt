-- The roles of the objects of a row, by their numbers.
use Rattle.std.proofs.Common.{◌≡◌, ℕ, ◌+◌, Bool, true, false, ◌||◌, List, [], ◌∷◌, ◌++◌, length, Option, None, refl, sym, subst, append_assoc, length-append, arith, true≢false, is_some}
use Rattle.std.proofs.lemmas.List.{length_push}
use Rattle.ob_values.proofs.Bools.{and_first}
use Rattle.ob_object.specs.declared.head.Head.{Head}
use Rattle.ob_object.specs.Object.{Object, Objects, none, node, count}
use Rattle.ob_object.specs.Paths.{node_path}
use Rattle.ob_contracts.specs.Ancestry.{own_words}
use Rattle.ob_contracts.specs.Inherit.{Contracts, Words, sources, overridden, implied_by, inherited_head}
use Rattle.ob_site_rules.specs.declared.roles.Roles.{Roles}
use Rattle.ob_site_rules.specs.Roles.{no_roles, roles_there, holds_contracts, row_roles, all_roles, role_at}

-- the roles from a number on begin with those
abbrev pub At : List Roles → ℕ → List Roles → Type 0
At rs n [] = Unit {0}
At rs n (x ∷ xs) = (role_at rs n ≡ x) × At rs (n + 1) xs

pub seam : (before : List Roles) (x : Roles) (xs : List Roles) → role_at (before ++ x ∷ xs) (length before) ≡ x
seam [] x xs = refl
seam (y ∷ before) x xs = seam before x xs

pub at_own : (before xs : List Roles) → At (before ++ xs) (length before) xs
at_own before [] = tt
at_own before (x ∷ xs) = (
  seam before x xs,
  subst (λ (l : List Roles). At l (length before + 1) xs) (append_assoc before (x ∷ []) xs)
      (subst (λ (n : ℕ). At ((before ++ x ∷ []) ++ xs) n xs) (length_push before x) (at_own (before ++ x ∷ []) xs)),
)

pub at_first : (rs : List Roles) (n : ℕ) (xs ys : List Roles) → At rs n (xs ++ ys) → At rs n xs
at_first rs n [] ys a = tt
at_first rs n (x ∷ xs) ys a = (a.0, at_first rs (n + 1) xs ys a.1)

pub at_second : (rs : List Roles) (n : ℕ) (xs ys : List Roles) → At rs n (xs ++ ys) → At rs (n + length xs) ys
at_second rs n [] ys a =
    let e : n ≡ n + 0 = omega arith in
    subst (λ (m : ℕ). At rs m ys) e a
at_second rs n (x ∷ xs) ys a =
    let e : n + 1 + length xs ≡ n + length (x ∷ xs) = omega arith in
    subst (λ (m : ℕ). At rs m ys) e (at_second rs (n + 1) xs ys a.1)

pub roles_count : (lib : Contracts) (root under inside : Bool) (implied : Option Words) (above : List Object) (r : Objects) → length (row_roles lib root under inside implied above r) ≡ count r
roles_count lib root under inside implied above none = refl
roles_count lib root under inside implied above (node h inner rest) =
    let from = sources lib h implied (overridden h.name above) in
    let first = row_roles lib false root (inside || holds_contracts under h) (implied_by (inherited_head h from)) from inner in
    let second = row_roles lib root under inside implied above rest in
    let a : length first ≡ count inner = roles_count lib false root (inside || holds_contracts under h) (implied_by (inherited_head h from)) from inner in
    let b : length second ≡ count rest = roles_count lib root under inside implied above rest in
    let c : length (first ++ second) ≡ length first + length second = length-append first second in
    omega (arith, a, b, c)

-- What is known of the roles of an object, whatever the library: inside the contracts of the site there are none, only a root is a
-- lobby, and the other roles are those of nodes.
pub record IsRoleOf (root inside : Bool) (h : Head) (r : Roles) : Type 0 where
  pub plain : inside ≡ true → r ≡ no_roles
  pub lobby : r.lobby ≡ true → root ≡ true
  pub point : r.point ≡ true → is_some (node_path h) ≡ true
  pub history : r.history ≡ true → is_some (node_path h) ≡ true
  pub subject : r.subject ≡ true → is_some (node_path h) ≡ true

role_is : (lib : Contracts) (root inside : Bool) (h : Head) (ws : Option Words) → IsRoleOf root inside h (roles_there lib root inside h ws)
role_is lib root true h ws = record {
  plain = λ e. refl;
  lobby = λ e. absurd (true≢false (sym e));
  point = λ e. absurd (true≢false (sym e));
  history = λ e. absurd (true≢false (sym e));
  subject = λ e. absurd (true≢false (sym e));
}
role_is lib root false h ws = record {
  plain = λ e. absurd (true≢false (sym e));
  lobby = λ e. and_first root _ e;
  point = λ e. and_first (is_some (node_path h)) _ e;
  history = λ e. and_first (is_some (node_path h)) _ e;
  subject = λ e. and_first (is_some (node_path h)) _ e;
}

-- so are the roles of each object of a row, and of what is in it, the first having this number
abbrev pub Fit : List Roles → ℕ → Bool → Bool → Bool → Objects → Type 0
Fit rs n root under inside none = Unit {0}
Fit rs n root under inside (node h inner rest) =
    IsRoleOf root (inside || holds_contracts under h) h (role_at rs n)
    × Fit rs (n + 1) false root (inside || holds_contracts under h) inner
    × Fit rs (n + 1 + count inner) root under inside rest

fit : (lib : Contracts) (root under inside : Bool) (implied : Option Words) (above : List Object) (rs : List Roles) (n : ℕ) (r : Objects)
    → At rs n (row_roles lib root under inside implied above r) → Fit rs n root under inside r
fit lib root under inside implied above rs n none a = tt
fit lib root under inside implied above rs n (node h inner rest) a =
    let from = sources lib h implied (overridden h.name above) in
    let within : Bool = inside || holds_contracts under h in
    let first = row_roles lib false root within (implied_by (inherited_head h from)) from inner in
    let second = row_roles lib root under inside implied above rest in
    let long : length first ≡ count inner = roles_count lib false root within (implied_by (inherited_head h from)) from inner in (
      subst (IsRoleOf root within h) (sym a.0) (role_is lib root within h (own_words h implied (overridden h.name above))),
      fit lib false root within (implied_by (inherited_head h from)) from rs (n + 1) inner (at_first rs (n + 1) first second a.1),
      fit lib root under inside implied above rs (n + 1 + count inner) rest
          (subst (λ (k : ℕ). At rs (n + 1 + k) second) long (at_second rs (n + 1) first second a.1)),
    )

-- the roles of a root
pub all_fit : (lib : Contracts) (o : Object) → Fit (all_roles lib o) 0 true false false (node o.head o.inner none)
all_fit lib o = fit lib true false false None [] (all_roles lib o) 0 (node o.head o.inner none) (at_own [] (all_roles lib o))
