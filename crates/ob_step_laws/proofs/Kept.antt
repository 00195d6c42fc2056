-- The paths of what is kept are among those of the root, and those of its parts.
use Rattle.std.proofs.Common.{◌≡◌, ℕ, ◌+◌, Bool, true, false, cond, ◌||◌, bytes_eq, List, [], ◌∷◌, ◌++◌, refl, sym, ap, ap₂, ◌∙◌, subst, append_assoc, true≢false}
use Rattle.ob_values.proofs.Lists.{bytes_itself}
use Rattle.ob_object.specs.Object.{Object, Objects, none, node, count}
use Rattle.ob_object.specs.Paths.{node_path}
use Rattle.ob_site_rules.specs.Build.{Path}
use Rattle.ob_site_rules.specs.State.{is_among}
use Rattle.ob_site_rules.specs.declared.roles.Roles.{Roles}
use Rattle.ob_site_rules.specs.Roles.{no_roles, is_dropped, holds_contracts, role_at}
use Rattle.ob_site_rules.specs.Loading.{Part, parts_of, kept_row, kept_root, row_of, paths_in, listed_path, derived_paths}
use Rattle.ob_step_laws.specs.Laws.{Apart, row_paths}
use Rattle.ob_values.proofs.Bools.{neither_right, both_false, or_true}
use Rattle.ob_step_laws.proofs.OneKind.{among_append, apart_first, apart_second, apart_not}
use Rattle.ob_step_laws.proofs.Walk.{part_here, root_kept}

-- the paths of parts
abbrev pub part_paths : List Part → List Path
part_paths [] = []
part_paths (q ∷ ps) = listed_path (node_path q.own.head) ++ part_paths ps

part_paths-append : (xs ys : List Part) → part_paths (xs ++ ys) ≡ part_paths xs ++ part_paths ys
part_paths-append [] ys = refl
part_paths-append (x ∷ xs) ys =
    ap (λ l. listed_path (node_path x.own.head) ++ l) (part_paths-append xs ys) ∙ sym (append_assoc (listed_path (node_path x.own.head)) (part_paths xs) (part_paths ys))

pub kept_paths : (rs : List Roles) (n : ℕ) (inside : Bool) (above : Roles) (r : Objects) → row_paths (kept_row rs n above r) ≡ part_paths (parts_of rs n inside above r)
kept_paths rs n inside above none = refl
kept_paths rs n inside above (node h inner rest) =
    go (is_dropped above h) (kept_paths rs (n + 1) (inside || holds_contracts above.root h) (role_at rs n) inner) (kept_paths rs (n + 1 + count inner) inside above rest)
  where
    go : (b : Bool) → row_paths (kept_row rs (n + 1) (role_at rs n) inner) ≡ part_paths (parts_of rs (n + 1) (inside || holds_contracts above.root h) (role_at rs n) inner)
        → row_paths (kept_row rs (n + 1 + count inner) above rest) ≡ part_paths (parts_of rs (n + 1 + count inner) inside above rest)
        → row_paths (cond b (kept_row rs (n + 1 + count inner) above rest) (node h (kept_row rs (n + 1) (role_at rs n) inner) (kept_row rs (n + 1 + count inner) above rest)))
        ≡ part_paths (cond b [] (part_here rs n inside h inner ∷ parts_of rs (n + 1) (inside || holds_contracts above.root h) (role_at rs n) inner) ++ parts_of rs (n + 1 + count inner) inside above rest)
    go true within later = later
    go false within later =
        let first = parts_of rs (n + 1) (inside || holds_contracts above.root h) (role_at rs n) inner in
        let second = parts_of rs (n + 1 + count inner) inside above rest in
        ap (λ l. listed_path (node_path h) ++ l)
        (ap₂ (λ a b. a ++ b) within later ∙ sym (part_paths-append first second))

-- paths that are among others, and apart where those are
pub record Under (xs ys : List Path) : Type 0 where
  pub apart : Apart ys → Apart xs
  pub among : (p : Path) → is_among p xs ≡ true → is_among p ys ≡ true

pub under_same : (xs : List Path) → Under xs xs
under_same xs = record { apart = λ a. a; among = λ p h. h }

pub unless : (b c : Bool) → (b ≡ true → c ≡ true) → c ≡ false → b ≡ false
unless true c f h = absurd (true≢false (sym (f refl) ∙ h))
unless false c f h = refl

apart_both : (xs ys : List Path) → Apart xs → Apart ys → ((p : Path) → is_among p ys ≡ true → is_among p xs ≡ false) → Apart (xs ++ ys)
apart_both [] ys a b c = b
apart_both (x ∷ xs) ys a b c =
    let own : is_among x ys ≡ true → true ≡ false = λ h. sym (ap (λ t. t || is_among x xs) (bytes_itself x)) ∙ c x h in (
      among_append x xs ys ∙ both_false (is_among x xs) (is_among x ys) a.0 (unless (is_among x ys) false (λ h. sym (own h)) refl),
      apart_both xs ys a.1 b (λ p h. neither_right (bytes_eq x p) (is_among p xs) (c p h)),
    )

or_if : (a b c d : Bool) → (a ≡ true → c ≡ true) → (b ≡ true → d ≡ true) → (a || b) ≡ true → (c || d) ≡ true
or_if true b c d f g h = ap (λ x. x || d) (f refl)
or_if false b c d f g h = ap (λ x. c || x) (g h) ∙ or_true c

pub under_both : (xs ys vs ws : List Path) → Under xs ys → Under vs ws → Under (xs ++ vs) (ys ++ ws)
under_both xs ys vs ws u v = record {
  apart = λ a. apart_both xs vs (u.apart (apart_first ys ws a)) (v.apart (apart_second ys ws a)) (λ p h. unless (is_among p xs) (is_among p ys) (u.among p) (apart_not ys ws p a (v.among p h)));
  among = λ p h. among_append p ys ws ∙ or_if (is_among p xs) (is_among p vs) (is_among p ys) (is_among p ws) (u.among p) (v.among p) (sym (among_append p xs vs) ∙ h);
}

under_more : (xs ys zs : List Path) → Under xs ys → Under xs (ys ++ zs)
under_more xs ys zs u = record {
  apart = λ a. u.apart (apart_first ys zs a);
  among = λ p h. among_append p ys zs ∙ ap (λ b. b || is_among p zs) (u.among p h);
}

pub under_behind : (xs ys zs : List Path) → Under xs zs → Under xs (ys ++ zs)
under_behind xs ys zs u = record {
  apart = λ a. u.apart (apart_second ys zs a);
  among = λ p h. among_append p ys zs ∙ ap (λ b. is_among p ys || b) (u.among p h) ∙ or_true (is_among p ys);
}

pub paths_under : (rs : List Roles) (n : ℕ) (above : Roles) (r : Objects) → Under (row_paths (kept_row rs n above r)) (paths_in rs n above r)
paths_under rs n above none = under_same []
paths_under rs n above (node h inner rest) = go (is_dropped above h) (paths_under rs (n + 1) (role_at rs n) inner) (paths_under rs (n + 1 + count inner) above rest)
  where
    go : (b : Bool) → Under (row_paths (kept_row rs (n + 1) (role_at rs n) inner)) (paths_in rs (n + 1) (role_at rs n) inner)
        → Under (row_paths (kept_row rs (n + 1 + count inner) above rest)) (paths_in rs (n + 1 + count inner) above rest)
        → Under (row_paths (cond b (kept_row rs (n + 1 + count inner) above rest) (node h (kept_row rs (n + 1) (role_at rs n) inner) (kept_row rs (n + 1 + count inner) above rest))))
        (cond b [] (listed_path (node_path h) ++ (paths_in rs (n + 1) (role_at rs n) inner ++ derived_paths (role_at rs n) (node_path h))) ++ paths_in rs (n + 1 + count inner) above rest)
    go true u v = v
    go false u v =
        let own = listed_path (node_path h) in
        let first = row_paths (kept_row rs (n + 1) (role_at rs n) inner) in
        let second = row_paths (kept_row rs (n + 1 + count inner) above rest) in
        let derives = derived_paths (role_at rs n) (node_path h) in
        let within = paths_in rs (n + 1) (role_at rs n) inner in
        let later = paths_in rs (n + 1 + count inner) above rest in
        subst (λ (l : List Path). Under l ((own ++ (within ++ derives)) ++ later)) (append_assoc own first second)
        (under_both (own ++ first) (own ++ (within ++ derives)) second later
        (under_both own own first (within ++ derives) (under_same own) (under_more first within derives u))
        v)

-- The paths of a kept root are those of its parts, and apart where those of the root are.
pub root_paths : (rs : List Roles) (o : Object) → row_paths (row_of (kept_root rs o)) ≡ part_paths (parts_of rs 0 false no_roles (row_of o))
root_paths rs o = ap row_paths (sym (root_kept rs o)) ∙ kept_paths rs 0 false no_roles (row_of o)

pub root_among : (rs : List Roles) (o : Object) (p : Path) → is_among p (row_paths (row_of (kept_root rs o))) ≡ true → is_among p (paths_in rs 0 no_roles (row_of o)) ≡ true
root_among rs o p h = (paths_under rs 0 no_roles (row_of o)).among p (ap (λ (r : Objects). is_among p (row_paths r)) (root_kept rs o) ∙ h)

pub root_apart : (rs : List Roles) (o : Object) → Apart (paths_in rs 0 no_roles (row_of o)) → Apart (row_paths (row_of (kept_root rs o)))
root_apart rs o a = subst (λ (r : Objects). Apart (row_paths r)) (root_kept rs o) ((paths_under rs 0 no_roles (row_of o)).apart a)
