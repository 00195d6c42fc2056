-- What the roles of the parts of a root tell.
use Rattle.std.proofs.Common.{◌≡◌, ℕ, ◌+◌, Bool, true, false, cond, ◌&&◌, bytes_eq, codes, List, [], ◌∷◌, ◌++◌, Option, Some, None, refl, sym, ap, ◌∙◌, subst, true≢false}
use Rattle.std.specs.Prelude.{is_some}
use Rattle.std.specs.List.{AllByRecursion}
use Rattle.ob_object.specs.declared.head.Head.{Head}
use Rattle.ob_object.specs.Object.{Object, Objects, node, count}
use Rattle.ob_object.specs.Paths.{node_path}
use Rattle.ob_site_rules.specs.Build.{Path}
use Rattle.ob_site_rules.specs.Paths.{below}
use Rattle.ob_site_rules.specs.declared.roles.Roles.{Roles}
use Rattle.ob_site_rules.specs.Roles.{no_roles, is_dropped, role_at}
use Rattle.ob_site_rules.specs.Loading.{Part, parts_of, paths_in, listed_path, derived_paths, row_of}
use Rattle.ob_step_laws.specs.Laws.{Apart}
use Rattle.ob_values.proofs.Bools.{neither_left, neither_right}
use Rattle.ob_step_laws.proofs.OneKind.{apart_first, apart_second}
use Rattle.ob_step_laws.proofs.Fit.{Fit}
use Rattle.ob_step_laws.proofs.Found.{IsNodeIf}
use Rattle.ob_values.proofs.Lists.{bytes_itself}
use Rattle.ob_step_laws.proofs.Kept.{unless}
use Rattle.ob_step_laws.proofs.Walk.{Walks, each_part, root_parts}

abbrev pub is_lobby : Part → Bool
is_lobby q = q.roles.lobby

abbrev pub is_point : Part → Bool
is_point q = q.roles.point

abbrev pub is_history : Part → Bool
is_history q = q.roles.history

abbrev pub is_subject : Part → Bool
is_subject q = q.roles.subject

-- points, histories and the subject are nodes
pub record IsPlaced (q : Part) : Type 0 where
  pub point : IsNodeIf is_point q
  pub history : IsNodeIf is_history q
  pub subject : IsNodeIf is_subject q

module _ (rs : List Roles) where
  -- the roles of a row fit
  pub record Fits (n : ℕ) (above : Roles) (r : Objects) : Type 0 where
    pub root : Bool
    pub under : Bool
    pub inside : Bool
    pub fit : Fit rs n root under inside r

  fits_walk : Walks rs IsPlaced Fits
  fits_walk = record {
    here = λ n above inside h inner rest d f. record { point = f.fit.0.point; history = f.fit.0.history; subject = f.fit.0.subject };
    below = λ n above h inner rest d f. record { root = false; under = f.root; inside = _; fit = f.fit.1 };
    later = λ n above h inner rest f. record { root = f.root; under = f.under; inside = f.inside; fit = f.fit.2 };
  }

  pub all_placed : (o : Object) → Fit rs 0 true false false (row_of o) → AllByRecursion IsPlaced (parts_of rs 0 false no_roles (row_of o))
  all_placed o f = each_part rs IsPlaced Fits fits_walk 0 false no_roles (row_of o) (record { root = true; under = false; inside = false; fit = f })

  -- what is in a root is no lobby
  abbrev pub NoLobby : Part → Type 0
  NoLobby q = q.roles.lobby ≡ false

  record FitsBelow (n : ℕ) (above : Roles) (r : Objects) : Type 0 where
    pub under : Bool
    pub inside : Bool
    pub fit : Fit rs n false under inside r

  below_walk : Walks rs NoLobby FitsBelow
  below_walk = record {
    here = λ n above inside h inner rest d f. unless (role_at rs n).lobby false f.fit.0.lobby refl;
    below = λ n above h inner rest d f. record { under = false; inside = _; fit = f.fit.1 };
    later = λ n above h inner rest f. record { under = f.under; inside = f.inside; fit = f.fit.2 };
  }

  pub none_lobby : (n : ℕ) (inside : Bool) (above : Roles) (r : Objects) (under within : Bool) → Fit rs n false under within r → AllByRecursion NoLobby (parts_of rs n inside above r)
  none_lobby n inside above r under within f = each_part rs NoLobby FitsBelow below_walk n inside above r (record { under = under; inside = within; fit = f })

  -- no part is a history and the subject
  abbrev pub NotBoth : Part → Type 0
  NotBoth q = (q.roles.history && q.roles.subject) ≡ false

  record IsApart (n : ℕ) (above : Roles) (r : Objects) : Type 0 where
    pub fits : Fits n above r
    pub apart : Apart (paths_in rs n above r)

  not_both : (h s : Bool) (p q : Path) → Apart (cond h (p ∷ q ∷ []) [] ++ cond s (p ∷ q ∷ []) []) → (h && s) ≡ false
  not_both true true p q a = absurd (true≢false (sym (bytes_itself p) ∙ neither_left (bytes_eq p p) _ (neither_right (bytes_eq q p) _ a.0)))
  not_both true false p q a = refl
  not_both false s p q a = refl

  not_both_at : (r : Roles) (o : Option Path) → (r.history ≡ true → is_some o ≡ true) → Apart (derived_paths r o) → (r.history && r.subject) ≡ false
  not_both_at r None f a = ap (λ b. b && r.subject) (unless r.history false f refl)
  not_both_at r (Some p) f a =
      not_both r.history r.subject (below p (codes "query")) (below p (codes "feed"))
      (apart_second (cond r.point (below p (codes "writePoint") ∷ []) []) _ a)

  kept_apart : (n : ℕ) (above : Roles) (h : Head) (inner rest : Objects) → is_dropped above h ≡ false → Apart (paths_in rs n above (node h inner rest))
      → Apart (paths_in rs (n + 1) (role_at rs n) inner) × Apart (derived_paths (role_at rs n) (node_path h))
  kept_apart n above h inner rest d a =
      let own = listed_path (node_path h) in
      let within = paths_in rs (n + 1) (role_at rs n) inner in
      let derives = derived_paths (role_at rs n) (node_path h) in
      let later = paths_in rs (n + 1 + count inner) above rest in
      let all : Apart ((own ++ (within ++ derives)) ++ later) = subst (λ (b : Bool). Apart (cond b [] (own ++ (within ++ derives)) ++ later)) d a in
      let both : Apart (within ++ derives) = apart_second own (within ++ derives) (apart_first (own ++ (within ++ derives)) later all) in
      (apart_first within derives both, apart_second within derives both)

  both_walk : Walks rs NotBoth IsApart
  both_walk = record {
    here = λ n above inside h inner rest d f. not_both_at (role_at rs n) (node_path h) f.fits.fit.0.history (kept_apart n above h inner rest d f.apart).1;
    below = λ n above h inner rest d f. record { fits = fits_walk.below n above h inner rest d f.fits; apart = (kept_apart n above h inner rest d f.apart).0 };
    later = λ n above h inner rest f. record {
      fits = fits_walk.later n above h inner rest f.fits;
      apart = apart_second (cond (is_dropped above h) [] (listed_path (node_path h) ++ (paths_in rs (n + 1) (role_at rs n) inner ++ derived_paths (role_at rs n) (node_path h)))) (paths_in rs (n + 1 + count inner) above rest) f.apart;
    };
  }

  pub none_both : (o : Object) → Fit rs 0 true false false (row_of o) → Apart (paths_in rs 0 no_roles (row_of o)) → AllByRecursion NotBoth (parts_of rs 0 false no_roles (row_of o))
  none_both o f a = each_part rs NotBoth IsApart both_walk 0 false no_roles (row_of o) (record { fits = record { root = true; under = false; inside = false; fit = f }; apart = a })

-- the lobby is a node, as the root is one
lobby_placed : (ps : List Part) → AllByRecursion (λ (q : Part). q.roles.lobby ≡ false) ps → AllByRecursion (IsNodeIf is_lobby) ps
lobby_placed [] e = tt
lobby_placed (q ∷ ps) e = (λ h. absurd (true≢false (sym h ∙ e.0)), lobby_placed ps e.1)

pub root_placed : (rs : List Roles) (o : Object) (r : Path) → node_path o.head ≡ Some r → Fit rs 0 true false false (row_of o) → AllByRecursion (IsNodeIf is_lobby) (parts_of rs 0 false no_roles (row_of o))
root_placed rs o r is f =
    subst (AllByRecursion (IsNodeIf is_lobby)) (sym (root_parts rs o))
    (λ h. ap is_some is, lobby_placed (parts_of rs 1 false (role_at rs 0) o.inner) (none_lobby rs 1 false (role_at rs 0) o.inner true false f.1))
