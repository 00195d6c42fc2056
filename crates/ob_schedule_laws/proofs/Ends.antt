-- The path of the op of a writable point is no other computed path: told by how it ends.
use Rattle.std.proofs.Common.{◌≡◌, ℕ, Bool, true, false, cond, ◌==◌, List, [], ◌∷◌, ◌++◌, Option, Some, None, refl, sym, ap, ◌∙◌, append_assoc, nat_eq, arith}
use Rattle.std.specs.Prelude.{codes, option_and_then, option_map, find}
use Rattle.std.specs.Str.{bytes_eq}
use Rattle.std.proofs.lemmas.Bool.{eqb-true}
use Rattle.ob_site_laws.proofs.Same.{tells_text}
use Rattle.ob_site_rules.specs.Build.{Text, Path}
use Rattle.ob_requests.proofs.Parted.{both_none}
use Rattle.ob_site_rules.specs.Paths.{about_path, batch_path, before_slash, behind, behind_slash, below, both, ends_with_slash, make_path, number_spelled, part_named, service_path, watch_part}
use Rattle.ob_site_rules.specs.State.{at}
use Rattle.ob_site_rules.specs.declared.plan.Plan.{Plan}
use Rattle.ob_site_rules.specs.declared.watch_part.WatchPart.TheVariants.{Add, Delete, Lease, PollChanges, PollRefresh, Remove, Whole}
use Rattle.ob_site_rules.specs.declared.watch_part.WatchPart.{WatchPart}

-- the last two of a text
abbrev last_two : Text → ℕ × ℕ
last_two [] = (0, 0)
last_two (x ∷ []) = (0, x)
last_two (x ∷ y ∷ []) = (x, y)
last_two (x ∷ y ∷ z ∷ zs) = last_two (y ∷ z ∷ zs)

-- are those of its end, if that has two
two_behind : (xs : Text) (a b : ℕ) (zs : Text) → last_two (xs ++ a ∷ b ∷ zs) ≡ last_two (a ∷ b ∷ zs)
two_behind [] a b zs = refl
two_behind (x ∷ []) a b zs = refl
two_behind (x ∷ y ∷ []) a b zs = refl
two_behind (x ∷ y ∷ z ∷ xs) a b zs = two_behind (y ∷ z ∷ xs) a b zs

-- and the last is that of its end, if that has one
one_behind : (xs : Text) (a : ℕ) (zs : Text) → (last_two (xs ++ a ∷ zs)).1 ≡ (last_two (a ∷ zs)).1
one_behind [] a zs = refl
one_behind (x ∷ []) a [] = refl
one_behind (x ∷ []) a (z ∷ zs) = refl
one_behind (x ∷ y ∷ []) a zs = one_behind (y ∷ []) a zs
one_behind (x ∷ y ∷ z ∷ xs) a zs = one_behind (y ∷ z ∷ xs) a zs

op_ends : (p : Path) → last_two (below p (codes "writePoint")) ≡ (110, 116)
op_ends p = two_behind (cond (ends_with_slash p) p (p ++ 47 ∷ [])) 119 114 _

pub bytes_no : (x y : Text) → (x ≡ y → ⊥) → bytes_eq x y ≡ false
bytes_no x y isnt = go (bytes_eq x y) refl
  where
    go : (b : Bool) → bytes_eq x y ≡ b → b ≡ false
    go true e = absurd (isnt (tells_text.equal x y e))
    go false e = refl

apart : (a b : ℕ) → nat_eq a b ≡ false → a ≡ b → ⊥
apart a b e f = grind (arith, e, f)

-- a text that ends otherwise is another one
other : (x y : Text) (a b : ℕ × ℕ) → last_two x ≡ a → last_two y ≡ b → (a ≡ b → ⊥) → bytes_eq x y ≡ false
other x y a b e f isnt = bytes_no x y (λ same. isnt (sym e ∙ (ap last_two same ∙ f)))

module _ (plan : Plan) (p : Path) where
  pub not_about : bytes_eq (about_path plan) (below p (codes "writePoint")) ≡ false
  not_about = other (about_path plan) (below p (codes "writePoint")) (117, 116) (110, 116) (two_behind plan.root 97 98 _) (op_ends p) (λ e. apart 117 110 refl (ap (λ (x : ℕ × ℕ). x.0) e))

  pub not_batch : bytes_eq (batch_path plan) (below p (codes "writePoint")) ≡ false
  not_batch = other (batch_path plan) (below p (codes "writePoint")) (99, 104) (110, 116) (two_behind plan.root 98 97 _) (op_ends p) (λ e. apart 99 110 refl (ap (λ (x : ℕ × ℕ). x.0) e))

  pub not_service : bytes_eq (service_path plan) (below p (codes "writePoint")) ≡ false
  not_service = other (service_path plan) (below p (codes "writePoint")) (99, 101) (110, 116) (two_behind plan.root 119 97 _) (op_ends p) (λ e. apart 99 110 refl (ap (λ (x : ℕ × ℕ). x.0) e))

  pub not_make : bytes_eq (make_path plan) (below p (codes "writePoint")) ≡ false
  not_make = other (make_path plan) (below p (codes "writePoint")) (107, 101) (110, 116) (two_behind plan.root 119 97 _) (op_ends p) (λ e. apart 107 110 refl (ap (λ (x : ℕ × ℕ). x.0) e))

  pub isnt_make : bytes_eq (below p (codes "writePoint")) (make_path plan) ≡ false
  isnt_make = other (below p (codes "writePoint")) (make_path plan) (110, 116) (107, 101) (op_ends p) (two_behind plan.root 119 97 _) (λ e. apart 110 107 refl (ap (λ (x : ℕ × ℕ). x.0) e))

-- what is behind a beginning stands behind it
behind_is : (front t rest : Text) → behind front t ≡ Some rest → t ≡ front ++ rest
behind_is [] t rest e = cc
behind_is (a ∷ front) [] rest e = absurd cc
behind_is (a ∷ front) (b ∷ t) rest e = go (a == b) refl e (behind_is front t rest)
  where
    go : (same : Bool) → (a == b) ≡ same → cond same (behind front t) None ≡ Some rest → (behind front t ≡ Some rest → t ≡ front ++ rest) → b ∷ t ≡ a ∷ (front ++ rest)
    go true is f more = ap (λ (x : ℕ). x ∷ t) (sym (eqb-true a b is)) ∙ ap (λ (l : Text). a ∷ l) (more f)
    go false is f more = absurd cc

slash_is : (t rest : Text) → behind_slash t ≡ Some rest → t ≡ before_slash t ++ 47 ∷ rest
slash_is [] rest e = absurd cc
slash_is (c ∷ t) rest e = go (c == 47) refl e (slash_is t rest)
  where
    go : (b : Bool) → (c == 47) ≡ b → cond b (Some t) (behind_slash t) ≡ Some rest → (behind_slash t ≡ Some rest → t ≡ before_slash t ++ 47 ∷ rest) → c ∷ t ≡ cond b [] (c ∷ before_slash t) ++ 47 ∷ rest
    go true is f more =
        let same : t ≡ rest = cc in
        ap (λ (x : ℕ). x ∷ t) (eqb-true c 47 is) ∙ ap (λ (l : Text). 47 ∷ l) same
    go false is f more = ap (λ (l : Text). c ∷ l) (more f)

-- the parts of a watch behind the first ones
abbrev from_deleteop : List (Text × WatchPart)
from_deleteop = (codes "delete", Delete) ∷ []

abbrev from_pollrefreshop : List (Text × WatchPart)
from_pollrefreshop = (codes "pollRefresh", PollRefresh) ∷ from_deleteop

abbrev from_pollchangesop : List (Text × WatchPart)
from_pollchangesop = (codes "pollChanges", PollChanges) ∷ from_pollrefreshop

abbrev from_removeop : List (Text × WatchPart)
from_removeop = (codes "remove", Remove) ∷ from_pollchangesop

abbrev from_addop : List (Text × WatchPart)
from_addop = (codes "add", Add) ∷ from_removeop

abbrev from_lease : List (Text × WatchPart)
from_lease = (codes "lease", Lease) ∷ from_addop

-- no part of a watch ends so
no_part : (rest : Text) → (last_two (47 ∷ rest)).1 ≡ 116 → part_named rest ≡ None
no_part rest end =
    step [] Whole from_lease 47 refl (apart 47 116 refl)
    (step (codes "lease") Lease from_addop 101 refl (apart 101 116 refl)
    (step (codes "add") Add from_removeop 100 refl (apart 100 116 refl)
    (step (codes "remove") Remove from_pollchangesop 101 refl (apart 101 116 refl)
    (step (codes "pollChanges") PollChanges from_pollrefreshop 115 refl (apart 115 116 refl)
    (step (codes "pollRefresh") PollRefresh from_deleteop 104 refl (apart 104 116 refl)
    (step (codes "delete") Delete [] 101 refl (apart 101 116 refl) refl))))))
  where
    step : (key : Text) (part : WatchPart) (more : List (Text × WatchPart)) (last : ℕ) → (last_two (47 ∷ key)).1 ≡ last → (last ≡ 116 → ⊥) → at rest more ≡ None → at rest ((key, part) ∷ more) ≡ None
    step key part more last is isnt later = go (bytes_eq key rest) (bytes_no key rest (λ same. isnt (sym is ∙ (ap (λ (t : Text). (last_two (47 ∷ t)).1) same ∙ end))))
      where
        go : (b : Bool) → b ≡ false → option_map (λ (e : Text × WatchPart). e.1) (cond b (Some (key, part)) (find (λ e. bytes_eq e.0 rest) more)) ≡ None
        go true is = absurd cc
        go false is = later

-- so it is no path of a watch
pub no_watch : (plan : Plan) (p : Path) → watch_part plan (below p (codes "writePoint")) ≡ None
no_watch plan p = by_front (behind (plan.root ++ codes "watch/") path) refl
  where
    path : Path
    path = below p (codes "writePoint")

    by_slash : (t : Text) → path ≡ (plan.root ++ codes "watch/") ++ t → (o : Option Text) → behind_slash t ≡ o → both (number_spelled (before_slash t)) (option_and_then part_named o) ≡ None
    by_slash t is None e = both_none (number_spelled (before_slash t))
    by_slash t is (Some rest) e =
        ap (both (number_spelled (before_slash t)))
        (no_part rest
        (sym (one_behind ((plan.root ++ codes "watch/") ++ before_slash t) 47 rest)
        ∙ (ap (λ (x : Text). (last_two x).1) (append_assoc (plan.root ++ codes "watch/") (before_slash t) (47 ∷ rest) ∙ (ap (λ (x : Text). (plan.root ++ codes "watch/") ++ x) (sym (slash_is t rest e)) ∙ sym is))
        ∙ ap (λ (x : ℕ × ℕ). x.1) (op_ends p))))
        ∙ both_none (number_spelled (before_slash t))

    by_front : (o : Option Text) → behind (plan.root ++ codes "watch/") path ≡ o → option_and_then (λ t. both (number_spelled (before_slash t)) (option_and_then part_named (behind_slash t))) o ≡ None
    by_front None e = refl
    by_front (Some t) e = by_slash t (behind_is (plan.root ++ codes "watch/") path t e) (behind_slash t) refl
