-- What stands first under a path in lists behind one another.
use Rattle.std.proofs.Common.{◌≡◌, Bool, true, false, cond, List, [], ◌∷◌, ◌++◌, Option, Some, None, option_map, refl, sym, ap, ◌∙◌}
use Rattle.std.specs.Prelude.{is_some, find}
use Rattle.std.specs.Str.{bytes_eq}
use Rattle.ob_contracts.specs.Inherit.{or_else}
use Rattle.ob_site_rules.specs.Build.{Path}
use Rattle.ob_site_rules.specs.State.{at}
use Rattle.ob_site_rules.specs.declared.resource.Resource.{Resource}

abbrev pub Entries : Type 0
Entries = List (Path × Resource)

or_found : (b : Bool) (e : Path × Resource) (r s : Option (Path × Resource)) (t : Option Resource)
    → option_map (λ x. x.1) r ≡ or_else (option_map (λ x. x.1) s) t → option_map (λ x. x.1) (cond b (Some e) r) ≡ or_else (option_map (λ x. x.1) (cond b (Some e) s)) t
or_found true e r s t h = refl
or_found false e r s t h = h

pub at-append : (p : Path) (xs ys : Entries) → at p (xs ++ ys) ≡ or_else (at p xs) (at p ys)
at-append p [] ys = refl
at-append p (x ∷ xs) ys = or_found (bytes_eq x.0 p) x (find (λ e. bytes_eq e.0 p) (xs ++ ys)) (find (λ e. bytes_eq e.0 p) xs) (at p ys) (at-append p xs ys)

-- what is found in the first list, or what follows it
pub ended : (found : Option Resource) (a b all r : Option Resource) → found ≡ a → is_some found ≡ true → all ≡ or_else a b → all ≡ r → found ≡ r
ended None a b all r e h n i = absurd cc
ended (Some x) a b all r e h n i = sym (ap (λ o. or_else o b) (sym e)) ∙ sym n ∙ i

pub passed : (found : Option Resource) (a b all r : Option Resource) → found ≡ a → is_some found ≡ false → all ≡ or_else a b → all ≡ r → b ≡ r
passed None a b all r e h n i = sym (ap (λ o. or_else o b) (sym e)) ∙ sym n ∙ i
passed (Some x) a b all r e h n i = absurd cc

pub first_of : (p : Path) (xs ys : Entries) (found : Option Resource) → found ≡ at p xs → is_some found ≡ true → found ≡ at p (xs ++ ys)
first_of p xs ys found e h = ended found (at p xs) (at p ys) (at p (xs ++ ys)) (at p (xs ++ ys)) e h (at-append p xs ys) refl

pub later_of : (p : Path) (xs ys : Entries) (found other : Option Resource) → found ≡ at p xs → is_some found ≡ false → other ≡ at p ys → other ≡ at p (xs ++ ys)
later_of p xs ys found other e h is = is ∙ passed found (at p xs) (at p ys) (at p (xs ++ ys)) (at p (xs ++ ys)) e h (at-append p xs ys) refl
