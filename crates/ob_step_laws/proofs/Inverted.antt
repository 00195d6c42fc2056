-- What was looked for before a document opens a state.
use Rattle.std.proofs.Common.{◌≡◌, ℕ, Bool, true, false, cond, codes, List, [], ◌∷◌, ◌++◌, map, flat_map, option_map, Option, Some, None, refl, nat_lt}
use Rattle.std.specs.Prelude.{Result, Ok, Err, unwrap_or}
use Rattle.url.specs.Parts.{Parts}
use Rattle.ob_object.specs.Object.{Object, parts}
use Rattle.ob_parts.proofs.Earliest.{least_none}
use Rattle.ob_contracts.specs.Inherit.{Contracts}
use Rattle.ob_site_rules.specs.Build.{Path}
use Rattle.ob_site_rules.specs.Shown.{shown_root}
use Rattle.ob_site_rules.specs.Sites.{SiteState}
use Rattle.ob_site_rules.specs.Roles.{no_roles, all_roles}
use Rattle.ob_site_rules.specs.Loading.{LoadFault, Size, PathTwice, BadRule, Part, row_of, kept_root, parts_of, paths_in, taken_twice, bad_part, bad_history, bad_rules, bad_subjects, overfull, histories_in, subjects, items_of, opened, or_twice, or_bad, within_size, opened_with, breaks}
use Rattle.ob_site_rules.specs.declared.site_rule.SiteRule.TheVariants.{SecondSubject}
use Rattle.ob_step_laws.proofs.Flags.{IsOneAtMost}

err_no_ok : (f : LoadFault) (st : SiteState) → Err f ≡ Ok st → ⊥
err_no_ok f st h = cc

pub not_bad : {A : Type 0} (fault : A → LoadFault) (o : Option A) (next : Result SiteState LoadFault) (st : SiteState) → or_bad fault o next ≡ Ok st → (o ≡ None) × (next ≡ Ok st)
not_bad fault None next st h = (refl, h)
not_bad fault (Some n) next st h = absurd (err_no_ok (fault n) st h)

not_twice : (o : Option Path) (next : Result SiteState LoadFault) (st : SiteState) → or_twice o next ≡ Ok st → (o ≡ None) × (next ≡ Ok st)
not_twice None next st h = (refl, h)
not_twice (Some p) next st h = absurd (err_no_ok (PathTwice p) st h)

same_ok : (a b : SiteState) (r : Result SiteState LoadFault) → r ≡ Ok a → r ≡ Ok b → a ≡ b
same_ok a b r e h = cc

not_large : (st0 st : SiteState) → within_size st0 ≡ Ok st → st0 ≡ st
not_large st0 st h = go (nat_lt 200_000 (parts (shown_root st0.plan st0.world.site))) h
  where
    go : (b : Bool) → cond b (Err Size) (Ok st0) ≡ Ok st → st0 ≡ st
    go true g = absurd (err_no_ok Size st g)
    go false g = same_ok st0 st (Ok st0) refl g

-- no path stands twice, no part breaks a rule of the roles, and the state is the one that is made
pub record Opens (base : Parts) (r : Path) (boot : ℕ) (lib words : Contracts) (root : Object) (st : SiteState) : Type 0 where
  pub once : taken_twice r [] (paths_in (all_roles words root) 0 no_roles (row_of root)) ≡ None
  pub good : bad_part (parts_of (all_roles words root) 0 false no_roles (row_of root)) ≡ None
  pub is : opened base r boot lib root (kept_root (all_roles words root) root) (parts_of (all_roles words root) 0 false no_roles (row_of root)) ≡ st

pub opens : (base : Parts) (r : Path) (boot : ℕ) (lib words : Contracts) (root : Object) (st : SiteState) → opened_with base r boot lib words root ≡ Ok st → Opens base r boot lib words root st
opens base r boot lib words root st h =
    let rs = all_roles words root in
    let ps : List Part = parts_of rs 0 false no_roles (row_of root) in
    let made : SiteState = opened base r boot lib root (kept_root rs root) ps in
    let first = not_twice (taken_twice r [] (paths_in rs 0 no_roles (row_of root))) (or_bad BadRule (bad_part ps) (within_size made)) st h in
    let second = not_bad BadRule (bad_part ps) (within_size made) st first.1 in
    record { once = first.0; good = second.0; is = not_large made st second.1 }

pub first_none : {A : Type 0} (xs ys : List A) → xs ++ ys ≡ [] → xs ≡ []
first_none [] ys h = refl
first_none (x ∷ xs) ys h = absurd (let e : x ∷ (xs ++ ys) ≡ [] = h in cc)

pub second_none : {A : Type 0} (xs ys : List A) → xs ++ ys ≡ [] → ys ≡ []
second_none [] ys h = h
second_none (x ∷ xs) ys h = absurd (let e : x ∷ (xs ++ ys) ≡ [] = h in cc)

-- no history, no sum of what is stored, and no subject is bad
pub record AllGood (ps : List Part) : Type 0 where
  pub histories : flat_map (bad_history ps) ps ≡ []
  pub stored : overfull 0 (histories_in ps) ≡ []
  pub subjects : bad_subjects ps (subjects ps) ≡ []

pub all_good : (ps : List Part) → bad_part ps ≡ None → AllGood ps
all_good ps h =
    let all = least_none (flat_map (bad_history ps) ps ++ (overfull 0 (histories_in ps) ++ bad_subjects ps (subjects ps))) h in
    let rest = second_none (flat_map (bad_history ps) ps) (overfull 0 (histories_in ps) ++ bad_subjects ps (subjects ps)) all in
    record {
      histories = first_none (flat_map (bad_history ps) ps) (overfull 0 (histories_in ps) ++ bad_subjects ps (subjects ps)) all;
      stored = first_none (overfull 0 (histories_in ps)) (bad_subjects ps (subjects ps)) rest;
      subjects = second_none (overfull 0 (histories_in ps)) (bad_subjects ps (subjects ps)) rest;
    }

none_mapped : (ps : List Part) → map (λ (q : Part). breaks SecondSubject q.number) ps ≡ [] → ps ≡ []
none_mapped [] h = refl
none_mapped (q ∷ ps) h = absurd (let e : breaks SecondSubject q.number ∷ map (λ (q : Part). breaks SecondSubject q.number) ps ≡ [] = h in cc)

-- there is one subject at most
pub one_subject : (ps qs : List Part) → bad_subjects ps qs ≡ [] → IsOneAtMost qs
one_subject ps [] h = tt
one_subject ps (q ∷ others) h = none_mapped others (second_none (bad_rules ps [] (items_of (codes "rules") q)) (map (λ (q : Part). breaks SecondSubject q.number) others) h)
