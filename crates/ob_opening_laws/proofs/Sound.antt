-- The state that a document opens is sound.
use Rattle.std.proofs.Common.{arith, ◌≡◌, ℕ, ◌+◌, ◌-◌, Bool, true, false, cond, List, [], ◌∷◌, map, length, drop, Option, Some, None, refl, ap, ◌∙◌, ap₂, nat_lt}
use Rattle.std.proofs.lemmas.List.{length-drop}
use Rattle.std.specs.Prelude.{Result, Ok, Err}
use Rattle.url.specs.Parts.{Parts}
use Rattle.ob_object.specs.Object.{Objects, Object, parts, listed}
use Rattle.ob_contracts.specs.Inherit.{Contracts}
use Rattle.ob_contracts.specs.declared.adding.LibFault.{LibFault}
use Rattle.ob_history.specs.declared.records.Record.{Record}
use Rattle.ob_watching.specs.Watches.{IsSound}
use Rattle.ob_site_rules.specs.Build.{Text, Path}
use Rattle.ob_site_rules.specs.State.{Log, State, rolled, rolled_logs}
use Rattle.ob_site_rules.specs.Shown.{shown_root}
use Rattle.ob_site_rules.specs.Writes.{site_contracts}
use Rattle.ob_site_rules.specs.Sites.{SiteState, site}
use Rattle.ob_opening_laws.specs.Sound.{IsSoundIfOpen, OpensSound}
use Rattle.ob_site_rules.specs.declared.roles.Roles.{Roles}
use Rattle.ob_site_rules.specs.Roles.{no_roles, all_roles, worded_contracts}
use Rattle.ob_hrefs.specs.Hrefs.{bad_href}
use Rattle.ob_site_rules.specs.Loading.{LoadFault, Size, Href, BadRule, Part, row_of, kept_root, parts_of, paths_in, taken_twice, bad_part, add_contracts, opened, or_twice, or_bad, within_size, opened_with, opened_by, opening_at, root_of, made_root, opening_of}

abbrev log : Option ℕ → ℕ → List Record → Log
log c g k = record { capacity = c; gone = g; kept = k }

plus_zero : (n : ℕ) → n + 0 ≡ n
plus_zero n = omega arith

rolls_once : (c : Option ℕ) (g : ℕ) (k : List Record) → rolled (rolled (log c g k)) ≡ rolled (log c g k)
rolls_once None g k = refl
rolls_once (Some c) g k =
    let left : List Record = drop (length k - c) k in
    let none : length left - c ≡ 0 = omega (arith, length-drop (length k - c) k) in
    ap (λ n. log (Some c) (g + (length k - c) + n) (drop n left)) none ∙ ap (λ n. log (Some c) n left) (plus_zero (g + (length k - c)))

logs_roll_once : {A : Type 0} (path : A → Path) (l : A → Log) (xs : List A) → rolled_logs (map (λ x. (path x, rolled (l x))) xs) ≡ map (λ x. (path x, rolled (l x))) xs
logs_roll_once path l [] = refl
logs_roll_once path l (x ∷ xs) =
    ap₂ (λ (y : Log) (ys : List (Path × Log)). (path x, y) ∷ ys) (rolls_once (l x).capacity (l x).gone (l x).kept) (logs_roll_once path l xs)

module _ (locate : Parts → Text → Option Path) where
  abbrev Sound : Result SiteState LoadFault → Type 0
  Sound = IsSoundIfOpen locate

  opened_sound : (base : Parts) (r : Path) (boot : ℕ) (lib : Contracts) (root tree : Object) (ps : List Part) → Sound (Ok (opened base r boot lib root tree ps))
  opened_sound base r boot lib root tree ps = record {
    numbers = omega arith;
    next = omega arith;
    texts = tt;
    rolled = ap (λ (ls : List (Path × Log)). let s : State = record (opened base r boot lib root tree ps).world.site { logs = ls } in s) (logs_roll_once _ _ _);
  }

  within_sound : (st : SiteState) → Sound (Ok st) → Sound (within_size st)
  within_sound st h = go (nat_lt 200_000 (parts (shown_root st.plan st.world.site)))
    where
      go : (b : Bool) → let r : Result SiteState LoadFault = cond b (Err Size) (Ok st) in Sound r
      go true = tt
      go false = h

  bad_sound : {A : Type 0} (fault : A → LoadFault) (o : Option A) (r : Result SiteState LoadFault) → Sound r → Sound (or_bad fault o r)
  bad_sound fault None r h = h
  bad_sound fault (Some n) r h = tt

  twice_sound : (o : Option Path) (r : Result SiteState LoadFault) → Sound r → Sound (or_twice o r)
  twice_sound None r h = h
  twice_sound (Some p) r h = tt

  with_sound : (base : Parts) (r : Path) (boot : ℕ) (lib words : Contracts) (root : Object) → Sound (opened_with base r boot lib words root)
  with_sound base r boot lib words root =
      let rs : List Roles = all_roles words root in
      let ps : List Part = parts_of rs 0 false no_roles (row_of root) in
      let st : SiteState = opened base r boot lib root (kept_root rs root) ps in
      twice_sound (taken_twice r [] (paths_in rs 0 no_roles (row_of root))) (or_bad BadRule (bad_part ps) (within_size st))
      (bad_sound BadRule (bad_part ps) (within_size st) (within_sound st (opened_sound base r boot lib root (kept_root rs root) ps)))

  by_sound : (base : Parts) (r : Path) (boot : ℕ) (added : Result Contracts LibFault) (words : Contracts) (root : Object) → Sound (opened_by base r boot added words root)
  by_sound base r boot (Err fault) words root = tt
  by_sound base r boot (Ok lib) words root = with_sound base r boot lib (worded_contracts words (site_contracts root)) root

  module _ (root_url : Text → Option Parts) (resolve : Parts → Text → Option Path) (standard words : Contracts) where
    at_sound : (root : Object) (boot : ℕ) (u : Option Parts) → Sound (opening_at root_url resolve standard words root boot u)
    at_sound root boot None = tt
    at_sound root boot (Some u) =
        let made : Object = made_root root_url resolve standard words u root in
        let added : Result Contracts LibFault = add_contracts (Ok standard) (site_contracts made) in
        bad_sound Href (bad_href (resolve u) 1 root.inner) (opened_by u u.path boot added words made) (by_sound u u.path boot added words made)

pub opens_sound : OpensSound
opens_sound root_url resolve locate standard words root boot = at_sound locate root_url resolve standard words root boot (root_of root_url resolve standard words root)
