-- What a pass found, as the opening has it.
use Rattle.std.proofs.Common.{◌≡◌, ℕ, Bool, cond, List, [], Option, Some, None, sym, ap, ◌∙◌, subst, ⊎_elim}
use Rattle.std.specs.Prelude.{nat_lt, Result, Ok, Err}
use Rattle.url.specs.Parts.{Parts}
use Rattle.ob_object.specs.Object.{Object, parts}
use Rattle.ob_contracts.specs.Inherit.{Contracts}
use Rattle.ob_contracts.specs.Standard.{standard}
use Rattle.ob_contracts.specs.declared.adding.LibFault.{LibFault}
use Rattle.ob_contracts.specs.declared.adding.LibFault.TheVariants as lib
use Rattle.ob_hrefs.specs.Hrefs.{root_url, site_path, root_of, bad_href, made_object}
use Rattle.ob_parts.specs.declared.offence.Offence.{Offence}
use Rattle.ob_site_rules.specs.declared.site_rule.SiteRule.{SiteRule}
use Rattle.ob_site_rules.specs.Shown.{shown_root}
use Rattle.ob_site_rules.specs.Sites.{SiteState}
use Rattle.ob_site_rules.specs.Writes.{site_contracts}
use Rattle.ob_site_rules.specs.Loading as loading
use Rattle.ob_site_rules.specs.Loading.{add_contracts, taken_twice, bad_part, kept_root, opened, or_twice, or_bad, within_size, opened_by, opening_at}
use Rattle.ob_site_rules.specs.Opening.{standard_words, opening}
use Rattle.ob_roles.specs.Sums.{Gives}
use Rattle.ob_site_file.specs.Opened.{opened_made}
use Rattle.ob_site_file.specs.Passes.{contract_fault, site_roles, site_paths, site_parts, IsApart, IsRefusal, Refuses, RefusesMade}
use Rattle.ob_site_file.specs.declared.fault.LoadFault.{LoadFault}
use Rattle.ob_site_file.specs.declared.fault.LoadFault.TheVariants.{Read, Document, RootHref, Href, Contract, PathTwice, Rule, Size, Memory}

-- a contract that isn't taken
pub contract_refused : (base : Parts) (root : Object) (f : LibFault) → Gives (Err f) (add_contracts (Ok standard) (site_contracts root)) → RefusesMade base root (contract_fault f)
contract_refused base root (lib.Twice uri) g = ⊎_elim (λ e. e) (λ m. absurd cc) g
contract_refused base root (lib.Later uri) g = ⊎_elim (λ e. e) (λ m. absurd cc) g
contract_refused base root (lib.Large uri) g = ⊎_elim (λ e. e) (λ m. absurd cc) g
contract_refused base root lib.Memory g = tt

-- by the library, by the paths, and by the rules
abbrev by_library : Parts → ℕ → Object → Result Contracts LibFault → Result SiteState loading.LoadFault
by_library base boot root taken = opened_by base base.path boot taken standard_words root

abbrev by_rules : Parts → ℕ → Object → Contracts → Option (Offence SiteRule) → Result SiteState loading.LoadFault
by_rules base boot root library bad = or_bad loading.BadRule bad (within_size (opened base base.path boot library root (kept_root (site_roles root) root) (site_parts root)))

twice : (base : Parts) (boot : ℕ) (root : Object) (library : Contracts) (path : List ℕ) → add_contracts (Ok standard) (site_contracts root) ≡ Ok library → taken_twice base.path [] (site_paths root) ≡ Some path
    → opened_made base boot root ≡ Err (loading.PathTwice path)
twice base boot root library path taken h = ap (by_library base boot root) taken ∙ ap (λ t. or_twice t (by_rules base boot root library (bad_part (site_parts root)))) h

once : (base : Parts) (boot : ℕ) (root : Object) (library : Contracts) (bad : Option (Offence SiteRule)) → add_contracts (Ok standard) (site_contracts root) ≡ Ok library → taken_twice base.path [] (site_paths root) ≡ None → bad_part (site_parts root) ≡ bad
    → opened_made base boot root ≡ by_rules base boot root library bad
once base boot root library bad taken h is =
    ap (by_library base boot root) taken ∙ ap (λ t. or_twice t (by_rules base boot root library (bad_part (site_parts root)))) h ∙ ap (by_rules base boot root library) is

-- a refusal of the root with paths is the opening's
pub made_refused : (base : Parts) (boot : ℕ) (root : Object) (f : LoadFault) → RefusesMade base root f → IsRefusal (opened_made base boot root) f
made_refused base boot root (Contract fault) r = ap (by_library base boot root) r
made_refused base boot root (PathTwice path) r = twice base boot root r.0 path r.1.0 r.1.1
made_refused base boot root (Rule offence) r = once base boot root r.library (Some offence) r.taken r.once r.bad
made_refused base boot root Size r = absurd r
made_refused base boot root Memory r = tt
made_refused base boot root Read r = absurd r
made_refused base boot root (Document refusal) r = absurd r
made_refused base boot root RootHref r = absurd r
made_refused base boot root (Href part) r = absurd r

-- one in which no path stands twice and no part breaks a rule opens, as far as it isn't too large
pub made_opens : (base : Parts) (boot : ℕ) (root : Object) (library : Contracts) (large : Bool) → add_contracts (Ok standard) (site_contracts root) ≡ Ok library → IsApart base root
    → large ≡ nat_lt 200_000 (parts (shown_root (opened base base.path boot library root (kept_root (site_roles root) root) (site_parts root)).plan (opened base base.path boot library root (kept_root (site_roles root) root) (site_parts root)).world.site))
    → opened_made base boot root ≡ cond large (Err loading.Size) (Ok (opened base base.path boot library root (kept_root (site_roles root) root) (site_parts root)))
made_opens base boot root library large taken apart is =
    once base boot root library None taken apart.once apart.sound
    ∙ ap (λ b. cond b (Err loading.Size) (Ok (opened base base.path boot library root (kept_root (site_roles root) root) (site_parts root)))) (sym is)

-- the root with paths
abbrev pub made : Parts → Object → Object
made base root = made_object (site_path base) (Some base.path) root

pub no_root : (root : Object) (boot : ℕ) → root_of root ≡ None → opening root boot ≡ Err loading.RootHref
no_root root boot e = ap (opening_at root_url site_path standard standard_words root boot) e

pub bad_one : (root : Object) (boot : ℕ) (base : Parts) (n : ℕ) → root_of root ≡ Some base → bad_href (site_path base) 1 root.inner ≡ Some n → opening root boot ≡ Err (loading.Href n)
bad_one root boot base n e h =
    ap (opening_at root_url site_path standard standard_words root boot) e
    ∙ ap (λ b. or_bad loading.Href b (opened_made base boot (made base root))) h

-- where each href is a path, the opening is that of the root with paths
pub past : (root : Object) (boot : ℕ) (base : Parts) → root_of root ≡ Some base → bad_href (site_path base) 1 root.inner ≡ None → opening root boot ≡ opened_made base boot (made base root)
past root boot base e h =
    ap (opening_at root_url site_path standard standard_words root boot) e
    ∙ ap (λ b. or_bad loading.Href b (opened_made base boot (made base root))) h

pub refused : (root : Object) (boot : ℕ) (base : Parts) (f : LoadFault) → root_of root ≡ Some base → bad_href (site_path base) 1 root.inner ≡ None → IsRefusal (opened_made base boot (made base root)) f → Refuses root boot f
refused root boot base f e h r = subst (λ (x : Result SiteState loading.LoadFault). IsRefusal x f) (sym (past root boot base e h)) r
