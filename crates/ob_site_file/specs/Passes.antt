-- What each pass over a document finds, in the order of the refusals.
use Rattle.std.specs.Prelude.{◌≡◌, ℕ, false, List, [], Some, None, Result, Ok, Err}
use Rattle.url.specs.Parts.{Parts}
use Rattle.ob_object.specs.Object.{Object, node, none}
use Rattle.ob_contracts.specs.Inherit.{Contracts}
use Rattle.ob_contracts.specs.Standard.{standard}
use Rattle.ob_contracts.specs.declared.adding.LibFault.{LibFault}
use Rattle.ob_contracts.specs.declared.adding.LibFault.TheVariants as lib
use Rattle.ob_parts.specs.declared.offence.Offence.{Offence}
use Rattle.ob_site_rules.specs.Build.{Path}
use Rattle.ob_site_rules.specs.Sites.{SiteState}
use Rattle.ob_site_rules.specs.Writes.{site_contracts}
use Rattle.ob_site_rules.specs.declared.roles.Roles.{Roles}
use Rattle.ob_site_rules.specs.declared.site_rule.SiteRule.{SiteRule}
use Rattle.ob_site_rules.specs.Roles.{no_roles, all_roles, worded_contracts}
use Rattle.ob_site_rules.specs.Loading as loading
use Rattle.ob_site_rules.specs.Loading.{Part, add_contracts, parts_of, paths_in, taken_twice, bad_part}
use Rattle.ob_site_rules.specs.Opening.{standard_words, opening}
use Rattle.ob_site_file.specs.declared.fault.LoadFault.{LoadFault}
use Rattle.ob_site_file.specs.declared.fault.LoadFault.TheVariants.{Read, Document, RootHref, Href, Contract, PathTwice, Rule, Size, Memory}

-- the refusal of a contract; want of memory is that of the whole
abbrev pub contract_fault : LibFault → LoadFault
contract_fault (lib.Twice uri) = Contract (lib.Twice uri)
contract_fault (lib.Later uri) = Contract (lib.Later uri)
contract_fault (lib.Large uri) = Contract (lib.Large uri)
contract_fault lib.Memory = Memory

-- the roles of all objects of a root that has paths in place of texts
abbrev pub site_roles : Object → List Roles
site_roles root = all_roles (worded_contracts standard_words (site_contracts root)) root

-- all its paths
abbrev pub site_paths : Object → List Path
site_paths root = paths_in (site_roles root) 0 no_roles (node root.head root.inner none)

-- its own objects that are kept
abbrev pub site_parts : Object → List Part
site_parts root = parts_of (site_roles root) 0 false no_roles (node root.head root.inner none)

-- The standard library takes the contracts of a root, none of its paths stands twice or is computed, and none of its parts breaks
-- a rule of the roles.
pub record IsApart (base : Parts) (root : Object) : Type 0 where
  pub library : Contracts
  pub taken : add_contracts (Ok standard) (site_contracts root) ≡ Ok library
  pub once : taken_twice base.path [] (site_paths root) ≡ None
  pub sound : bad_part (site_parts root) ≡ None

-- The standard library takes them, and no path stands twice or is computed, but this part breaks this rule.
pub record IsBadAt (base : Parts) (root : Object) (offence : Offence SiteRule) : Type 0 where
  pub library : Contracts
  pub taken : add_contracts (Ok standard) (site_contracts root) ≡ Ok library
  pub once : taken_twice base.path [] (site_paths root) ≡ None
  pub bad : bad_part (site_parts root) ≡ Some offence

-- why a root with paths opens nothing, before its size is asked for
abbrev pub RefusesMade : Parts → Object → LoadFault → Type 0
RefusesMade base root (Contract fault) = add_contracts (Ok standard) (site_contracts root) ≡ Err fault
RefusesMade base root (PathTwice path) = (library : Contracts) × ((add_contracts (Ok standard) (site_contracts root) ≡ Ok library) × (taken_twice base.path [] (site_paths root) ≡ Some path))
RefusesMade base root (Rule offence) = IsBadAt base root offence
RefusesMade base root Size = ⊥
RefusesMade base root Memory = Unit {0}
RefusesMade base root Read = ⊥
RefusesMade base root (Document refused) = ⊥
RefusesMade base root RootHref = ⊥
RefusesMade base root (Href part) = ⊥

-- The fault is the very refusal of the definition; want of memory may come at any place.
abbrev pub IsRefusal : Result SiteState loading.LoadFault → LoadFault → Type 0
IsRefusal expected RootHref = expected ≡ Err loading.RootHref
IsRefusal expected (Href part) = expected ≡ Err (loading.Href part)
IsRefusal expected (Contract fault) = expected ≡ Err (loading.Contract fault)
IsRefusal expected (PathTwice path) = expected ≡ Err (loading.PathTwice path)
IsRefusal expected (Rule offence) = expected ≡ Err (loading.BadRule offence)
IsRefusal expected Size = expected ≡ Err loading.Size
IsRefusal expected Memory = Unit {0}
IsRefusal expected Read = ⊥
IsRefusal expected (Document refused) = ⊥

-- why a document opens nothing
abbrev pub Refuses : Object → ℕ → LoadFault → Type 0
Refuses root boot fault = IsRefusal (opening root boot) fault
