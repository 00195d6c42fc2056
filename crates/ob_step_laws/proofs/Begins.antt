-- How a document opens a state.
use Rattle.std.proofs.Common.{◌≡◌, ℕ, Bool, true, false, cond, not, ◌||◌, Option, Some, None, refl, ap, option_and_then}
use Rattle.std.specs.Prelude.{Result, Ok, Err}
use Rattle.url.specs.Parts.{Parts}
use Rattle.ob_object.specs.declared.kind.Kind.{Kind}
use Rattle.ob_object.specs.declared.kind.Kind.TheVariants as kind
use Rattle.ob_object.specs.Kinds.{same_kind, is_ref, is_err}
use Rattle.ob_object.specs.Object.{Object}
use Rattle.ob_object.specs.Paths.{node_path}
use Rattle.ob_contracts.specs.Inherit.{Contracts, only_if}
use Rattle.ob_contracts.specs.Standard.{standard}
use Rattle.ob_contracts.specs.declared.adding.LibFault.{LibFault}
use Rattle.ob_contracts.proofs.Fitting.{one_kind}
use Rattle.ob_href.specs.Href.{is_root_url}
use Rattle.ob_hrefs.specs.Hrefs.{root_url, site_path, bad_href, made_object}
use Rattle.ob_site_rules.specs.Build.{Text, Path}
use Rattle.ob_site_rules.specs.Writes.{site_contracts}
use Rattle.ob_site_rules.specs.Sites.{SiteState}
use Rattle.ob_site_rules.specs.Roles.{worded_contracts}
use Rattle.ob_site_rules.specs.Opening.{standard_words, opening}
use Rattle.ob_site_rules.specs.Loading.{LoadFault, Href, RootHref, Contract, add_contracts, opened_by, opening_at, root_of}
use Rattle.ob_step_laws.proofs.Inverted.{Opens, opens, not_bad}

-- the library with words that tells the roles of a made root
abbrev pub words_of : Contracts → Object → Contracts
words_of words m = worded_contracts words (site_contracts m)

-- The root has a URL, and the state is the one that the root with paths in place of texts opens: that is a node of the URL's path,
-- and the library takes its contracts.
pub record BeginsBy (resolve : Parts → Text → Option Path) (words : Contracts) (root : Object) (boot : ℕ) (st : SiteState) : Type 0 where
  pub base : Parts
  pub lib : Contracts
  pub path : node_path (made_object (resolve base) (Some base.path) root).head ≡ Some base.path
  pub added : add_contracts (Ok standard) (site_contracts (made_object (resolve base) (Some base.path) root)) ≡ Ok lib
  pub opens : Opens base base.path boot lib (words_of words (made_object (resolve base) (Some base.path) root)) (made_object (resolve base) (Some base.path) root) st

fault_no_ok : (f : LoadFault) (st : SiteState) → Err f ≡ Ok st → ⊥
fault_no_ok f st h = cc

module _ (url : Text → Option Parts) (resolve : Parts → Text → Option Path) (words : Contracts) where
  obj_if : (b : Bool) (o : Option Parts) (u : Parts) → cond b o None ≡ Some u → b ≡ true
  obj_if true o u h = refl
  obj_if false o u h = absurd (let e : None ≡ Some u = h in cc)

  root_obj : (root : Object) (u : Parts) → root_of url resolve standard words root ≡ Some u → root.head.kind ≡ kind.Obj
  root_obj root u h =
      one_kind root.head.kind kind.Obj
      (obj_if (same_kind root.head.kind kind.Obj) (option_and_then (λ v. cond (is_root_url v) (Some v) None) (option_and_then url root.head.href)) u h)

  root_path : (k : Kind) (p : Path) → k ≡ kind.Obj → only_if (not (is_ref k || is_err k)) (Some p) ≡ Some p
  root_path k p e = ap (λ (x : Kind). only_if (not (is_ref x || is_err x)) (Some p)) e

  added_begins : (base : Parts) (added : Result Contracts LibFault) (root : Object) (boot : ℕ) (st : SiteState) → root.head.kind ≡ kind.Obj
      → add_contracts (Ok standard) (site_contracts (made_object (resolve base) (Some base.path) root)) ≡ added
      → opened_by base base.path boot added words (made_object (resolve base) (Some base.path) root) ≡ Ok st → BeginsBy resolve words root boot st
  added_begins base (Err fault) root boot st is e h = absurd (fault_no_ok (Contract fault) st h)
  added_begins base (Ok lib) root boot st is e h =
      let m : Object = made_object (resolve base) (Some base.path) root in
      record {
        base = base;
        lib = lib;
        path = root_path root.head.kind base.path is;
        added = e;
        opens = opens base base.path boot lib (words_of words m) m st h;
      }

  at_begins : (root : Object) (boot : ℕ) (u : Option Parts) (st : SiteState) → root_of url resolve standard words root ≡ u → opening_at url resolve standard words root boot u ≡ Ok st
      → BeginsBy resolve words root boot st
  at_begins root boot None st e h = absurd (fault_no_ok RootHref st h)
  at_begins root boot (Some u) st e h =
      let m : Object = made_object (resolve u) (Some u.path) root in
      let next = not_bad Href (bad_href (resolve u) 1 root.inner) (opened_by u u.path boot (add_contracts (Ok standard) (site_contracts m)) words m) st h in
      added_begins u (add_contracts (Ok standard) (site_contracts m)) root boot st (root_obj root u e) refl next.1

abbrev pub Begins : Object → ℕ → SiteState → Type 0
Begins = BeginsBy site_path standard_words

pub begins : (root : Object) (boot : ℕ) (st : SiteState) → opening root boot ≡ Ok st → Begins root boot st
begins root boot st h = at_begins root_url site_path standard_words root boot (root_of root_url site_path standard standard_words root) st refl h
