-- What is asked for, as the definitions of the site have it.
use Rattle.std.specs.Prelude.{◌≡◌, ℕ, Bool, cond, List, [], ◌∷◌, ◌++◌, codes, Option, Some, None, option_map, Result, Err}
use Rattle.std.specs.List.{list_any}
use Rattle.std.specs.Str.{bytes_eq}
use Rattle.std.specs.BTreeSet.{BTreeSet}
use denote.Ref.{Bor}
use Rattle.ob_contracts.specs.Telling.{has_text}
use Rattle.ob_object.specs.declared.kind.Kind.TheVariants as kind
use Rattle.ob_object.specs.Kinds.{same_kind}
use Rattle.ob_object.specs.Object.{Object}
use Rattle.ob_contracts.specs.Inherit.{Contracts, effective_of}
use Rattle.ob_watching.specs.Operations.{ObjectAt, FeedAt, NotFound}
use Rattle.ob_site_rules.specs.Build.{Text, child}
use Rattle.ob_site_rules.specs.declared.fault.Fault.TheVariants as faults
use Rattle.ob_site_rules.specs.declared.fault.Fault.{Fault}
use Rattle.ob_site_rules.specs.Actions.{uri_of}
use Rattle.ob_site_rules.specs.Watched.{Asked, SiteFound, lease_of}
use Rattle.ob_requests.specs.declared.lease.Found.{Found}
use Rattle.ob_requests.specs.declared.lease.Found.TheVariants as found_as

-- what a uri asks for, if it has a value
abbrev pub asked_of : Object → Option Asked
asked_of o = option_map (λ text. (text, child (codes "in") o)) (uri_of o)

-- a text is asked for
abbrev pub holds_text : List Asked → Text → Bool
holds_text asked text = list_any (λ a. bytes_eq text a.0) asked

-- a set has the hrefs of what is asked for
abbrev pub HaveSeen : BTreeSet (Bor (List ℕ)) → List Asked → Type 0
HaveSeen seen asked = (text : Text) → has_text seen text ≡ holds_text asked text

-- one more was put behind what is asked for, unless its href is there, and the set has the hrefs of what is then there
pub record ArePut (seen : BTreeSet (Bor (List ℕ))) (old new : List Asked) (one : Asked) : Type 0 where
  pub kept : new ≡ cond (holds_text old one.0) old (old ++ one ∷ [])
  pub have : HaveSeen seen new

-- the first of what asks for equal hrefs, behind what is there
abbrev pub firsts_behind : List Asked → List Asked → List Asked
firsts_behind kept [] = kept
firsts_behind kept (a ∷ asked) = firsts_behind (cond (holds_text kept a.0) kept (kept ++ a ∷ [])) asked

-- the first of what asks for equal hrefs
abbrev pub firsts : List Asked → List Asked
firsts asked = firsts_behind [] asked

-- the lease that an input gives by a library, in nanoseconds
abbrev pub lease_in : Contracts → Option Object → Result ℕ Fault
lease_in library None = Err faults.OtherShape
lease_in library (Some o) = cond (same_kind o.head.kind kind.Reltime) (lease_of (effective_of library o None None).head.slot) (Err faults.OtherKind)

abbrev pub found : Found → SiteFound
found (found_as.Object path) = ObjectAt path
found (found_as.Feed path filter) = FeedAt path filter
found (found_as.Nothing fault) = NotFound fault
