-- What the code says of a config; no public clause stands on this.
use Rattle.std.specs.Prelude.{◌≡◌, ℕ, Bool, cond, ◌||◌, bytes_eq, List, [], ◌∷◌, ◌++◌, Option, Some, None, option_and_then, Result}
use Rattle.std.specs.declared.result.Result.TheVariants.{Ok, Err}
use denote.Ref.{Bor}
use Rattle.std.specs.List.{list_any}
use Rattle.ob_parts.specs.Least.{least}
use Rattle.ob_parts.specs.Least as order
use Rattle.ob_parts.specs.Numbered.{Part}
use Rattle.ob_parts.specs.Offences.{breaks}
use Rattle.ob_parts.specs.declared.offence.Offence.{Offence}
use Rattle.ob_super.specs.declared.config_rule.ConfigRule.{ConfigRule}
use Rattle.ob_super.specs.declared.config_fault.ConfigFault.{ConfigFault}
use Rattle.ob_super.specs.declared.config_fault.ConfigFault.TheVariants.{Shape, Memory}
use Rattle.ob_super.specs.declared.upstream.Upstream.{Upstream}
use Rattle.ob_super.specs.Upstreams as spec
use Rattle.ob_super.specs.Upstreams.{is_text, href_rule}
use Rattle.ob_watching.specs.WatchOuts.{Text}

abbrev pub upstream : Upstream → spec.Upstream
upstream u = record { name = u.name; lobby = u.lobby; hrefs = u.hrefs.items }

-- no part offends, and what is told is so; or the first part that offends; or there was no memory
abbrev pub Judges : {A : Type 0} → List (Offence ConfigRule) → (A → Type 0) → Result A ConfigFault → Type 0
Judges offences tells (Ok x) = (offences ≡ []) × tells x
Judges offences tells (Err (Shape offence)) = least offences ≡ Some offence
Judges offences tells (Err Memory) = Unit {0}

abbrev pub unless_any : {A : Type 0} → Option (Offence ConfigRule) → A → Result A ConfigFault
unless_any None told = Ok told
unless_any (Some offence) told = Err (Shape offence)

abbrev pub first_of : ConfigFault → ConfigFault → ConfigFault
first_of (Shape one) (Shape other) = Shape (order.first_of one other)
first_of (Shape one) Memory = Memory
first_of Memory other = Memory

abbrev pub both : {A B : Type 0} → Result A ConfigFault → Result B ConfigFault → Result (A × B) ConfigFault
both (Ok a) (Ok b) = Ok (a, b)
both (Ok a) (Err f) = Err f
both (Err f) (Ok b) = Err f
both (Err f) (Err g) = Err (first_of f g)

-- whether a text stands among those that were seen
abbrev pub was_seen : List (Bor (List ℕ)) → Text → Bool
was_seen seen t = list_any (λ k. bytes_eq t k.now) seen

-- a text, unless it was seen
abbrev pub unseen : List (Bor (List ℕ)) → Option Text → Option Text
unseen seen href = option_and_then (λ (t : Text). cond (was_seen seen t) None (Some t)) href

-- the text of an href was seen too
abbrev pub Sees : List (Bor (List ℕ)) → Option Text → List (Bor (List ℕ)) → Type 0
Sees before href after = (t : Text) → was_seen after t ≡ (was_seen before t || is_text t href)

-- the text of an href stands last; or there is none, and this part offends
abbrev pub TakesHref : List Text → List Text → Part → Option Text → Option (Offence ConfigRule) → Type 0
TakesHref old new p (Some t) offence = (new ≡ old ++ t ∷ []) × (offence ≡ None)
TakesHref old new p None offence = (new ≡ old) × (offence ≡ Some (breaks (href_rule p.object) p))

-- an upstream stands last; or a part offends, and nothing changed
abbrev pub TakesIn : List Upstream → List Upstream → Result Upstream ConfigFault → Option (Offence ConfigRule) → Type 0
TakesIn old new (Ok u) offence = (new ≡ old ++ u ∷ []) × (offence ≡ None)
TakesIn old new (Err (Shape found)) offence = (new ≡ old) × (offence ≡ Some found)
TakesIn old new (Err Memory) offence = ⊥
