-- What is told of a file's bytes, where its content is told.
use Rattle.std.proofs.Common.{◌≡◌, ℕ, List, take, Option, Some, None, IfSome, inr, subst}
use Rattle.std.specs.Prelude.{◌⊎◌}
use Rattle.ob_site_rules.specs.Sites.{SiteState}
use Rattle.ob_site_file.specs.declared.fault.LoadFault.{LoadFault}
use Rattle.ob_load.specs.Loads.{IsOutside, IsSite, RefusesBytes}

pub told_of : (content : Option (List ℕ)) (bytes : List ℕ) (boot : ℕ) (fault : LoadFault) → IfSome content (λ whole. bytes ≡ take 16_777_217 whole) → RefusesBytes bytes boot fault
    → IfSome content (λ whole. IsOutside fault ⊎ RefusesBytes (take 16_777_217 whole) boot fault)
told_of None bytes boot fault is why = tt
told_of (Some whole) bytes boot fault is why = inr (subst (λ (l : List ℕ). RefusesBytes l boot fault) is why)

pub told_site : (content : Option (List ℕ)) (bytes : List ℕ) (boot : ℕ) (ns : Option (List ℕ)) (site : SiteState) → IfSome content (λ whole. bytes ≡ take 16_777_217 whole) → IsSite bytes boot ns site
    → IfSome content (λ whole. IsSite (take 16_777_217 whole) boot ns site)
told_site None bytes boot ns site is opens = tt
told_site (Some whole) bytes boot ns site is opens = subst (λ (l : List ℕ). IsSite l boot ns site) is opens
