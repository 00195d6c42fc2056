-- Writes that are told of by what is asked of their target.
use Rattle.std.specs.Prelude.{◌≡◌, Some}
use Rattle.ob_object.specs.Object.{Object}
use Rattle.ob_site_rules.specs.Build.{Path}
use Rattle.ob_site_rules.specs.declared.fault.Fault.{Fault}
use Rattle.ob_site_rules.specs.Faults.{err}
use Rattle.ob_site_rules.specs.Shown.{shown}
use Rattle.ob_site_rules.specs.declared.plan.Plan.{Plan}
use Rattle.ob_site_rules.specs.State.{State}
use Rattle.ob_site_reads.specs.Targets.{target}

-- of this object the same is asked as of what is shown at a path
abbrev pub IsTarget : Plan → State → Path → Object → Type 0
IsTarget plan s p o = (x : Object) × ((shown plan s p ≡ Some x) × (target x ≡ target o))

-- something is shown at a path, and what a request makes of it is this refusal
abbrev pub IsRefused : Plan → State → Path → (Object → State × Object) → Fault → Type 0
IsRefused plan s p made fault = (o : Object) × ((shown plan s p ≡ Some o) × (made o ≡ (s, err fault)))
