-- Rules, each with its place as its number.
use Rattle.std.proofs.Common.{◌≡◌, ℕ, zero, suc, ◌+◌, Bool, false, List, [], ◌∷◌, Option, Some, None, refl}
use Rattle.std.specs.Prelude.{slice_get}
use Rattle.ob_alarms.specs.States.{needs_ack}
use Rattle.ob_site_rules.specs.declared.plan.PointRule.{PointRule}
use Rattle.ob_site_rules.specs.State.{numbered_from}

abbrev pub needs_of : Option PointRule → Bool
needs_of None = false
needs_of (Some r) = r.needs_ack

-- a numbered rule needs acknowledgements where it does
pub needs-numbered : (rs : List PointRule) (n i : ℕ) → needs_ack (slice_get (numbered_from n rs) i) ≡ needs_of (slice_get rs i)
needs-numbered [] n i = refl
needs-numbered (r ∷ rs) n zero = refl
needs-numbered (r ∷ rs) n (suc i) = needs-numbered rs (n + 1) i
