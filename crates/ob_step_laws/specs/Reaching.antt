-- What another library changes of a node it changes of each node round it. Source: oBIX 1.1, chapter 7 (Contracts).
use Rattle.std.specs.Prelude.{◌≡◌, true, Some}
use Rattle.ob_contracts.specs.Inherit.{Contracts}
use Rattle.ob_site_rules.specs.Build.{Path}
use Rattle.ob_site_rules.specs.declared.plan.Plan.{Plan}
use Rattle.ob_site_rules.specs.State.{State}
use Rattle.ob_site_rules.specs.Shown.{dressed}
use Rattle.ob_shown_laws.specs.Alike.{row, DifferInValues}
use Rattle.ob_shown_laws.specs.Changed.{is_round, is_watchable, PathsDiffer}
use Rattle.ob_shown_laws.specs.Standing.{Standing, standing_at}
use Rattle.ob_step_laws.specs.Defaults.{StayGiven, DifferInDefaults, with_library, is_same}

-- Where a watch shows a node with another library as before, it shows each node in it as before: what an object comes to has in
-- it what its own children come to.
abbrev pub DefaultsReach : Type 0
DefaultsReach = (plan : Plan) (s : State) (new : Contracts) → PathsDiffer (row (dressed plan s)) → (p q : Path) (x : Standing)
    → standing_at plan s p ≡ Some x → is_watchable x.object.head ≡ true → is_round q x.object ≡ true
    → is_same plan s (with_library new s) p ≡ true → is_same plan s (with_library new s) q ≡ true

-- Whether another library, which differs in slots alone, changes what a watch shows of a node is told by which slots are given,
-- and not by their values, nor by records and alarms.
abbrev pub DefaultsStand : Type 0
DefaultsStand = (plan : Plan) (s t : State) (new : Contracts) → DifferInValues s t
    → StayGiven (row s.tree) (row t.tree) → StayGiven (row t.tree) (row s.tree) → DifferInDefaults s.library new → (p : Path)
    → is_same plan s (with_library new s) p ≡ is_same plan t (with_library new t) p
