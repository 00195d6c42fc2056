-- A point of the plan is shown, and what is written to it.
use Rattle.std.proofs.Common.{◌≡◌, ℕ, false, true, Option, Some, None, sym, ap, ◌∙◌}
use Rattle.std.specs.Prelude.{is_some, unwrap_or}
use Rattle.ob_object.specs.Object.{Object}
use Rattle.ob_site_rules.specs.Build.{Path}
use Rattle.ob_site_rules.specs.declared.plan.Plan.{Plan}
use Rattle.ob_site_rules.specs.State.{State, is_among}
use Rattle.ob_site_rules.specs.Shown.{shown}
use Rattle.ob_site_rules.specs.Writes.{write_by}
use Rattle.ob_site_rules.specs.Posts.{write_point}
use Rattle.ob_plain_state.proofs.Points.{node_shown}
use Rattle.ob_step_laws.specs.Consistent.{IsConsistent}

pub not_hidden : (plan : Plan) (s : State) (p : Path) (r : Option Object) → IsConsistent plan s → is_among p plan.points ≡ true → r ≡ shown plan s p → r ≡ None → ⊥
not_hidden plan s p r c among shows none =
    let there = node_shown plan s p (c.points p among) in
    let bad : false ≡ true = ap is_some (sym none ∙ shows) ∙ there in
    cc

pub point_written : (plan : Plan) (s : State) (now : ℕ) (p : Path) (target new : Object) → shown plan s p ≡ Some target → write_by plan s now p target None new ≡ write_point plan s now p (Some new)
point_written plan s now p target new shows = sym (ap (λ (o : Option Object). write_by plan s now p (unwrap_or o new) None new) shows)
