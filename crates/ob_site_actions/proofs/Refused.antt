-- What is wrong with a write, and the answer to it.
use Rattle.std.proofs.Common.{◌≡◌, Bool, true, false, not, cond, Option, Some, None, option_map, refl, sym, ap, ◌∙◌}
use Rattle.ob_object.specs.Object.{Object}
use Rattle.ob_site_actions.proofs.Faults.{by_table}
use Rattle.ob_site_rules.specs.Build.{Path}
use Rattle.ob_site_rules.specs.declared.fault.Fault.{Fault}
use Rattle.ob_site_rules.specs.State.{State}
use Rattle.ob_site_rules.specs.Places.{reply_at}
use Rattle.ob_site_rules.specs.Writes.{showing}
use Rattle.ob_site_state.specs.Kept.{Kept}
use Rattle.ob_site_actions.specs.Stops.{IsDone}

-- what is shown after a write
pub shown_then : (k t : Kept) (made : State) (p : Path) (o default reply : Object) → t ≡ (let x : Kept = record k { now = made } in x) → default ≡ o → reply ≡ reply_at t.plan t.now p default
    → IsDone k t (showing k.plan p o made) reply
shown_then k t made p o default reply is same shows = record {
  after = is;
  answer = shows ∙ ap (λ (x : Kept). reply_at x.plan x.now p default) is ∙ ap (λ (x : Object). reply_at k.plan made p x) same;
}

-- where nothing is wrong, the kind is the same
pub same_of : (same : Bool) (fault : Option Fault) (over : Bool) → by_table same fault over ≡ None → same ≡ true
same_of true fault over e = refl
same_of false fault over e = absurd cc
