-- The state after each item of a batch.
use Rattle.std.proofs.Common.{◌≡◌, sym, ap, ◌∙◌}
use Rattle.ob_site_rules.specs.State.{State}
use Rattle.ob_requests.proofs.Requests.{item_out, item_done, item_nowhere, batch_done, act_done, act_nowhere}
use Rattle.ob_site_state.specs.Kept.{Kept}

abbrev pub with_now : Kept → State → Kept
with_now k s = record k { now = s }

-- all but the state now stays from item to item
pub stays_on : (first k n : Kept) (s : State) → k ≡ with_now first k.now → n ≡ with_now k s → n ≡ with_now first n.now
stays_on first k n s stays after =
    after
    ∙ ap (λ (x : Kept). with_now x s) stays
    ∙ ap (λ (x : State). with_now first x) (sym (ap (λ (x : Kept). x.now) after))

-- an item, and a request, by what its path names
pub ruleset items = (item_out, item_done, item_nowhere)

pub ruleset requests = (batch_done, act_done, act_nowhere)
