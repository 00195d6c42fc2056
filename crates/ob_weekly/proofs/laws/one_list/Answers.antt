use Rattle.std.proofs.Common.{sym, ap, map, ◌∙◌}
use Rattle.ob_weekly.specs.Firings.{due_cmp, firing_of}
use Rattle.ob_weekly.proofs.OneList.{one_sorted}
use Rattle.ob_weekly.proofs.Order.{due_total}
use Rattle.ob_weekly.proofs.laws.one_list.Goals as goal

pub returns : goal.returns
returns c = λ zone schedules from to firings other p q.
    p.firings_are ∙ (ap (map firing_of) (one_sorted due_cmp due_total p.dues q.dues p.order q.order (λ d. (λ h. (q.exact d).1 ((p.exact d).0 h), λ h. (p.exact d).1 ((q.exact d).0 h)))) ∙ sym q.firings_are)
