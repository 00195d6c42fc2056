use Rattle.std.proofs.Common.{ap, sym, ◌∙◌, List, ℕ}
use Rattle.ob_site_rules.specs.Paths.{watch_part}
use Rattle.ob_site_rules.specs.Watched.{operation, target_part}
use Rattle.ob_requests.proofs.target.target_part.Goals as goal

pub returns-in-Beyond : goal.returns-in-Beyond
returns-in-Beyond c = (
  c.in-Beyond.ensures.0,
  operation c.args.request.now.verb c.in-Beyond.ensures.1 c.args.request.now.body,
  c.in-Beyond.ensures.2,
  ap (λ (t : List ℕ). target_part c.args.request.now (watch_part c.args.plan.now t)) (sym c.as_str.ensures.value) ∙ ap (target_part c.args.request.now) c.in-Beyond.ensures.3,
)
