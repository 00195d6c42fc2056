use Rattle.std.proofs.Common.{◌-◌, ◌++◌, List, ap, ◌∙◌}
use Rattle.ob_object.specs.Object.{Object}
use Rattle.ob_replies.proofs.Fitting.{records_fit, front_fit, back_fit}
use Rattle.ob_site_reads.proofs.Eventful.{some_records, in_two}
use Rattle.ob_site_reads.proofs.events.log_events.Goals as goal

pub put_passing-requires : goal.put_passing-requires
put_passing-requires c = front_fit c.looked_at.result.0.now c.looked_at.result.1.now (records_fit _ c.looked_at.ensures.records)

pub put_passing-requires-2 : goal.put_passing-requires-2
put_passing-requires-2 c = back_fit c.looked_at.result.0.now c.looked_at.result.1.now (records_fit _ c.looked_at.ensures.records)

pub returns : goal.returns
returns c =
    c.in_ok-put_passing-2.ensures
    ∙ ap (λ (l : List Object). l ++ some_records c.args.bounds.now c.looked_at.result.1.now) (c.in_ok-put_passing.ensures ∙ ap (λ (l : List Object). l ++ some_records c.args.bounds.now c.looked_at.result.0.now) c.new-events.ensures.items)
    ∙ in_two c.args.bounds.now (c.args.given - c.args.log.now.gone) c.args.log.now.kept c.looked_at.result.0.now c.looked_at.result.1.now c.looked_at.ensures.passing
