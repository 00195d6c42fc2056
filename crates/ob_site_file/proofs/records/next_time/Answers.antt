use Rattle.ob_site_file.specs.RulesAndRecords.{record_by}
use Rattle.ob_site_file.proofs.Recorded.{next_ok, next_err, none_err}
use Rattle.ob_site_file.proofs.records.next_time.Goals as goal

pub returns-in-Ok-clause-ok : goal.returns-in-Ok-clause-ok
returns-in-Ok-clause-ok c =
    next_ok c.args.before c.args.item.now (record_by c.in-Ok.parts) c.in_order.result c.in-Ok.ensures.ok c.in_order.ensures.ok

pub returns-in-Ok-clause-err : goal.returns-in-Ok-clause-err
returns-in-Ok-clause-err c =
    next_err c.args.before c.args.item.now (record_by c.in-Ok.parts) c.in_order.result c.in-Ok.ensures.ok c.in_order.ensures.err

pub returns-in-Err-clause-err : goal.returns-in-Err-clause-err
returns-in-Err-clause-err c = none_err c.args.before c.args.item.now c.in-Err.rule c.in-Err.ensures.none (c.in-Err.ensures.rule c.args.before)
