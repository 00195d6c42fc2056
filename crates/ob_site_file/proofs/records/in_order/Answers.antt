use Rattle.ob_site_file.proofs.Recorded.{falls_late, after_late, not_late}
use Rattle.std.proofs.Common.{◌∙◌, sym, ap, refl}
use Rattle.ob_times.specs.Times.{Instant, moment_instant}
use Rattle.ob_site_rules.specs.Loading.{is_earlier, last_moment}
use Rattle.ob_site_file.proofs.records.in_order.Goals as goal

pub returns-then-falls-clause-err : goal.returns-then-falls-clause-err
returns-then-falls-clause-err c = λ r same. falls_late c.args.before r c.falls.result (c.falls.ensures r same) c.if-falls.true

pub returns-then-is_late-clause-err : goal.returns-then-is_late-clause-err
returns-then-is_late-clause-err c = λ r same.
    after_late c.args.before r c.falls.result c.is_late.result (c.falls.ensures r same) c.if-falls.false (c.is_late.ensures ∙ ap (is_earlier (moment_instant last_moment)) (sym same)) c.if-is_late.true

pub returns-clause-ok : goal.returns-clause-ok
returns-clause-ok c =
    (refl, λ r same. not_late c.args.before r c.falls.result c.is_late.result (c.falls.ensures r same) c.if-falls.false (c.is_late.ensures ∙ ap (is_earlier (moment_instant last_moment)) (sym same)) c.if-is_late.false)
