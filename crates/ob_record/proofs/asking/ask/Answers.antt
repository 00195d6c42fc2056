use Rattle.std.proofs.Common.{subst}
use Rattle.ob_times.specs.Times.{IsMoment}
use Rattle.ob_record.proofs.AskLaws.{on_err, asked_once}
use Rattle.ob_record.proofs.asking.ask.Goals as goal

pub returns-clause-wanting : goal.returns-clause-wanting
returns-clause-wanting g c =
    on_err c.encode.result _
    (asked_once g.M.Machine.act c.args.machine.now c.step.new.self c.args.request.now c.args.moment c.in_ok-reply.reply
    (subst IsMoment c.ms.ensures.value c.ms.ensures.range) c.in_ok-reply.ensures.done)
