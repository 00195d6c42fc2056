use Rattle.std.proofs.Common.{List, ℕ, ◌≡◌, ◌≢◌, subst}
use Rattle.std.specs.Prelude.{IfSome, IfNone}
use Rattle.ob_times.specs.Times.{IsMoment}
use Rattle.ob_record.proofs.AuditLaws.{none_stepped, reply_stepped}
use Rattle.ob_record.proofs.auditing.step_entry.Goals as goal

pub returns-in-NoMemory : goal.returns-in-NoMemory
returns-in-NoMemory g c = none_stepped g.M.Machine.act c.args.machine.now c.args.entry.now c.in-NoMemory.is (subst IsMoment c.ms.ensures.value c.ms.ensures.range)

pub returns-in_ok-text-in-Reply : goal.returns-in_ok-text-in-Reply
returns-in_ok-text-in-Reply g c =
    let text = c.in_ok-text-in-Reply.text.items in
    let compared = c.differing.result in
    reply_stepped g.M.Machine.act c.args.machine.now c.step.new.self c.args.entry.now _ c.in_ok-reply-in-Reply.reply text compared c.in-Reply.is
    (subst IsMoment c.ms.ensures.value c.ms.ensures.range) c.in_ok-reply-in-Reply.ensures.done c.in_ok-text-in-Reply.ensures
    (subst (λ (t : List ℕ). IfNone compared (t ≡ text)) c.as_slice.ensures c.differing.ensures.same)
    (subst (λ (t : List ℕ). IfSome compared (λ expected. (expected ≡ text) × (t ≢ text))) c.as_slice.ensures c.differing.ensures.other)
