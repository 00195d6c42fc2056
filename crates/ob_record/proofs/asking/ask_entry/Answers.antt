use Rattle.std.proofs.Common.{◌≡◌, ◌<◌, ◌^◌, ◌∙◌, ℕ, List, length, subst, sym, arith}
use Rattle.ob_times.specs.Times.{IsMoment}
use Rattle.ob_record.proofs.AskLaws.{on_err, asked_once, entries_made}
use Rattle.ob_record.proofs.BodyLaws.{spelled_body}
use Rattle.ob_record.proofs.asking.ask_entry.Goals as goal

pub returns-clause-tells : goal.returns-clause-tells
returns-clause-tells g c = λ spelled.
    let replies = c.in_ok-bytes.ensures.replies in
    let target_short : length c.as_str.result.now < 2 ^ 63 = omega arith in
    let small : length c.in_ok-bytes.bytes.items < 2 ^ 63 = omega arith in
    entries_made g.M.Machine.act c.args.machine.now c.ask.new.machine c.args.request c.args.moment replies.reply c.new.result c.write_entry.result
    (subst IsMoment c.ms.ensures.value c.ms.ensures.range) c.as_str.ensures.xml
    (subst (λ (l : List ℕ). length l < 2 ^ 63) c.as_str.ensures.value target_short)
    (spelled_body c.args.request.body spelled) replies.acts (c.new.ensures ∙ replies.text)
    (subst (λ (l : List ℕ). length l < 2 ^ 63) (sym c.new.ensures) small) c.write_entry.ensures

pub returns-clause-wanting : goal.returns-clause-wanting
returns-clause-wanting g c =
    let replies = c.in_ok-bytes.ensures.replies in
    on_err c.write_entry.result _
    (asked_once g.M.Machine.act c.args.machine.now c.ask.new.machine c.args.request c.args.moment replies.reply
    (subst IsMoment c.ms.ensures.value c.ms.ensures.range) replies.acts)
