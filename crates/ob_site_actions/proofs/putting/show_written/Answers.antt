use Rattle.std.proofs.Common.{◌≡◌, sym}
use Rattle.std.proofs.lemmas.Result.{IfOk-weaker}
use Rattle.ob_object.specs.Object.{Object}
use Rattle.ob_site_rules.specs.Places.{reply_at}
use Rattle.ob_site_rules.specs.Writes.{written, showing}
use Rattle.ob_site_actions.specs.Stops.{IsDone}
use Rattle.ob_site_actions.proofs.Refused.{shown_then}
use Rattle.ob_site_actions.proofs.putting.show_written.Goals as goal

pub returns-clause-ok : goal.returns-clause-ok
returns-clause-ok g c =
    let k = c.args.state.now in
    let t = c.written_at.new.state in
    let p = c.args.path.now in
    let made = written k.plan k.time p c.args.object.now c.args.slot.now k.now in
    let shows : Object → Type 0 = λ reply. reply ≡ reply_at t.plan t.now p c.in_ok-default.default in
    IfOk-weaker c.reply_at.result shows (IsDone k t (showing k.plan p c.args.object.now made))
    (λ reply is. shown_then k t made p c.args.object.now c.in_ok-default.default reply (c.in_ok-written_at.ensures.ok c.args.object.now (sym c.head.ensures.value)) c.in_ok-default.ensures is) c.reply_at.ensures
