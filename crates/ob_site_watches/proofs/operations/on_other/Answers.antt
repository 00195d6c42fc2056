use Rattle.std.proofs.Common.{Option, Some, sym, ap, ◌∙◌, subst}
use Rattle.std.specs.Prelude.{option_and_then}
use Rattle.std.proofs.lemmas.Result.{IfOk-weaker}
use Rattle.ob_watching.specs.Tables.{numbers_of, replace}
use Rattle.ob_requests.specs.Targets.{operation_of}
use Rattle.ob_site_state.specs.Stamping.{tree_of}
use Rattle.ob_watch.specs.Flags.{flagged}
use Rattle.ob_watch.specs.Tables.{IsLease, Leased, holding, live, room_beside}
use Rattle.ob_site_watches.specs.Answers.{AllKnown}
use Rattle.ob_site_watches.specs.Leaving.{marks_after}
use Rattle.ob_site_watches.proofs.Knowing.{left_known}
use Rattle.ob_site_watches.proofs.Answering.{agrees, known_there, live_there, marks_last, none_stands, one_stands}
use Rattle.ob_site_watches.proofs.Polled.{asked_there, none_asked, whatever}
use Rattle.ob_site_watches.proofs.operations.on_other.Goals as goal

pub returns-in_default-clause-done : goal.returns-in_default-clause-done
returns-in_default-clause-done g c =
    IfOk-weaker c.refusal.result _ _
    (λ o e. none_stands c.args.state.now c.args.call.now.moment c.args.call.now.number c.args.watches.now (operation_of c.args.call.now.asks) o (sym c.in_default.ensures) e) c.refusal.ensures

pub reply-requires-clause-known : goal.reply-requires-clause-known
reply-requires-clause-known g c =
    known_there c.args.state.now c.args.call.now.moment c.args.call.now.number c.args.watches.now c.in-Some.watch.now c.requires.known (sym c.in-Some.ensures)

pub returns-clause-done : goal.returns-clause-done
returns-clause-done g c =
    let k = c.args.state.now in
    let now = c.args.call.now.moment in
    let n = c.args.call.now.number in
    let op = operation_of c.args.call.now.asks in
    let old = c.args.watches.now in
    let w = c.in-Some.watch.now in
    let differ = c.numbers-numbers.ensures.differ in
    let ns = numbers_of (live now old.watches) in
    let room = room_beside n (live now old.watches) in
    one_stands k now n old c.leave.new.watches op w (marks_after k now op w) c.in_ok-reply.reply differ (sym c.in-Some.ensures)
    (c.leave.ensures.left ∙ ap (λ (v : Option Leased). holding (replace n (option_and_then (marks_after k now op) v) old.watches) old) (live_there now n old.watches w differ (sym c.in-Some.ensures)))
    (marks_last k now op w (subst IsLease c.lease-lease.ensures.value c.lease-lease.ensures.bounded))
    (agrees k now ns room op w c.feeds_law.ensures c.requires.past (known_there k now n old w c.requires.known (sym c.in-Some.ensures)) c.requires.other)
    (c.in_ok-reply.ensures.reply ns room)

pub returns-clause-known : goal.returns-clause-known
returns-clause-known g c =
    subst (AllKnown c.args.state.now) (sym c.leave.ensures.left)
    (left_known c.args.state.now c.args.call.now.moment c.args.call.now.number (operation_of c.args.call.now.asks) c.args.watches.now c.requires.known)

pub returns-in_default-clause-steps : goal.returns-in_default-clause-steps
returns-in_default-clause-steps g c =
    whatever c.refusal.result _
    (none_asked c.args.state.now.plan c.args.state.now.now (tree_of c.args.state.now) c.args.call.now.number (live c.args.call.now.moment c.args.watches.now.watches) (operation_of c.args.call.now.asks) c.args.steps.now (sym c.in_default.ensures))

pub returns-clause-steps : goal.returns-clause-steps
returns-clause-steps g c =
    let plan = c.args.state.now.plan in
    let s = c.args.state.now.now in
    let t = tree_of c.args.state.now in
    asked_there plan s t c.args.call.now.number (live c.args.call.now.moment c.args.watches.now.watches) c.in-Some.watch.now (operation_of c.args.call.now.asks) c.args.steps.now c.leave.new.steps
    (sym c.in-Some.ensures) (c.leave.ensures.steps plan s (Some (flagged t c.in-Some.watch.now)) c.args.steps.now c.in_ok-reply.ensures.steps)
