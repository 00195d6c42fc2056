use Rattle.std.proofs.Common.{inr, subst, sym}
use Rattle.ob_site_watches.specs.Answers.{AllKnown}
use Rattle.ob_watch.specs.Tables.{Table}
use Rattle.ob_site_watches.proofs.Made.{one_more}
use Rattle.ob_site.proofs.Keeping.{left_out_so, made_in, made_next}
use Rattle.ob_site.proofs.quiet.make_kept.Goals as goal

pub returns-then-left_out-clause-done : goal.returns-then-left_out-clause-done
returns-then-left_out-clause-done g c =
    made_in c.plan.result.now c.args.state.now.plan c.time-now.result c.args.state.now.time c.args.watches.now c.make.new.watches c.in_ok-reply.reply c.plan.ensures c.time-now.ensures c.in_ok-reply.ensures.done

pub returns-then-left_out-clause-known : goal.returns-then-left_out-clause-known
returns-then-left_out-clause-known g c = c.make.ensures.known

pub returns-then-left_out-clause-keeps : goal.returns-then-left_out-clause-keeps
returns-then-left_out-clause-keeps g c =
    left_out_so g.K.Keeper.below g.K.Keeper.keeps c.args.keeper.now c.args.state.now.plan c.time-now.result c.args.state.now.time c.args.watches.now c.args.request.now c.time-now.ensures
    (rw c.if-left_out.true at c.is_left_out-left_out.ensures)

pub returns-in-Ok-clause-done : goal.returns-in-Ok-clause-done
returns-in-Ok-clause-done g c =
    made_in c.plan.result.now c.args.state.now.plan c.time-now.result c.args.state.now.time c.args.watches.now c.make.new.watches c.in_ok-reply.reply c.plan.ensures c.time-now.ensures c.in_ok-reply.ensures.done

pub returns-in-Ok-clause-known : goal.returns-in-Ok-clause-known
returns-in-Ok-clause-known g c = c.make.ensures.known

pub returns-in-Ok-clause-keeps : goal.returns-in-Ok-clause-keeps
returns-in-Ok-clause-keeps g c =
    let needed = rw c.if-left_out.false at c.is_left_out-left_out.ensures in
    inr (made_next g.K.Keeper.below g.K.Keeper.keeps c.args.keeper.now c.keep.new.self c.plan.result.now c.args.state.now.plan c.time-now.result c.args.state.now.time
    c.args.watches.now c.make.new.watches c.args.request.now c.in_ok-reply.reply c.next_number.result c.plan.ensures c.time-now.ensures needed c.in_ok-reply.ensures.done c.next_number.ensures c.in-Ok.ensures.done)

pub returns-in-Err-clause-same : goal.returns-in-Err-clause-same
returns-in-Err-clause-same g c =
    let needed = rw c.if-left_out.false at c.is_left_out-left_out.ensures in
    c.unmake.ensures c.time-now.result c.args.watches.now (one_more c.plan.result.now c.time-now.result c.args.watches.now c.make.new.watches c.in_ok-reply.reply needed.0 c.in_ok-reply.ensures.done).table

pub returns-in-Err-clause-may_keep : goal.returns-in-Err-clause-may_keep
returns-in-Err-clause-may_keep g c =
    let needed = rw c.if-left_out.false at c.is_left_out-left_out.ensures in
    inr (made_next g.K.Keeper.below g.K.Keeper.may_keep c.args.keeper.now c.keep.new.self c.plan.result.now c.args.state.now.plan c.time-now.result c.args.state.now.time
    c.args.watches.now c.make.new.watches c.args.request.now c.in_ok-reply.reply c.next_number.result c.plan.ensures c.time-now.ensures needed c.in_ok-reply.ensures.done c.next_number.ensures c.in-Err.ensures.err)

pub returns-in-Err-clause-known : goal.returns-in-Err-clause-known
returns-in-Err-clause-known g c = λ k known.
    let needed = rw c.if-left_out.false at c.is_left_out-left_out.ensures in
    subst (λ (t : Table). AllKnown k t) (sym (c.unmake.ensures c.time-now.result c.args.watches.now (one_more c.plan.result.now c.time-now.result c.args.watches.now c.make.new.watches c.in_ok-reply.reply needed.0 c.in_ok-reply.ensures.done).table)) known
