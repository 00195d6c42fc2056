use Rattle.std.proofs.Common.{◌≡◌, ◌≢◌, Bool, refl, subst}
use Rattle.std.specs.Prelude.{MatchBool}
use Rattle.ob_values.specs.declared.verb.Verb.TheVariants.{Get}
use Rattle.ob_watching.specs.Tables.{numbers_of}
use Rattle.ob_watch.specs.Tables.{lapsed_at}
use Rattle.ob_site.proofs.Acted.{acted_so, kept_in, none_away, stays_by}
use Rattle.ob_site.proofs.Keeping.{change_so, may_change_so, read_keeps, whatever_err}
use Rattle.ob_site.proofs.QuietReads.{read_so}
use Rattle.ob_site.proofs.acting.on_itself.Goals as goal

pub returns-then-is_read-clause-done : goal.returns-then-is_read-clause-done
returns-then-is_read-clause-done g c =
    read_so c.args.state.now c.args.watches.now c.args.asked.request.now c.in_ok-reply.reply (subst (λ (b : Bool). MatchBool b (c.args.asked.request.now.verb ≡ Get) (c.args.asked.request.now.verb ≢ Get)) c.if-is_read.true c.is_read.ensures)
    c.act.new.state c.end_quietly.new.state c.end_quietly.new.watches c.requires.begun c.in_ok-reply.ensures.done c.end_quietly.ensures.state c.end_quietly.ensures.watches

pub returns-then-is_read-clause-keeps : goal.returns-then-is_read-clause-keeps
returns-then-is_read-clause-keeps g c =
    read_keeps c.args.state.now c.args.watches.now c.args.asked.request.now g.K.Keeper.below g.K.Keeper.keeps c.args.keeper.now c.args.keeper.now c.requires.begun refl
    (subst (λ (b : Bool). MatchBool b (c.args.asked.request.now.verb ≡ Get) (c.args.asked.request.now.verb ≢ Get)) c.if-is_read.true c.is_read.ensures)

pub end_step-requires-clause-kept : goal.end_step-requires-clause-kept
end_step-requires-clause-kept g c = (kept_in c.args.state.now c.act.new.state c.args.watches.now _ c.requires.begun c.in_ok-reply.ensures.done.after).0

pub end_step-requires-clause-room : goal.end_step-requires-clause-room
end_step-requires-clause-room g c = (kept_in c.args.state.now c.act.new.state c.args.watches.now _ c.requires.begun c.in_ok-reply.ensures.done.after).1

pub end_step-requires-clause-given : goal.end_step-requires-clause-given
end_step-requires-clause-given g c =
    none_away c.steps_take_none_away.ensures c.args.state.now c.act.new.state c.args.watches.now (numbers_of (lapsed_at c.args.state.now.time c.args.watches.now).watches) c.args.asked.request.now c.in_ok-reply.reply c.requires.begun c.sound_law.ensures.sound c.in_ok-reply.ensures.done

pub returns-clause-done : goal.returns-clause-done
returns-clause-done g c =
    acted_so c.args.state.now c.end_step.new.state c.args.watches.now c.end_step.new.watches c.args.asked.request.now c.in_ok-reply.reply c.act.new.state c.requires.begun.before c.in_ok-reply.ensures.done c.in_ok-end_step.ensures.done

pub returns-clause-keeps : goal.returns-clause-keeps
returns-clause-keeps g c =
    change_so c.args.state.now c.args.watches.now c.args.asked.request.now g.K.Keeper.below g.K.Keeper.keeps c.args.keeper.now c.end_step.new.keeper c.act.new.state c.in_ok-reply.reply
    c.requires.begun c.in_ok-reply.ensures.done c.in_ok-end_step.ensures.keeps

pub returns-in_err-end_step-clause-may_keep : goal.returns-in_err-end_step-clause-may_keep
returns-in_err-end_step-clause-may_keep g c =
    whatever_err c.from_residual-in_err-end_step.result _
    (may_change_so c.args.state.now c.args.watches.now c.args.asked.request.now g.K.Keeper.below g.K.Keeper.may_keep c.args.keeper.now c.end_step.new.keeper c.act.new.state c.in_ok-reply.reply
    c.requires.begun c.in_ok-reply.ensures.done c.in_err-end_step.ensures.may_keep)
