use Rattle.std.proofs.Common.{◌∙◌, subst}
use Rattle.ob_site.specs.Keeping.{Stepping, Keeps, MayKeep}
use Rattle.ob_site.specs.Views.{site_of}
use Rattle.ob_site.proofs.Counts.{counted, counted_at_most}
use Rattle.ob_site.proofs.Keeping.{step_is}
use Rattle.ob_site.proofs.Stepped.{begun_so, stepped, site_after, undone, same_again, site_again}
use Rattle.ob_site.proofs.step.step.Goals as goal

pub answer-requires-clause-begun : goal.answer-requires-clause-begun
answer-requires-clause-begun g c = begun_so c.make_room.new.state c.begin.new.self c.make_room.new.watches c.args.asked.moment c.make_room.ensures.kept c.make_room.ensures.room c.begin.ensures

pub returns-in-Ok-clause-done : goal.returns-in-Ok-clause-done
returns-in-Ok-clause-done g c =
    stepped (site_of c.args.state.now c.args.watches.now) c.make_room.new.state c.begin.new.self c.answer.new.state c.make_room.new.watches c.answer.new.watches c.args.asked.request.now c.args.asked.moment c.in-Ok.reply
    c.make_room.ensures.same c.begin.ensures c.in-Ok.ensures.done

pub returns-in-Ok-clause-kept : goal.returns-in-Ok-clause-kept
returns-in-Ok-clause-kept g c =
    site_after c.make_room.new.state c.begin.new.self c.answer.new.state c.make_room.new.watches c.answer.new.watches c.args.asked.request.now c.args.asked.moment c.in-Ok.reply
    c.make_room.ensures.kept c.begin.ensures c.in-Ok.ensures.done

pub returns-in-Err-clause-refused : goal.returns-in-Err-clause-refused
returns-in-Err-clause-refused g c =
    let back = undone c.make_room.new.state c.begin.new.self c.answer.new.state c.undo.new.self c.make_room.new.watches c.answer.new.watches c.args.asked.moment c.make_room.ensures.kept c.begin.ensures c.in-Err.ensures.err c.undo.ensures in
    same_again c.make_room.new.state c.undo.new.self c.make_room.new.watches c.answer.new.watches back c.in-Err.ensures.err.watches ∙ c.make_room.ensures.same

pub returns-in-Err-clause-kept : goal.returns-in-Err-clause-kept
returns-in-Err-clause-kept g c =
    let back = undone c.make_room.new.state c.begin.new.self c.answer.new.state c.undo.new.self c.make_room.new.watches c.answer.new.watches c.args.asked.moment c.make_room.ensures.kept c.begin.ensures c.in-Err.ensures.err c.undo.ensures in
    site_again c.make_room.new.state c.undo.new.self c.make_room.new.watches c.answer.new.watches c.make_room.ensures.kept back c.in-Err.ensures.err.watches

pub returns-in-Ok-clause-steps : goal.returns-in-Ok-clause-steps
returns-in-Ok-clause-steps g c =
    counted (site_of c.args.state.now c.args.watches.now) c.make_room.new.state c.begin.new.self c.make_room.new.watches c.args.asked.request.now c.args.asked.moment c.args.steps.now c.answer.new.steps c.make_room.ensures.same c.begin.ensures
    c.in-Ok.ensures.steps

pub returns-in-Ok-clause-polls : goal.returns-in-Ok-clause-polls
returns-in-Ok-clause-polls g c = λ poll.
    counted_at_most (site_of c.args.state.now c.args.watches.now) (site_of c.answer.new.state c.answer.new.watches) c.args.asked.request.now c.args.asked.moment c.in-Ok.reply c.args.steps.now c.answer.new.steps c.requires.site.kept.shallow
    (returns-in-Ok-clause-done g c) poll (returns-in-Ok-clause-steps g c)

pub returns-in-Ok-clause-keeps : goal.returns-in-Ok-clause-keeps
returns-in-Ok-clause-keeps g c =
    subst (λ (s : Stepping). Keeps g.K.Keeper.below g.K.Keeper.keeps c.args.keeper.now c.answer.new.keeper s)
    (step_is (site_of c.args.state.now c.args.watches.now) c.make_room.new.state c.begin.new.self c.make_room.new.watches c.args.asked.request.now c.args.asked.moment c.make_room.ensures.same c.begin.ensures)
    c.in-Ok.ensures.keeps

pub returns-in-Err-clause-may_keep : goal.returns-in-Err-clause-may_keep
returns-in-Err-clause-may_keep g c =
    subst (λ (s : Stepping). MayKeep g.K.Keeper.below g.K.Keeper.may_keep c.args.keeper.now c.answer.new.keeper s)
    (step_is (site_of c.args.state.now c.args.watches.now) c.make_room.new.state c.begin.new.self c.make_room.new.watches c.args.asked.request.now c.args.asked.moment c.make_room.ensures.same c.begin.ensures)
    c.in-Err.ensures.may_keep
