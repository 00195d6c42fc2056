use Rattle.std.proofs.Common.{refl, sym}
use Rattle.ob_watching.specs.Operations.{NewWatch}
use Rattle.ob_site.proofs.Asked.{made_so}
use Rattle.ob_site.proofs.Keeping.{made_in, may_next_so, place_so, whatever_err}
use Rattle.ob_site.proofs.Known.{kept_through}
use Rattle.ob_site.proofs.Unchanged.{quietly}
use Rattle.ob_site.proofs.quiet.to_service.Goals as goal

pub returns-clause-done : goal.returns-clause-done
returns-clause-done g c =
    let k = c.args.state.now in
    let t = c.args.watches.now in
    let mid = c.make_kept.new.watches in
    let u = c.make_way.new.watches in
    let made = made_in k.plan k.plan k.time c.time.result t mid c.in_ok-reply.reply refl (sym c.time.ensures) c.in_ok-reply.ensures.done in
    let r = c.args.request.now in
    quietly k c.end_quietly.new.state t u c.end_quietly.new.watches r NewWatch c.in_ok-reply.reply c.requires.begun
    (made_so k c.time.result t u c.in_ok-reply.reply c.time.ensures (c.make_way.ensures.served k.plan t c.in_ok-reply.reply c.next_number-number.ensures made) r)
    (kept_through k t u c.requires.begun.kept (c.make_way.ensures.known k.plan t c.in_ok-reply.reply k c.next_number-number.ensures made))
    c.end_quietly.ensures.state c.end_quietly.ensures.watches

pub returns-clause-keeps : goal.returns-clause-keeps
returns-clause-keeps g c =
    place_so c.args.state.now c.args.watches.now c.args.request.now g.K.Keeper.below g.K.Keeper.keeps c.args.keeper.now c.make_kept.new.keeper c.requires.begun c.in_ok-reply.ensures.keeps

pub returns-in_err-reply-clause-may_keep : goal.returns-in_err-reply-clause-may_keep
returns-in_err-reply-clause-may_keep g c =
    whatever_err c.from_residual.result _
    (may_next_so c.args.state.now c.args.watches.now c.args.request.now g.K.Keeper.below g.K.Keeper.may_keep c.args.keeper.now c.make_kept.new.keeper c.in_err-reply.ensures.may_keep)
