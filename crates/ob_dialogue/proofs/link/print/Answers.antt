use Rattle.std.proofs.Common.{refl, sym, subst}
use Rattle.ob_dialogue.specs.declared.link.Turned.{Turned}
use Rattle.ob_dialogue.specs.InHand as in_hand
use Rattle.ob_dialogue.proofs.TurnLemmas.{prints_cut, prints_reached, write_no_link}
use Rattle.ob_dialogue.proofs.link.print.Goals as goal

pub returns-in-Ok-clause-prints : goal.returns-in-Ok-clause-prints
returns-in-Ok-clause-prints g c =
    prints_reached _ _ (in_hand.step c.args.lines.now c.args.next) _ _ c.reached.result c.in-Ok.ensures.sends refl c.reached.ensures.reaches

pub returns-in-Ok-clause-live : goal.returns-in-Ok-clause-live
returns-in-Ok-clause-live g c = c.reached.ensures.live

pub returns-in-Ok-clause-later : goal.returns-in-Ok-clause-later
returns-in-Ok-clause-later g c = c.write_all.ensures.cause.later

pub returns-in-Ok-clause-sink : goal.returns-in-Ok-clause-sink
returns-in-Ok-clause-sink g c = λ h. absurd (c.reached.ensures.sink h)

pub returns-in-Ok-clause-link : goal.returns-in-Ok-clause-link
returns-in-Ok-clause-link g c = c.reached.ensures.link

pub returns-in-Err-clause-prints : goal.returns-in-Err-clause-prints
returns-in-Err-clause-prints g c =
    subst (λ (x : Turned). in_hand.Prints (g.K.Sink.held c.args.sink.now) (g.K.Sink.held c.write_all.new.sink) (in_hand.step c.args.lines.now c.args.next) x) (sym c.cut_off.ensures)
    (prints_cut _ _ (in_hand.step c.args.lines.now c.args.next) _ _ c.write_all.ensures.sends refl)

pub returns-in-Err-clause-live : goal.returns-in-Err-clause-live
returns-in-Err-clause-live g c = subst (λ (x : Turned). in_hand.TurnedIsLive x) (sym c.cut_off.ensures) tt

pub returns-in-Err-clause-later : goal.returns-in-Err-clause-later
returns-in-Err-clause-later g c = c.write_all.ensures.cause.later

pub returns-in-Err-clause-sink : goal.returns-in-Err-clause-sink
returns-in-Err-clause-sink g c = λ h. c.in-Err.ensures.cause.failed

pub returns-in-Err-clause-link : goal.returns-in-Err-clause-link
returns-in-Err-clause-link g c = λ h. write_no_link (subst (λ (x : Turned). in_hand.TurnsByLink x) c.cut_off.ensures h)
