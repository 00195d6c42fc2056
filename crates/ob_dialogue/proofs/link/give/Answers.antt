use Rattle.std.proofs.Common.{refl, subst, List, ℕ}
use Rattle.ob_dialogue.specs.InHand as in_hand
use Rattle.ob_dialogue.proofs.TurnLemmas.{gives_of, memory_no_link, memory_no_write}
use Rattle.ob_dialogue.proofs.link.give.Goals as goal

pub returns-in-Ok-clause-gives : goal.returns-in-Ok-clause-gives
returns-in-Ok-clause-gives g c =
    gives_of (g.K.Sink.held c.args.sink.now) (g.K.Sink.held c.print.new.sink) c.args.plan.now (in_hand.stage c.args.stage) c.args.reply (in_hand.taken c.in-Ok.outcome) c.print.result c.in-Ok.ensures.value
    (subst (λ (l : List ℕ). in_hand.Prints (g.K.Sink.held c.args.sink.now) (g.K.Sink.held c.print.new.sink) (in_hand.step l c.in-Ok.outcome.next) c.print.result) c.deref.ensures.value c.print.ensures.prints)

pub returns-in-Err-clause-gives : goal.returns-in-Err-clause-gives
returns-in-Err-clause-gives g c = refl

pub returns-in-Err-clause-sink : goal.returns-in-Err-clause-sink
returns-in-Err-clause-sink g c = λ h. absurd (memory_no_write h)

pub returns-in-Err-clause-link : goal.returns-in-Err-clause-link
returns-in-Err-clause-link g c = λ h. memory_no_link h
