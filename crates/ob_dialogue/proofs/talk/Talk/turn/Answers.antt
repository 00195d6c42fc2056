use Rattle.std.proofs.Common.{nat_lt}
use Rattle.ob_dialogue.specs.InHand as in_hand
use Rattle.ob_dialogue.proofs.TurnLemmas.{turn_over, turn_memory, turn_fault, turn_reply, turn_onward}
use Rattle.ob_dialogue.proofs.talk.Talk.turn.Goals as goal

pub returns-in-Over-clause-turns : goal.returns-in-Over-clause-turns
returns-in-Over-clause-turns g c =
    let e = c.in-Over.ensures.exchanges in
    turn_over c.args.self.now.plan.now c.args.session.now.host (nat_lt 0 c.args.self.now.retries) (in_hand.stage c.args.stage) _ _ (g.K.Sink.held c.args.sink.now) e.0 e.1

pub returns-in-Memory-clause-turns : goal.returns-in-Memory-clause-turns
returns-in-Memory-clause-turns g c =
    turn_memory c.args.self.now.plan.now c.args.session.now.host (nat_lt 0 c.args.self.now.retries) (in_hand.stage c.args.stage) _ _ (g.K.Sink.held c.args.sink.now) c.in-Memory.ensures.exchanges

pub returns-in-Fault-clause-turns : goal.returns-in-Fault-clause-turns
returns-in-Fault-clause-turns g c =
    turn_fault c.args.self.now.plan.now c.args.session.now.host (nat_lt 0 c.args.self.now.retries) (in_hand.stage c.args.stage) _ _ (g.K.Sink.held c.args.sink.now) c.in-Fault.fault (in_hand.pause c.broken.result)
    c.in-Fault.ensures.exchanges c.broken.ensures.ends c.broken.ensures.goes

pub returns-in-Reply-clause-turns : goal.returns-in-Reply-clause-turns
returns-in-Reply-clause-turns g c =
    turn_reply c.args.self.now.plan.now c.args.session.now.host (nat_lt 0 c.args.self.now.retries) (in_hand.stage c.args.stage) _ _ (g.K.Sink.held c.args.sink.now) (g.K.Sink.held c.give.new.sink) c.in-Reply.reply c.give.result
    c.in-Reply.ensures.exchanges c.give.ensures.gives

pub returns-in-Reply-clause-onward : goal.returns-in-Reply-clause-onward
returns-in-Reply-clause-onward g c =
    turn_onward c.args.self.now.plan.now c.args.session.now.host (in_hand.stage c.args.stage) _ _ (g.K.Sink.held c.args.sink.now) (g.K.Sink.held c.give.new.sink) c.in-Reply.reply c.give.result
    c.in-Reply.ensures.exchanges c.give.ensures.gives
