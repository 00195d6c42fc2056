use Rattle.std.proofs.Common.{arith, ◌≡◌, ◌∙◌, ap, length, List, ℕ}
use Rattle.ob_turn.proofs.Numbers.{below_length}
use Rattle.ob_storm.proofs.ClientLemmas.{asked_by_part, was_done, was_refused}
use Rattle.ob_storm.proofs.clients.Clients.ask.Goals as goal

pub split-own-requires-clause-left : goal.split-own-requires-clause-left
split-own-requires-clause-left g c =
    let all : length c.self.inside.pass.numbers ≡ 4294967296 = ap (λ (ns : List ℕ). length ns) c.self.invariant.1 ∙ below_length 4294967296 in
    omega (arith, all, c.ranges.client)

pub returns-clause-done : goal.returns-clause-done
returns-clause-done g c =
    rw (← c.self.view_is) (was_done g.M.Machine.act c.self.inside.desk.opening c.self.inside.pass.seen c.join.new.self.seen _ c.args.moment c.args.request.now c.ask-answer.result c.reply_of.result
    (asked_by_part g.M.Machine.act c.self.inside.desk.opening c.self.inside.pass c.split-own.new.self c.split-own.result c.ask-answer.new.pass c.join.new.self
    _ _ c.args.moment c.args.request.now c.ask-answer.result c.self.invariant.1 c.split-own.ensures.kept c.split-own.ensures.given c.ask-answer.ensures.same
    c.ask-answer.ensures.seen c.ask-answer.ensures.legal c.join.ensures.longer c.join.ensures.own c.join.ensures.others)
    c.reply_of.ensures)

pub returns-clause-refused : goal.returns-clause-refused
returns-clause-refused g c =
    rw (← c.self.view_is) (was_refused g.M.Machine.act c.self.inside.desk.opening c.self.inside.pass.seen c.join.new.self.seen _ c.args.moment c.args.request.now c.ask-answer.result c.reply_of.result
    (asked_by_part g.M.Machine.act c.self.inside.desk.opening c.self.inside.pass c.split-own.new.self c.split-own.result c.ask-answer.new.pass c.join.new.self
    _ _ c.args.moment c.args.request.now c.ask-answer.result c.self.invariant.1 c.split-own.ensures.kept c.split-own.ensures.given c.ask-answer.ensures.same
    c.ask-answer.ensures.seen c.ask-answer.ensures.legal c.join.ensures.longer c.join.ensures.own c.join.ensures.others)
    c.reply_of.ensures)
