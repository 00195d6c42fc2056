use Rattle.ob_roles.proofs.Fewer.{firsts_more}
use Rattle.ob_roles.proofs.few.with_word.Goals as goal

pub returns : goal.returns
returns c = λ lib ws held is.
    firsts_more lib ws c.args.word.now c.args.firsts (record { lobby = c.first_or.result; point = c.first_or-2.result; history = c.first_or-3.result; subject = c.first_or-4.result }) c.args.is
    c.first_or.ensures c.first_or-2.ensures c.first_or-3.ensures c.first_or-4.ensures held is
