use Rattle.ob_tree.proofs.Giving.{told_more}
use Rattle.ob_tree.proofs.telling.put_words.Goals as goal

pub returns : goal.returns
returns c = λ lib o here told. told_more lib o c.args.words.now c.insert.new.self c.args.at c.args.told (λ m. c.in_ok-_none.ensures.updates.0 m) here told
