use Rattle.ob_roles.proofs.Taken.{found_more, found_all}
use Rattle.ob_roles.proofs.taking.contracts_of.Goals as goal

pub loop-word-preserved : goal.loop-word-preserved
loop-word-preserved c = λ lib holds.
    found_more lib c.args.words.now c.loop-word.word-index c.word-item.result c.loop-word.from.items c.put_found.new.from.items c.loop-word-test.true c.word-item.is
    (c.loop-word.invariant lib holds) (c.in_ok-put_found.ensures lib holds)

pub returns : goal.returns
returns c = λ lib holds. found_all lib c.args.words.now c.loop-word.word-index c.loop-word.from.items c.loop-word-test.false (c.loop-word.invariant lib holds)
