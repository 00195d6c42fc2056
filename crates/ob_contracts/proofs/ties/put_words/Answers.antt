use Rattle.ob_values.proofs.Lists.{drop_all}
use Rattle.ob_contracts.proofs.Tied.{keeps_twice, words_next, words_none}
use Rattle.ob_contracts.proofs.ties.put_words.Goals as goal

pub loop-word-preserved : goal.loop-word-preserved
loop-word-preserved c = record {
  kept = keeps_twice _ _ _ c.loop-word.invariant.kept c.put_place.ensures.kept;
  left = words_next c.args.library.now _ _ c.args.words.now _ c.word-item.result c.loop-word-test.true c.word-item.is c.put_place.ensures.kept c.in_ok-put_place.ensures.ok c.loop-word.invariant.left;
}

pub returns-clause-ok : goal.returns-clause-ok
returns-clause-ok c = words_none c.args.library.now _ c.args.words.now _ (drop_all c.args.words.now c.loop-word.word-index c.loop-word-test.false) c.loop-word.invariant.left
