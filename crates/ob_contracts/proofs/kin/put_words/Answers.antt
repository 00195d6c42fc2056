use Rattle.ob_contracts.proofs.Known.{kept_twice}
use Rattle.ob_contracts.proofs.kin.put_words.Goals as goal

pub returns-in_err-put_word-clause-kept : goal.returns-in_err-put_word-clause-kept
returns-in_err-put_word-clause-kept c = kept_twice _ _ _ c.loop-word.invariant.kept c.put_word.ensures.kept
