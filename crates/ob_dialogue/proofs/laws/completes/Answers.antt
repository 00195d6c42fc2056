use Rattle.ob_dialogue.proofs.CompleteLemmas as lemmas
use Rattle.ob_dialogue.proofs.laws.completes.Goals as goal

pub returns : goal.returns
returns c = lemmas.completes c.one_document.ensures c.one_verdict.ensures c.only.ensures
