use Rattle.std.proofs.Common.{◌≡◌, true, sym, ◌∙◌}
use Rattle.std.specs.BTreeSet.{contains_text}
use Rattle.ob_contracts.proofs.Known.{there_already}
use Rattle.ob_contracts.proofs.kin.put_word.Goals as goal

pub returns-then-contains-clause-ok : goal.returns-then-contains-clause-ok
returns-then-contains-clause-ok c =
    let known : contains_text c.args.kin.now c.args.word.now ≡ true = sym c.contains.ensures ∙ c.if-contains.true in
    λ asked. there_already c.args.kin.now c.args.word.now asked known
