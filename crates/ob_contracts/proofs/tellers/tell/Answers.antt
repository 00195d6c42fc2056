use Rattle.std.proofs.Common.{Option, subst}
use Rattle.std.specs.Option.{option_copied}
use Rattle.ob_contracts.specs.Inherit.{Words, or_else, words_in}
use Rattle.ob_contracts.specs.Telling.{StandFor}
use Rattle.ob_contracts.proofs.Taught.{tells_some}
use Rattle.ob_contracts.proofs.tellers.tell.Goals as goal

pub returns-in_ok-told-in-Some : goal.returns-in_ok-told-in-Some
returns-in_ok-told-in-Some c =
    let lib = c.args.library.now in
    let ws = option_copied c.args.words in
    tells_some lib c.in_ok-told-in-Some.told ws
    (c.in_ok-told-in-Some.ensures (words_in ws) (subst (λ (o : Option Words). StandFor lib (words_in (or_else o ws)) (words_in ws)) c.in-Some.is c.in_ok-all.ensures.stand))
