use Rattle.std.proofs.Common.{Option, Some, Bor, sym, ap, subst}
use Rattle.std.specs.Option.{option_copied}
use Rattle.ob_contracts.specs.Inherit.{Words, words_in}
use Rattle.ob_contracts.specs.Telling.{StandFor}
use Rattle.ob_contracts.proofs.Dropped.{tell_the_same}
use Rattle.ob_contracts.proofs.fewer.telling.Goals as goal

pub returns-clause-same : goal.returns-clause-same
returns-clause-same c =
    tell_the_same c.args.library.now (Some c.in_ok-telling.telling) (option_copied c.args.words)
    (subst (λ (o : Option Words). StandFor c.args.library.now c.in_ok-telling.telling (words_in o)) (sym (ap (λ (o : Option (Bor Words)). option_copied o) c.in-Some.is)) c.in_ok-telling.ensures)
