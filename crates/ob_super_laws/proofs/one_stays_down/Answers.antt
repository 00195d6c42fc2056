use Rattle.std.specs.Prelude.{IsSome}
use Rattle.ob_super_laws.proofs.DialLemmas.{one_down}
use Rattle.ob_super_laws.proofs.one_stays_down.Goals as goal

pub returns : goal.returns
returns c = λ back us past past' olds news dials visits rounds some before. one_down (IsSome back) us past past' olds news dials visits rounds some before
