use Rattle.std.specs.Prelude.{IsSome}
use Rattle.ob_super_laws.proofs.TurnLemmas.{turns}
use Rattle.ob_super_laws.proofs.each_has_turns.Goals as goal

pub returns : goal.returns
returns c = λ back us past past' olds news dials visits rounds. turns (IsSome back) us past past' olds news dials visits rounds
