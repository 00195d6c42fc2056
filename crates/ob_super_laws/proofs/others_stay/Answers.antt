use Rattle.std.specs.Prelude.{IsSome}
use Rattle.ob_super_laws.proofs.BesideLemmas.{stay}
use Rattle.ob_super_laws.proofs.others_stay.Goals as goal

pub returns : goal.returns
returns c = λ back us olds news path body visits result puts. stay (IsSome back) us olds news path body visits result puts
