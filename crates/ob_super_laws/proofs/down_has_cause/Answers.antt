use Rattle.std.specs.Prelude.{IsSome}
use Rattle.ob_super_laws.proofs.CauseLemmas.{cause}
use Rattle.ob_super_laws.proofs.down_has_cause.Goals as goal

pub returns : goal.returns
returns c = λ back u old dials visits part. cause (IsSome back) u old dials visits part
