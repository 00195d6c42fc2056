use Rattle.std.proofs.Common.{refl}
use Rattle.ob_site_settling.proofs.end_laws.worked_rows.Goals as goal

pub returns-clause-rolled : goal.returns-clause-rolled
returns-clause-rolled c = refl

pub returns-clause-same_second : goal.returns-clause-same_second
returns-clause-same_second c = refl

pub returns-clause-counted : goal.returns-clause-counted
returns-clause-counted c = refl
