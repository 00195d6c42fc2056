use Rattle.ob_watching.specs.Small.{small}
use Rattle.ob_lasting.proofs.Replaying.{leaves_site, leaves_next}
use Rattle.ob_lasting.proofs.left_out.Goals as goal

pub returns-clause-site : goal.returns-clause-site
returns-clause-site c = leaves_site small

pub returns-clause-next : goal.returns-clause-next
returns-clause-next c = leaves_next small
