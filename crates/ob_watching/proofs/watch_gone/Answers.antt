use Rattle.ob_watching.specs.Small.{small}
use Rattle.ob_watching.proofs.Laws.{watch_stays_gone}
use Rattle.ob_watching.proofs.SmallLawful.{small_lawful}
use Rattle.ob_watching.proofs.watch_gone.Goals as goal

pub returns : goal.returns
returns c = watch_stays_gone small small_lawful c.args.watch
