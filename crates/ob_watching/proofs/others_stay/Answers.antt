use Rattle.ob_watching.specs.Small.{small}
use Rattle.ob_watching.proofs.Laws.{leaves_others}
use Rattle.ob_watching.proofs.SmallLawful.{small_lawful}
use Rattle.ob_watching.proofs.others_stay.Goals as goal

pub returns : goal.returns
returns c = leaves_others small small_lawful c.args.watch
