use Rattle.ob_watching.specs.Small.{small}
use Rattle.ob_watching.proofs.Laws.{watch_replays}
use Rattle.ob_watching.proofs.SmallLawful.{small_lawful}
use Rattle.ob_watching.proofs.watch_replay.Goals as goal

pub returns : goal.returns
returns c = watch_replays small small_lawful c.args.watch
