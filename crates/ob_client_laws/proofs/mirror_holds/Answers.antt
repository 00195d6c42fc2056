use Rattle.ob_client_laws.proofs.RefusingLemmas.{mirrors_hold}
use Rattle.ob_client_laws.proofs.mirror_holds.Goals as goal

pub returns : goal.returns
returns c = mirrors_hold c.args.watch c.watch_replay.ensures c.sound_stays.ensures
