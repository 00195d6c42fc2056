use Rattle.ob_client_laws.proofs.RefusingLemmas.{mirror_refuses}
use Rattle.ob_client_laws.proofs.mirror_refuses_none.Goals as goal

pub returns : goal.returns
returns c = mirror_refuses c.args.watch c.watch_replay.ensures c.sound_stays.ensures
