use Rattle.ob_client_laws.proofs.RefusingLemmas.{mirrors_hold_all}
use Rattle.ob_client_laws.proofs.mirror_holds_whole.Goals as goal

pub returns : goal.returns
returns c = mirrors_hold_all c.args.watch c.watch_replay.ensures c.watch_replay_whole.ensures c.sound_stays.ensures
