use Rattle.ob_site_settling.proofs.Worlds.{worlds_end}
use Rattle.ob_site_settling.proofs.end_laws.worlds_end.Goals as goal

pub returns : goal.returns
returns c = worlds_end
