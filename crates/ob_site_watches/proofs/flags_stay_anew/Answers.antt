use Rattle.ob_site_watches.proofs.Renumbering.{flags_stay_anew}
use Rattle.ob_site_watches.proofs.flags_stay_anew.Goals as goal

pub returns : goal.returns
returns c = flags_stay_anew
