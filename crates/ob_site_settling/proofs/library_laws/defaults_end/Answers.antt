use Rattle.ob_site_settling.proofs.LibraryEnds.{defaults_end}
use Rattle.ob_site_settling.proofs.library_laws.defaults_end.Goals as goal

pub returns : goal.returns
returns c = defaults_end
