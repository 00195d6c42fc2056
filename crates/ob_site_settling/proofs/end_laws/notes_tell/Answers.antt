use Rattle.ob_site_settling.proofs.Notes.{notes_tell}
use Rattle.ob_site_settling.proofs.end_laws.notes_tell.Goals as goal

pub returns : goal.returns
returns c = notes_tell
