use Rattle.ob_site_settling.proofs.Slots.{notes_are_values}
use Rattle.ob_site_settling.proofs.end_laws.notes_are_values.Goals as goal

pub returns : goal.returns
returns c = notes_are_values
