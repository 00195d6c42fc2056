use Rattle.ob_opening_laws.proofs.Sound as sound
use Rattle.ob_opening_laws.proofs.opens_sound.Goals as goal

pub returns : goal.returns
returns c = sound.opens_sound
