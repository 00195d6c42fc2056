use Rattle.ob_super.proofs.PlaceLemmas.{strips}
use Rattle.ob_super.proofs.place.behind.Goals as goal

pub returns : goal.returns
returns c = strips c.args.front.now c.args.text.now c.strip_prefix.result c.strip_prefix.ensures.cases
