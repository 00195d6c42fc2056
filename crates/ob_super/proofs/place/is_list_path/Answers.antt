use Rattle.std.proofs.Common.{◌∙◌}
use Rattle.ob_super.proofs.PlaceLemmas.{list_there, list_not}
use Rattle.ob_super.proofs.place.is_list_path.Goals as goal

pub returns-in-Some : goal.returns-in-Some
returns-in-Some c = c.is_empty.ensures ∙ list_there c.args.name.now c.args.path.now c.in-Some.rest.now c.in-Some.ensures

pub returns-in-None : goal.returns-in-None
returns-in-None c = list_not c.args.name.now c.args.path.now c.in-None.ensures
