use Rattle.ob_site_watches.specs.Items.{IsOwnNode}
use Rattle.ob_site_watches.proofs.Keeping.{marks_stay_past, nodes_stay, own_items_stay, numbers_stay}
use Rattle.ob_site_watches.proofs.items_keep.Goals as goal

pub returns-clause-marks : goal.returns-clause-marks
returns-clause-marks c = marks_stay_past

pub returns-clause-nodes : goal.returns-clause-nodes
returns-clause-nodes c = λ o. nodes_stay (IsOwnNode o)

pub returns-clause-items : goal.returns-clause-items
returns-clause-items c = own_items_stay

pub returns-clause-numbers : goal.returns-clause-numbers
returns-clause-numbers c = numbers_stay
