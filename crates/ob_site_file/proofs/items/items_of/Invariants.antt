use Rattle.ob_roles.specs.SiteParts.{part as site_part}
use Rattle.ob_site_file.proofs.Listed.{ItemsLeft}
use Rattle.ob_site_file.proofs.items.items_of.Given as goal

abbrev pub invariant-loop-child : goal.invariant-loop-child
invariant-loop-child l = ItemsLeft l.name (site_part l.part) l.child-items l.child-index l.number
