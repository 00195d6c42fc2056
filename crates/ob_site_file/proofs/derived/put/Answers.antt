use Rattle.ob_roles.proofs.PartRows.{map_push}
use Rattle.ob_site_file.specs.Sizes.{stood}
use Rattle.ob_site_file.proofs.derived.put.Goals as goal

pub returns : goal.returns
returns c = map_push stood c.args.list.now.items c.push.new.self.items _ c.in_ok-push.ensures.items
