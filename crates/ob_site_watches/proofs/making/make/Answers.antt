use Rattle.ob_site_watches.proofs.Knowing.{made_known}
use Rattle.ob_site_watches.proofs.making.make.Goals as goal

pub returns-in-Ok-clause-known : goal.returns-in-Ok-clause-known
returns-in-Ok-clause-known c = made_known c.args.now c.args.watches.now c.make.new.self c.in-Ok.ensures.2
