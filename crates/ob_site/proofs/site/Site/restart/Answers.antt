use Rattle.ob_site.proofs.Restarted.{restarted_site}
use Rattle.ob_site.proofs.site.Site.restart.Goals as goal

pub invariant_of-self : goal.invariant_of-self
invariant_of-self c = restarted_site c.self.inside.state c.self.inside.watches c.restart.new.self c.args.below c.requires c.restart.ensures c.self.invariant
