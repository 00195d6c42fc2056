use Rattle.ob_site.proofs.Sound.{fresh_site}
use Rattle.ob_site.proofs.site.Site.open.Goals as goal

pub invariant_of-result : goal.invariant_of-result
invariant_of-result c = fresh_site c.args.state c.new.result c.requires c.sound_law.ensures.sound c.changes-changes.ensures.rolled c.new.ensures
