use Rattle.ob_site_laws.proofs.SiteHistories.{others_stay}
use Rattle.ob_site_laws.proofs.others_stay.Goals as goal

pub returns : goal.returns
returns c = others_stay c.args.watch
