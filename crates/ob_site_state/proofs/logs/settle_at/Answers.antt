use Rattle.ob_history.specs.Logs.{settled}
use Rattle.ob_site_state.proofs.LogPlaces.{set_log}
use Rattle.ob_site_state.proofs.logs.settle_at.Goals as goal

pub returns : goal.returns
returns c = set_log (λ h. settled h.capacity h) c.args.place c.args.logs.now c.index-logs-place.result c.settle.new.self c.requires c.index-logs-place.is c.settle.ensures
