use Rattle.ob_history.specs.Logs.{cut_to}
use Rattle.ob_site_state.proofs.LogPlaces.{set_log}
use Rattle.ob_site_state.proofs.logs.cut_at.Goals as goal

pub returns : goal.returns
returns c = set_log (cut_to c.args.len) c.args.place c.args.logs.now c.index-logs-place.result c.cut.new.self c.requires c.index-logs-place.is c.cut.ensures
