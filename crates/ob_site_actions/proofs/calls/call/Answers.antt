use Rattle.ob_requests.proofs.Places.{point_there}
use Rattle.ob_site_actions.proofs.calls.call.Goals as goal

pub write_point-requires : goal.write_point-requires
write_point-requires g c = point_there c.args.state.now.plan c.args.state.now.now c.args.path.now c.args.place.now c.in-WritePointOf.point c.requires c.in-WritePointOf.is

pub write_point-requires-in-None : goal.write_point-requires-in-None
write_point-requires-in-None g c = point_there c.args.state.now.plan c.args.state.now.now c.args.path.now c.args.place.now c.in-WritePointOf.point c.requires c.in-WritePointOf.is
