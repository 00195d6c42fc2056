use Rattle.ob_requests.proofs.Places.{node_there}
use Rattle.ob_site_actions.proofs.actions.put_at.Goals as goal

pub put-requires : goal.put-requires
put-requires g c = node_there c.args.state.now.plan c.args.state.now.now c.args.path.now c.args.place.now c.in-Node.object c.requires c.in-Node.is
