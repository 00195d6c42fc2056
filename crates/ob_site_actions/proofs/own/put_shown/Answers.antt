use Rattle.std.specs.Option.{option_copied}
use Rattle.ob_site_actions.proofs.OwnNodes.{put_done, put_stops}
use Rattle.ob_site_actions.proofs.own.put_shown.Goals as goal

pub returns-in-Ok-clause-ok : goal.returns-in-Ok-clause-ok
returns-in-Ok-clause-ok g c = put_done c.args.state.now c.put_node.new.state c.args.at.path.now c.args.own.now (option_copied c.args.body) c.in-Ok.reply c.requires.asked c.in-Ok.ensures.ok

pub returns-in-Err-clause-stop : goal.returns-in-Err-clause-stop
returns-in-Err-clause-stop g c = put_stops c.args.state.now c.put_node.new.state c.args.at.path.now c.args.own.now (option_copied c.args.body) c.in-Err.stop c.requires.asked c.in-Err.ensures.stop
