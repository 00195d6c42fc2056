use Rattle.std.specs.Option.{option_copied}
use Rattle.ob_super.specs.Calls.{put_on}
use Rattle.ob_super.specs.InHand as in_hand
use Rattle.ob_super.proofs.NeedLemmas.{calls_limited}
use Rattle.ob_super.proofs.asking.put.Goals as goal

pub returns-clause-calls : goal.returns-clause-calls
returns-clause-calls g c =
    calls_limited g.L.Link.left g.L.Link.taken g.L.Link.held c.args.session.now c.within.new.self (put_on c.args.target.now (option_copied c.args.body))
    (in_hand.wire_of g.L.Link.left g.L.Link.taken g.L.Link.held c.call.new.session) c.call.result c.within.ensures.bytes c.within.ensures.stands c.call.ensures.calls
