use Rattle.std.proofs.Common.{refl}
use Rattle.ob_server.proofs.HeldLemmas.{next_taken, rest_seen}
use Rattle.ob_server.proofs.next.take_next.Goals as goal

pub returns-in-Ok-None : goal.returns-in-Ok-None
returns-in-Ok-None c = rest_seen c.args.framer.now c.in-Ok-None.field-0 c.in-Ok-None.field-0-is c.in-Ok-None.ensures.next

pub returns : goal.returns
returns c =
    next_taken c.args.framer.now c.drop_front.new.self c.in-Ok-Some.field-0 c.in-Ok-Some.seen _ c.in-Ok-Some.field-0-is c.in-Ok-Some.ensures.next
    c.in-Ok-Some.ensures.within c.in-Ok-Some.ensures.front c.in-Ok.ensures refl c.drop_front.ensures.dropped
