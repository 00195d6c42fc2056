use Rattle.ob_load.proofs.Levels.{carried_shallow}
use Rattle.ob_load.proofs.reading.document.Goals as goal

pub returns-in-Ok-clause-shallow : goal.returns-in-Ok-clause-shallow
returns-in-Ok-clause-shallow c = carried_shallow c.in-Ok.doc.ns c.in-Ok.doc.root (c.carried.ensures c.args.bytes.now c.in-Ok.doc.ns c.in-Ok.doc.root c.in-Ok.ensures.spelled)
