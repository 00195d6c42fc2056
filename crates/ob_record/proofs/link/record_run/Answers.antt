use Rattle.std.proofs.Common.{refl}
use Rattle.ob_server.proofs.CompleteLemmas.{serves_whole}
use Rattle.ob_record.proofs.link.record_run.Goals as goal

pub returns-clause-whole : goal.returns-clause-whole
returns-clause-whole g c = serves_whole c.framing_is_one.ensures c.end_stays.ensures _ _ _ _ _ _ _ _ _ _ _ _ _ refl c.record_from.ensures.records.serves c.record_from.ensures.cause
