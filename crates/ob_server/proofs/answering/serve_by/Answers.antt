use Rattle.std.proofs.Common.{refl, rules}
use Rattle.ob_server.proofs.CompleteLemmas.{serves_whole}
use Rattle.ob_server.proofs.answering.serve_by.Goals as goal

pub returns-clause-whole : goal.returns-clause-whole
returns-clause-whole g c =
    let whole = serves_whole c.framing_is_one.ensures c.end_stays.ensures _ _ _ _ _ _ _ _ _ _ _ _ _ refl c.serve_pieces.ensures.serves.serves c.serve_pieces.ensures.cause in
    search (rules, whole)
