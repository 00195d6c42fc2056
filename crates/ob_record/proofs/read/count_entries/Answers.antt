use Rattle.ob_record.proofs.InPlace.{next_found}
use Rattle.ob_record.proofs.Reading.{counted_more}
use Rattle.ob_record.proofs.read.count_entries.Goals as goal

pub entries-preserved : goal.entries-preserved
entries-preserved c =
    let n = next_found c.entries.rest.now _ c.in-Some.found c.in-Some.is c.in_ok-found.ensures.found in
    counted_more c.args.bytes.now c.entries.len c.entries.rest.now c.in-Some.found.0 c.in-Some.found.1.now c.entries.invariant n.0 n.1
