use Rattle.std.proofs.Common.{arith}
use Rattle.ob_site_reads.proofs.Eventful.{all_asked}
use Rattle.ob_site_reads.proofs.events.looked_at.Goals as goal

pub returns-clause-passing : goal.returns-clause-passing
returns-clause-passing c =
    let counted = c.len-counted.ensures.counted in
    let long = c.len-counted.ensures.len in
    let gone = c.gone.ensures in
    let none = c.if-given-gone.false in
    all_asked c.args.bounds.now 18_446_744_073_709_551_615 c.args.given c.args.log.now.gone c.args.log.now.kept _ (omega arith) (omega arith) c.range.ensures.value
