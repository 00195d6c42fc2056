use Rattle.std.proofs.Common.{◌∙◌, arith}
use Rattle.ob_console.proofs.LineLemmas.{blank_more, blank_last}
use Rattle.ob_console.proofs.print.put_left.Goals as goal

pub places-preserved : goal.places-preserved
places-preserved c = c.in_ok-push.ensures.items ∙ blank_more c.args.out.now.items c.args.text.now c.places.out.items c.places._place (omega arith) c.places.invariant

pub returns : goal.returns
returns c = c.in_ok-push-2.ensures.items ∙ blank_last c.args.out.now.items c.args.text.now c.places.out.items c.places._place c.args.places (omega arith) c.places.invariant
