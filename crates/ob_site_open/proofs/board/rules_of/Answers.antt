use Rattle.std.proofs.Common.{ap, arith}
use Rattle.ob_site_open.proofs.Numbered.{with_path, numbered_more, numbered_all}
use Rattle.ob_site_open.proofs.board.rules_of.Goals as goal

pub loop-place-preserved : goal.loop-place-preserved
loop-place-preserved c =
    numbered_more c.args.rules.now c.loop-place.place c.index-rules-place.result c.loop-place.made.items _ _ (omega arith) c.index-rules-place.is c.in_ok-push.ensures.items (ap (with_path c.loop-place.place c.index-rules-place.result) c.in_ok-path.ensures) c.loop-place.invariant

pub returns : goal.returns
returns c = numbered_all c.args.rules.now c.loop-place.place _ (omega arith) c.loop-place.invariant
