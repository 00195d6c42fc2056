use Rattle.std.proofs.Common.{arith}
use Rattle.ob_tree.specs.Laid.{object_of, said}
use Rattle.ob_tree.proofs.StandsFor.{count_spots}
use Rattle.ob_tree.proofs.Leaves.{count_leaves}
use Rattle.ob_tree.proofs.Numbered.{numbered_more}
use Rattle.ob_tree.proofs.numbering.put_numbers.Goals as goal

pub spot_in-spot-requires : goal.spot_in-spot-requires
spot_in-spot-requires c =
    let o = object_of (said c.args.leaves.now) c.args.spots.now in
    omega (arith, c.requires.within, count_leaves o c.args.leaves.now c.requires.laid.heads_are, count_spots o c.args.spots.now c.requires.laid.spots_are)

pub returns : goal.returns
returns c =
    numbered_more (object_of (said c.args.leaves.now) c.args.spots.now) c.args.all.now c.insert.new.self c.args.at c.in_ok-numbers.numbers c.in_ok-insert.ensures.updates.0 c.in_ok-numbers.ensures
