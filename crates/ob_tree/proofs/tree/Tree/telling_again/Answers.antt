use Rattle.ob_tree.specs.Standings.{context}
use Rattle.ob_tree.proofs.Giving.{told_at, own_head}
use Rattle.ob_tree.proofs.tree.Tree.telling_again.Goals as goal

pub loop-number-preserved-in-Continue-branch-2 : goal.loop-number-preserved-in-Continue-branch-2
loop-number-preserved-in-Continue-branch-2 g c =
    let lib = c.args.library.now in
    let o = c.args.self.now.root in
    let n = c.in-Some.number.now in
    let r = context c.standing_told-standing.result in
    record {
      comes = c.loop-number.invariant.comes;
      ends = c.loop-number.invariant.ends;
      told =
          c.in_ok-put_words.ensures lib o
          (told_at lib o n r c.own.result.now.head _ c.standing_told-standing.ensures.stands (own_head n o c.own.result.now c.own.ensures) c.in_ok-again.ensures)
          c.loop-number.invariant.told;
    }
