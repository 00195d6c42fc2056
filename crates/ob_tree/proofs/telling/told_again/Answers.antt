use Rattle.std.proofs.Common.{Option, sym, subst}
use Rattle.ob_contracts.specs.Tellers.{Telling, TellsIn}
use Rattle.ob_tree.specs.Contexts.{handed_down}
use Rattle.ob_tree.specs.Standings.{context}
use Rattle.ob_tree.proofs.telling.told_again.Goals as goal

pub hand_down-requires : goal.hand_down-requires
hand_down-requires c =
    let lib = c.args.standing.library.now in
    subst (λ (x : Option Telling). TellsIn lib x c.args.own.now.head.is) (sym c.as_ref.ensures.value) c.in_ok-is.ensures

pub returns : goal.returns
returns c = record {
  is = c.in_ok-is.ensures;
  items = c.into_told-items.ensures (handed_down (context c.args.standing) c.args.own.now.head) c.in_ok-handed.ensures;
}
