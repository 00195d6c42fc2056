use Rattle.std.proofs.Common.{Option, sym, subst}
use Rattle.std.specs.Option.{option_copied}
use Rattle.ob_contracts.specs.Tellers.{Telling, TellsIn}
use Rattle.ob_tree.proofs.handed.Handed.inside.Goals as goal

pub invariant_of-result : goal.invariant_of-result
invariant_of-result c = record {
  stand = subst (λ (t : Option Telling). TellsIn c.args.self.now.library.now t (option_copied c.args.self.now.implied)) (sym c.as_ref.ensures.value) c.args.self.now.stand;
}
