use Rattle.std.proofs.Common.{Option, subst}
use Rattle.ob_contracts.specs.Inherit.{Contracts, Words}
use Rattle.ob_contracts.specs.Tellers.{TellsIn}
use Rattle.ob_tree.proofs.handed.Handed.into_told.Goals as goal

pub returns : goal.returns
returns c = λ r h.
    let told = c.args.self.told in
    subst (λ (l : Contracts). TellsIn l told r.implied) h.library
    (subst (λ (ws : Option Words). TellsIn c.args.self.library.now told ws) h.implied c.args.self.stand)
