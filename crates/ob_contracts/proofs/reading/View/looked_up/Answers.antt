use Rattle.std.proofs.Common.{Option, List, [], sym, ap, subst, ◌∙◌}
use Rattle.std.specs.Option.{option_copied}
use Rattle.ob_object.specs.Object.{Object}
use Rattle.ob_contracts.specs.Inherit.{Words, overridden, places, present}
use Rattle.ob_contracts.specs.Tellers.{TellsIn}
use Rattle.ob_contracts.proofs.Taught.{over_untold, view_stands, view_looks}
use Rattle.ob_contracts.proofs.reading.View.looked_up.Goals as goal

pub by-requires : goal.by-requires
by-requires c =
    subst (λ (ws : Option Words). TellsIn c.args.self.now.library.now (option_copied c.args.self.now.told) ws) (sym c.words.ensures) c.args.self.now.stand

pub returns-then-self-clause-over : goal.returns-then-self-clause-over
returns-then-self-clause-over c = λ n.
    over_untold c.none.result [] (ap option_copied c.none.ensures.untold) c.none.ensures.places n
    ∙ sym (ap (λ (ps : List (Option Object)). overridden n (present ps)) (view_stands c.args.self.now c.if-self.true))

pub returns-else-self-clause-over : goal.returns-else-self-clause-over
returns-else-self-clause-over c = λ n.
    c.by.ensures.over n
    ∙ sym (ap (λ (ps : List (Option Object)). overridden n (present ps)) (view_looks c.args.self.now (option_copied c.words.result) c.words.ensures c.if-self.false))
