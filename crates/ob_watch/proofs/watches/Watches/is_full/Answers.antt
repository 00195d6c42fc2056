use Rattle.std.proofs.Common.{false, true, sym, ◌∙◌}
use Rattle.ob_watch.proofs.GivingLemmas.{full_in}
use Rattle.ob_watch.proofs.watches.Watches.is_full.Goals as goal

pub returns-then-are_thousand : goal.returns-then-are_thousand
returns-then-are_thousand c =
    c.if-are_thousand.true
    ∙ full_in c.args.now c.self.inside.map.entries c.self.inside.next c.args.self.now c.self.view_is c.self.invariant.0.differ true (sym c.if-are_thousand.true ∙ c.are_thousand.ensures)

pub returns-else-are_thousand : goal.returns-else-are_thousand
returns-else-are_thousand c =
    full_in c.args.now c.self.inside.map.entries c.self.inside.next c.args.self.now c.self.view_is c.self.invariant.0.differ false (sym c.if-are_thousand.false ∙ c.are_thousand.ensures)
