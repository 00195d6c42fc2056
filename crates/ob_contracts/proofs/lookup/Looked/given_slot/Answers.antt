use Rattle.std.proofs.Common.{sym, ◌∙◌}
use Rattle.std.proofs.lemmas.Result.{IfOk-weaker}
use Rattle.ob_contracts.specs.Places.{sources_of}
use Rattle.ob_contracts.proofs.Gifts.{slot_kept, slot_taken}
use Rattle.ob_contracts.proofs.lookup.Looked.given_slot.Goals as goal

pub returns-then-has_part : goal.returns-then-has_part
returns-then-has_part c =
    slot_kept c.args.defaults c.args.self.now.sources.own.now (sources_of c.args.self.now.sources) (sym c.has_part.ensures ∙ c.if-has_part.true)

pub returns-else-has_part : goal.returns-else-has_part
returns-else-has_part c =
    IfOk-weaker c.copy.result _ _
    (λ s is. slot_taken c.args.self.now.sources.own.now.head.slot s (sym c.has_part.ensures ∙ c.if-has_part.false) ∙ is ∙ c.slot.ensures) c.copy.ensures
