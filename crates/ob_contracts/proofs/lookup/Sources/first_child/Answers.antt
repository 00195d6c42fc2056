use Rattle.std.proofs.Common.{◌∙◌}
use Rattle.ob_object.specs.Object.{children}
use Rattle.ob_object.specs.WellFormed.{named}
use Rattle.ob_contracts.specs.Places.{sources_of}
use Rattle.ob_contracts.proofs.Giving.{given_by, not_given}
use Rattle.ob_contracts.proofs.lookup.Sources.first_child.Goals as goal

pub returns-in-Some : goal.returns-in-Some
returns-in-Some c =
    c.child.ensures ∙ given_by (λ s. named c.args.name.now (children s)) (sources_of c.args.self.now) c.in-Some.source.now c.in-Some.ensures

pub returns-in-None : goal.returns-in-None
returns-in-None c = not_given (λ s. named c.args.name.now (children s)) (sources_of c.args.self.now) c.in-None.ensures
