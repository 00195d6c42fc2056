use Rattle.std.proofs.Common.{◌≡◌, Bool, true, false, Option, None, cond, refl, ◌∙◌}
use Rattle.ob_object.specs.Kinds.{is_ref}
use Rattle.ob_contracts.proofs.lookup.Sources.new.Goals as goal

none_either : {A : Type 0} (b : Bool) → let none : Option A = None in cond b none none ≡ none
none_either true = refl
none_either false = refl

pub returns-clause-untold : goal.returns-clause-untold
returns-clause-untold c = c.of.ensures.told ∙ none_either (is_ref c.args.own.now.head.kind)
