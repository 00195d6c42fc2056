use Rattle.std.proofs.Common.{◌≡◌, true, false, Option, sym, ap, ◌∙◌}
use Rattle.std.specs.Prelude.{is_some}
use Rattle.std.specs.Option.{option_copied}
use Rattle.ob_object.specs.Object.{Object}
use Rattle.ob_contracts.specs.Inherit.{or_else}
use Rattle.ob_contracts.proofs.Found.{copied_some}
use Rattle.ob_roles.specs.Given.{based, found_by}
use Rattle.ob_roles.proofs.Handed.{or_first, or_second}
use Rattle.ob_roles.proofs.given.Above.over.Goals as goal

pub returns-then-is_some : goal.returns-then-is_some
returns-then-is_some c = λ ss k.
    let n = c.args.head.now.name in
    let other = found_by c.args.self.now.over.now n in
    let some : is_some (option_copied c.based-first.result) ≡ true = copied_some c.based-first.result ∙ sym c.is_some.ensures ∙ c.if-is_some.true in
    or_first (option_copied c.based-first.result) other some ∙ ap (λ (o : Option Object). or_else o other) c.based-first.ensures ∙ k.finds n

pub returns : goal.returns
returns c = λ ss k.
    let n = c.args.head.now.name in
    let other = found_by c.args.self.now.over.now n in
    let none : is_some (option_copied c.based-first.result) ≡ false = copied_some c.based-first.result ∙ sym c.is_some.ensures ∙ c.if-is_some.false in
    c.find_by.ensures ∙ or_second (option_copied c.based-first.result) other none ∙ ap (λ (o : Option Object). or_else o other) c.based-first.ensures ∙ k.finds n
