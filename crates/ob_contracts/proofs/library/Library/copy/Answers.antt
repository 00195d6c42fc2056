use Rattle.std.proofs.Common.{◌≡◌, sym, ◌∙◌, subst}
use Rattle.ob_contracts.specs.Inherit.{Contracts}
use Rattle.ob_contracts.specs.Sound.{AllSound}
use Rattle.ob_contracts.proofs.Copied.{index_copied, named_copied}
use Rattle.ob_contracts.proofs.library.Library.copy.Goals as goal

pub invariant_of-copy : goal.invariant_of-copy
invariant_of-copy c =
    let old = c.self.invariant in
    let new = c.copy.invariant in
    let items = c.self.inside.contracts.items in
    let copied = c.in_ok-contracts.contracts.items in
    let same : copied ≡ items = c.in_ok-contracts.ensures ∙ c.as_slice.ensures.value in (
      subst (λ (l : Contracts). AllSound l) (sym same) old.0,
      new.1,
      new.2,
      new.3,
      new.4,
      new.5,
      new.6,
      new.7,
      new.8,
      index_copied c.self.inside.places c.in_ok-places.places items copied c.in_ok-places.ensures.cases same old.9,
      named_copied c.self.inside.named c.in_ok-named.named items copied c.in_ok-named.ensures.cases same old.10,
    )
