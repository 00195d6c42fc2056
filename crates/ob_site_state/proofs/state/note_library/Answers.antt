use Rattle.std.proofs.Common.{◌≡◌, List, ◌++◌, ◌∷◌, [], ap, ◌∙◌}
use Rattle.ob_site_state.specs.declared.change.Change.{Change}
use Rattle.ob_site_state.specs.declared.change.Change.TheVariants as change
use Rattle.ob_site_state.specs.OwnContracts.{HasNoted, last}
use Rattle.ob_site_state.proofs.state.note_library.Goals as goal

pub returns-clause-ok : goal.returns-clause-ok
returns-clause-ok c =
    let told = c.in_ok-told.told in
    last told (c.in_ok-told.ensures.library ∙ c.in_ok-copy.ensures ∙ c.library.ensures) c.in_ok-told.ensures.told
    (c.push_reserved.ensures.items ∙ ap (λ (l : List Change). l ++ change.Contracts told ∷ []) c.reserve.ensures.items)
