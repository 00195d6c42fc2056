use Rattle.std.proofs.Common.{◌≡◌, false, cond, List, ℕ, [], ◌∷◌, ◌++◌, map, sym, ap, ◌∙◌}
use Rattle.std.specs.Option.{option_copied}
use Rattle.ob_object.specs.Kinds.{is_ref}
use Rattle.ob_contracts.specs.Inherit.{words_in, or_else, present, contract_of}
use Rattle.ob_site_file.proofs.size.sources.Goals as goal

pub returns : goal.returns
returns c =
    let h = c.args.head.now in
    let lib = c.args.library.now in
    let over = option_copied c.args.over in
    let kind : is_ref h.kind ≡ false = sym (ap is_ref c.kind.ensures) ∙ sym c.is_ref.ensures ∙ c.if-is_ref.false in
    c.in_ok-from.ensures
    ∙ ap (λ (ws : List (List ℕ)). present (map (contract_of lib) ws ++ over ∷ [])) c.words_of.ensures
    ∙ sym (ap (λ b. present (cond b [] (map (contract_of lib) (words_in (or_else h.is (option_copied c.args.implied))) ++ over ∷ []))) kind)
