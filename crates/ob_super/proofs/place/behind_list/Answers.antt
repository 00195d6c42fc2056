use Rattle.std.proofs.Common.{◌++◌, sym, ap, ◌∙◌}
use Rattle.std.specs.Prelude.{codes, option_map}
use Rattle.ob_super.proofs.PlaceLemmas.{behind_not, behind_then}
use Rattle.ob_super.proofs.place.behind_list.Goals as goal

pub returns-in_default : goal.returns-in_default
returns-in_default c =
    behind_not (codes "/obix/") (c.args.name.now ++ codes "/") c.args.path.now
    (λ rest e. c.in_default.ensures rest (c.as_bytes-2.ensures.value ∙ e ∙ ap (λ x. x ++ rest) (sym c.as_bytes.ensures.value)))

pub returns : goal.returns
returns c =
    let name = c.args.name.now in
    let first = c.in-Some.rest.now in
    let second = c.in-Some-behind.rest.now in
    behind_then (codes "/obix/") (name ++ codes "/") c.args.path.now first (option_map (λ x. x.now) c.behind-3.result)
    (sym c.as_bytes-2.ensures.value ∙ c.in-Some.ensures ∙ ap (λ x. x ++ first) c.as_bytes.ensures.value)
    (behind_then name (codes "/") first second (option_map (λ x. x.now) c.behind-3.result)
    (c.in-Some-behind.ensures ∙ ap (λ x. x ++ second) (c.as_bytes-3.ensures.value ∙ c.as_str.ensures.value)) c.behind-3.ensures)
