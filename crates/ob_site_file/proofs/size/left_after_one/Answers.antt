use Rattle.std.proofs.Common.{◌≡◌, ◌+◌, ◌-◌, ℕ, Bool, Some, List, [], ◌∷◌, ◌++◌, map, sym, ap, ap₂, ◌∙◌, Option}
use Rattle.std.specs.Option.{option_copied}
use Rattle.ob_object.specs.Object.{Object, parts, count, in_row}
use Rattle.ob_contracts.specs.Inherit.{result_of, overridden, present, contract_of, words_in, missing}
use Rattle.ob_contracts.specs.Found.{lent}
use Rattle.ob_site_file.specs.Sizes.{stand_in}
use Rattle.ob_site_file.proofs.Counted.{ref_parts, other_parts, names_none}
use Rattle.ob_site_file.proofs.Sizes.{left_both}
use Rattle.ob_site_file.proofs.size.left_after_one.Goals as goal

pub returns-then-child : goal.returns-then-child
returns-then-child c = λ ss found.
    let lib = c.args.above.now.library.now in
    let g = option_copied c.args.above.now.gives in
    let n = c.args.child.now.name.now in
    let over = overridden (Some n) ss in
    c.saturating_sub.ensures ∙ ap (λ (m : ℕ). c.args.left - m) (sym (ap (λ (b : Bool). parts (result_of lib (stand_in b n) g over)) c.if-child.true ∙ ref_parts lib g over n))

pub returns : goal.returns
returns c = λ ss found.
    let lib = c.args.above.now.library.now in
    let g = option_copied c.args.above.now.gives in
    let n = c.args.child.now.name.now in
    let over = overridden (Some n) ss in
    let from : lent c.as_slice.result.now ≡ present (map (contract_of lib) (words_in g) ++ over ∷ []) =
    ap lent c.as_slice.ensures.value ∙ c.in_ok-from.ensures
    ∙ ap₂ (λ (ws : List (List ℕ)) (o : Option Object). present (map (contract_of lib) ws ++ o ∷ [])) c.words_in.ensures (c.over_of-over.ensures ss found) in
    let behind : c.in_ok-behind.behind ≡ c.args.left - count (in_row (missing [] (present (map (contract_of lib) (words_in g) ++ over ∷ [])))) =
    c.in_ok-behind.ensures [] (names_none c.new-there.result c.new-there.ensures.empty) ∙ ap (λ (l : List Object). c.args.left - count (in_row (missing [] l))) from in
    left_both c.args.left c.in_ok-behind.behind c.saturating_sub-2.result (count (in_row (missing [] (present (map (contract_of lib) (words_in g) ++ over ∷ []))))) 1 behind c.saturating_sub-2.ensures
    ∙ ap (λ (m : ℕ). c.args.left - m) (sym (ap (λ (b : Bool). parts (result_of lib (stand_in b n) g over)) c.if-child.false ∙ other_parts lib g over n))
