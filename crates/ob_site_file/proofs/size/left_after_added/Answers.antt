use Rattle.std.proofs.Common.{◌≡◌, ◌-◌, ◌||◌, ℕ, List, Some, ◌++◌, map, sym, ap, ap₂, ◌∙◌}
use Rattle.std.specs.Option.{option_copied}
use Rattle.std.proofs.lemmas.Result.{IfOk-weaker}
use Rattle.ob_object.specs.declared.head.Head.{Head}
use Rattle.ob_object.specs.Object.{Object, children, count, in_row, listed}
use Rattle.ob_object.specs.WellFormed.{is_taken}
use Rattle.ob_object.specs.Paths.{node_path}
use Rattle.ob_contracts.specs.Found.{lent}
use Rattle.ob_contracts.specs.Inherit.{missing}
use Rattle.ob_contracts.proofs.Missing.{taken-append}
use Rattle.ob_site_rules.specs.Shown.{derived, with_roles}
use Rattle.ob_site_file.specs.Sizes.{row_count, stood, plain, HasNames}
use Rattle.ob_site_file.proofs.Sizes.{left_both, derived_alike, dressed_names, plain_names}
use Rattle.ob_site_file.proofs.size.left_after_added.Goals as goal

pub returns : goal.returns
returns c =
    IfOk-weaker c.left_after_missing.result _ _
    (λ n is plan s ss k found.
    let o = c.args.object.now in
    let lib = c.args.above.now.library.now in
    let g = option_copied c.args.above.now.gives in
    let ds = c.in_ok-derived.derived.items in
    let more = derived plan s (node_path o.head) in
    let kids = listed (with_roles plan s o.inner) in
    let same : map stood ds ≡ map plain more = c.in_ok-derived.ensures plan s k ∙ ap (λ (h : Head). map plain (derived plan s (node_path h))) c.head.ensures.value in
    let first : c.in_ok-left.left ≡ c.args.most - row_count lib g ss (in_row more) =
    c.in_ok-left.ensures ss found
    ∙ ap (λ (l : List Object). c.args.most - row_count lib g ss (in_row l)) (ap (map stood) c.as_slice.ensures.value ∙ same)
    ∙ ap (λ (m : ℕ). c.args.most - m) (sym (derived_alike lib g ss plan s (node_path o.head))) in
    let names : HasNames c.in_ok-there.there (kids ++ more) = λ q.
    c.in_ok-there.ensures q ∙ taken-append q (children o) (map stood c.as_slice-2.result.now)
    ∙ ap₂ (λ a b. a || b) (sym (dressed_names plan s q o.inner)) (ap (is_taken (Some q)) (ap (map stood) c.as_slice-2.ensures.value ∙ same) ∙ plain_names q more)
    ∙ sym (taken-append q kids more) in
    left_both c.args.most c.in_ok-left.left n (row_count lib g ss (in_row more)) (count (in_row (missing (kids ++ more) (lent c.args.above.now.from.now)))) first (is (kids ++ more) names)) c.left_after_missing.ensures
