use Rattle.std.proofs.Common.{◌-◌, ℕ, ap, sym, ◌∙◌, None}
use Rattle.ob_object.specs.Object.{Object, parts}
use Rattle.ob_contracts.specs.Inherit.{result_of}
use Rattle.ob_site_rules.specs.Shown.{shown_root}
use Rattle.ob_site_file.specs.Sizes.{dressed_at}
use Rattle.ob_site_file.proofs.Sizes.{counted_up, root_parts}
use Rattle.ob_site_file.proofs.size.parts_up_to.Goals as goal

pub returns : goal.returns
returns c = λ plan s k same.
    counted_up c.args.limit c.in_ok-left.left (parts (shown_root plan s)) c.saturating_sub.result
    (c.in_ok-left.ensures plan s k ∙ ap (λ (o : Object). c.args.limit - parts (result_of s.library (dressed_at plan s o) None None)) (sym same) ∙ ap (λ (n : ℕ). c.args.limit - n) (sym (root_parts plan s)))
    c.saturating_sub.ensures
