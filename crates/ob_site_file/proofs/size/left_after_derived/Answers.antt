use Rattle.std.specs.Option.{option_copied}
use Rattle.std.proofs.Common.{ap, ◌-◌, ◌∙◌, List, [], false, get_or, map, refl}
use Rattle.std.proofs.lemmas.List.{take_all}
use Rattle.ob_object.specs.Object.{in_row}
use Rattle.ob_site_file.specs.declared.derived.Derived.{Derived}
use Rattle.ob_site_file.specs.Sizes.{row_count, stood}
use Rattle.ob_site_file.proofs.Counted.{derived_more, derived_first}
use Rattle.ob_site_file.proofs.size.left_after_derived.Goals as goal

pub loop-child-init : goal.loop-child-init
loop-child-init c = λ ss found. derived_first c.args.most c.args.above.now.library.now (option_copied c.args.above.now.gives) ss c.args.derived.now

pub loop-child-preserved : goal.loop-child-preserved
loop-child-preserved c = λ ss found.
    derived_more c.args.most c.args.above.now.library.now (option_copied c.args.above.now.gives) ss c.args.derived.now c.loop-child.child-index c.loop-child.left c.in_ok-left.left (record { name = record { ref_ptr = (0, 0); now = [] }; is_ref = false }) (get_or c.args.derived.now c.loop-child.child-index (record { name = record { ref_ptr = (0, 0); now = [] }; is_ref = false })) c.loop-child-test.true refl
    (c.in_ok-left.ensures ss found) (c.loop-child.invariant ss found)

pub returns : goal.returns
returns c = λ ss found.
    c.loop-child.invariant ss found
    ∙ ap (λ (l : List Derived). c.args.most - row_count c.args.above.now.library.now (option_copied c.args.above.now.gives) ss (in_row (map stood l))) (take_all c.loop-child.child-index c.args.derived.now c.loop-child-test.false)
