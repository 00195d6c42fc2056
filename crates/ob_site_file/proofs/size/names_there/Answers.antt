use Rattle.std.proofs.Common.{Some, ap, ◌∙◌, ◌++◌, List, [], false, get_or, map, refl}
use Rattle.std.proofs.lemmas.List.{take_all}
use Rattle.ob_object.specs.Object.{children}
use Rattle.ob_object.specs.WellFormed.{is_taken}
use Rattle.ob_site_file.specs.declared.derived.Derived.{Derived}
use Rattle.ob_site_file.specs.Sizes.{stood}
use Rattle.ob_site_file.proofs.Counted.{names_first, named_more, text_more}
use Rattle.ob_site_file.proofs.size.names_there.Goals as goal

pub loop-child-init : goal.loop-child-init
loop-child-init c = names_first (children c.args.object.now) c.args.derived.now c.in_ok-there.there c.in_ok-there.ensures

pub loop-child-preserved : goal.loop-child-preserved
loop-child-preserved c =
    named_more (children c.args.object.now) c.args.derived.now c.loop-child.child-index (record { name = record { ref_ptr = (0, 0); now = [] }; is_ref = false }) (get_or c.args.derived.now c.loop-child.child-index (record { name = record { ref_ptr = (0, 0); now = [] }; is_ref = false })) c.loop-child.there c.insert.new.self c.loop-child-test.true refl
    (text_more c.loop-child.there c.insert.new.self (get_or c.args.derived.now c.loop-child.child-index (record { name = record { ref_ptr = (0, 0); now = [] }; is_ref = false })).name c.in_ok-insert.ensures.updates) c.loop-child.invariant

pub returns : goal.returns
returns c = λ n.
    c.loop-child.invariant n
    ∙ ap (λ (l : List Derived). is_taken (Some n) (children c.args.object.now ++ map stood l)) (take_all c.loop-child.child-index c.args.derived.now c.loop-child-test.false)
