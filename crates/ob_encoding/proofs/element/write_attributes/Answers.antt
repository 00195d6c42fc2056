use Rattle.std.proofs.Common.{◌++◌, ap, ◌∙◌}
use Rattle.std.proofs.lemmas.Result.{on_ok_weaker}
use Rattle.ob_object.specs.declared.head.Slot.{Slot}
use Rattle.ob_encoding.specs.Canonical.{attributes_text}
use Rattle.ob_encoding.specs.Groups.{slot_part}
use Rattle.ob_encoding.proofs.Writing.{attributes_written}
use Rattle.ob_encoding.proofs.element.write_attributes.Goals as goal

pub returns-clause-written : goal.returns-clause-written
returns-clause-written c =
    on_ok_weaker c.write_facets.result (λ e. attributes_written c.args.out.now.items c.write_names.new.out.items c.write_slot.new.out.items c.write_lists.new.out.items c.write_facets.new.out.items c.args.head.now c.in_ok-write_names.ensures.written (c.in_ok-write_slot.ensures.written ∙ ap (λ (s : Slot). c.write_names.new.out.items ++ attributes_text (slot_part s)) c.slot.ensures) c.in_ok-write_lists.ensures.written e) c.write_facets.ensures.written
