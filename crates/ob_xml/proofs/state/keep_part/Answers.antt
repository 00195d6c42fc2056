use Rattle.std.proofs.Common.{◌≡◌, List, false, sym, ap, subst, ◌∙◌}
use Rattle.std.specs.Prelude.{reverse}
use Rattle.ob_object.specs.declared.head.Head.{Head}
use Rattle.ob_object.specs.Object.{Object}
use Rattle.ob_object.specs.WellFormed.{is_taken}
use Rattle.ob_encoding.specs.Parts.{put_part}
use Rattle.ob_xml.specs.Structure.{siblings, is_twice}
use Rattle.ob_xml.specs.declared.state.Tag.{Tag}
use Rattle.ob_xml.proofs.Frees.{still_free}
use Rattle.ob_xml.specs.declared.state.Outer.{Outer}
use Rattle.ob_xml.proofs.state.keep_part.Goals as goal

pub keep_head-requires-clause-named : goal.keep_head-requires-clause-named
keep_head-requires-clause-named c = λ e.
    let round = siblings (reverse c.args.outer.value.elements.items) in
    subst (λ (h : Head). is_taken h.name round ≡ false) (sym c.in-Ok.ensures)
    (subst (λ (t : Tag). is_taken (put_part c.args.part t.head).name round ≡ false) (sym c.deref_mut.ensures.value)
    (still_free c.args.part c.args.tag.value.head round c.requires.1.0
    (ap (λ (o : Outer). is_twice c.args.part (siblings (reverse o.elements.items))) (sym c.deref.ensures)
    ∙ ap (λ (xs : List Object). is_twice c.args.part (siblings (reverse xs))) (sym c.deref-2.ensures.value) ∙ sym c.is_named_twice-twice.ensures ∙ e)))
