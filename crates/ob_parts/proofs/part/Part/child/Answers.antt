use Rattle.std.proofs.Common.{ap, sym, ◌∙◌, ◌≡◌, ◌+◌, arith, drop, find, false, true}
use Rattle.ob_object.specs.WellFormed.{has_name}
use Rattle.ob_parts.specs.Numbered.{plus, numbered_from}
use Rattle.ob_parts.proofs.Walk.{named_part, passed, found, none_found}
use Rattle.ob_parts.proofs.part.Part.child.Goals as goal

pub loop-object-init : goal.loop-object-init
loop-object-init c =
    ap (λ n. find (named_part c.args.name.now) (numbered_from n c.children-object-items.result.now)) c.number_inside-number.ensures
    ∙ ap (λ l. find (named_part c.args.name.now) (numbered_from (plus c.args.self.number 1) l)) c.children-object-items.ensures.value

pub loop-object-preserved : goal.loop-object-preserved
loop-object-preserved c =
    let name = c.args.name.now in
    let objects = c.children-object-items.result.now in
    let other : has_name name c.object-item.result.head.name ≡ false = sym c.is_named.ensures ∙ c.if-is_named.false in
    ap (λ n. find (named_part name) (numbered_from n (drop (c.loop-object.object-index + 1) objects))) c.number_behind-number.ensures
    ∙ (sym (passed name c.loop-object.number objects c.loop-object.object-index c.object-item.result (omega arith) c.object-item.is other) ∙ c.loop-object.invariant)

pub returns-then-is_named : goal.returns-then-is_named
returns-then-is_named c =
    let same : has_name c.args.name.now c.object-item.result.head.name ≡ true = sym c.is_named.ensures ∙ c.if-is_named.true in
    sym (found c.args.name.now c.loop-object.number c.children-object-items.result.now c.loop-object.object-index c.object-item.result (omega arith) c.object-item.is same) ∙ c.loop-object.invariant

pub returns : goal.returns
returns c = sym (none_found c.args.name.now c.loop-object.number c.children-object-items.result.now c.loop-object.object-index (omega arith)) ∙ c.loop-object.invariant
