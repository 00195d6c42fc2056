use Rattle.std.proofs.Common.{◌≡◌, ℕ, ◌+◌, ◌*◌, ◌<◌, ◌≤◌, [], ◌∷◌, ◌++◌, length, ap, subst, ◌∙◌, arith, rules}
use Rattle.std.proofs.lemmas.Bool.Decides.{nat_tests}
use Rattle.std.proofs.lemmas.Result.{on_ok_weaker}
use Rattle.ob_object.specs.declared.kind.Kind.{Kind}
use Rattle.ob_object.specs.Object.{count, in_row, parts}
use Rattle.ob_encoding.specs.Names.{kind_name}
use Rattle.ob_encoding.proofs.Fronts.{front_then}
use Rattle.ob_encoding.proofs.Writing.{inner_written, next_child, child_parts, row_count}
use Rattle.ob_encoding.proofs.element.+writing.Goals as goal

pub write_children-write_child-requires : goal.write_children-write_child-requires
write_children-write_child-requires t c =
    let fewer : parts c.child-item.result ≤ count (in_row c.args.children.now) = child_parts c.args.children.now c.loop-child.child-index c.child-item.result c.loop-child-test.true c.child-item.is in
    (subst (λ (n : ℕ). 3 * parts c.child-item.result + 2 < n) c.decreases (omega arith), tt)

pub write_children-loop-child-preserved : goal.write_children-loop-child-preserved
write_children-loop-child-preserved t c =
    record {
      front = front_then c.args.out.now.items c.loop-child.out.items c.write_child.new.out.items c.loop-child.invariant.front c.write_child.ensures.front;
      whole = next_child c.loop-child.out.items c.write_child.new.out.items _ c.args.children.now c.loop-child.child-index c.child-item.result c.loop-child-test.true c.child-item.is c.in_ok-write_child.ensures.written c.loop-child.invariant.whole;
    }

pub write_inner-write_children-requires : goal.write_inner-write_children-requires
write_inner-write_children-requires t c =
    let same : count (in_row c.children-children.result.now) ≡ count c.args.obj.now.inner = row_count c.children-children.result.now c.args.obj.now.inner c.children-children.ensures.value in
    (subst (λ (n : ℕ). 3 * count (in_row c.children-children.result.now) + 3 < n) c.decreases (omega arith), tt)

pub write_inner-returns-clause-written : goal.write_inner-returns-clause-written
write_inner-returns-clause-written t c =
    let some : 0 < length c.children-children.result.now = first_of (grind (arith, nat_tests), omega (arith, nat_tests), search (rules, nat_tests)) in
    let tag = λ (k : Kind). c.write_children.new.out.items ++ 60 ∷ 47 ∷ (kind_name k ++ 62 ∷ []) in
    on_ok_weaker c.write_end.result (λ e. inner_written c.args.out.now.items c.append-2.new.out.items c.write_children.new.out.items c.write_end.new.out.items c.args.obj.now.head.kind c.children-children.result.now c.args.obj.now.inner c.children-children.ensures.value some c.in_ok-append.ensures.written c.in_ok-write_children.ensures.written (e ∙ ap tag c.kind.ensures)) c.write_end.ensures.written
