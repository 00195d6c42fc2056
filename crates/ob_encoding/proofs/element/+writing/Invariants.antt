use Rattle.std.proofs.Common.{◌≡◌, ◌+◌, ◌*◌, ◌++◌, drop}
use Rattle.ob_object.specs.Object.{count, in_row, parts}
use Rattle.ob_encoding.specs.Canonical.{row_text}
use Rattle.ob_encoding.specs.Written.{IsFront}
use Rattle.ob_encoding.proofs.element.+writing.Given as goal

abbrev pub invariant-write_children-loop-child : goal.invariant-write_children-loop-child
invariant-write_children-loop-child l = record {
  front : IsFront l.fn.out.items l.out.items;
  whole : l.out.items ++ row_text (in_row (drop l.child-index l.children)) ≡ l.fn.out.items ++ row_text (in_row l.children);
}

abbrev pub decreases-write_child : goal.decreases-write_child
decreases-write_child l = 3 * parts l.child.now + 2

abbrev pub decreases-write_inner : goal.decreases-write_inner
decreases-write_inner l = 3 * parts l.obj.now + 1

abbrev pub decreases-write_children : goal.decreases-write_children
decreases-write_children l = 3 * count (in_row l.children.now) + 3
