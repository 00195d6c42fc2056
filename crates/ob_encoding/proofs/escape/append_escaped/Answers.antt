use Rattle.std.proofs.Common.{ℕ, List, ◌++◌, ap, arith}
use Rattle.std.proofs.lemmas.List.{append-nil}
use Rattle.std.proofs.lemmas.Result.{on_ok_weaker}
use Rattle.ob_encoding.specs.Escaped.{escaped}
use Rattle.ob_encoding.proofs.Escaping.{plain_byte, escaped_byte, last_run}
use Rattle.ob_encoding.proofs.Fronts.{front_then, front_same}
use Rattle.ob_encoding.proofs.escape.append_escaped.Goals as goal
use Rattle.ob_encoding.proofs.escape.append_escaped.Goals.{in-Some+in_ok-append+in_ok-append-2, in_default}

pub loop-i-preserved : goal.loop-i-preserved
loop-i-preserved c =
    elim c.match-reference_for.branch [
      | in-Some+in_ok-append+in_ok-append-2 w ↦ rw (w.out-is, w.start-is) (record {
        front = front_then c.args.out.now.items c.loop-i.out.items w.append-in-Some.new.out.items c.loop-i.invariant.front (front_then c.loop-i.out.items w.append.new.out.items w.append-in-Some.new.out.items w.append.ensures.front w.append-in-Some.ensures.front);
        run = omega arith;
        whole = escaped_byte c.loop-i.out.items w.append.new.out.items w.append-in-Some.new.out.items w.in-Some.reference.now _ c.args.text.now c.loop-i.start c.loop-i.i c.loop-i-test.true w.in-Some.ensures w.in_ok-append.ensures.written w.in_ok-append-2.ensures.written c.loop-i.invariant.whole;
      })
      | in_default w ↦ rw (w.out-is, w.start-is) (record {
        front = c.loop-i.invariant.front;
        run = omega arith;
        whole = plain_byte c.loop-i.out.items _ c.args.text.now c.loop-i.start c.loop-i.i c.loop-i.invariant.run c.loop-i-test.true w.in_default.ensures c.loop-i.invariant.whole;
      })
    ]

pub loop-i-init : goal.loop-i-init
loop-i-init c = record {
  front = front_same c.args.out.now.items;
  run = omega arith;
  whole = ap (λ (t : List ℕ). t ++ escaped c.args.text.now) (append-nil c.args.out.now.items);
}

pub returns-in_err-append-clause-front : goal.returns-in_err-append-clause-front
returns-in_err-append-clause-front c =
    front_then c.args.out.now.items c.loop-i.out.items c.append.new.out.items c.loop-i.invariant.front c.append.ensures.front

pub returns-in_err-append-2-clause-front : goal.returns-in_err-append-2-clause-front
returns-in_err-append-2-clause-front c =
    let old = c.loop-i.out.items in
    let one = c.append.new.out.items in
    let two = c.append-in-Some.new.out.items in
    front_then c.args.out.now.items old two c.loop-i.invariant.front (front_then old one two c.append.ensures.front c.append-in-Some.ensures.front)

pub returns : goal.returns
returns c = record {
  written = on_ok_weaker c.append-2.result
      (λ e. last_run c.loop-i.out.items c.append-2.new.out.items _ c.args.text.now c.loop-i.start c.loop-i.i c.loop-i.invariant.run c.loop-i-test.false e c.loop-i.invariant.whole)
      c.append-2.ensures.written;
  front = front_then c.args.out.now.items c.loop-i.out.items c.append-2.new.out.items c.loop-i.invariant.front c.append-2.ensures.front;
}
