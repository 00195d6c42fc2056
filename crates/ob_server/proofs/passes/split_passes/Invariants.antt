use Rattle.std.proofs.Common.{◌≡◌, ◌+◌, length}
use Rattle.std.specs.Vec.{vec_capacity}
use Rattle.ob_server.specs.Together.{AreSplit}
use Rattle.ob_server.proofs.passes.split_passes.Given as goal

abbrev pub invariant-loop : goal.invariant-loop
invariant-loop g l = record {
  split : AreSplit l.fn.pass l.pass l.passes.items;
  count : length l.passes.items ≡ l.counter;
  room : vec_capacity l.passes ≡ l.count;
  left : length l.pass.numbers + l.counter ≡ length l.fn.pass.numbers;
}
