use Rattle.std.proofs.Common.{◌≡◌, drop}
use Rattle.ob_requests.specs.Calls.{firsts, firsts_behind, HaveSeen}
use Rattle.ob_requests.proofs.asked.firsts.Given as goal

abbrev pub invariant-loop-a : goal.invariant-loop-a
invariant-loop-a l = record {
  have : HaveSeen l.seen l.kept.items;
  rest : firsts_behind l.kept.items (drop l.a-index l.asked) ≡ firsts l.asked;
}
