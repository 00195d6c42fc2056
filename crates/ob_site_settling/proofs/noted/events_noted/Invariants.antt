use Rattle.std.proofs.Common.{◌≡◌, ◌+◌, ◌≤◌, drop}
use Rattle.ob_site_settling.specs.Telling.{events_noted}
use Rattle.ob_site_settling.proofs.noted.events_noted.Given as goal

abbrev pub invariant-loop-change : goal.invariant-loop-change
invariant-loop-change l = record {
  so_far : l.count + events_noted (drop l.change-index l.changes) ≡ events_noted l.changes;
  few : l.count ≤ l.change-index;
}
