use Rattle.ob_site_state.specs.Stamping.{tree_of}
use Rattle.ob_watch.specs.Flags.{flags}
use Rattle.std.proofs.Common.{◌≡◌, ◌+◌, map, take}
use Rattle.ob_site_watches.specs.Entries.{all_changes}
use Rattle.ob_site_watches.specs.Polls.{poll_steps}
use Rattle.ob_site_watches.proofs.entries.changes.Given as goal

abbrev pub invariant-loop-item : goal.invariant-loop-item
invariant-loop-item g l = record {
  entries : l.entries.items ≡ all_changes l.state (take l.item-index l.items);
  steps : l.steps ≡ l.fn.steps + poll_steps l.state.plan l.state.now (map (flags (tree_of l.state)) (take l.item-index l.items));
}
