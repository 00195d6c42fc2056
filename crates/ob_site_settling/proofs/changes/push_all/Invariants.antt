use Rattle.std.proofs.Common.{◌≡◌, ◌++◌, [], map, take, drop}
use Rattle.std.specs.Option.{option_copied}
use Rattle.ob_site_settling.specs.Seen.{HasSeen}
use Rattle.ob_site_settling.specs.Telling.{all_told, replaced_or}
use Rattle.ob_site_settling.proofs.changes.push_all.Given as goal

abbrev pub invariant-loop-change : goal.invariant-loop-change
invariant-loop-change g l = record {
  so_far :
      map (λ node. node.number) l.found.items ++ all_told (replaced_or (option_copied l.replaced) l.state.now) l.state.plan l.state.now (take l.change-index l.changes) (drop l.change-index l.changes)
      ≡ map (λ node. node.number) l.fn.found.items ++ all_told (replaced_or (option_copied l.replaced) l.state.now) l.state.plan l.state.now [] l.changes;
  seen : HasSeen (take l.change-index l.changes) l.seen;
}
