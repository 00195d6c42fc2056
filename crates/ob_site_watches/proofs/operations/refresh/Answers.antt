use Rattle.std.proofs.Common.{◌≡◌, List, map, true, sym, subst}
use Rattle.std.specs.Prelude.{is_none}
use Rattle.std.specs.List.{list_all}
use Rattle.ob_object.specs.Object.{Object}
use Rattle.ob_site_state.specs.Stamping.{tree_of}
use Rattle.ob_watch.specs.Flags.{flags}
use Rattle.ob_site_watches.proofs.Named.{readings_named}
use Rattle.ob_site_watches.proofs.Polled.{whatever}
use Rattle.ob_site_watches.proofs.operations.refresh.Goals as goal

pub watch_out-requires : goal.watch_out-requires
watch_out-requires g c =
    subst (λ (os : List Object). list_all (λ (o : Object). is_none o.head.name) os ≡ true) (sym c.in_ok-entries.ensures.entries)
    (readings_named c.args.state.now.plan c.args.state.now.now (map (flags (tree_of c.args.state.now)) c.args.items.now))

pub returns-clause-steps : goal.returns-clause-steps
returns-clause-steps g c = whatever c.watch_out.result _ c.in_ok-entries.ensures.steps
