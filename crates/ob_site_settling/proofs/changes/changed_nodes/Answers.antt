use Rattle.std.proofs.Common.{List, [], ◌++◌, ap, ◌∙◌}
use Rattle.ob_tree.specs.declared.node.NodeId.{NodeId}
use Rattle.std.specs.Option.{option_copied}
use Rattle.ob_site_settling.specs.Telling.{all_told, replaced_or}
use Rattle.ob_site_settling.proofs.Looping.{numbers, can_compare, changed_nodes}
use Rattle.ob_site_settling.proofs.changes.changed_nodes.Goals as goal

pub push_all-requires-clause-comparable : goal.push_all-requires-clause-comparable
push_all-requires-clause-comparable g c = can_compare c.args.state.now.plan c.changes.result.now c.args.state.now.now c.changes.ensures.can c.changes.ensures.told

pub returns : goal.returns
returns g c =
    let are = changed_nodes c.args.state.now c.changes.result.now (replaced_or (option_copied c.library_replaced-replaced.result) c.args.state.now.now) (numbers c.push_all.new.found.items) c.push_some.new.found.items _
    c.changes.ensures.before c.changes.ensures.can c.changes.ensures.told c.changes.ensures.rolled c.changes.ensures.sound c.sound_law.ensures.histories c.sound_law.ensures.apart
    c.library_replaced-replaced.ensures.library
    (c.in_ok-push_all.ensures
    ∙ ap (λ (l : List NodeId). numbers l ++ all_told (replaced_or (option_copied c.library_replaced-replaced.result) c.args.state.now.now) c.args.state.now.plan c.args.state.now.now [] c.changes.result.now) c.new-found.ensures.items)
    c.changed_subject.ensures c.in_ok-push_some.ensures in
    record { changed = are.0; values = are.1; within = are.2 }
