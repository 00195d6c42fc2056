use Rattle.std.proofs.Common.{◌≡◌, Some, sym, ap, ◌∙◌, arith}
use Rattle.ob_object.specs.Object.{Object, parts}
use Rattle.ob_tree.specs.Shown.{part_at}
use Rattle.ob_tree.specs.Trees.{Stamped}
use Rattle.ob_step_laws.specs.Defaults.{with_library}
use Rattle.ob_site_settling.proofs.Found.{within_all}
use Rattle.ob_site_settling.proofs.Walked.{same_root, root_walked}
use Rattle.ob_site_settling.proofs.otherwise.nodes_otherwise.Goals as goal

pub put_otherwise-requires : goal.put_otherwise-requires
put_otherwise-requires g c =
    let plan = c.args.state.now.plan in
    let s = c.args.state.now.now in
    let own_is : Some c.in_ok-own.own ≡ part_at 0 s.tree = c.in_ok-own.ensures ∙ ap (λ (t : Stamped). part_at 0 t.root) c.tree-tree.ensures.value in
    let whole : c.in_ok-own.own ≡ s.tree = same_root s.tree c.in_ok-own.own own_is in record {
      few = omega (arith, ap (λ (o : Object). parts o) whole, ap (λ (t : Stamped). parts t.root) c.tree-tree.ensures.value, c.is_counted.ensures);
      shown = (
        plan,
        s,
        c.args.old.now,
        record {
          differ = c.sound_law.ensures.sound.paths_differ;
          once = c.sound_law.ensures.differ;
          is = sym own_is;
          before_is = c.in_ok-before.ensures.before;
          after_is = c.in_ok-before.ensures.after;
        },
      );
    }

pub returns-clause-others : goal.returns-clause-others
returns-clause-others g c =
    root_walked c.args.state.now.plan c.args.state.now.now c.args.old.now c.in_ok-own.own _ _ c.new-nodes.result.items c.put_otherwise.new.nodes.items c.sound_law.ensures.sound.paths_differ c.sound_law.ensures.differ
    (c.in_ok-own.ensures ∙ ap (λ (t : Stamped). part_at 0 t.root) c.tree-tree.ensures.value) c.in_ok-before.ensures.before c.in_ok-before.ensures.after c.new-nodes.ensures.items c.in_ok-put_otherwise.ensures

pub returns-clause-within : goal.returns-clause-within
returns-clause-within g c =
    within_all c.args.state.now.plan (with_library c.args.old.now c.args.state.now.now) c.args.state.now.now.library c.put_otherwise.new.nodes.items
    (root_walked c.args.state.now.plan c.args.state.now.now c.args.old.now c.in_ok-own.own _ _ c.new-nodes.result.items c.put_otherwise.new.nodes.items c.sound_law.ensures.sound.paths_differ c.sound_law.ensures.differ
    (c.in_ok-own.ensures ∙ ap (λ (t : Stamped). part_at 0 t.root) c.tree-tree.ensures.value) c.in_ok-before.ensures.before c.in_ok-before.ensures.after c.new-nodes.ensures.items c.in_ok-put_otherwise.ensures)
