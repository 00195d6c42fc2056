use Rattle.std.proofs.Common.{◌≡◌, ◌∙◌, ℕ, ◌+◌, ◌-◌, ◌^◌, sym, ap}
use Rattle.std.specs.Prelude.{min}
use Rattle.ob_object.specs.Object.{Object, parts}
use Rattle.ob_tree.specs.Depths.{depth_at}
use Rattle.ob_site_reads.proofs.Plain.{told_whole}
use Rattle.ob_site_reads.proofs.reported.watched_node.Goals as goal

pub returns-clause-steps : goal.returns-clause-steps
returns-clause-steps g c = λ watchable.
    let n = c.args.node.number in
    let root = c.args.state.now.now.tree in
    c.in_ok-object.ensures.steps
    ∙ ap (λ (k : ℕ). c.args.steps.now + depth_at n root + min k (2 ^ 64 - 1))
    (sym (told_whole c.args.state.now.plan c.args.state.now.now n c.in_ok-object.object c.in_ok-object.ensures.stands watchable) ∙ sym (ap parts c.unnamed.ensures))
