use Rattle.std.proofs.Common.{sym, ap, ◌∙◌}
use Rattle.ob_object.specs.Paths.{is_path, node_path}
use Rattle.ob_site_reads.proofs.Leaves.{found_at}
use Rattle.ob_site_reads.proofs.owners.among.Goals as goal

pub returns-then-is_path : goal.returns-then-is_path
returns-then-is_path c =
    found_at c.args.path.now c.args.objects.now c.loop-object.object-index c.object-item.result c.loop-object-test.true c.object-item.is
    (sym (c.is_path.ensures ∙ ap (is_path c.args.path.now) (c.node_path.ensures ∙ ap node_path c.head.ensures.value)) ∙ c.if-is_path.true)
