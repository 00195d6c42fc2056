use Rattle.std.proofs.Common.{◌&&◌, ◌||◌, bytes_eq, sym, ap, ◌∙◌}
use Rattle.ob_object.specs.declared.kind.Kind.{Kind}
use Rattle.ob_object.specs.Paths.{node_path}
use Rattle.ob_object.specs.Kinds.{has_values}
use Rattle.ob_site_rules.specs.Loading.{is_number_kind}
use Rattle.ob_roles.specs.SiteParts.{part as site_part}
use Rattle.ob_site_file.specs.Sought.{has_path, kind_under, or_this}
use Rattle.ob_site_file.proofs.Seen.{sees_node, sees_inside, sees_nameless}
use Rattle.ob_site_file.proofs.nodes.Nodes.put.Goals as goal

pub returns-then-part : goal.returns-then-part
returns-then-part c = λ ps s. sees_inside c.args.self.now ps (site_part c.args.part.now) c.if-part.true s

pub returns-in_ok-put_number : goal.returns-in_ok-put_number
returns-in_ok-put_number c = λ ps s.
    let q = site_part c.args.part.now in
    let old = c.args.self.now in
    let path = c.in-Some.path.now in
    sees_node old (record { values = c.put_value.new.values; numbers = c.put_number.new.numbers }) ps q path c.if-part.false (ap node_path (sym c.head.ensures.value) ∙ sym c.in-Some.ensures)
    (λ p. c.in_ok-put_value.ensures p ∙ ap (λ (k : Kind). (has_values k && bytes_eq path p) || has_path old.values p) c.kind.ensures)
    (λ p. c.in_ok-put_number.ensures p ∙ ap (λ (k : Kind). or_this (kind_under old.numbers p) (is_number_kind k && bytes_eq path p) k) c.kind-in-Some.ensures)
    s

pub returns-in_default : goal.returns-in_default
returns-in_default c = λ ps s. sees_nameless c.args.self.now ps (site_part c.args.part.now) (ap node_path (sym c.head.ensures.value) ∙ sym c.in_default.ensures) s
