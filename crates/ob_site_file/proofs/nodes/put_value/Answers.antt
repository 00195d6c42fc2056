use Rattle.std.proofs.Common.{◌≡◌, ℕ, List, true, sym, ◌∙◌, subst}
use Rattle.std.specs.Ordering.{nat_cmp}
use Rattle.std.specs.Cmp.Lexicographic.{slice_cmp}
use Rattle.std.specs.BTreeSet.{Updates}
use Rattle.ob_object.specs.Kinds.{has_values}
use Rattle.ob_site_file.proofs.Seen.{path_put}
use Rattle.ob_site_file.proofs.nodes.put_value.Goals as goal

pub returns-in_ok-insert : goal.returns-in_ok-insert
returns-in_ok-insert c =
    let kind : has_values c.args.kind ≡ true = sym c.has_values.ensures ∙ c.if-has_values.true in
    path_put (has_values c.args.kind) c.args.values.now c.insert.new.self c.args.path.now kind
    (subst (λ (k : List ℕ). Updates (slice_cmp nat_cmp) c.args.values.now c.insert.new.self k true) c.in_ok-path.ensures c.in_ok-insert.ensures.updates)
