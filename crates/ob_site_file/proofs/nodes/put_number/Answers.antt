use Rattle.std.proofs.Common.{◌≡◌, ℕ, List, Some, true, sym, ◌∙◌, subst}
use Rattle.std.specs.Ordering.{nat_cmp}
use Rattle.std.specs.Cmp.Lexicographic.{slice_cmp}
use Rattle.std.specs.BTreeMap.{Updates}
use Rattle.ob_site_rules.specs.Loading.{is_number_kind}
use Rattle.ob_site_file.proofs.Seen.{kind_put}
use Rattle.ob_site_file.proofs.nodes.put_number.Goals as goal

pub returns-in_ok-insert : goal.returns-in_ok-insert
returns-in_ok-insert c =
    let kind : is_number_kind c.args.kind ≡ true = sym c.is_number_kind.ensures ∙ c.if-is_number_kind.true in
    kind_put (is_number_kind c.args.kind) c.args.numbers.now c.insert.new.self c.args.path.now c.args.kind kind (sym c.contains_key.ensures ∙ c.if-not-contains_key.true)
    (subst (λ (k : List ℕ). Updates (slice_cmp nat_cmp) c.args.numbers.now c.insert.new.self k (Some c.args.kind)) c.in_ok-path.ensures c.in_ok-insert.ensures.updates)
