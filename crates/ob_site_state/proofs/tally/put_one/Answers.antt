use Rattle.std.proofs.Common.{ℕ, List, ◌+◌, Some, cond, ap, ◌∙◌}
use Rattle.std.specs.Prelude.{string_bytes}
use Rattle.std.specs.Str.{bytes_eq}
use Rattle.std.specs.BTreeMap.{get_by_text}
use Rattle.std.proofs.lemmas.Map.Text.{btree_map_updates_text}
use Rattle.ob_site_state.proofs.Growing.{one_more_at}
use Rattle.ob_site_state.proofs.tally.put_one.Goals as goal

pub returns : goal.returns
returns c = λ p.
    let key = c.in_ok-key.key in
    let more = c.count_at-count.result + 1 in
    one_more_at c.args.path.now p c.count_at-count.result c.args.counts.now c.insert.new.self c.count_at-count.ensures
    (btree_map_updates_text (string_bytes key) c.args.counts.now c.insert.new.self (Some more) c.in_ok-insert.ensures.updates p
    ∙ ap (λ (u : List ℕ). cond (bytes_eq u p) (Some more) (get_by_text c.args.counts.now p)) (c.in_ok-key.ensures.ok ∙ c.as_str.ensures.value))
