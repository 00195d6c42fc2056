use Rattle.std.proofs.Common.{◌≡◌, List, ℕ, Some, cond, ap, ◌∙◌}
use Rattle.std.specs.Prelude.{string_bytes}
use Rattle.std.specs.Str.{bytes_eq}
use Rattle.std.specs.BTreeMap.{get_by_text}
use Rattle.std.proofs.lemmas.Map.Text.{btree_map_updates_text}
use Rattle.ob_site_state.proofs.places.put_place.Goals as goal

pub returns : goal.returns
returns c = λ p.
    let key = c.in_ok-key.key in
    let same : string_bytes key ≡ c.args.path.now = c.in_ok-key.ensures.ok ∙ c.as_str.ensures.value in
    btree_map_updates_text (string_bytes key) c.args.places.now c.insert.new.self (Some c.args.place) c.in_ok-insert.ensures.updates p
    ∙ ap (λ (u : List ℕ). cond (bytes_eq u p) (Some c.args.place) (get_by_text c.args.places.now p)) same
