use Rattle.std.proofs.Common.{◌≡◌, List, ◌++◌, ◌∷◌, [], ℕ, Bool, true, false, Some, None, cond, refl, ap, ◌∙◌}
use Rattle.std.specs.Prelude.{string_bytes}
use Rattle.std.specs.Str.{bytes_eq}
use Rattle.std.specs.BTreeMap.{get_by_text}
use Rattle.std.proofs.lemmas.Map.Text.{btree_map_updates_text}
use Rattle.ob_site_state.proofs.Kept.{put_last}
use Rattle.ob_site_state.proofs.recorders.put_behind.Goals as goal

pub returns : goal.returns
returns c = λ p.
    let key = c.in_ok-key.key in
    let same : string_bytes key ≡ c.args.path.now = c.in_ok-key.ensures.ok ∙ c.as_str.ensures.value in
    put_last c.args.path.now p c.args.place c.args.places.now c.take_places-own.new.places c.insert.new.self c.push.new.self c.take_places-own.result.items c.take_places-own.ensures.own c.in_ok-push.ensures.items
    c.take_places-own.ensures.others
    (btree_map_updates_text (string_bytes key) c.take_places-own.new.places c.insert.new.self (Some c.push.new.self) c.in_ok-insert.ensures.updates p
    ∙ ap (λ (u : List ℕ). cond (bytes_eq u p) (Some c.push.new.self) (get_by_text c.take_places-own.new.places p)) same)
