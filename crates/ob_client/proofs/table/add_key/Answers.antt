use Rattle.std.proofs.Common.{ℕ, List, cond, Some, sym, ap, ◌∙◌}
use Rattle.std.specs.Prelude.{string_bytes}
use Rattle.std.specs.BTreeMap.{get_by_text}
use Rattle.std.specs.Str.{bytes_eq}
use Rattle.std.proofs.lemmas.Map.Text.{btree_map_updates_text}
use Rattle.ob_client.proofs.TableLemmas.{index_key, keys_led}
use Rattle.ob_client.proofs.table.add_key.Goals as goal

pub returns-clause-index : goal.returns-clause-index
returns-clause-index c =
    index_key c.args.places.now c.insert.new.self c.args.text.now 0
    (λ t. btree_map_updates_text (string_bytes c.in_ok-key.key) c.args.places.now c.insert.new.self (Some 0) c.in_ok-insert.ensures.updates t
    ∙ ap (λ (w : List ℕ). cond (bytes_eq w t) (Some 0) (get_by_text c.args.places.now t)) c.in_ok-key.ensures.ok)
    (sym c.contains_key.ensures ∙ c.if-contains_key.false)

pub returns-clause-keys : goal.returns-clause-keys
returns-clause-keys c =
    keys_led c.args.places.now c.insert.new.self c.args.text.now 0
    (λ t. btree_map_updates_text (string_bytes c.in_ok-key.key) c.args.places.now c.insert.new.self (Some 0) c.in_ok-insert.ensures.updates t
    ∙ ap (λ (w : List ℕ). cond (bytes_eq w t) (Some 0) (get_by_text c.args.places.now t)) c.in_ok-key.ensures.ok)
