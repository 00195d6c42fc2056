use Rattle.std.proofs.Common.{◌≡◌, List, ℕ, Some, cond, sym, ap, ◌∙◌}
use Rattle.std.specs.Prelude.{string_bytes}
use Rattle.std.specs.Str.{bytes_eq}
use Rattle.std.specs.BTreeMap.{get_by_text}
use Rattle.std.proofs.lemmas.Map.Text.{btree_map_updates_text}
use Rattle.std.specs.Prelude.{is_some}
use Rattle.ob_contracts.proofs.Taught.{word_kept, word_put}
use Rattle.ob_contracts.proofs.tellers.put_word_for.Goals as goal

pub returns-then-contains_key : goal.returns-then-contains_key
returns-then-contains_key c = λ n.
    word_kept (get_by_text c.args.names.now) c.args.name.now c.args.word.now
    (ap (λ (t : List ℕ). is_some (get_by_text c.args.names.now t)) (sym c.as_str.ensures.value) ∙ sym c.contains_key.ensures ∙ c.if-contains_key.true) n

pub returns : goal.returns
returns c = λ n.
    let key = c.in_ok-key.key in
    let same : string_bytes key ≡ c.args.name.now = c.in_ok-key.ensures.ok ∙ c.as_str-2.ensures.value in
    let old = get_by_text c.args.names.now in
    btree_map_updates_text (string_bytes key) c.args.names.now c.insert.new.self (Some c.in_ok-copy.copy) c.in_ok-insert.ensures.updates n
    ∙ ap (λ (u : List ℕ). cond (bytes_eq u n) (Some c.in_ok-copy.copy) (old n)) same
    ∙ ap (λ (v : List ℕ). cond (bytes_eq c.args.name.now n) (Some v) (old n)) c.in_ok-copy.ensures
    ∙ word_put old c.args.name.now c.args.word.now (ap (λ (t : List ℕ). is_some (old t)) (sym c.as_str.ensures.value) ∙ sym c.contains_key.ensures ∙ c.if-contains_key.false) n
