use Rattle.std.proofs.Common.{◌≡◌, ℕ, true, cond, List, [], ◌∷◌, ◌||◌, ap, ◌∙◌}
use Rattle.std.specs.Prelude.{string_bytes}
use Rattle.std.specs.Str.{bytes_eq}
use Rattle.std.specs.BTreeSet.{contains_text}
use Rattle.std.proofs.lemmas.Map.Text.{btree_set_updates_text}
use Rattle.ob_contracts.specs.Adding.{is_among}
use Rattle.ob_contracts.proofs.Kinship.{put_or}
use Rattle.ob_contracts.proofs.Known.{kept_by}
use Rattle.ob_contracts.proofs.kin.put_new_word.Goals as goal

pub returns : goal.returns
returns c =
    let word = c.args.word.now in
    let before = c.args.kin.now in
    let after = c.insert.new.self in
    let key = c.in_ok-word.word in
    let same : string_bytes key ≡ word = c.in_ok-word.ensures.ok in
    let put : (asked : List ℕ) → contains_text after asked ≡ (contains_text before asked || is_among asked (word ∷ [])) =
    λ asked.
    btree_set_updates_text (string_bytes key) before after true c.in_ok-insert.ensures.updates asked
    ∙ ap (λ (u : List ℕ). cond (bytes_eq u asked) true (contains_text before asked)) same
    ∙ put_or (bytes_eq word asked) (contains_text before asked) in
    record { kept = kept_by before after (λ asked. is_among asked (word ∷ [])) put; ok = put }
