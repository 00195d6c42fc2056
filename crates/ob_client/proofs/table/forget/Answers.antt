use Rattle.std.proofs.Common.{None, cond, ap, ◌∙◌}
use Rattle.std.specs.BTreeMap.{get_by_text}
use Rattle.std.specs.Str.{bytes_eq}
use Rattle.std.proofs.lemmas.Map.Text.{btree_map_updates_text}
use Rattle.ob_watching.specs.WatchOuts.{Text}
use Rattle.ob_client.proofs.TableLemmas.{bytes_eq_sym, not_among}
use Rattle.ob_client.proofs.table.forget.Goals as goal

pub loop-text-preserved : goal.loop-text-preserved
loop-text-preserved c = λ t e.
    let apart = not_among c.args.texts.now c.loop-text.text-index c.text-item.result t c.loop-text-test.true c.text-item.is e in
    btree_map_updates_text c.as_str.result.now c.loop-text.places c.remove-place.new.self None c.remove-place.ensures.updates t
    ∙ ap (λ (u : Text). cond (bytes_eq u t) None (get_by_text c.loop-text.places t)) c.as_str.ensures.value
    ∙ ap (λ b. cond b None (get_by_text c.loop-text.places t)) (bytes_eq_sym c.text-item.result t ∙ apart.1)
    ∙ c.loop-text.invariant t apart.0
