use Rattle.std.proofs.Common.{List, ℕ, None, cond, ap, ◌∙◌}
use Rattle.std.specs.Str.{bytes_eq}
use Rattle.std.specs.BTreeMap.{get_by_text}
use Rattle.std.proofs.lemmas.Map.Text.{btree_map_updates_text}
use Rattle.ob_site_state.proofs.recorders.take_places.Goals as goal

pub returns-in-Some-clause-others : goal.returns-in-Some-clause-others
returns-in-Some-clause-others c = λ p.
    btree_map_updates_text c.as_str.result.now c.args.places.now c.remove.new.self None c.remove.ensures.updates p
    ∙ ap (λ (u : List ℕ). cond (bytes_eq u p) None (get_by_text c.args.places.now p)) c.as_str.ensures.value

pub returns-in-None-clause-others : goal.returns-in-None-clause-others
returns-in-None-clause-others c = λ p.
    btree_map_updates_text c.as_str.result.now c.args.places.now c.remove.new.self None c.remove.ensures.updates p
    ∙ ap (λ (u : List ℕ). cond (bytes_eq u p) None (get_by_text c.args.places.now p)) c.as_str.ensures.value
