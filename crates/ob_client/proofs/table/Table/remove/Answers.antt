use Rattle.std.proofs.Common.{◌≡◌, List, ap, subst, ◌∙◌, rules}
use Rattle.std.specs.List.{filter}
use Rattle.std.proofs.lemmas.Fn.{filter_same}
use Rattle.ob_watching.specs.WatchOuts.{Held}
use Rattle.ob_client.specs.Tables.{texts_of, have_keys, IsIndex}
use Rattle.ob_client.proofs.TableLemmas.{stays, keys_left, index_gone}
use Rattle.ob_client.proofs.table.Table.remove.Goals as goal

pub lead_all-requires : goal.lead_all-requires
lead_all-requires c =
    ap (λ (hs : List Held). have_keys c.self.inside.places (texts_of hs)) c.as_slice.ensures.value
    ∙ keys_left c.self.inside.places (stays c.args.texts.now) c.self.inside.kept.items c.retain.new.self.items c.self.invariant
    (filter_same _ (stays c.args.texts.now) _ (λ x b g call. search rules) _ _ c.retain.ensures.filtered)

pub invariant_of-self : goal.invariant_of-self
invariant_of-self c =
    index_gone c.lead_all.new.places c.forget.new.places c.args.texts.now c.self.inside.kept.items c.retain.new.self.items
    (filter_same _ (stays c.args.texts.now) _ (λ x b g call. search rules) _ _ c.retain.ensures.filtered)
    (subst (λ (hs : List Held). IsIndex c.lead_all.new.places (texts_of hs)) c.as_slice.ensures.value c.lead_all.ensures)
    c.forget.ensures

pub returns : goal.returns
returns c =
    let left : c.retain.new.self.items ≡ filter (stays c.args.texts.now) c.self.inside.kept.items =
    filter_same _ (stays c.args.texts.now) _ (λ x b g call. search rules) _ _ c.retain.ensures.filtered in
    left ∙ ap (filter (stays c.args.texts.now)) c.self.view_is
