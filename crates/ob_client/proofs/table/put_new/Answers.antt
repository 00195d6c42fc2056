use Rattle.std.proofs.Common.{ℕ, List, Some, cond, subst, sym, ap, ◌∙◌}
use Rattle.std.specs.BTreeMap.{get_by_text}
use Rattle.std.specs.Str.{bytes_eq}
use Rattle.ob_watching.specs.WatchOuts.{Text, Held}
use Rattle.ob_client.specs.Tables.{texts_of, place_of, IsIndex}
use Rattle.ob_client.proofs.TableLemmas.{bytes_eq_sym, index_there, index_behind, put_there, put_last}
use Rattle.ob_client.proofs.table.put_new.Goals as goal

pub returns-in-Some-clause-index : goal.returns-in-Some-clause-index
returns-in-Some-clause-index c =
    index_there c.args.places.now c.args.places.now c.args.new c.args.kept.now.items c.in-Some.place c.requires.index
    (ap (λ (t : Text). place_of t (texts_of c.args.kept.now.items)) (sym c.text.ensures) ∙ ap (λ (hs : List Held). place_of c.text.result.now (texts_of hs)) (sym c.as_slice.ensures.value) ∙ sym c.in-Some.ensures)

pub returns-in-Some-clause-put : goal.returns-in-Some-clause-put
returns-in-Some-clause-put c =
    sym (put_there (λ (h : Held). h.text) c.args.new (λ (h : Held). bytes_eq h.text c.args.new.text) (λ h. bytes_eq_sym h.text c.args.new.text) c.args.kept.now.items c.in-Some.place
    (ap (λ (t : Text). place_of t (texts_of c.args.kept.now.items)) (sym c.text.ensures) ∙ ap (λ (hs : List Held). place_of c.text.result.now (texts_of hs)) (sym c.as_slice.ensures.value) ∙ sym c.in-Some.ensures))

pub returns-in-None-clause-index : goal.returns-in-None-clause-index
returns-in-None-clause-index c =
    subst (λ (hs : List Held). IsIndex c.lead.new.places (texts_of hs)) (sym c.push_reserved.ensures.items)
    (index_behind c.args.places.now c.lead.new.places c.args.new c.args.kept.now.items c.requires.index
    (ap (λ (t : Text). place_of t (texts_of c.args.kept.now.items)) (sym c.text.ensures) ∙ ap (λ (hs : List Held). place_of c.text.result.now (texts_of hs)) (sym c.as_slice.ensures.value) ∙ sym c.in-None.ensures)
    (λ t. c.lead.ensures t
    ∙ ap (λ (u : Text). cond (bytes_eq u t) (Some c.len.result) (get_by_text c.args.places.now t)) c.text-in-None.ensures
    ∙ ap (λ (n : ℕ). cond (bytes_eq c.args.new.text t) (Some n) (get_by_text c.args.places.now t)) (c.len.ensures ∙ c.args.kept.now.ok.0)))

pub returns-in-None-clause-put : goal.returns-in-None-clause-put
returns-in-None-clause-put c =
    c.push_reserved.ensures.items
    ∙ sym (put_last (λ (h : Held). h.text) c.args.new (λ (h : Held). bytes_eq h.text c.args.new.text) (λ h. bytes_eq_sym h.text c.args.new.text) c.args.kept.now.items
    (ap (λ (t : Text). place_of t (texts_of c.args.kept.now.items)) (sym c.text.ensures) ∙ ap (λ (hs : List Held). place_of c.text.result.now (texts_of hs)) (sym c.as_slice.ensures.value) ∙ sym c.in-None.ensures))
