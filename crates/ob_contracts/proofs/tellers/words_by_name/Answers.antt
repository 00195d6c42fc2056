use Rattle.std.proofs.Common.{◌≡◌, ◌+◌, ◌∙◌, sym, ap, subst, take, [], ◌∷◌, ◌++◌, add-one}
use Rattle.std.proofs.Math.Seq.{take-suc}
use Rattle.std.proofs.lemmas.List.{take_all}
use Rattle.std.specs.BTreeMap.{get_by_text}
use Rattle.ob_contracts.specs.Inherit.{Words}
use Rattle.ob_contracts.specs.Telling.{named_by}
use Rattle.ob_contracts.specs.Tellers.{AreWords}
use Rattle.ob_contracts.proofs.Taught.{words_begun, none_there}
use Rattle.ob_contracts.proofs.tellers.words_by_name.Goals as goal

pub loop-word-init : goal.loop-word-init
loop-word-init c = words_begun c.args.library.now (get_by_text c.new-names.result) (none_there c.new-names.result.entries c.new-names.ensures.empty)

pub loop-word-preserved : goal.loop-word-preserved
loop-word-preserved c =
    let lib = c.args.library.now in
    let ws = c.as_slice-word-items.result.now in
    let i = c.loop-word.word-index in
    let next : take i ws ++ c.word-item.result ∷ [] ≡ take (i + 1) ws = rw add-one (sym (take-suc ws i c.word-item.result c.loop-word-test.true ∙ ap (λ x. take i ws ++ x ∷ []) (sym c.word-item.is))) in
    subst (λ (l : Words). AreWords lib (get_by_text c.put_names_of.new.names) (named_by lib l)) next (c.in_ok-put_names_of.ensures (take i ws) c.loop-word.invariant)

pub returns : goal.returns
returns c =
    let lib = c.args.library.now in
    subst (λ (ws : Words). AreWords lib (get_by_text c.loop-word.names) (named_by lib ws)) (take_all c.loop-word.word-index c.as_slice-word-items.result.now c.loop-word-test.false ∙ c.as_slice-word-items.ensures.value) c.loop-word.invariant
