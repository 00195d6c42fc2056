use Rattle.std.proofs.Common.{◌≡◌, ◌+◌, ◌∙◌, refl, sym, ap, subst, take, [], ◌∷◌, ◌++◌, add-one}
use Rattle.std.proofs.Math.Seq.{take-suc}
use Rattle.std.proofs.lemmas.List.{take_all}
use Rattle.ob_contracts.specs.Inherit.{Words}
use Rattle.ob_contracts.specs.Telling.{IsTelling, StandFor}
use Rattle.ob_contracts.proofs.Heads.{telling_none}
use Rattle.ob_contracts.proofs.fewer.telling_words.Goals as goal

pub loop-word-init : goal.loop-word-init
loop-word-init c = telling_none c.args.library.now c.new-telling.result [] c.new-seen.result (record { heads = c.new.result; names = c.new-2.result }) c.new-telling.ensures refl c.new-seen.ensures.empty c.new.ensures.items c.new-2.ensures.empty

pub loop-word-preserved : goal.loop-word-preserved
loop-word-preserved c =
    let ws = c.as_slice-word-items.result.now in
    let i = c.loop-word.word-index in
    let next : take i ws ++ c.word-item.result ∷ [] ≡ take (i + 1) ws = rw add-one (sym (take-suc ws i c.word-item.result c.loop-word-test.true ∙ ap (λ x. take i ws ++ x ∷ []) (sym c.word-item.is))) in
    subst (λ (l : Words). IsTelling c.args.library.now c.put_if_new.new.telling l c.put_if_new.new.seen c.put_if_new.new.known) next (c.in_ok-put_if_new.ensures (take i ws) c.loop-word.invariant)

pub returns : goal.returns
returns c =
    subst (λ (ws : Words). StandFor c.args.library.now c.loop-word.telling ws) (take_all c.loop-word.word-index c.as_slice-word-items.result.now c.loop-word-test.false ∙ c.as_slice-word-items.ensures.value) c.loop-word.invariant.stand
