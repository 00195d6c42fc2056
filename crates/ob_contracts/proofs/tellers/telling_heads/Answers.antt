use Rattle.std.proofs.Common.{◌≡◌, ◌+◌, ◌∙◌, sym, ap, subst, take, [], ◌∷◌, ◌++◌, add-one}
use Rattle.std.proofs.Math.Seq.{take-suc}
use Rattle.std.proofs.lemmas.List.{take_all}
use Rattle.ob_contracts.specs.Found.{lent}
use Rattle.ob_contracts.specs.Inherit.{Words}
use Rattle.ob_contracts.specs.Tellers.{HeadsFor, IsHeadTelling}
use Rattle.ob_contracts.proofs.Taught.{heads_begun}
use Rattle.ob_contracts.proofs.tellers.telling_heads.Goals as goal

pub loop-word-init : goal.loop-word-init
loop-word-init c = heads_begun c.args.library.now c.new-telling.result (lent c.new-heads.result.items) c.new-telling.ensures (ap lent c.new-heads.ensures.items)

pub loop-word-preserved : goal.loop-word-preserved
loop-word-preserved c =
    let ws = c.as_slice-word-items.result.now in
    let i = c.loop-word.word-index in
    let next : take i ws ++ c.word-item.result ∷ [] ≡ take (i + 1) ws = rw add-one (sym (take-suc ws i c.word-item.result c.loop-word-test.true ∙ ap (λ x. take i ws ++ x ∷ []) (sym c.word-item.is))) in
    subst (λ (l : Words). IsHeadTelling c.args.library.now c.put_telling_head.new.telling l (lent c.put_telling_head.new.heads.items)) next (c.in_ok-put_telling_head.ensures (take i ws) c.loop-word.invariant)

pub returns : goal.returns
returns c =
    subst (λ (ws : Words). HeadsFor c.args.library.now c.loop-word.telling ws) (take_all c.loop-word.word-index c.as_slice-word-items.result.now c.loop-word-test.false ∙ c.as_slice-word-items.ensures.value) c.loop-word.invariant.stand
