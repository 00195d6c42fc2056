use Rattle.std.proofs.Common.{[], ◌∷◌, refl, sym, subst}
use Rattle.ob_roles.specs.declared.ancestors.Ancestors.{Ancestors}
use Rattle.ob_roles.specs.Kinds.{Are}
use Rattle.ob_roles.proofs.Fewer.{firsts_next, firsts_all}
use Rattle.std.proofs.Common.{take}
use Rattle.ob_roles.proofs.few.firsts_of.Goals as goal

pub loop-word-init : goal.loop-word-init
loop-word-init c = λ lib tells. record { lobby = refl; point = refl; history = refl; subject = refl }

pub loop-word-preserved : goal.loop-word-preserved
loop-word-preserved c = λ lib tells.
    let ws = c.args.words.now in
    let i = c.loop-word.word-index in
    let w = c.word-item.result in
    let one : Are c.word_is.result lib (w ∷ []) = subst (λ (a : Ancestors). Are a lib (w ∷ [])) (sym c.word_is.ensures) (tells w) in
    firsts_next lib ws i w c.with_word-firsts.result c.loop-word-test.true c.word-item.is (c.with_word-firsts.ensures lib (take i ws) (c.loop-word.invariant lib tells) one)

pub returns : goal.returns
returns c = λ lib tells. firsts_all lib c.args.words.now c.loop-word.word-index c.loop-word.firsts c.loop-word-test.false (c.loop-word.invariant lib tells)
