use Rattle.std.proofs.Common.{◌∷◌, ◌++◌, [], List, ℕ, sym, ap, ◌∙◌, option_map}
use Rattle.ob_command.specs.Arguments.{operands}
use Rattle.ob_command.specs.Words.{arguments_of}
use Rattle.ob_command.specs.Texts.{texts_if}
use Rattle.ob_command.proofs.TextLemmas.{one_more, text_is}
use Rattle.ob_command.proofs.text.read_texts.Goals as goal

pub loop-word-preserved : goal.loop-word-preserved
loop-word-preserved c =
    let is = text_is c.in-Some.word.now c.in-Some-2.text (sym c.in-Some-2.is ∙ c.in_ok-text.ensures) in
    let left = operands (arguments_of c.in-Some.left) in
    ap (λ (ts : List (List ℕ)). option_map (λ more. ts ++ more) (texts_if left))
    (c.in_ok-push.ensures.items ∙ ap (λ (t : List ℕ). c.loop-word.texts.items ++ t ∷ []) is.1)
    ∙ one_more c.loop-word.texts.items c.in-Some.word.now left is.0
    ∙ ap (λ (ws : List (List ℕ)). option_map (λ more. c.loop-word.texts.items ++ more) (texts_if ws)) (sym c.in-Some.ensures)
    ∙ c.loop-word.invariant
