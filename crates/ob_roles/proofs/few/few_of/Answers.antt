use Rattle.std.proofs.Common.{◌++◌, ◌∷◌, [], Option, List, ℕ, ap, ◌∙◌}
use Rattle.std.specs.Option.{option_copied}
use Rattle.ob_contracts.specs.Inherit.{Words, present}
use Rattle.ob_roles.specs.Few.{few_words}
use Rattle.ob_roles.proofs.Fewer.{few_put}
use Rattle.ob_roles.proofs.few.few_of.Goals as goal

pub returns : goal.returns
returns c = λ lib tells.
    let f = c.firsts_of-firsts.result in
    let add : Option (List ℕ) → Words → Words = λ o l. l ++ present (o ∷ []) in
    c.in_ok-put_first-4.ensures
    ∙ ap (add (option_copied f.subject))
    (c.in_ok-put_first-3.ensures
    ∙ ap (add (option_copied f.history)) (c.in_ok-put_first-2.ensures ∙ ap (add (option_copied f.point)) (c.in_ok-put_first.ensures ∙ ap (add (option_copied f.lobby)) c.new-few.ensures)))
    ∙ few_put lib c.as_slice.result.now f (c.firsts_of-firsts.ensures lib tells)
    ∙ ap (few_words lib) c.as_slice.ensures.value
