use Rattle.std.proofs.Common.{List, ℕ, [], ◌∷◌, sym, ap, ◌∙◌, subst}
use Rattle.ob_contracts.specs.Adding.{is_among}
use Rattle.ob_contracts.specs.Index.{place_of}
use Rattle.ob_contracts.specs.Ties.{HasPlaces}
use Rattle.ob_contracts.proofs.Tied.{word_put}
use Rattle.ob_contracts.proofs.ties.put_place.Goals as goal

pub returns-in_ok-push-clause-ok : goal.returns-in_ok-push-clause-ok
returns-in_ok-push-clause-ok c =
    subst (λ (l : List ℕ). HasPlaces c.args.library.now l (λ w. is_among w (c.args.word.now ∷ []))) (sym c.in_ok-push.ensures.items)
    (word_put c.args.library.now c.args.row.now.items c.args.word.now c.in-Some.place (sym (c.in-Some.ensures ∙ ap (λ (v : List ℕ). place_of v c.args.library.now) c.as_str.ensures.value)))
