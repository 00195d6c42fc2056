-- The first verb among words, found by going through them.
use Rattle.std.proofs.Common.{◌≡◌, ℕ, ◌+◌, ◌<◌, true, false, cond, List, ◌∷◌, length, drop, get_or, sym, ap, ◌∙◌}
use Rattle.std.specs.Prelude.{Option, is_some}
use Rattle.std.proofs.lemmas.List.{at_drop_more}
use Rattle.ob_values.specs.declared.verb.Verb.{Verb}
use Rattle.ob_site_rules.specs.Actions.{verb_of, first_verb}

first_at : (ws : List (List ℕ)) (i : ℕ) (w : List ℕ) (v : Option Verb) → i < length ws → w ≡ get_or ws i w → v ≡ verb_of w → first_verb (drop i ws) ≡ cond (is_some v) v (first_verb (drop (i + 1) ws))
first_at ws i w v lt at e =
    at_drop_more first_verb ws i w lt
    ∙ (ap (λ (g : List ℕ). first_verb (g ∷ drop (i + 1) ws)) (sym at)
    ∙ ap (λ (u : Option Verb). cond (is_some u) u (first_verb (drop (i + 1) ws))) (sym e))

-- a word that names a verb
pub verb_found : (ws : List (List ℕ)) (i : ℕ) (w : List ℕ) (v : Option Verb) → i < length ws → w ≡ get_or ws i w → v ≡ verb_of w → is_some v ≡ true → first_verb (drop i ws) ≡ v
verb_found ws i w v lt at e is = first_at ws i w v lt at e ∙ ap (λ b. cond b v (first_verb (drop (i + 1) ws))) is

-- a word that names none
pub verb_past : (ws : List (List ℕ)) (i : ℕ) (w : List ℕ) (v : Option Verb) → i < length ws → w ≡ get_or ws i w → v ≡ verb_of w → is_some v ≡ false → first_verb (drop i ws) ≡ first_verb (drop (i + 1) ws)
verb_past ws i w v lt at e is = first_at ws i w v lt at e ∙ ap (λ b. cond b v (first_verb (drop (i + 1) ws))) is
