-- What is told in place of words stays told where each of these words names the same contract.
use Rattle.std.proofs.Common.{◌≡◌, ℕ, Bool, true, false, cond, List, [], ◌∷◌, ◌++◌, Option, Some, None, refl, sym, ap, ap₂, ◌∙◌, subst}
use Rattle.std.specs.Prelude.{option_and_then, map}
use Rattle.std.specs.Str.{bytes_eq}
use Rattle.std.specs.Map.{lookup}
use Rattle.ob_values.proofs.Bools.{or_first, or_second}
use Rattle.std.proofs.lemmas.Slice.Eq.{bytes_eq-Decides}
use Rattle.ob_object.specs.declared.head.Head.{Head}
use Rattle.ob_object.specs.Object.{Object, children}
use Rattle.ob_object.specs.WellFormed.{named}
use Rattle.ob_contracts.specs.Adding.{is_among}
use Rattle.ob_contracts.specs.Inherit.{Contracts, Words, contract_of, overridden, inherited_head, present}
use Rattle.ob_contracts.specs.Renewing.{Agree}
use Rattle.ob_contracts.specs.Telling.{Same, StandFor, named_by}
use Rattle.ob_contracts.specs.Tellers.{Telling, TellsFor, HeadsFor, word_for, child_by, told_child}
use Rattle.ob_contracts.proofs.Renewing.{same_words}

-- the words that are told for names
abbrev pub name_words : List (List ℕ × List ℕ) → Words
name_words names = map (λ e. e.1) names

module _ (lib new : Contracts) where
  same_named : (ws : Words) → Agree lib new (λ w. is_among w ws) → named_by new ws ≡ named_by lib ws
  same_named ws a = ap present (same_words lib new ws a)

  same_child : (n : List ℕ) (names : List (List ℕ × List ℕ)) → Agree lib new (λ w. is_among w (name_words names))
      → option_and_then (child_by new n) (lookup (bytes_eq n) names) ≡ option_and_then (child_by lib n) (lookup (bytes_eq n) names)
  same_child n [] a = refl
  same_child n (e ∷ es) a = go (bytes_eq n e.0) (same_child n es (λ w h. a w (or_second (bytes_eq e.1 w) (is_among w (name_words es)) h)))
    where
      go : (b : Bool) → option_and_then (child_by new n) (lookup (bytes_eq n) es) ≡ option_and_then (child_by lib n) (lookup (bytes_eq n) es)
          → option_and_then (child_by new n) (cond b (Some e.1) (lookup (bytes_eq n) es)) ≡ option_and_then (child_by lib n) (cond b (Some e.1) (lookup (bytes_eq n) es))
      go true more =
          ap (option_and_then (λ (c : Object). named n (children c)))
          (a e.1 (or_first (bytes_eq e.1 e.1) (is_among e.1 (name_words es)) ((bytes_eq-Decides e.1 e.1).1 refl)))
      go false more = more

  pub tells_still : (t : Telling) (ws : Words) → Agree lib new (λ w. is_among w ws) → Agree lib new (λ w. is_among w t.all) → Agree lib new (λ w. is_among w t.heads)
      → Agree lib new (λ w. is_among w (name_words t.names)) → TellsFor lib t ws → TellsFor new t ws
  tells_still t ws a b c d h = record {
    all =
        subst (λ (l : List Object). (R : List Object) → Same (l ++ R) (named_by new ws ++ R)) (sym (same_named t.all b))
        (subst (λ (l : List Object). (R : List Object) → Same (named_by lib t.all ++ R) (l ++ R)) (sym (same_named ws a)) h.all);
    heads = λ x R.
        ap (λ (l : List Object). inherited_head x (l ++ R)) (same_named t.heads c)
        ∙ h.heads x R
        ∙ sym (ap (λ (l : List Object). inherited_head x (l ++ R)) (same_named ws a));
    names = λ n.
        same_child n t.names d
        ∙ h.names n
        ∙ sym (ap (overridden (Some n)) (same_named ws a));
  }
