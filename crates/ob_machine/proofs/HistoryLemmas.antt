-- Histories put together, and their beginnings.
use Rattle.std.proofs.Common.{◌≡◌, ℕ, List, [], ◌∷◌, ◌++◌, refl}
use Rattle.ob_machine.specs.declared.call.Entry.{Entry}
use Rattle.ob_machine.specs.History.{left_by, after, IsCall, IsLegal}

module _ {S Q P : Type 0} (act : S → Q → ℕ → S × P) where
  pub after-append : (s : S) (es fs : List (Entry Q P)) → after act s (es ++ fs) ≡ after act (after act s es) fs
  after-append s [] fs = refl
  after-append s (e ∷ es) fs = after-append (left_by act s e.request e.moment e.answer) es fs

  pub after-snoc : (s : S) (es : List (Entry Q P)) (e : Entry Q P) → after act s (es ++ e ∷ []) ≡ left_by act (after act s es) e.request e.moment e.answer
  after-snoc s es e = after-append s es (e ∷ [])

  pub legal_append : (s : S) (es fs : List (Entry Q P)) → IsLegal act s es → IsLegal act (after act s es) fs → IsLegal act s (es ++ fs)
  legal_append s [] fs l m = m
  legal_append s (e ∷ es) fs l m = (l.0, legal_append (left_by act s e.request e.moment e.answer) es fs l.1 m)

  pub legal_snoc : (s : S) (es : List (Entry Q P)) (e : Entry Q P) → IsLegal act s es → IsCall act (after act s es) e → IsLegal act s (es ++ e ∷ [])
  legal_snoc s es e l call = legal_append s es (e ∷ []) l (call, tt)

  -- a beginning of a legal history is legal
  pub legal_front : (s : S) (es fs : List (Entry Q P)) → IsLegal act s (es ++ fs) → IsLegal act s es
  legal_front s [] fs l = tt
  legal_front s (e ∷ es) fs l = (l.0, legal_front (left_by act s e.request e.moment e.answer) es fs l.1)

  -- what follows a beginning is legal from the state that the beginning leaves
  pub legal_back : (s : S) (es fs : List (Entry Q P)) → IsLegal act s (es ++ fs) → IsLegal act (after act s es) fs
  legal_back s [] fs l = l
  legal_back s (e ∷ es) fs l = legal_back (left_by act s e.request e.moment e.answer) es fs l.1
