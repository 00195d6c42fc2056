-- Which bytes are a tail, as it is asked of their first byte and of the entry behind it.
use Rattle.std.proofs.Common.{◌≡◌, ◌≢◌, ◌⊎◌, inl, inr, ⊎_elim, ℕ, Bool, true, false, ◌-◌, List, [], ◌∷◌, ◌++◌, length, take, drop, nat_eq, refl, sym, ◌∙◌, ap, subst, take-append-drop}
use Rattle.std.specs.Bool.{◌==◌}
use Rattle.std.specs.Cmp.Lexicographic.{pointwise}
use Rattle.std.proofs.Math.Dec.{eqb-suc-zero}
use Rattle.std.proofs.lemmas.List.{take_rest}
use Rattle.std.proofs.lemmas.Slice.Eq.{bytes_eq-Decides}
use Rattle.ob_journal.specs.Journal.{IsLast, IsTail, nothing, closed_gate, open_gate, broken_gate}
use Rattle.ob_journal.proofs.Fronts.{head_is, tail_is, behind}

empty_of : (l : List ℕ) → length l == 0 ≡ true → l ≡ []
empty_of [] is = refl
empty_of (x ∷ l) is = absurd (cc (sym is ∙ eqb-suc-zero (length l)))

of_empty : (l : List ℕ) → l ≡ [] → length l == 0 ≡ true
of_empty l is = ap (λ (k : List ℕ). length k == 0) is

module _ (IsEntry : List ℕ → Type 0) where
  -- a byte that is no gate, and what follows it
  pub behind_tail : (end : List ℕ) (gate : ℕ) (rest : List ℕ) → end ≡ gate ∷ rest → gate ≢ 10 → gate ≢ 0 → IsTail IsEntry end → IsLast IsEntry rest
  behind_tail end gate rest split shut broken (nothing is) = absurd (cc (sym split ∙ is))
  behind_tail end gate rest split shut broken (closed_gate more is) = absurd (broken (head_is gate 0 rest more (sym split ∙ is)))
  behind_tail end gate rest split shut broken (open_gate is) = absurd (shut (head_is gate 10 rest [] (sym split ∙ is)))
  behind_tail end gate rest split shut broken (broken_gate other more not_open is last) =
      subst (IsLast IsEntry) (sym (tail_is gate other rest more (sym split ∙ is))) last

  module _ (one : (a b x y : List ℕ) → IsEntry a → IsEntry b → a ++ x ≡ b ++ y → a ≡ b) (bytes : List ℕ) (n : ℕ) (is : IsEntry (take n bytes)) where
    -- what stands behind the entry that the bytes begin with
    abbrev left : List ℕ
    left = take (length bytes - n) (drop n bytes)

    last_if : (left ≡ []) ⊎ (left ≡ 0 ∷ []) → IsLast IsEntry bytes
    last_if few e rest entry same =
        let split : take n bytes ++ drop n bytes ≡ e ++ rest = take-append-drop n bytes ∙ same in
        let first : take n bytes ≡ e = one (take n bytes) e (drop n bytes) rest is entry split in
        let rest_is : rest ≡ left = behind e rest (drop n bytes) (sym split ∙ ap (λ (l : List ℕ). l ++ drop n bytes) first) ∙ sym (take_rest bytes n) in
        ⊎_elim (λ none. inl (rest_is ∙ none)) (λ closed. inr (rest_is ∙ closed)) few

    if_last : IsLast IsEntry bytes → (left ≡ []) ⊎ (left ≡ 0 ∷ [])
    if_last last =
        ⊎_elim (λ none. inl (take_rest bytes n ∙ none)) (λ closed. inr (take_rest bytes n ∙ closed)) (last (take n bytes) (drop n bytes) is (sym (take-append-drop n bytes)))

    pub last_empty : length left == 0 ≡ true → IsLast IsEntry bytes
    last_empty empty = last_if (inl (empty_of left empty))

    pub last_some : (same : Bool) (closed : List ℕ) → length left == 0 ≡ false → closed ≡ 0 ∷ [] → same ≡ pointwise nat_eq left closed
        → (same ≡ true → IsLast IsEntry bytes) × (IsLast IsEntry bytes → same ≡ true)
    last_some same closed some closed_is same_is =
        let decides = bytes_eq-Decides left (0 ∷ []) in
        let is_same = same_is ∙ ap (pointwise nat_eq left) closed_is in
        ((λ yes. last_if (inr (decides.0 (sym is_same ∙ yes)))), λ last. ⊎_elim (λ none. absurd (cc (sym some ∙ of_empty left none))) (λ one_left. is_same ∙ decides.1 one_left) (if_last last))
