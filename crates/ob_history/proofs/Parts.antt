-- Parts of lists.
use Rattle.std.proofs.Common.{◌≡◌, ◌+◌, ◌-◌, ◌≤◌, ℕ, zero, suc, List, [], ◌∷◌, ◌++◌, length, take, drop, min, refl, sym, ap, ◌∙◌, arith}
use Rattle.std.proofs.lemmas.List.{drop-append-le, take_rest, length-drop, append-nil}
use Rattle.std.proofs.Math.Seq.{drop-append-add, take-append-add}

module _ {X : Type 0} where
  pub take_of_take : (m n : ℕ) (xs : List X) → take m (take n xs) ≡ take (min m n) xs
  take_of_take zero n xs = let e : min 0 n ≡ 0 = omega arith in rw e refl
  take_of_take (suc m) zero xs = let e : min (suc m) 0 ≡ 0 = omega arith in rw e refl
  take_of_take (suc m) (suc n) [] = let e : min (suc m) (suc n) ≡ suc (min m n) = omega arith in rw e refl
  take_of_take (suc m) (suc n) (x ∷ xs) = let e : min (suc m) (suc n) ≡ suc (min m n) = omega arith in rw e (ap (λ t. x ∷ t) (take_of_take m n xs))

  -- a part of two lists that begins behind the first one
  pub part_behind : (xs ys : List X) (from to : ℕ) → length xs ≤ from → take (to - length xs - (from - length xs)) (drop (from - length xs) ys) ++ [] ≡ take (to - from) (drop from (xs ++ ys))
  part_behind xs ys from to le =
      let n : to - length xs - (from - length xs) ≡ to - from = omega arith in
      let at : length xs + (from - length xs) ≡ from = omega arith in
      append-nil _ ∙ rw n (ap (take (to - from)) (sym (drop-append-add xs ys (from - length xs)) ∙ ap (λ (k : ℕ). drop k (xs ++ ys)) at))

  -- a part that begins in the first and ends in the second
  pub part_across : (xs ys : List X) (from to : ℕ) → from ≤ length xs → length xs ≤ to → take (length xs - from) (drop from xs) ++ take (to - length xs) ys ≡ take (to - from) (drop from (xs ++ ys))
  part_across xs ys from to low high =
      let n : length (drop from xs) + (to - length xs) ≡ to - from = rw (length-drop from xs) (omega arith) in
      ap (λ (zs : List X). zs ++ take (to - length xs) ys) (take_rest xs from)
      ∙ sym (take-append-add (drop from xs) ys (to - length xs))
      ∙ ap (λ (k : ℕ). take k (drop from xs ++ ys)) n
      ∙ ap (take (to - from)) (sym (drop-append-le from xs ys low))
