-- A text on a line, one byte after the other.
use Rattle.std.proofs.Common.{◌≡◌, ℕ, zero, suc, ◌+◌, ◌-◌, ◌<◌, List, [], ◌∷◌, ◌++◌, length, drop, get_or, refl, sym, ap, ◌∙◌, drop-cons, add-one, arith}
use Rattle.std.specs.Prelude.{Option}
use Rattle.std.specs.Option.{option_map_or}
use Rattle.ob_console.specs.Screen.{obeyed, reference, screened_behind}

at_drop : (k : ℕ) (bytes : List ℕ) (j : ℕ) → get_or (drop k bytes) j 0 ≡ get_or bytes (k + j) 0
at_drop zero bytes j = let e : j ≡ 0 + j = omega arith in ap (λ n. get_or bytes n 0) e
at_drop (suc k) [] j = refl
at_drop (suc k) (b ∷ bytes) j = let e : suc (k + j) ≡ suc k + j = omega arith in at_drop k bytes j ∙ ap (λ n. get_or (b ∷ bytes) n 0) e

dropped : (text : List ℕ) (place : ℕ) → place < length text → drop place text ≡ get_or text place 0 ∷ drop (place + 1) text
dropped text place lt = drop-cons text place 0 lt ∙ ap (λ n. get_or text place 0 ∷ drop n text) (sym (add-one place))

-- a byte that was written
pub next_written : (text : List ℕ) (place n : ℕ) → place < length text → 0 < n → screened_behind (n - 1) (drop (place + 1) text) ≡ screened_behind n (drop place text)
next_written text place zero lt more = absurd (omega (arith, more))
next_written text place (suc n) lt more =
    let e : suc n - 1 ≡ n = omega arith in
    ap (λ m. screened_behind m (drop (place + 1) text)) e ∙ sym (ap (screened_behind (suc n)) (dropped text place lt))

-- and one that wasn't
pub next_at : (text : List ℕ) (place : ℕ) (o : Option (ℕ × ℕ)) → place < length text → o ≡ obeyed (get_or text place 0) (get_or text (place + 1) 0) (get_or text (place + 2) 0)
    → option_map_or (λ (c : ℕ × ℕ). reference c.0 ++ screened_behind (c.1 - 1) (drop (place + 1) text)) o (get_or text place 0 ∷ screened_behind 0 (drop (place + 1) text)) ≡ screened_behind 0 (drop place text)
next_at text place o lt e =
    let a = get_or text place 0 in
    let rest = drop (place + 1) text in
    let here = λ (c : Option (ℕ × ℕ)). option_map_or (λ (x : ℕ × ℕ). reference x.0 ++ screened_behind (x.1 - 1) rest) c (a ∷ screened_behind 0 rest) in
    let one : place + 1 ≡ place + 1 + 0 = omega arith in
    let two : place + 2 ≡ place + 1 + 1 = omega arith in
    ap here (e
    ∙ ap (λ b. obeyed a b (get_or text (place + 2) 0)) (ap (λ n. get_or text n 0) one ∙ sym (at_drop (place + 1) text 0))
    ∙ ap (obeyed a (get_or rest 0 0)) (ap (λ n. get_or text n 0) two ∙ sym (at_drop (place + 1) text 1)))
    ∙ sym (ap (screened_behind 0) (dropped text place lt))
