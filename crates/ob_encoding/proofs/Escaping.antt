-- A text that is written with its references, run by run.
use Rattle.std.proofs.Common.{◌≡◌, ℕ, ◌+◌, ◌-◌, ◌<◌, ◌≤◌, List, [], ◌∷◌, ◌++◌, length, take, drop, get_or, ap, sym, ◌∙◌, append_assoc, arith, add-one}
use Rattle.std.proofs.Math.Seq.{drop-cons}
use Rattle.std.proofs.lemmas.List.{take_more, take_all, at_drop_all, get_or-drop, length-drop, append-nil}
use Rattle.ob_encoding.specs.Escaped.{escape, escaped}

-- the run between two places
abbrev pub run : List ℕ → ℕ → ℕ → List ℕ
run text start i = take (i - start) (drop start text)

next_byte : (text : List ℕ) (i : ℕ) → i < length text → escaped (drop i text) ≡ escape (get_or text i 0) ++ escaped (drop (i + 1) text)
next_byte text i h = ap escaped (drop-cons text i 0 h) ∙ ap (λ (k : ℕ). escape (get_or text i 0) ++ escaped (drop k text)) (sym (add-one i))

longer_run : (text : List ℕ) (start i : ℕ) → start ≤ i → i < length text → run text start (i + 1) ≡ run text start i ++ get_or text i 0 ∷ []
longer_run text start i le h =
    let step : i + 1 - start ≡ i - start + 1 = omega arith in
    let place : start + (i - start) ≡ i = omega arith in
    ap (λ (k : ℕ). take k (drop start text)) step
    ∙ take_more (drop start text) (i - start) 0 (omega (arith, length-drop start text))
    ∙ ap (λ (b : ℕ). run text start i ++ b ∷ []) (get_or-drop start text (i - start) 0 ∙ ap (λ (k : ℕ). get_or text k 0) place)

-- a byte that stands for itself makes the run longer
pub plain_byte : (out old text : List ℕ) (start i : ℕ) → start ≤ i → i < length text → escape (get_or text i 0) ≡ get_or text i 0 ∷ []
    → (out ++ run text start i) ++ escaped (drop i text) ≡ old → (out ++ run text start (i + 1)) ++ escaped (drop (i + 1) text) ≡ old
plain_byte out old text start i le h plain e =
    let b : ℕ = get_or text i 0 in
    let rest : List ℕ = escaped (drop (i + 1) text) in
    ap (λ (r : List ℕ). (out ++ r) ++ rest) (longer_run text start i le h)
    ∙ (let shift : (out ++ (run text start i ++ b ∷ [])) ++ rest ≡ (out ++ run text start i) ++ (b ∷ [] ++ rest) = simp append_assoc in shift)
    ∙ ap (λ (r : List ℕ). (out ++ run text start i) ++ (r ++ rest)) (sym plain)
    ∙ ap (λ (r : List ℕ). (out ++ run text start i) ++ r) (sym (next_byte text i h))
    ∙ e

-- any other one ends it
pub escaped_byte : (out one two reference old text : List ℕ) (start i : ℕ) → i < length text → escape (get_or text i 0) ≡ reference
    → one ≡ out ++ run text start i → two ≡ one ++ reference
    → (out ++ run text start i) ++ escaped (drop i text) ≡ old → (two ++ run text (i + 1) (i + 1)) ++ escaped (drop (i + 1) text) ≡ old
escaped_byte out one two reference old text start i h is p q e =
    let rest : List ℕ = escaped (drop (i + 1) text) in
    let none : i + 1 - (i + 1) ≡ 0 = omega arith in
    ap (λ (k : ℕ). (two ++ take k (drop (i + 1) text)) ++ rest) none
    ∙ ap (λ (r : List ℕ). r ++ rest) (append-nil two)
    ∙ ap (λ (r : List ℕ). r ++ rest) (q ∙ ap (λ (r : List ℕ). r ++ reference) p)
    ∙ (let shift : ((out ++ run text start i) ++ reference) ++ rest ≡ (out ++ run text start i) ++ (reference ++ rest) = simp append_assoc in shift)
    ∙ ap (λ (r : List ℕ). (out ++ run text start i) ++ (r ++ rest)) (sym is)
    ∙ ap (λ (r : List ℕ). (out ++ run text start i) ++ r) (sym (next_byte text i h))
    ∙ e

-- and behind the last byte the run is the rest
pub last_run : (out new old text : List ℕ) (start i : ℕ) → start ≤ i → length text ≤ i → new ≡ out ++ run text start (length text)
    → (out ++ run text start i) ++ escaped (drop i text) ≡ old → new ≡ old
last_run out new old text start i le h p e =
    p
    ∙ ap (λ (r : List ℕ). out ++ r) (whole (length text) (omega arith) ∙ sym (whole i h))
    ∙ sym (append-nil (out ++ run text start i))
    ∙ ap (λ (r : List ℕ). (out ++ run text start i) ++ r) (sym (at_drop_all escaped text i h))
    ∙ e
  where
    whole : (n : ℕ) → length text ≤ n → run text start n ≡ drop start text
    whole n k = take_all (n - start) (drop start text) (omega (arith, length-drop start text))
