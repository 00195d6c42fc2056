-- Lines one after the other.
use Rattle.std.proofs.Common.{◌≡◌, ℕ, zero, suc, ◌+◌, ◌-◌, ◌≤◌, List, [], ◌∷◌, ◌++◌, length, take, refl, sym, ap, ◌∙◌, arith, append_assoc, append-nil, add-one}
use Rattle.std.specs.Prelude.{Some, None, slice_get, option_map, replicate}
use Rattle.ob_console.specs.Alarms.{Shows}
use Rattle.ob_console.specs.Boards.{Line}
use Rattle.ob_console.specs.Lines.{board_text, shows_text, left_in}

text_next : (ls : List Line) (i : ℕ) (s : Shows) → Some s ≡ option_map (λ (l : Line). l.value) (slice_get ls i) → board_text (take i ls) ++ shows_text s ≡ board_text (take (suc i) ls)
text_next [] i s h = absurd (let e : Some s ≡ None = h in cc)
text_next (l ∷ ls) zero s h =
    let same : s ≡ l.value = cc in
    ap shows_text same ∙ sym (append-nil (shows_text l.value))
text_next (l ∷ ls) (suc i) s h = append_assoc (shows_text l.value) (board_text (take i ls)) (shows_text s) ∙ ap (λ (t : List ℕ). shows_text l.value ++ t) (text_next ls i s h)

-- one line more
pub text_more : (ls : List Line) (i : ℕ) (s : Shows) → Some s ≡ option_map (λ (l : Line). l.value) (slice_get ls i) → board_text (take i ls) ++ shows_text s ≡ board_text (take (i + 1) ls)
text_more ls i s h = text_next ls i s h ∙ ap (λ (n : ℕ). board_text (take n ls)) (sym (add-one i))

abbrev blank : ℕ
blank = 32

abbrev one_blank : List ℕ
one_blank = blank ∷ []

one_more : (k : ℕ) → replicate k blank ++ one_blank ≡ replicate (suc k) blank
one_more zero = refl
one_more (suc k) = ap (λ (t : List ℕ). blank ∷ t) (one_more k)

-- one blank more
pub blank_more : (before text out : List ℕ) (i : ℕ) → length text ≤ i → out ≡ before ++ (text ++ replicate (i - length text) blank) → out ++ one_blank ≡ before ++ (text ++ replicate (i + 1 - length text) blank)
blank_more before text out i h e =
    let n : suc (i - length text) ≡ i + 1 - length text = omega arith in
    ap (λ (t : List ℕ). t ++ one_blank) e
    ∙ append_assoc before (text ++ replicate (i - length text) blank) one_blank
    ∙ ap (λ (t : List ℕ). before ++ t) (append_assoc text (replicate (i - length text) blank) one_blank ∙ ap (λ (t : List ℕ). text ++ t) (one_more (i - length text) ∙ ap (λ k. replicate k blank) n))

-- and one behind them
pub blank_last : (before text out : List ℕ) (i n : ℕ) → i - length text ≡ n - length text → out ≡ before ++ (text ++ replicate (i - length text) blank) → out ++ one_blank ≡ before ++ left_in n text
blank_last before text out i n h e =
    ap (λ (t : List ℕ). t ++ one_blank) e
    ∙ append_assoc before (text ++ replicate (i - length text) blank) one_blank
    ∙ ap (λ (t : List ℕ). before ++ t) (append_assoc text (replicate (i - length text) blank) one_blank ∙ ap (λ k. text ++ (replicate k blank ++ one_blank)) h)

-- five texts behind one another
pub five : (o p q r s t a b c d e : List ℕ) → p ≡ o ++ a → q ≡ p ++ b → r ≡ q ++ c → s ≡ r ++ d → t ≡ s ++ e → t ≡ o ++ (a ++ (b ++ (c ++ (d ++ e))))
five o p q r s t a b c d e f g h i j =
    j ∙ ap (λ (x : List ℕ). x ++ e) (i ∙ ap (λ (x : List ℕ). x ++ d) (h ∙ ap (λ (x : List ℕ). x ++ c) (g ∙ ap (λ (x : List ℕ). x ++ b) f))) ∙ simp append_assoc

same_next : (ls : List Line) (i : ℕ) → None ≡ option_map (λ (l : Line). l.value) (slice_get ls i) → board_text (take i ls) ≡ board_text (take (suc i) ls)
same_next [] zero h = refl
same_next [] (suc i) h = refl
same_next (l ∷ ls) zero h = absurd (let e : None ≡ Some l.value = h in cc)
same_next (l ∷ ls) (suc i) h = ap (λ (t : List ℕ). shows_text l.value ++ t) (same_next ls i h)

-- no line more
pub text_same : (ls : List Line) (i : ℕ) → None ≡ option_map (λ (l : Line). l.value) (slice_get ls i) → board_text (take i ls) ≡ board_text (take (i + 1) ls)
text_same ls i h = same_next ls i h ∙ ap (λ (n : ℕ). board_text (take n ls)) (sym (add-one i))
