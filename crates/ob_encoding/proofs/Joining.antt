-- Words that are written one after another.
use Rattle.std.proofs.Common.{◌≡◌, ℕ, suc, ◌+◌, ◌<◌, ◌≤◌, List, [], ◌∷◌, ◌++◌, length, drop, get_or, refl, ap, sym, ◌∙◌, append_assoc, add-one}
use Rattle.std.proofs.Math.Seq.{drop-cons}
use Rattle.std.proofs.lemmas.List.{append-nil, at_drop_all}
use Rattle.ob_encoding.specs.Escaped.{escape, escaped}
use Rattle.ob_encoding.specs.Canonical.{joined}

pub escaped-append : (xs ys : List ℕ) → escaped (xs ++ ys) ≡ escaped xs ++ escaped ys
escaped-append [] ys = refl
escaped-append (x ∷ xs) ys = ap (λ (t : List ℕ). escape x ++ t) (escaped-append xs ys) ∙ sym (append_assoc (escape x) (escaped xs) (escaped ys))

-- words behind another one, escaped
abbrev pub behind : List (List ℕ) → List ℕ
behind [] = []
behind (word ∷ words) = 32 ∷ (escaped word ++ behind words)

pub joined-behind : (word : List ℕ) (words : List (List ℕ)) → escaped (joined (word ∷ words)) ≡ escaped word ++ behind words
joined-behind word [] = sym (append-nil (escaped word))
joined-behind word (w ∷ words) = escaped-append word (32 ∷ joined (w ∷ words)) ∙ ap (λ (t : List ℕ). escaped word ++ 32 ∷ t) (joined-behind w words)

-- the first word is written, and the others are not
pub first_word : (old out : List ℕ) (all : List (List ℕ)) (word : List ℕ) (words : List (List ℕ)) → all ≡ word ∷ words → out ≡ old ++ escaped word → out ++ behind words ≡ old ++ escaped (joined all)
first_word old out all word words e p =
    ap (λ (t : List ℕ). t ++ behind words) p
    ∙ append_assoc old (escaped word) (behind words)
    ∙ ap (λ (t : List ℕ). old ++ t) (sym (joined-behind word words) ∙ ap (λ (ws : List (List ℕ)). escaped (joined ws)) (sym e))

-- one word more is written, behind a space
pub next_word : (out one two all : List ℕ) (words : List (List ℕ)) (i : ℕ) (word bytes : List ℕ) → i < length words → word ≡ get_or words i word → bytes ≡ word
    → one ≡ out ++ 32 ∷ [] → two ≡ one ++ escaped bytes
    → out ++ behind (drop i words) ≡ all → two ++ behind (drop (i + 1) words) ≡ all
next_word out one two all words i word bytes h is same p q e =
    let rest : List ℕ = behind (drop (i + 1) words) in
    let parts : drop i words ≡ word ∷ drop (i + 1) words = drop-cons words i word h ∙ ap (λ (w : List ℕ). w ∷ drop (suc i) words) (sym is) ∙ ap (λ (k : ℕ). word ∷ drop k words) (sym (add-one i)) in
    ap (λ (t : List ℕ). t ++ rest) (q ∙ ap (λ (t : List ℕ). t ++ escaped bytes) p ∙ ap (λ (b : List ℕ). (out ++ 32 ∷ []) ++ escaped b) same)
    ∙ pieces out (escaped word) rest
    ∙ ap (λ (ws : List (List ℕ)). out ++ behind ws) (sym parts)
    ∙ e
  where
    pieces : (o x y : List ℕ) → ((o ++ 32 ∷ []) ++ x) ++ y ≡ o ++ 32 ∷ (x ++ y)
    pieces o x y = simp append_assoc

-- none is left
pub words_done : (out all : List ℕ) (words : List (List ℕ)) (i : ℕ) → length words ≤ i → out ++ behind (drop i words) ≡ all → out ≡ all
words_done out all words i h e =
    sym (append-nil out) ∙ ap (λ (t : List ℕ). out ++ t) (sym (at_drop_all behind words i h)) ∙ e
