-- The texts of the points.
use Rattle.std.proofs.Common.{arith, ◌≡◌, ◌+◌, ℕ, zero, suc, List, ◌++◌, ap, ◌∙◌, sym, append_assoc, append-nil}
use Rattle.ob_storm.specs.Site.{point_text, point_texts}

-- the text behind the first so many
texts_behind : (k n : ℕ) → point_texts k (suc n) ≡ point_texts k n ++ point_text (k + n)
texts_behind k zero = append-nil (point_text k) ∙ ap point_text (let e : k ≡ k + 0 = omega arith in e)
texts_behind k (suc n) =
    ap (λ (t : List ℕ). point_text k ++ t) (texts_behind (k + 1) n ∙ ap (λ (m : ℕ). point_texts (k + 1) n ++ point_text m) (let e : k + 1 + n ≡ k + suc n = omega arith in e))
    ∙ sym (append_assoc (point_text k) (point_texts (k + 1) n) (point_text (k + suc n)))

-- one more of them
pub one_more_point : (n : ℕ) → point_texts 0 n ++ point_text n ≡ point_texts 0 (n + 1)
one_more_point n =
    ap (λ (m : ℕ). point_texts 0 n ++ point_text m) (let e : n ≡ 0 + n = omega arith in e) ∙ sym (texts_behind 0 n) ∙ ap (point_texts 0) (let e : suc n ≡ n + 1 = omega arith in e)
