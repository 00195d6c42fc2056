-- Lemmas on a text that is put together.
use Rattle.std.proofs.Common.{◌≡◌, ℕ, Bool, true, false, cond, length, take, sym, List, [], ◌∷◌, ◌++◌, refl, ap, ◌∙◌, append_assoc, append-nil}
use Rattle.std.proofs.lemmas.List.{take_at}
use Rattle.std.specs.Prelude.{Result, OnOk}
use Rattle.std.specs.declared.result.Result.TheVariants.{Ok, Err}
use Rattle.std.specs.List.{concat}
use Rattle.ob_http.specs.Answer.{Grows}

-- what follows at `Ok`
pub on_ok : {T E P Q : Type 0} (r : Result T E) → (P → Q) → OnOk r P → OnOk r Q
on_ok (Ok x) then p = then p
on_ok (Err e) then p = tt

-- nine parts, put behind a text by threes
pub nine_parts : (old a b c d e f g h i p q r : List ℕ)
    → p ≡ old ++ (a ++ (b ++ c)) → q ≡ p ++ (d ++ (e ++ f)) → r ≡ q ++ (g ++ (h ++ i))
    → r ≡ old ++ concat (a ∷ b ∷ c ∷ d ∷ e ∷ f ∷ g ∷ h ∷ i ∷ [])
nine_parts old a b c d e f g h i p q r first second third =
    third ∙ ap (λ l. l ++ (g ++ (h ++ i))) (second ∙ ap (λ l. l ++ (d ++ (e ++ f))) first) ∙ simp (append_assoc, append-nil) refl

-- texts that grew, one behind the other
pub grows_then : (a b c : List ℕ) → Grows a b → Grows b c → Grows a c
grows_then a b c x y = (x.0 ++ y.0, y.1 ∙ ap (λ l. l ++ y.0) x.1 ∙ append_assoc a x.0 y.0)

-- a push puts all that it is handed behind the text, or nothing
pub grows_push : (t : Bool) (a b more : List ℕ) → b ≡ cond t (a ++ more) a → Grows a b
grows_push true a b more is = (more, is)
grows_push false a b more is = ([], is ∙ sym (append-nil a))

-- a text that grew, cut where it ended
pub grows_cut : (a b : List ℕ) → Grows a b → take (length a) b ≡ a
grows_cut a b x = ap (take (length a)) x.1 ∙ take_at a x.0 (length a) refl

-- a body behind the fields that tell of it
pub sized_parts : (old a n digits b body p q : List ℕ) → p ≡ old ++ (a ++ (n ++ b)) → q ≡ p ++ body → n ≡ digits
    → q ≡ old ++ (a ++ (digits ++ (b ++ body)))
sized_parts old a n digits b body p q first second number =
    second ∙ ap (λ l. l ++ body) (first ∙ ap (λ l. old ++ (a ++ (l ++ b))) number) ∙ simp append_assoc refl

-- the parts of a request
pub request_parts : (verb v a target t b host h e rest n p q r : List ℕ) → n ≡ [] → p ≡ n ++ (v ++ (a ++ t)) → q ≡ p ++ (b ++ (h ++ e)) → r ≡ q ++ rest
    → v ≡ verb → t ≡ target → h ≡ host → r ≡ verb ++ (a ++ (target ++ (b ++ (host ++ (e ++ rest)))))
request_parts verb v a target t b host h e rest n p q r none first second third v_is t_is h_is =
    third ∙ ap (λ l. l ++ rest) (second ∙ ap (λ l. l ++ (b ++ (h ++ e))) (first ∙ ap (λ l. l ++ (v ++ (a ++ t))) none)) ∙ simp append_assoc refl
    ∙ (λ i. v_is i ++ (a ++ (t_is i ++ (b ++ (h_is i ++ (e ++ rest))))))
