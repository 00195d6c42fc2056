-- A path ends with a slash where its last byte is one.
use Rattle.std.proofs.Common.{◌≡◌, ℕ, ◌-◌, ◌<◌, suc, false, List, [], ◌∷◌, length, get_or, refl, ap, ◌∙◌, arith}
use Rattle.std.specs.Prelude.{Some, None, slice_get, ◌==◌}
use Rattle.std.proofs.lemmas.Option.{get_or_from_slice_get, slice_get-get_or}
use Rattle.ob_site_rules.specs.Paths.{ends_with_slash}

last_byte : (p : List ℕ) → ends_with_slash p ≡ (get_or p (length p - 1) 0 == 47)
last_byte [] = refl
last_byte (c ∷ []) = refl
last_byte (c ∷ d ∷ cs) =
    let further : suc (length (d ∷ cs) - 1) ≡ length (c ∷ d ∷ cs) - 1 = omega arith in
    last_byte (d ∷ cs) ∙ ap (λ k. get_or (c ∷ d ∷ cs) k 0 == 47) further

pub ends_some : (p : List ℕ) (c : ℕ) → slice_get p (length p - 1) ≡ Some c → ends_with_slash p ≡ (c == 47)
ends_some p c e = last_byte p ∙ ap (λ d. d == 47) (get_or_from_slice_get p (length p - 1) c 0 e)

pub ends_none : (p : List ℕ) → slice_get p (length p - 1) ≡ None → ends_with_slash p ≡ false
ends_none [] e = refl
ends_none (c ∷ cs) e =
    let within : length (c ∷ cs) - 1 < length (c ∷ cs) = omega arith in
    let there = slice_get-get_or (c ∷ cs) (length (c ∷ cs) - 1) 0 within in
    cc
