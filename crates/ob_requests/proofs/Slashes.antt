-- A text cut behind a beginning, and at its first slash.
use Rattle.std.proofs.Common.{◌≡◌, ℕ, suc, ◌+◌, ◌<◌, ◌≤◌, Bool, true, false, cond, not, ◌&&◌, ◌==◌, List, [], ◌∷◌, ◌++◌, length, take, drop, Some, None, refl, sym, ap, ap₂, ◌∙◌, arith}
use Rattle.std.specs.Prelude.{nat_eq}
use Rattle.std.specs.List.{position_or_len, position, starts_with}
use Rattle.std.specs.Str.{bytes_eq}
use Rattle.std.proofs.lemmas.List.{append_cancel_left}
use Rattle.std.proofs.lemmas.Slice.Eq.{bytes_eq-Decides}
use Rattle.std.proofs.lemmas.Bool.Decides.{Decides-eqb, nat_tests}
use Rattle.ob_values.proofs.Bools.{bool_same, is_false}
use Rattle.ob_requests.specs.Numbers.{is_slash}
use Rattle.ob_site_rules.specs.Paths.{behind, before_slash, behind_slash}

-- a text that begins so, and one that doesn't
pub behind_front : (front t : List ℕ) → starts_with nat_eq t front ≡ true → behind front t ≡ Some (drop (length front) t)
behind_front [] t h = refl
behind_front (a ∷ front) [] h = absurd (cc)
behind_front (a ∷ front) (b ∷ t) h = go (a == b) h (behind_front front t)
  where
    go : (same : Bool) → (same && starts_with nat_eq t front) ≡ true → (starts_with nat_eq t front ≡ true → behind front t ≡ Some (drop (length front) t)) → cond same (behind front t) None ≡ Some (drop (length front) t)
    go true h rest = rest h
    go false h rest = absurd (cc)

pub behind_other : (front t : List ℕ) → starts_with nat_eq t front ≡ false → behind front t ≡ None
behind_other [] t h = absurd (cc)
behind_other (a ∷ front) [] h = refl
behind_other (a ∷ front) (b ∷ t) h = go (a == b) h (behind_other front t)
  where
    go : (same : Bool) → (same && starts_with nat_eq t front) ≡ false → (starts_with nat_eq t front ≡ false → behind front t ≡ None) → cond same (behind front t) None ≡ None
    go true h rest = rest h
    go false h rest = refl

-- what is behind a beginning is what the text has behind it
parted : (front t rest : List ℕ) → behind front t ≡ Some rest → t ≡ front ++ rest
parted [] t rest e = is_that e
  where
    is_that : {a b : List ℕ} → Some a ≡ Some b → a ≡ b
    is_that f = cc
parted (a ∷ front) [] rest e = absurd cc
parted (a ∷ front) (b ∷ t) rest e = go (a == b) refl e (parted front t rest)
  where
    go : (same : Bool) → (a == b) ≡ same → cond same (behind front t) None ≡ Some rest → (behind front t ≡ Some rest → t ≡ front ++ rest) → b ∷ t ≡ a ∷ front ++ rest
    go true f e more = ap₂ (λ (x : ℕ) (xs : List ℕ). x ∷ xs) (sym ((Decides-eqb a b).0 f)) (more e)
    go false f e more = absurd cc

unparted : (front rest : List ℕ) → behind front (front ++ rest) ≡ Some rest
unparted [] rest = refl
unparted (a ∷ front) rest = ap (λ (same : Bool). cond same (behind front (front ++ rest)) None) ((Decides-eqb a a).1 refl) ∙ unparted front rest

-- a text is a beginning with this behind it where this is what is behind the beginning
pub is_behind : (front tail t rest : List ℕ) → behind front t ≡ Some rest → bytes_eq tail rest ≡ bytes_eq t (front ++ tail)
is_behind front tail t rest e =
    let is = parted front t rest e in
    bool_same (bytes_eq tail rest) (bytes_eq t (front ++ tail))
    (λ f. (bytes_eq-Decides t (front ++ tail)).1 (is ∙ ap (λ (x : List ℕ). front ++ x) (sym ((bytes_eq-Decides tail rest).0 f))))
    (λ f. (bytes_eq-Decides tail rest).1 (append_cancel_left front tail rest (sym ((bytes_eq-Decides t (front ++ tail)).0 f) ∙ is)))

pub isnt_behind : (front tail t : List ℕ) → behind front t ≡ None → false ≡ bytes_eq t (front ++ tail)
isnt_behind front tail t e = sym (is_false (bytes_eq t (front ++ tail)) other)
  where
    other : bytes_eq t (front ++ tail) ≡ true → ⊥
    other f =
        let there : Some tail ≡ None = sym (unparted front tail) ∙ ap (behind front) (sym ((bytes_eq-Decides t (front ++ tail)).0 f)) ∙ e in
        cc

before : (t : List ℕ) → before_slash t ≡ take (position_or_len is_slash t) t
before [] = refl
before (c ∷ cs) = go (c == 47) (before cs)
  where
    go : (b : Bool) → before_slash cs ≡ take (position_or_len is_slash cs) cs → cond b [] (c ∷ before_slash cs) ≡ take (cond (not b) (1 + position_or_len is_slash cs) 0) (c ∷ cs)
    go true rest = refl
    go false rest =
        let next : suc (position_or_len is_slash cs) ≡ 1 + position_or_len is_slash cs = omega arith in
        ap (λ ds. c ∷ ds) rest ∙ ap (λ k. take k (c ∷ cs)) next

beyond : (t : List ℕ) → position_or_len is_slash t < length t → behind_slash t ≡ Some (drop (position_or_len is_slash t + 1) t)
beyond [] h = absurd (omega arith)
beyond (c ∷ cs) h = go (c == 47) h (beyond cs)
  where
    go : (b : Bool) → cond (not b) (1 + position_or_len is_slash cs) 0 < length (c ∷ cs) → (position_or_len is_slash cs < length cs → behind_slash cs ≡ Some (drop (position_or_len is_slash cs + 1) cs)) → cond b (Some cs) (behind_slash cs) ≡ Some (drop (cond (not b) (1 + position_or_len is_slash cs) 0 + 1) (c ∷ cs))
    go true h rest = refl
    go false h rest =
        let next : suc (position_or_len is_slash cs + 1) ≡ 1 + position_or_len is_slash cs + 1 = omega arith in
        rest (omega arith) ∙ ap (λ k. Some (drop k (c ∷ cs))) next

nowhere : (t : List ℕ) → length t ≤ position_or_len is_slash t → behind_slash t ≡ None
nowhere [] h = refl
nowhere (c ∷ cs) h = go (c == 47) h (nowhere cs)
  where
    go : (b : Bool) → length (c ∷ cs) ≤ cond (not b) (1 + position_or_len is_slash cs) 0 → (length cs ≤ position_or_len is_slash cs → behind_slash cs ≡ None) → cond b (Some cs) (behind_slash cs) ≡ None
    go true h rest = absurd (omega arith)
    go false h rest = rest (omega arith)

-- a text with a slash at a place, and one without a slash
pub split_at : (t : List ℕ) (at : ℕ) → position is_slash t ≡ Some at → (at < length t) × (behind_slash t ≡ Some (drop (at + 1) t)) × (take at t ≡ before_slash t)
split_at t at h = (grind (arith, nat_tests), grind (arith, nat_tests, beyond t), grind (arith, nat_tests, before t))

pub no_split : (t : List ℕ) → position is_slash t ≡ None → behind_slash t ≡ None
no_split t h = grind (arith, nat_tests, nowhere t)
