-- Readers in a row, these bytes, and white space.
use Rattle.std.proofs.Common.{◌≡◌, ℕ, Bool, true, false, cond, eqb, List, [], ◌∷◌, ◌++◌, Result, Ok, Err, refl, sym, ap, ◌∙◌, subst}
use Rattle.std.proofs.lemmas.Bool.{eqb-true, eq-eqb}
use Rattle.std.proofs.lemmas.List.{append-nil}
use Rattle.ob_scan.specs.declared.stop.Stop.{Stop}
use Rattle.ob_scan.specs.declared.stop.Stop.TheVariants.{Want, Malformed}
use Rattle.ob_scan.specs.Reading.{◌>>=◌, is_space, literal, behind_spaces, some_behind, spaces}
use Rattle.ob_markup.specs.Characters.{IsBlank}

-- a reader that has read has read twice
pub record Bound {A B : Type 0} (r : Result A Stop) (f : A → Result B Stop) (y : B) : Type 0 where
  pub mid : A
  pub first : r ≡ Ok mid
  pub second : f mid ≡ Ok y

pub bind_ok : {A B : Type 0} (r : Result A Stop) (f : A → Result B Stop) (y : B) → (r >>= f) ≡ Ok y → Bound r f y
bind_ok (Ok x) f y e = record { mid = x; first = refl; second = e }
bind_ok (Err e) f y h = absurd cc

pub bind_both : {A B : Type 0} (r : Result A Stop) (f : A → Result B Stop) (x : A) (y : B) → r ≡ Ok x → f x ≡ Ok y → (r >>= f) ≡ Ok y
bind_both r f x y e h = ap (λ s. s >>= f) e ∙ h

-- what wants bytes wants them first, or behind what was read
pub data Wanting {A B : Type 0} (r : Result A Stop) (f : A → Result B Stop) : Type 0 where
  at_first : r ≡ Err Want → Wanting r f
  behind : (x : A) → r ≡ Ok x → f x ≡ Err Want → Wanting r f

pub bind_want : {A B : Type 0} (r : Result A Stop) (f : A → Result B Stop) → (r >>= f) ≡ Err Want → Wanting r f
bind_want (Ok x) f e = behind x refl e
bind_want (Err Want) f e = at_first refl
bind_want (Err Malformed) f e = absurd cc

-- ---- these bytes

pub literal_ok : (text bytes rest : List ℕ) → literal text bytes ≡ Ok rest → bytes ≡ text ++ rest
literal_ok [] bytes rest e = cc
literal_ok (c ∷ cs) [] rest e = absurd cc
literal_ok (c ∷ cs) (b ∷ bytes) rest e = on (eqb b c) refl e (literal_ok cs bytes rest)
  where
    on : (v : Bool) → eqb b c ≡ v → cond v (literal cs bytes) (Err Malformed) ≡ Ok rest → (literal cs bytes ≡ Ok rest → bytes ≡ cs ++ rest) → b ∷ bytes ≡ c ∷ (cs ++ rest)
    on true w h later_is =
        let same : b ≡ c = eqb-true b c w in
        let later : bytes ≡ cs ++ rest = later_is h in
        ap (λ (x : ℕ). x ∷ bytes) same ∙ ap (λ (xs : List ℕ). c ∷ xs) later
    on false w h later_is = absurd cc

pub literal_again : (text rest : List ℕ) → literal text (text ++ rest) ≡ Ok rest
literal_again [] rest = refl
literal_again (c ∷ cs) rest = rw (eq-eqb c c refl) (literal_again cs rest)

pub literal_want : (text bytes : List ℕ) → literal text bytes ≡ Err Want → (tail : List ℕ) × (bytes ++ tail ≡ text)
literal_want [] bytes e = absurd cc
literal_want (c ∷ cs) [] e = (c ∷ cs, refl)
literal_want (c ∷ cs) (b ∷ bytes) e = on (eqb b c) refl e (literal_want cs bytes)
  where
    on : (v : Bool) → eqb b c ≡ v → cond v (literal cs bytes) (Err Malformed) ≡ Err Want → (literal cs bytes ≡ Err Want → (tail : List ℕ) × (bytes ++ tail ≡ cs)) → (tail : List ℕ) × (b ∷ (bytes ++ tail) ≡ c ∷ cs)
    on true w h later_is =
        let later = later_is h in
        let same : b ≡ c = eqb-true b c w in
        (later.0, ap (λ (x : ℕ). x ∷ (bytes ++ later.0)) same ∙ ap (λ (xs : List ℕ). c ∷ xs) later.1)
    on false w h later_is = absurd cc

-- ---- white space

-- what stands behind white space
abbrev pub IsDark : List ℕ → Type 0
IsDark [] = ⊥
IsDark (b ∷ bytes) = is_space b ≡ false

pub record Spaced (bytes rest : List ℕ) : Type 0 where
  pub white : List ℕ
  pub is_white : IsBlank white
  pub parts : bytes ≡ white ++ rest

pub spaced : (bytes : List ℕ) → Spaced bytes (behind_spaces bytes)
spaced [] = record { white = []; is_white = tt; parts = refl }
spaced (b ∷ bytes) = on (is_space b) refl (spaced bytes)
  where
    on : (v : Bool) → is_space b ≡ v → Spaced bytes (behind_spaces bytes) → Spaced (b ∷ bytes) (cond v (behind_spaces bytes) (b ∷ bytes))
    on true w s = record { white = b ∷ s.white; is_white = (w, s.is_white); parts = ap (λ (xs : List ℕ). b ∷ xs) s.parts }
    on false w s = record { white = []; is_white = tt; parts = refl }

-- white space is behind
abbrev pub MaybeDark : List ℕ → Type 0
MaybeDark [] = Unit {0}
MaybeDark (b ∷ bytes) = is_space b ≡ false

pub behind_is_dark : (bytes : List ℕ) → MaybeDark (behind_spaces bytes)
behind_is_dark [] = tt
behind_is_dark (b ∷ bytes) = on (is_space b) refl (behind_is_dark bytes)
  where
    on : (v : Bool) → is_space b ≡ v → MaybeDark (behind_spaces bytes) → MaybeDark (cond v (behind_spaces bytes) (b ∷ bytes))
    on true w later = later
    on false w later = w

pub behind_again : (white rest : List ℕ) → IsBlank white → MaybeDark rest → behind_spaces (white ++ rest) ≡ rest
behind_again [] [] w d = refl
behind_again [] (b ∷ rest) w d = rw d refl
behind_again (b ∷ white) rest w d = rw w.0 (behind_again white rest w.1 d)

some_ok : (xs rest : List ℕ) → some_behind xs ≡ Ok rest → xs ≡ rest
some_ok [] rest e = absurd cc
some_ok (b ∷ xs) rest e = cc

some_dark : (xs : List ℕ) → MaybeDark xs → (rest : List ℕ) → some_behind xs ≡ Ok rest → IsDark rest
some_dark [] d rest e = absurd cc
some_dark (b ∷ xs) d rest e = let same : b ∷ xs ≡ rest = some_ok (b ∷ xs) rest e in subst IsDark same d

some_want : (xs : List ℕ) → some_behind xs ≡ Err Want → xs ≡ []
some_want [] e = refl
some_want (b ∷ xs) e = absurd cc

pub spaces_ok : (bytes rest : List ℕ) → spaces bytes ≡ Ok rest → Spaced bytes rest
spaces_ok bytes rest e = subst (Spaced bytes) (some_ok (behind_spaces bytes) rest e) (spaced bytes)

pub spaces_dark : (bytes rest : List ℕ) → spaces bytes ≡ Ok rest → IsDark rest
spaces_dark bytes rest e = some_dark (behind_spaces bytes) (behind_is_dark bytes) rest e

dark_maybe : (rest : List ℕ) → IsDark rest → MaybeDark rest
dark_maybe [] d = tt
dark_maybe (b ∷ rest) d = d

some_again : (rest : List ℕ) → IsDark rest → some_behind rest ≡ Ok rest
some_again [] d = absurd d
some_again (b ∷ rest) d = refl

pub spaces_again : (white rest : List ℕ) → IsBlank white → IsDark rest → spaces (white ++ rest) ≡ Ok rest
spaces_again white rest w d = ap some_behind (behind_again white rest w (dark_maybe rest d)) ∙ some_again rest d

pub spaces_want : (bytes : List ℕ) → spaces bytes ≡ Err Want → IsBlank bytes
spaces_want bytes e =
    let s = spaced bytes in
    let none : behind_spaces bytes ≡ [] = some_want (behind_spaces bytes) e in
    let all : bytes ≡ s.white = s.parts ∙ ap (λ (xs : List ℕ). s.white ++ xs) none ∙ append-nil s.white in
    subst IsBlank (sym all) s.is_white

pub blank_both : (xs ys : List ℕ) → IsBlank xs → IsBlank ys → IsBlank (xs ++ ys)
blank_both [] ys h k = k
blank_both (x ∷ xs) ys h k = (h.0, blank_both xs ys h.1 k)
