-- Runs of characters up to a byte that ends them.
use Rattle.std.proofs.Common.{◌≡◌, ℕ, ◌<◌, ◌≤◌, ◌⊎◌, inl, inr, Bool, true, false, ◌&&◌, not, cond, eqb, List, [], ◌∷◌, ◌++◌, length, Result, Ok, Err, refl, ap, subst, arith}
use Rattle.std.proofs.lemmas.Bool.Decides.{nat_tests}
use Rattle.ob_values.proofs.Bools.{both_true}
use Rattle.ob_scan.specs.declared.stop.Stop.{Stop}
use Rattle.ob_scan.specs.declared.stop.Stop.TheVariants.{Want, Malformed}
use Rattle.ob_scan.specs.declared.character.Progress.{Progress}
use Rattle.ob_scan.specs.declared.character.Progress.TheVariants.{Whole}
use Rattle.ob_scan.specs.declared.reading.Ends.{Ends}
use Rattle.ob_scan.specs.declared.reading.Ends.TheVariants.{Name, Target, Value}
use Rattle.ob_scan.specs.Characters.{after_byte}
use Rattle.ob_scan.specs.Reading.{◌>>=◌, is_whole, ends_at, run_from, run, not_empty, word}
use Rattle.ob_markup.specs.Characters.{AllPass}
use Rattle.ob_markup.proofs.Walks.{Chars, AreHigh, Fair, fair_next, inner_high, whole_is, finish, never_wants}
use Rattle.ob_markup.proofs.Literals.{bind_ok, bind_both, Wanting, at_first, behind, bind_want}

-- no byte ends the run
abbrev pub goes_on : Ends → ℕ → Bool
goes_on ends b = not (ends_at ends b)

-- a byte that ends it
abbrev pub EndsRun : Ends → List ℕ → Type 0
EndsRun ends [] = ⊥
EndsRun ends (b ∷ bytes) = ends_at ends b ≡ true

-- what ends it is ASCII
abbrev pub EndsLow : Ends → Type 0
EndsLow ends = (b : ℕ) → 128 ≤ b → goes_on ends b ≡ true

pub name_low : EndsLow Name
name_low b h = grind (arith, nat_tests)

pub target_low : EndsLow Target
target_low b h = grind (arith, nat_tests)

pub value_low : (quote : ℕ) → quote < 128 → EndsLow (Value quote)
value_low quote q b h = grind (arith, nat_tests)

pub record RunFound (ends : Ends) (p : Progress) (bytes : List ℕ) (x : List ℕ × List ℕ) : Type 0 where
  pub parts : bytes ≡ x.0 ++ x.1
  pub chars : Chars p x.0
  pub within : AllPass (goes_on ends) x.0
  pub stops : EndsRun ends x.1

not_both : (a b : Bool) → (a && b) ≡ false → (a ≡ false) ⊎ (not b ≡ true)
not_both true false e = inr refl
not_both true true e = absurd cc
not_both false b e = inl refl

goes_here : (ends : Ends) (p : Progress) (b : ℕ) (next : Progress) → EndsLow ends → Fair p → after_byte p b ≡ Ok next → (is_whole p && ends_at ends b) ≡ false → goes_on ends b ≡ true
goes_here ends p b next low f e t = on (not_both (is_whole p) (ends_at ends b) t)
  where
    on : (is_whole p ≡ false) ⊎ (goes_on ends b ≡ true) → goes_on ends b ≡ true
    on (inl w) = low b (inner_high p b next f w e)
    on (inr h) = h

abbrev pub ok_of : {A : Type 0} → A → Result A Stop
ok_of x = Ok x

pub same_ok : {A : Type 0} (x y : A) → ok_of x ≡ ok_of y → x ≡ y
same_ok x y e = cc

abbrev with_byte : ℕ → List ℕ × List ℕ → Result (List ℕ × List ℕ) Stop
with_byte b x = Ok (b ∷ x.0, x.1)

pub run_ok : (ends : Ends) (p : Progress) (bytes : List ℕ) (x : List ℕ × List ℕ) → EndsLow ends → Fair p → run_from ends p bytes ≡ Ok x → RunFound ends p bytes x
run_ok ends p [] x low f e = absurd cc
run_ok ends p (b ∷ bytes) x low f e = on (is_whole p && ends_at ends b) refl e (λ next y f h. run_ok ends next bytes y low f h)
  where
    on : (v : Bool) → (is_whole p && ends_at ends b) ≡ v → cond v (Ok ([], b ∷ bytes)) (after_byte p b >>= λ next. run_from ends next bytes >>= λ x. Ok (b ∷ x.0, x.1)) ≡ Ok x → ((next : Progress) (y : List ℕ × List ℕ) → Fair next → run_from ends next bytes ≡ Ok y → RunFound ends next bytes y) → RunFound ends p (b ∷ bytes) x
    on true w h behind_it =
        let t = both_true (is_whole p) (ends_at ends b) w in
        subst (RunFound ends p (b ∷ bytes)) (same_ok ([], b ∷ bytes) x h) (record { parts = refl; chars = whole_is p t.0; within = tt; stops = t.1 })
    on false w h behind_it =
        let first = bind_ok (after_byte p b) (λ next. run_from ends next bytes >>= λ x. Ok (b ∷ x.0, x.1)) x h in
        let second = bind_ok (run_from ends first.mid bytes) (with_byte b) x first.second in
        let later = behind_it first.mid second.mid (fair_next p b first.mid first.first) second.first in
        let all : RunFound ends p (b ∷ bytes) (b ∷ second.mid.0, second.mid.1) = record {
          parts = ap (λ (xs : List ℕ). b ∷ xs) later.parts;
          chars = (first.mid, first.first, later.chars);
          within = (goes_here ends p b first.mid low f first.first w, later.within);
          stops = later.stops;
        } in
        subst (RunFound ends p (b ∷ bytes)) (same_ok (b ∷ second.mid.0, second.mid.1) x second.second) all

no_stop : (a b : Bool) → not b ≡ true → (a && b) ≡ false
no_stop true true e = absurd cc
no_stop true false e = refl
no_stop false b e = refl

pub run_again : (ends : Ends) (p : Progress) (bytes rest : List ℕ) → Chars p bytes → AllPass (goes_on ends) bytes → EndsRun ends rest → run_from ends p (bytes ++ rest) ≡ Ok (bytes, rest)
run_again ends p [] [] h g s = absurd s
run_again ends p [] (b ∷ rest) h g s = rw (h, s) refl
run_again ends p (x ∷ bytes) rest h g s = rw (no_stop (is_whole p) (ends_at ends x) g.0, h.1, run_again ends h.0 bytes rest h.2 g.1 s) refl

-- a run that wants bytes can be ended
pub record Ending (ends : Ends) (p : Progress) (bytes : List ℕ) : Type 0 where
  pub tail : List ℕ
  pub chars : Chars p (bytes ++ tail)
  pub within : AllPass (goes_on ends) (bytes ++ tail)

high_pass : (ends : Ends) → EndsLow ends → (bytes : List ℕ) → AreHigh bytes → AllPass (goes_on ends) bytes
high_pass ends low [] h = tt
high_pass ends low (b ∷ bytes) h = (low b h.0, high_pass ends low bytes h.1)

pub run_want : (ends : Ends) (p : Progress) (bytes : List ℕ) → EndsLow ends → Fair p → run_from ends p bytes ≡ Err Want → Ending ends p bytes
run_want ends p [] low f e = let end = finish p f in record { tail = end.bytes; chars = end.chars; within = high_pass ends low end.bytes end.high }
run_want ends p (b ∷ bytes) low f e = on (is_whole p && ends_at ends b) refl e (λ next f h. run_want ends next bytes low f h)
  where
    last : (next : Progress) → after_byte p b ≡ Ok next → (is_whole p && ends_at ends b) ≡ false → Wanting (run_from ends next bytes) (with_byte b) → ((next : Progress) → Fair next → run_from ends next bytes ≡ Err Want → Ending ends next bytes) → Ending ends p (b ∷ bytes)
    last next n w (at_first h) behind_it =
        let later = behind_it next (fair_next p b next n) h in
        record { tail = later.tail; chars = (next, n, later.chars); within = (goes_here ends p b next low f n w, later.within) }
    last next n w (behind x h k) behind_it = absurd cc

    some : (is_whole p && ends_at ends b) ≡ false → Wanting (after_byte p b) (λ next. run_from ends next bytes >>= with_byte b) → ((next : Progress) → Fair next → run_from ends next bytes ≡ Err Want → Ending ends next bytes) → Ending ends p (b ∷ bytes)
    some w (at_first h) behind_it = absurd (never_wants p b h)
    some w (behind next h k) behind_it = last next h w (bind_want (run_from ends next bytes) (with_byte b) k) behind_it

    on : (v : Bool) → (is_whole p && ends_at ends b) ≡ v → cond v (Ok ([], b ∷ bytes)) (after_byte p b >>= λ next. run_from ends next bytes >>= with_byte b) ≡ Err Want → ((next : Progress) → Fair next → run_from ends next bytes ≡ Err Want → Ending ends next bytes) → Ending ends p (b ∷ bytes)
    on true w h behind_it = absurd cc
    on false w h behind_it = some w (bind_want (after_byte p b) (λ next. run_from ends next bytes >>= with_byte b) h) behind_it

-- ---- one character or more

pub record WordFound (ends : Ends) (bytes : List ℕ) (x : List ℕ × List ℕ) : Type 0 where
  pub some : 0 < length x.0
  pub run : RunFound ends Whole bytes x

not_empty_ok : (x y : List ℕ × List ℕ) → not_empty x ≡ Ok y → (x ≡ y) × (0 < length x.0)
not_empty_ok x y e = on (eqb (length x.0) 0) refl e
  where
    on : (v : Bool) → eqb (length x.0) 0 ≡ v → cond v (Err Malformed) (Ok x) ≡ Ok y → (x ≡ y) × (0 < length x.0)
    on true w h = absurd cc
    on false w h = (same_ok x y h, grind (arith, nat_tests))

pub word_ok : (ends : Ends) (bytes : List ℕ) (x : List ℕ × List ℕ) → EndsLow ends → word ends bytes ≡ Ok x → WordFound ends bytes x
word_ok ends bytes x low e =
    let b = bind_ok (run ends bytes) not_empty x e in
    let n = not_empty_ok b.mid x b.second in
    subst (WordFound ends bytes) n.0 (record { some = n.1; run = run_ok ends Whole bytes b.mid low tt b.first })

pub word_again : (ends : Ends) (text rest : List ℕ) → 0 < length text → Chars Whole text → AllPass (goes_on ends) text → EndsRun ends rest → word ends (text ++ rest) ≡ Ok (text, rest)
word_again ends text rest some chars within stops =
    let e : eqb (length text) 0 ≡ false = grind (arith, nat_tests) in
    bind_both (run ends (text ++ rest)) not_empty (text, rest) (text, rest) (run_again ends Whole text rest chars within stops) (rw e refl)

pub word_want : (ends : Ends) (bytes : List ℕ) → EndsLow ends → word ends bytes ≡ Err Want → Ending ends Whole bytes
word_want ends bytes low e = on (bind_want (run ends bytes) not_empty e)
  where
    full : (x : List ℕ × List ℕ) (v : Bool) → cond v (Err Malformed) (Ok x) ≡ Err Want → ⊥
    full x true h = cc
    full x false h = cc

    on : Wanting (run ends bytes) not_empty → Ending ends Whole bytes
    on (at_first h) = run_want ends Whole bytes low tt h
    on (behind x h k) = absurd (full x (eqb (length x.0) 0) k)
