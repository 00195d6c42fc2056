-- Characters up to the first of two bytes that stand together.
use Rattle.std.proofs.Common.{◌≡◌, ℕ, ◌<◌, ◌≤◌, Bool, true, false, ◌&&◌, cond, eqb, List, [], ◌∷◌, ◌++◌, Result, Ok, Err, refl, sym, ap, ◌∙◌, subst, append_assoc, arith}
use Rattle.std.proofs.lemmas.Bool.{eqb-true, eq-eqb}
use Rattle.std.proofs.lemmas.Bool.Decides.{nat_tests}
use Rattle.ob_values.proofs.Bools.{both_true}
use Rattle.ob_scan.specs.declared.stop.Stop.{Stop}
use Rattle.ob_scan.specs.declared.stop.Stop.TheVariants.{Want}
use Rattle.ob_scan.specs.declared.character.Progress.{Progress}
use Rattle.ob_scan.specs.declared.character.Progress.TheVariants.{Whole}
use Rattle.ob_scan.specs.Characters.{after_byte}
use Rattle.ob_scan.specs.Reading.{◌>>=◌, behind_pair_from, behind_pair}
use Rattle.ob_markup.specs.Characters.{HasNo}
use Rattle.ob_markup.proofs.Walks.{Chars, AreHigh, Fair, fair_next, chars_both, chars_before, low_at_whole, finish, never_wants}
use Rattle.ob_markup.proofs.Literals.{bind_ok, Wanting, at_first, behind, bind_want}
use Rattle.ob_markup.proofs.Runs.{same_ok}

-- the pair doesn't stand in the bytes, before which its first byte may stand
abbrev NoPair : ℕ → ℕ → Bool → List ℕ → Type 0
NoPair a b seen [] = Unit {0}
NoPair a b seen (x ∷ bytes) = (seen && eqb x b ≡ false) × NoPair a b (eqb x a) bytes

-- the last byte is the pair's first
abbrev ends_in : ℕ → Bool → List ℕ → Bool
ends_in a seen [] = seen
ends_in a seen (x ∷ bytes) = ends_in a (eqb x a) bytes

record PairFound (a b : ℕ) (seen : Bool) (p : Progress) (bytes rest : List ℕ) : Type 0 where
  body : List ℕ
  parts : bytes ≡ body ++ (b ∷ rest)
  chars : Chars p body
  apart : NoPair a b seen body
  last : ends_in a seen body ≡ true

-- a pair's first byte: it stands for itself
pub record Stands (a : ℕ) : Type 0 where
  pub low : a < 128
  pub alone : after_byte Whole a ≡ Ok Whole

same_next : (p q : Progress) (r : Result Progress Stop) → r ≡ Ok p → r ≡ Ok q → p ≡ q
same_next p q r e h = same_ok p q (sym e ∙ h)

whole_behind : (a x : ℕ) (p next : Progress) → Stands a → Fair p → after_byte p x ≡ Ok next → eqb x a ≡ true → next ≡ Whole
whole_behind a x p next s f e t =
    let same : x ≡ a = eqb-true x a t in
    let h : after_byte p a ≡ Ok next = ap (after_byte p) (sym same) ∙ e in
    let whole : p ≡ Whole = low_at_whole p a next f s.low h in
    same_next next Whole (after_byte p a) h (ap (λ (q : Progress). after_byte q a) whole ∙ s.alone)

pair_ok : (a b : ℕ) (seen : Bool) (p : Progress) (bytes rest : List ℕ) → Stands a → Fair p → (seen ≡ true → p ≡ Whole) → behind_pair_from a b seen p bytes ≡ Ok rest → PairFound a b seen p bytes rest
pair_ok a b seen p [] rest s f w e = absurd cc
pair_ok a b seen p (x ∷ bytes) rest s f w e = on (seen && eqb x b) refl e (λ next f v h. pair_ok a b (eqb x a) next bytes rest s f v h)
  where
    on : (v : Bool) → (seen && eqb x b) ≡ v → cond v (Ok bytes) (after_byte p x >>= λ next. behind_pair_from a b (eqb x a) next bytes) ≡ Ok rest
        → ((next : Progress) → Fair next → (eqb x a ≡ true → next ≡ Whole) → behind_pair_from a b (eqb x a) next bytes ≡ Ok rest → PairFound a b (eqb x a) next bytes rest) → PairFound a b seen p (x ∷ bytes) rest
    on true t h later =
        let both = both_true seen (eqb x b) t in
        let is_b : x ≡ b = eqb-true x b both.1 in
        let is_rest : bytes ≡ rest = same_ok bytes rest h in
        record {
          body = [];
          parts = ap (λ (y : ℕ). y ∷ bytes) is_b ∙ ap (λ (ys : List ℕ). b ∷ ys) is_rest;
          chars = w both.0;
          apart = tt;
          last = both.0;
        }
    on false t h later =
        let first = bind_ok (after_byte p x) (λ next. behind_pair_from a b (eqb x a) next bytes) rest h in
        let found = later first.mid (fair_next p x first.mid first.first) (λ u. whole_behind a x p first.mid s f first.first u) first.second in
        record {
          body = x ∷ found.body;
          parts = ap (λ (ys : List ℕ). x ∷ ys) found.parts;
          chars = (first.mid, first.first, found.chars);
          apart = (t, found.apart);
          last = found.last;
        }

pair_again : (a b : ℕ) (seen : Bool) (p : Progress) (body rest : List ℕ) → Chars p body → NoPair a b seen body → ends_in a seen body ≡ true → behind_pair_from a b seen p (body ++ (b ∷ rest)) ≡ Ok rest
pair_again a b seen p [] rest h n l = rw (l, eq-eqb b b refl) refl
pair_again a b seen p (x ∷ body) rest h n l = rw (n.0, h.1) (pair_again a b (eqb x a) h.0 body rest h.2 n.1 l)

-- ---- no pair stands in a text

no_pair_has_no : (a b : ℕ) (seen : Bool) (bytes front back : List ℕ) → NoPair a b seen bytes → bytes ≡ front ++ (a ∷ b ∷ back) → ⊥
no_pair_has_no a b seen [] [] back n e = cc
no_pair_has_no a b seen [] (y ∷ front) back n e = cc
no_pair_has_no a b seen (x ∷ []) [] back n e = cc
no_pair_has_no a b seen (x ∷ (y ∷ bytes)) [] back n e =
    let first : x ≡ a = cc in
    let second : y ≡ b = cc in
    let t : (eqb x a && eqb y b) ≡ true = rw (eq-eqb x a first, eq-eqb y b second) refl in
    let f : true ≡ false = sym t ∙ n.1.0 in
    cc
no_pair_has_no a b seen (x ∷ bytes) (y ∷ front) back n e =
    let later : bytes ≡ front ++ (a ∷ b ∷ back) = cc in
    no_pair_has_no a b (eqb x a) bytes front back n.1 later

pub has_no_behind : (part : List ℕ) (x : ℕ) (bytes : List ℕ) → HasNo part (x ∷ bytes) → HasNo part bytes
has_no_behind part x bytes h front back e = h (x ∷ front) back (ap (λ (ys : List ℕ). x ∷ ys) e)

has_no_pair : (a b : ℕ) (seen : Bool) (bytes : List ℕ) → HasNo (a ∷ b ∷ []) bytes → (seen ≡ true → HasNo (a ∷ b ∷ []) (a ∷ bytes)) → NoPair a b seen bytes
has_no_pair a b seen [] h k = tt
has_no_pair a b seen (x ∷ bytes) h k = (on (seen && eqb x b) refl, has_no_pair a b (eqb x a) bytes (has_no_behind (a ∷ b ∷ []) x bytes h) (λ t. at_a (eqb-true x a t)))
  where
    on : (v : Bool) → (seen && eqb x b) ≡ v → v ≡ false
    on false t = refl
    on true t =
        let both = both_true seen (eqb x b) t in
        let is_b : x ≡ b = eqb-true x b both.1 in
        absurd (k both.0 [] bytes (ap (λ (y : ℕ). a ∷ y ∷ bytes) is_b))

    at_a : x ≡ a → HasNo (a ∷ b ∷ []) (a ∷ bytes)
    at_a e = subst (λ (y : ℕ). HasNo (a ∷ b ∷ []) (y ∷ bytes)) e h

-- ---- from the front

-- the last byte of the bytes
record Last (a : ℕ) (bytes : List ℕ) : Type 0 where
  front : List ℕ
  parts : bytes ≡ front ++ (a ∷ [])

last_of : (a : ℕ) (x : ℕ) (bytes : List ℕ) → ends_in a (eqb x a) bytes ≡ true → Last a (x ∷ bytes)
last_of a x [] e = let same : x ≡ a = eqb-true x a e in record { front = []; parts = ap (λ (y : ℕ). y ∷ []) same }
last_of a x (y ∷ bytes) e =
    let later = last_of a y bytes e in
    record { front = x ∷ later.front; parts = ap (λ (ys : List ℕ). x ∷ ys) later.parts }

last_of_all : (a : ℕ) (bytes : List ℕ) → ends_in a false bytes ≡ true → Last a bytes
last_of_all a [] e = absurd cc
last_of_all a (x ∷ bytes) e = last_of a x bytes e

ends_at_last : (a : ℕ) (seen : Bool) (front : List ℕ) → ends_in a seen (front ++ (a ∷ [])) ≡ true
ends_at_last a seen [] = eq-eqb a a refl
ends_at_last a seen (x ∷ front) = ends_at_last a (eqb x a) front

-- the text before the first pair
pub record Before (a b : ℕ) (bytes rest : List ℕ) : Type 0 where
  pub text : List ℕ
  pub parts : bytes ≡ text ++ (a ∷ b ∷ rest)
  pub chars : Chars Whole text
  pub has_no : HasNo (a ∷ b ∷ []) (text ++ (a ∷ []))

never : (p : Progress) → false ≡ true → p ≡ Whole
never p e = absurd cc

pub behind_pair_ok : (a b : ℕ) (bytes rest : List ℕ) → Stands a → behind_pair a b bytes ≡ Ok rest → Before a b bytes rest
behind_pair_ok a b bytes rest s e =
    let found = pair_ok a b false Whole bytes rest s tt (never Whole) e in
    let last = last_of_all a found.body found.last in
    let chars : Chars Whole (last.front ++ (a ∷ [])) = subst (Chars Whole) last.parts found.chars in
    let apart : NoPair a b false (last.front ++ (a ∷ [])) = subst (NoPair a b false) last.parts found.apart in
    record {
      text = last.front;
      parts = found.parts ∙ ap (λ (ys : List ℕ). ys ++ (b ∷ rest)) last.parts ∙ append_assoc last.front (a ∷ []) (b ∷ rest);
      chars = chars_before Whole last.front a [] tt s.low chars;
      has_no = λ front back h. no_pair_has_no a b false (last.front ++ (a ∷ [])) front back apart h;
    }

pub behind_pair_again : (a b : ℕ) (text rest : List ℕ) → Stands a → Chars Whole text → HasNo (a ∷ b ∷ []) (text ++ (a ∷ [])) → behind_pair a b (text ++ (a ∷ b ∷ rest)) ≡ Ok rest
behind_pair_again a b text rest s chars h =
    let all : Chars Whole (text ++ (a ∷ [])) = chars_both Whole text (a ∷ []) chars (Whole, s.alone, refl) in
    let apart : NoPair a b false (text ++ (a ∷ [])) = has_no_pair a b false (text ++ (a ∷ [])) h (λ e. absurd cc) in
    ap (behind_pair a b) (sym (append_assoc text (a ∷ []) (b ∷ rest)))
    ∙ pair_again a b false Whole (text ++ (a ∷ [])) rest all apart (ends_at_last a false text)

-- ---- what wants bytes can go on to the pair

high_apart : (x b : ℕ) → b < 128 → 128 ≤ x → eqb x b ≡ false
high_apart x b low high = grind (arith, nat_tests)

behind_high : (a b : ℕ) (p : Progress) (bytes after : List ℕ) → Stands a → b < 128 → Chars p bytes → AreHigh bytes → behind_pair_from a b false p (bytes ++ (a ∷ b ∷ after)) ≡ Ok after
behind_high a b p [] after s low h k = rw (h, s.alone, eq-eqb a a refl, eq-eqb b b refl) refl
behind_high a b p (x ∷ bytes) after s low h k = rw (h.1, high_apart x a s.low k.0) (behind_high a b h.0 bytes after s low h.2 k.1)

append_assoc_three : (xs : List ℕ) (a b : ℕ) (after : List ℕ) → (xs ++ (a ∷ b ∷ [])) ++ after ≡ xs ++ (a ∷ b ∷ after)
append_assoc_three xs a b after = append_assoc xs (a ∷ b ∷ []) after

-- a tail, behind which what follows is left
pub record Completes (a b : ℕ) (seen : Bool) (p : Progress) (bytes : List ℕ) : Type 0 where
  pub tail : List ℕ
  pub left : (after : List ℕ) → behind_pair_from a b seen p (bytes ++ (tail ++ after)) ≡ Ok after

pub pair_want : (a b : ℕ) (seen : Bool) (p : Progress) (bytes : List ℕ) → Stands a → b < 128 → Fair p → behind_pair_from a b seen p bytes ≡ Err Want → Completes a b seen p bytes
pair_want a b true p [] s low f e = record { tail = b ∷ []; left = λ after. rw (eq-eqb b b refl) refl }
pair_want a b false p [] s low f e =
    let end = finish p f in
    record { tail = end.bytes ++ (a ∷ b ∷ []); left = λ after. ap (behind_pair_from a b false p) (append_assoc_three end.bytes a b after) ∙ behind_high a b p end.bytes after s low end.chars end.high }
pair_want a b seen p (x ∷ bytes) s low f e = on (seen && eqb x b) refl e (λ next f h. pair_want a b (eqb x a) next bytes s low f h)
  where
    last : (next : Progress) → after_byte p x ≡ Ok next → (seen && eqb x b) ≡ false → Completes a b (eqb x a) next bytes → Completes a b seen p (x ∷ bytes)
    last next n t later = record { tail = later.tail; left = λ after. rw (t, n) (later.left after) }

    some : (seen && eqb x b) ≡ false → Wanting (after_byte p x) (λ next. behind_pair_from a b (eqb x a) next bytes)
        → ((next : Progress) → Fair next → behind_pair_from a b (eqb x a) next bytes ≡ Err Want → Completes a b (eqb x a) next bytes) → Completes a b seen p (x ∷ bytes)
    some t (at_first h) later = absurd (never_wants p x h)
    some t (behind next h k) later = last next h t (later next (fair_next p x next h) k)

    on : (v : Bool) → (seen && eqb x b) ≡ v → cond v (Ok bytes) (after_byte p x >>= λ next. behind_pair_from a b (eqb x a) next bytes) ≡ Err Want
        → ((next : Progress) → Fair next → behind_pair_from a b (eqb x a) next bytes ≡ Err Want → Completes a b (eqb x a) next bytes) → Completes a b seen p (x ∷ bytes)
    on true t h later = absurd cc
    on false t h later = some t (bind_want (after_byte p x) (λ next. behind_pair_from a b (eqb x a) next bytes) h) later
