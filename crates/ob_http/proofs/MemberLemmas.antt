-- Lemmas on the parts of a list between its commas.
use Rattle.std.proofs.Common.{◌≡◌, ℕ, suc, ◌+◌, ◌<◌, Bool, true, false, not, ◌||◌, ◌==◌, List, [], ◌∷◌, length, take, drop, refl, sym, ap, ◌∙◌, arith, one-add, add-one, ◌-◌, take_all, length-drop, Some, None, position, cond, subst, unwrap_or, nat_lt, ◌≤◌}
use Rattle.std.proofs.lemmas.Bool.{ltb-true, ltb-false}
use Rattle.std.proofs.Math.Bool.{or-false}
use Rattle.std.specs.List.{list_any, prefix_len, position_or_len}
use Rattle.std.specs.Str.{str_eq_ignore_ascii_case}
use Rattle.httparse.specs.Grammar.{trim_ows}
use Rattle.ob_http.specs.Fields.{begin_with, list_members, has_word}

abbrev plain : ℕ → Bool
plain b = not (b == 44)

length_cons : (b : ℕ) (bs : List ℕ) → length (b ∷ bs) ≡ length bs + 1
length_cons b bs = sym (add-one (length bs))

-- the first part ends at the first comma
pub members_cut : (xs : List ℕ) → prefix_len plain xs < length xs
    → list_members xs ≡ take (prefix_len plain xs) xs ∷ list_members (drop (prefix_len plain xs + 1) xs)
members_cut [] inside = absurd (omega arith)
members_cut (b ∷ bs) inside = by_test (members_cut bs) inside (b == 44) refl
  where
    by_test : (prefix_len plain bs < length bs → list_members bs ≡ take (prefix_len plain bs) bs ∷ list_members (drop (prefix_len plain bs + 1) bs))
        → prefix_len plain (b ∷ bs) < length (b ∷ bs) → (t : Bool) → (b == 44) ≡ t
        → list_members (b ∷ bs) ≡ take (prefix_len plain (b ∷ bs)) (b ∷ bs) ∷ list_members (drop (prefix_len plain (b ∷ bs) + 1) (b ∷ bs))
    by_test later room true comma = rw comma refl
    by_test later room false other =
        let n = prefix_len plain bs in
        let here : 1 + n < length (b ∷ bs) = rw other at room in
        let short : n < length bs = omega (arith, length_cons b bs) in
        let one : 1 + n ≡ suc n = one-add n in
        let next : 1 + n + 1 ≡ suc (n + 1) = omega arith in
        rw (other, next, one) (ap (begin_with b) (later short))

-- with no comma there is one part
pub members_whole : (xs : List ℕ) → prefix_len plain xs ≡ length xs → list_members xs ≡ xs ∷ []
members_whole [] none = refl
members_whole (b ∷ bs) none = by_test (members_whole bs) none (b == 44) refl
  where
    by_test : (prefix_len plain bs ≡ length bs → list_members bs ≡ bs ∷ []) → prefix_len plain (b ∷ bs) ≡ length (b ∷ bs)
        → (t : Bool) → (b == 44) ≡ t → list_members (b ∷ bs) ≡ (b ∷ bs) ∷ []
    by_test later all true comma =
        let zero_long : 0 ≡ length (b ∷ bs) = rw comma at all in
        absurd (omega (arith, length_cons b bs))
    by_test later all false other =
        let here : 1 + prefix_len plain bs ≡ length (b ∷ bs) = rw other at all in
        rw other (ap (begin_with b) (later (omega (arith, length_cons b bs))))

abbrev pub test : List ℕ → List ℕ → Bool
test word part = str_eq_ignore_ascii_case (trim_ows part) word

prefix_len_le : (p : ℕ → Bool) (xs : List ℕ) → prefix_len p xs ≤ length xs
prefix_len_le p [] = omega arith
prefix_len_le p (x ∷ xs) = by_test (prefix_len_le p xs) (p x)
  where
    by_test : prefix_len p xs ≤ length xs → (t : Bool) → cond t (1 + prefix_len p xs) 0 ≤ length (x ∷ xs)
    by_test later true = omega (arith, length_cons x xs)
    by_test later false = omega arith

pub some_is : {X : Type 0} (t : Bool) (a b : X) → cond t (Some a) None ≡ Some b → (t ≡ true) × (a ≡ b)
some_is true a b same = (refl, cc)
some_is false a b same = absurd (cc)

none_is : {X : Type 0} (t : Bool) (a : X) → cond t (Some a) None ≡ None → t ≡ false
none_is true a same = absurd (cc)
none_is false a same = refl

-- one part read
pub has_word_cut : (word xs : List ℕ) (at : ℕ) → position (λ b. b == 44) xs ≡ Some at
    → has_word word xs ≡ (test word (take at xs) || has_word word (drop (at + 1) xs))
has_word_cut word xs at found =
    let (inside, place) = some_is (nat_lt (prefix_len plain xs) (length xs)) (prefix_len plain xs) at found in
    let cut = members_cut xs (ltb-true _ _ inside) in
    subst (λ n. has_word word xs ≡ (test word (take n xs) || has_word word (drop (n + 1) xs))) place
    (ap (list_any (λ member. test word member)) cut)

pub has_word_found : (word xs : List ℕ) (at : ℕ) → position (λ b. b == 44) xs ≡ Some at → test word (take at xs) ≡ true
    → has_word word xs ≡ true
has_word_found word xs at found is_word = has_word_cut word xs at found ∙ ap (λ b. b || has_word word (drop (at + 1) xs)) is_word

pub has_word_next : (word xs rest : List ℕ) (at : ℕ) → position (λ b. b == 44) xs ≡ Some at → test word (take at xs) ≡ false
    → rest ≡ take (length xs - (at + 1)) (drop (at + 1) xs) → has_word word xs ≡ has_word word rest
has_word_next word xs rest at found other same =
    has_word_cut word xs at found ∙ ap (λ b. b || has_word word (drop (at + 1) xs)) other
    ∙ ap (has_word word) (sym (same ∙ take_all _ _ (omega (arith, length-drop (at + 1) xs))))

-- the last part read
pub has_word_last : (word xs : List ℕ) → position (λ b. b == 44) xs ≡ None → has_word word xs ≡ test word xs
has_word_last word xs none =
    let past = none_is (nat_lt (prefix_len plain xs) (length xs)) (prefix_len plain xs) none in
    let all : prefix_len plain xs ≡ length xs = omega (arith, ltb-false _ _ past, prefix_len_le plain xs) in
    ap (list_any (λ member. test word member)) (members_whole xs all) ∙ or-false _

-- where the part before the first byte that passes ends
pub end_of_first : (p : ℕ → Bool) (xs : List ℕ) → unwrap_or (position p xs) (length xs) ≡ position_or_len p xs
end_of_first p xs = by_test (nat_lt (position_or_len p xs) (length xs)) refl
  where
    by_test : (t : Bool) → nat_lt (position_or_len p xs) (length xs) ≡ t
        → unwrap_or (cond t (Some (position_or_len p xs)) None) (length xs) ≡ position_or_len p xs
    by_test true inside = refl
    by_test false past = omega (arith, ltb-false _ _ past, prefix_len_le (λ x. not (p x)) xs)
