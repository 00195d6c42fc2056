-- What an object is, contract by contract.
use Rattle.std.proofs.Common.{◌≡◌, ℕ, suc, ◌<◌, Bool, true, false, ◌||◌, ◌&&◌, cond, List, [], ◌∷◌, ◌++◌, take, length, get_or, refl, sym, ap, ◌∙◌, arith}
use Rattle.std.specs.Prelude.{reverse}
use Rattle.std.proofs.Math.Seq.{take-suc}
use Rattle.std.proofs.lemmas.List.{reverse-append, take_all}
use Rattle.ob_values.proofs.Bools.{or_false, or_true}
use Rattle.ob_object.specs.Object.{Object}
use Rattle.ob_contracts.specs.Inherit.{Contracts, Words, words_in}
use Rattle.ob_contracts.specs.Adding.{is_among}
use Rattle.ob_contracts.specs.Ancestry.{is_one}

spread : (a b m n x : Bool) → ((a || b) || ((m || n) && x)) ≡ ((a || (m && x)) || (b || (n && x)))
spread true b m n x = refl
spread false true true n true = refl
spread false true true n false = refl
spread false true false n x = refl
spread false false true n true = refl
spread false false true true false = refl
spread false false true false false = refl
spread false false false n x = refl

-- By contracts of which the latest stands first, and words that are known by a test: one of the words is the one
-- asked for, or names a contract that is one by its own words.
abbrev pub is_one_of : Contracts → (List ℕ → Bool) → List ℕ → Bool
is_one_of [] known asked = known asked
is_one_of (latest ∷ earlier) known asked =
    is_one_of earlier known asked || (known latest.0 && is_one earlier (words_in latest.1.head.is) asked)

-- the test whether a word is among some
of_words : (cs : Contracts) (ws : Words) (asked : List ℕ) → is_one_of cs (λ w. is_among w ws) asked ≡ is_one cs ws asked
of_words [] ws asked = refl
of_words (c ∷ cs) ws asked = ap (λ b. b || (is_among c.0 ws && is_one cs (words_in c.1.head.is) asked)) (of_words cs ws asked)

same_test : (cs : Contracts) (M N : List ℕ → Bool) → ((w : List ℕ) → M w ≡ N w) → (asked : List ℕ) → is_one_of cs M asked ≡ is_one_of cs N asked
same_test [] M N e asked = e asked
same_test (c ∷ cs) M N e asked =
    let x = is_one cs (words_in c.1.head.is) asked in
    ap (λ b. b || (M c.0 && x)) (same_test cs M N e asked) ∙ ap (λ b. is_one_of cs N asked || (b && x)) (e c.0)

-- words that pass either test
both : (cs : Contracts) (M : List ℕ → Bool) (ws : Words) (asked : List ℕ) → is_one_of cs (λ w. M w || is_among w ws) asked ≡ (is_one_of cs M asked || is_one cs ws asked)
both [] M ws asked = refl
both (c ∷ cs) M ws asked =
    let x = is_one cs (words_in c.1.head.is) asked in
    ap (λ b. b || ((M c.0 || is_among c.0 ws) && x)) (both cs M ws asked)
    ∙ spread (is_one_of cs M asked) (is_one cs ws asked) (M c.0) (is_among c.0 ws) x

-- before the first contract the words are known that are asked about
pub kin_begun : (cs : Contracts) (ws : Words) (known : List ℕ → Bool) (asked : List ℕ) → ((w : List ℕ) → known w ≡ is_among w ws)
    → is_one_of (reverse (take (length cs) cs)) known asked ≡ is_one (reverse cs) ws asked
kin_begun cs ws known asked put =
    ap (λ l. is_one_of (reverse l) known asked) (take_all (length cs) cs (omega arith))
    ∙ same_test (reverse cs) known (λ w. is_among w ws) put asked
    ∙ of_words (reverse cs) ws asked

-- the contracts up to a place, the one at it first
turned : (cs : Contracts) (i : ℕ) (c : List ℕ × Object) → i < length cs → c ≡ get_or cs i c → reverse (take (suc i) cs) ≡ c ∷ reverse (take i cs)
turned cs i c h is =
    ap reverse (take-suc cs i c h ∙ ap (λ x. take i cs ++ x ∷ []) (sym is)) ∙ reverse-append (take i cs) (c ∷ [])

-- one contract less, whose word isn't known
pub kin_past : (cs : Contracts) (i : ℕ) (c : List ℕ × Object) (known : List ℕ → Bool) (asked : List ℕ) → i < length cs → c ≡ get_or cs i c → known c.0 ≡ false
    → is_one_of (reverse (take i cs)) known asked ≡ is_one_of (reverse (take (suc i) cs)) known asked
kin_past cs i c known asked h is other =
    let earlier = reverse (take i cs) in
    let x = is_one earlier (words_in c.1.head.is) asked in
    sym (or_false (is_one_of earlier known asked))
    ∙ ap (λ b. is_one_of earlier known asked || (b && x)) (sym other)
    ∙ ap (λ l. is_one_of l known asked) (sym (turned cs i c h is))

-- and one whose word is known, when its own words were put to those that are known
pub kin_put : (cs : Contracts) (i : ℕ) (c : List ℕ × Object) (known more : List ℕ → Bool) (asked : List ℕ) → i < length cs → c ≡ get_or cs i c → known c.0 ≡ true
    → ((w : List ℕ) → more w ≡ (known w || is_among w (words_in c.1.head.is)))
    → is_one_of (reverse (take i cs)) more asked ≡ is_one_of (reverse (take (suc i) cs)) known asked
kin_put cs i c known more asked h is one put =
    let earlier = reverse (take i cs) in
    let ws = words_in c.1.head.is in
    same_test earlier more (λ w. known w || is_among w ws) put asked
    ∙ both earlier known ws asked
    ∙ ap (λ b. is_one_of earlier known asked || (b && is_one earlier ws asked)) (sym one)
    ∙ ap (λ l. is_one_of l known asked) (sym (turned cs i c h is))

-- one word more is there
pub put_or : (e m : Bool) → cond e true m ≡ (m || (e || false))
put_or true m = sym (or_true m)
put_or false m = sym (or_false m)
