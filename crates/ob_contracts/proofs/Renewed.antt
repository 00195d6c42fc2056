-- Contracts that are made anew, and those that stay, in a library of which one has another own object.
use Rattle.std.proofs.Common.{◌≡◌, ℕ, suc, ◌≤◌, Bool, true, false, ◌||◌, cond, List, [], ◌∷◌, ◌++◌, map, Option, Some, None, option_map, refl, sym, ap, ◌∙◌, true≢false, subst}
use Rattle.std.specs.Prelude.{find, is_some, nat_lt, option_and_then, Result}
use Rattle.std.specs.declared.result.Result.TheVariants.{Ok, Err}
use Rattle.std.specs.Str.{bytes_eq}
use Rattle.std.proofs.lemmas.Bool.{ltb-false}
use Rattle.std.proofs.lemmas.Slice.Eq.{bytes_eq-Decides}
use Rattle.ob_values.proofs.Bools.{or_first, or_second}
use Rattle.ob_object.specs.Object.{Object, parts}
use Rattle.ob_contracts.specs.Adding.{names_word, library_names, added, is_among}
use Rattle.ob_contracts.specs.Inherit.{Contracts, contract_of, or_else, result_of}
use Rattle.ob_contracts.specs.declared.adding.LibFault.{LibFault}
use Rattle.ob_contracts.specs.Renewing.{AreAlike, AreTaken, MayName, NamesOnly, uris}
use Rattle.ob_contracts.proofs.Naming.{result_names, result_tells}
use Rattle.ob_contracts.proofs.Renewing.{same_result}

or_none : {A : Type 0} (o : Option A) → or_else o None ≡ o
or_none None = refl
or_none (Some x) = refl

first_or : (b : Bool) (c : List ℕ × Object) (both one : Option (List ℕ × Object)) (other : Option Object) → option_map (λ x. x.1) both ≡ or_else (option_map (λ x. x.1) one) other
    → option_map (λ (x : List ℕ × Object). x.1) (cond b (Some c) both) ≡ or_else (option_map (λ (x : List ℕ × Object). x.1) (cond b (Some c) one)) other
first_or true c both one other e = refl
first_or false c both one other e = e

-- the contract of a word in a library and what follows it
pub contract-append : (lib tail : Contracts) (w : List ℕ) → contract_of (lib ++ tail) w ≡ or_else (contract_of lib w) (contract_of tail w)
contract-append [] tail w = refl
contract-append (c ∷ cs) tail w =
    first_or (bytes_eq c.0 w) c (find (λ x. bytes_eq x.0 w) (cs ++ tail)) (find (λ x. bytes_eq x.0 w) cs) (contract_of tail w) (contract-append cs tail w)

names-append : (w : List ℕ) (lib tail : Contracts) → library_names w lib ≡ true → library_names w (lib ++ tail) ≡ true
names-append w [] tail e = absurd (true≢false (sym e))
names-append w (c ∷ cs) tail e = go (names_word w c.1) (names-append w cs tail) e
  where
    go : (b : Bool) → (library_names w cs ≡ true → library_names w (cs ++ tail) ≡ true) → (b || library_names w cs) ≡ true → (b || library_names w (cs ++ tail)) ≡ true
    go true more h = refl
    go false more h = more h

-- what stands last is of the library
names-last : (w u : List ℕ) (o : Object) (lib : Contracts) → names_word w o ≡ true → library_names w (lib ++ (u, o) ∷ []) ≡ true
names-last w u o [] e = or_first (names_word w o) false e
names-last w u o (c ∷ cs) e = or_second (names_word w c.1) (library_names w (cs ++ (u, o) ∷ [])) (names-last w u o cs e)

-- what a contract that is taken doesn't do
twice_fails : (twice later large : Bool) (lib new : Contracts) (x y z : LibFault) → cond twice (Err x) (cond later (Err y) (cond large (Err z) (Ok lib))) ≡ Ok new → twice ≡ false
twice_fails true later large lib new x y z is = absurd cc
twice_fails false later large lib new x y z is = refl

-- its word is new
pub new_word : (lib new : Contracts) (u : List ℕ) (o : Object) → added lib u o ≡ Ok new → is_some (contract_of lib u) ≡ false
new_word lib new u o is =
    twice_fails (is_some (contract_of lib u)) (names_word u o || library_names u lib) (nat_lt 512 (parts (result_of lib o None None))) (lib ++ (u, result_of lib o None None) ∷ []) new _ _ _ is

tests_fail : (twice later large : Bool) (lib new : Contracts) (x y z : LibFault) → cond twice (Err x) (cond later (Err y) (cond large (Err z) (Ok lib))) ≡ Ok new → later ≡ false
tests_fail true later large lib new x y z is = absurd cc
tests_fail false true large lib new x y z is = absurd cc
tests_fail false false large lib new x y z is = refl

large_fails : (twice later large : Bool) (lib new : Contracts) (x y z : LibFault) → cond twice (Err x) (cond later (Err y) (cond large (Err z) (Ok lib))) ≡ Ok new → large ≡ false
large_fails true later large lib new x y z is = absurd cc
large_fails false true large lib new x y z is = absurd cc
large_fails false false true lib new x y z is = absurd cc
large_fails false false false lib new x y z is = refl

-- it has at most 512 parts
pub few_parts : (lib new : Contracts) (u : List ℕ) (o : Object) → added lib u o ≡ Ok new → parts (result_of lib o None None) ≤ 512
few_parts lib new u o is =
    ltb-false 512 (parts (result_of lib o None None))
    (large_fails (is_some (contract_of lib u)) (names_word u o || library_names u lib) (nat_lt 512 (parts (result_of lib o None None))) (lib ++ (u, result_of lib o None None) ∷ []) new _ _ _ is)

none_of : (a b : Bool) → (a || b) ≡ false → (a ≡ false) × (b ≡ false)
none_of true b e = absurd (true≢false e)
none_of false b e = (refl, e)

-- neither it nor the library names its word
unnamed : (lib new : Contracts) (u : List ℕ) (o : Object) → added lib u o ≡ Ok new → (names_word u o ≡ false) × (library_names u lib ≡ false)
unnamed lib new u o is =
    none_of (names_word u o) (library_names u lib)
    (tests_fail (is_some (contract_of lib u)) (names_word u o || library_names u lib) (nat_lt 512 (parts (result_of lib o None None))) (lib ++ (u, result_of lib o None None) ∷ []) new _ _ _ is)

not_both : (b : Bool) → b ≡ true → b ≡ false → ⊥
not_both true e h = true≢false h
not_both false e h = true≢false (sym e)

-- no contract of a library, and so none of its words, is one of those that it takes
pub none_later : (lib cs : Contracts) → AreTaken lib cs → (w : List ℕ) → library_names w lib ≡ true → contract_of cs w ≡ None
none_later lib [] t w e = refl
none_later lib (c ∷ cs) t w e = go (none_later (lib ++ (c.0, result_of lib c.1 None None) ∷ []) cs t.1 w (names-append w lib ((c.0, result_of lib c.1 None None) ∷ []) e)) (bytes_eq c.0 w) refl
  where
    made : List ℕ × Object
    made = (c.0, result_of lib c.1 None None)

    go : contract_of cs w ≡ None → (b : Bool) → bytes_eq c.0 w ≡ b → option_map (λ (x : List ℕ × Object). x.1) (cond b (Some c) (find (λ x. bytes_eq x.0 w) cs)) ≡ None
    go more true is =
        let same : c.0 ≡ w = (bytes_eq-Decides c.0 w).0 is in
        absurd (not_both (library_names c.0 lib) (subst (λ (v : List ℕ). library_names v lib ≡ true) (sym same) e) ((unnamed lib (lib ++ made ∷ []) c.0 c.1 t.0).1))
    go more false is = more

-- nor does the result of a contract that is taken name its own word, or one behind it
pub none_behind : (lib cs : Contracts) (c : List ℕ × Object) → AreTaken lib (c ∷ cs) → (w : List ℕ) → names_word w (result_of lib c.1 None None) ≡ true → contract_of (c ∷ cs) w ≡ None
none_behind lib cs c t w e = go (bytes_eq c.0 w) refl
  where
    made : Object
    made = result_of lib c.1 None None

    free : (names_word c.0 c.1 ≡ false) × (library_names c.0 lib ≡ false)
    free = unnamed lib (lib ++ (c.0, made) ∷ []) c.0 c.1 t.0

    go : (b : Bool) → bytes_eq c.0 w ≡ b → option_map (λ (x : List ℕ × Object). x.1) (cond b (Some c) (find (λ x. bytes_eq x.0 w) cs)) ≡ None
    go true is =
        let same : c.0 ≡ w = (bytes_eq-Decides c.0 w).0 is in
        let own : names_word c.0 made ≡ true = subst (λ (v : List ℕ). names_word v made ≡ true) (sym same) e in
        let no : false ≡ true = result_tells c.0 false lib c.1 (λ h. absurd (not_both (library_names c.0 lib) h free.1)) (λ h. absurd (not_both (names_word c.0 c.1) h free.0)) own in
        absurd (true≢false (sym no))
    go false is = none_later (lib ++ (c.0, made) ∷ []) cs t.1 w (names-last w c.0 made lib e)

-- whether a word has a contract is told by the words alone
pub none_by_uris : (was now : Contracts) → uris was ≡ uris now → (w : List ℕ) → contract_of was w ≡ None → contract_of now w ≡ None
none_by_uris [] [] e w h = refl
none_by_uris [] (b ∷ now) e w h = absurd cc
none_by_uris (a ∷ was) [] e w h = absurd cc
none_by_uris (a ∷ was) (b ∷ now) e w h = go (none_by_uris was now rest w) (bytes_eq a.0 w) (ap (λ (v : List ℕ). bytes_eq v w) (sym first)) h
  where
    first : a.0 ≡ b.0
    first = cc

    rest : uris was ≡ uris now
    rest = cc

    go : (contract_of was w ≡ None → contract_of now w ≡ None) → (t : Bool) → bytes_eq b.0 w ≡ t → option_map (λ (x : List ℕ × Object). x.1) (cond t (Some a) (find (λ x. bytes_eq x.0 w) was)) ≡ None
        → option_map (λ (x : List ℕ × Object). x.1) (cond (bytes_eq b.0 w) (Some b) (find (λ x. bytes_eq x.0 w) now)) ≡ None
    go more true is none = absurd cc
    go more false is none = ap (λ (t : Bool). option_map (λ (x : List ℕ × Object). x.1) (cond t (Some b) (find (λ x. bytes_eq x.0 w) now))) is ∙ more none

-- A contract that is made anew where others stand behind it comes to what it comes to where it stands last.
pub made_anew : (lib held cs : Contracts) (c : List ℕ × Object) → AreTaken lib (c ∷ cs) → uris (c ∷ cs) ≡ uris held → result_of (lib ++ held) c.1 None None ≡ result_of lib c.1 None None
made_anew lib held cs c t e =
    same_result lib (lib ++ held) c.1 None None (λ w h. absurd (true≢false (sym h)))
    (λ w h.
    contract-append lib held w
    ∙ ap (or_else (contract_of lib w)) (none_by_uris (c ∷ cs) held e w (none_behind lib cs c t w h))
    ∙ or_none (contract_of lib w))

-- A contract that names, of two libraries, words alone which name the same in both, stays as it is.
pub stays : (good : List ℕ → Bool) (was lib : Contracts) (o : Object) → AreAlike good was lib → NamesOnly good o → result_of lib o None None ≡ result_of was o None None
stays good was lib o a own =
    same_result was lib o None None (λ w h. absurd (true≢false (sym h))) (λ w h. a.same w (result_names good was o a.closed own w h))

none_more : (lib : Contracts) (u v : List ℕ) (o : Object) → bytes_eq u v ≡ false → contract_of (lib ++ (u, o) ∷ []) v ≡ contract_of lib v
none_more lib u v o e =
    contract-append lib ((u, o) ∷ []) v
    ∙ ap (λ (b : Bool). or_else (contract_of lib v) (option_map (λ (x : List ℕ × Object). x.1) (cond b (Some (u, o)) None))) e
    ∙ or_none (contract_of lib v)

may_or : (good : List ℕ → Bool) (o p : Option Object) → MayName good o → MayName good p → MayName good (or_else o p)
may_or good None p a b = b
may_or good (Some o) p a b = a

-- so the libraries stay alike with it
pub alike_kept : (good : List ℕ → Bool) (was lib : Contracts) (u : List ℕ) (o : Object) → AreAlike good was lib → NamesOnly good o
    → AreAlike good (was ++ (u, result_of was o None None) ∷ []) (lib ++ (u, result_of lib o None None) ∷ [])
alike_kept good was lib u o a own = record {
  same = λ v g.
      contract-append lib ((u, result_of lib o None None) ∷ []) v
      ∙ ap (λ (x : Option Object). or_else x (contract_of ((u, result_of lib o None None) ∷ []) v)) (a.same v g)
      ∙ ap (λ (x : Object). or_else (contract_of was v) (contract_of ((u, x) ∷ []) v)) (stays good was lib o a own)
      ∙ sym (contract-append was ((u, made) ∷ []) v);
  closed = λ v g.
      subst (MayName good) (sym (contract-append was ((u, made) ∷ []) v))
      (may_or good (contract_of was v) (contract_of ((u, made) ∷ []) v) (a.closed v g) (last v));
}
  where
    made : Object
    made = result_of was o None None

    last : (v : List ℕ) → MayName good (contract_of ((u, made) ∷ []) v)
    last v = elim (bytes_eq u v) as (λ b. MayName good (option_map (λ (x : List ℕ × Object). x.1) (cond b (Some (u, made)) None))) [ true ↦ result_names good was o a.closed own | false ↦ tt ]

-- and with one of another word, whatever it comes to
pub alike_made : (good : List ℕ → Bool) (was lib : Contracts) (u : List ℕ) (o p : Object) → AreAlike good was lib → good u ≡ false → AreAlike good (was ++ (u, o) ∷ []) (lib ++ (u, p) ∷ [])
alike_made good was lib u o p a bad = record {
  same = λ v g. none_more lib u v p (other v g) ∙ a.same v g ∙ sym (none_more was u v o (other v g));
  closed = λ v g. subst (MayName good) (sym (none_more was u v o (other v g))) (a.closed v g);
}
  where
    other : (v : List ℕ) → good v ≡ true → bytes_eq u v ≡ false
    other v g = go (bytes_eq u v) refl
      where
        go : (b : Bool) → bytes_eq u v ≡ b → bytes_eq u v ≡ false
        go true e = absurd (not_both (good v) g (ap good (sym ((bytes_eq-Decides u v).0 e)) ∙ bad))
        go false e = e
