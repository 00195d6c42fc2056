-- A library whose contracts are made anew one after another.
use Rattle.std.proofs.Common.{◌≡◌, ℕ, zero, suc, ◌+◌, ◌≤◌, Bool, true, false, List, [], ◌∷◌, ◌++◌, length, take, drop, Some, None, refl, sym, ap, ap₂, ◌∙◌, append_assoc, arith, subst}
use Rattle.std.specs.Prelude.{slice_get}
use Rattle.ob_object.specs.Object.{Object, parts}
use Rattle.ob_contracts.specs.Inherit.{Contracts, result_of}
use Rattle.ob_contracts.specs.Standard.{with_added}
use Rattle.ob_contracts.specs.Renewing.{AreAlike, AreRenewedTo, AreTaken, Closed, NamesOnly, results, uris, with_contract}
use Rattle.ob_contracts.proofs.Renewed.{alike_kept, alike_made, few_parts, made_anew, stays}

append_none : {A : Type 0} (xs : List A) → xs ++ [] ≡ xs
append_none [] = refl
append_none (x ∷ xs) = ap (λ l. x ∷ l) (append_none xs)

take_more : (cs : Contracts) (i : ℕ) (c : List ℕ × Object) → slice_get cs i ≡ Some c → take (suc i) cs ≡ take i cs ++ c ∷ []
take_more [] i c e = absurd cc
take_more (x ∷ xs) zero c e = let same : x ≡ c = cc in ap (λ (y : List ℕ × Object). y ∷ []) same
take_more (x ∷ xs) (suc i) c e = ap (λ l. x ∷ l) (take_more xs i c e)

pub drop_here : (cs : Contracts) (i : ℕ) (c : List ℕ × Object) → slice_get cs i ≡ Some c → drop i cs ≡ c ∷ drop (suc i) cs
drop_here [] i c e = absurd cc
drop_here (x ∷ xs) zero c e = let same : x ≡ c = cc in ap (λ (y : List ℕ × Object). y ∷ xs) same
drop_here (x ∷ xs) (suc i) c e = drop_here xs i c e

take_whole : (cs : Contracts) → take (length cs) cs ≡ cs
take_whole [] = refl
take_whole (c ∷ cs) = ap (λ l. c ∷ l) (take_whole cs)

drop_whole : (cs : Contracts) (n : ℕ) → n ≡ length cs → drop n cs ≡ []
drop_whole [] zero e = refl
drop_whole [] (suc n) e = refl
drop_whole (c ∷ cs) zero e = absurd (omega (arith, e))
drop_whole (c ∷ cs) (suc n) e = drop_whole cs n (omega (arith, e))

-- a library with contracts added is itself, and then what these come to
pub added_results : (lib cs : Contracts) → with_added lib cs ≡ lib ++ results lib cs
added_results lib [] = sym (append_none lib)
added_results lib (c ∷ cs) =
    added_results (lib ++ (c.0, result_of lib c.1 None None) ∷ []) cs ∙ append_assoc lib ((c.0, result_of lib c.1 None None) ∷ []) _

added_more : (lib cs : Contracts) (c : List ℕ × Object) → with_added lib (cs ++ c ∷ []) ≡ with_added lib cs ++ (c.0, result_of (with_added lib cs) c.1 None None) ∷ []
added_more lib [] c = refl
added_more lib (d ∷ cs) c = added_more (lib ++ (d.0, result_of lib d.1 None None) ∷ []) cs c

-- in two parts
pub added_split : (lib cs : Contracts) (n : ℕ) → with_added lib cs ≡ with_added (with_added lib (take n cs)) (drop n cs)
added_split lib [] zero = refl
added_split lib [] (suc n) = refl
added_split lib (c ∷ cs) zero = refl
added_split lib (c ∷ cs) (suc n) = added_split (lib ++ (c.0, result_of lib c.1 None None) ∷ []) cs n

length_more : (lib : Contracts) (c : List ℕ × Object) → length (lib ++ c ∷ []) ≡ suc (length lib)
length_more [] c = refl
length_more (x ∷ xs) c = ap suc (length_more xs c)

pub length_added : (lib cs : Contracts) (i : ℕ) → i ≤ length cs → length (with_added lib (take i cs)) ≡ length lib + i
length_added lib [] zero h = omega arith
length_added lib [] (suc i) h = absurd (omega (arith, h))
length_added lib (c ∷ cs) zero h = omega arith
length_added lib (c ∷ cs) (suc i) h =
    omega (arith, length_added (lib ++ (c.0, result_of lib c.1 None None) ∷ []) cs i (omega (arith, h)), length_more lib (c.0, result_of lib c.1 None None))

pub uris_results : (lib cs : Contracts) → uris (results lib cs) ≡ uris cs
uris_results lib [] = refl
uris_results lib (c ∷ cs) = ap (λ l. c.0 ∷ l) (uris_results (lib ++ (c.0, result_of lib c.1 None None) ∷ []) cs)

pub drop_uris : (n : ℕ) (xs ys : Contracts) → uris xs ≡ uris ys → uris (drop n xs) ≡ uris (drop n ys)
drop_uris zero xs ys e = e
drop_uris (suc n) [] [] e = refl
drop_uris (suc n) [] (y ∷ ys) e = absurd cc
drop_uris (suc n) (x ∷ xs) [] e = absurd cc
drop_uris (suc n) (x ∷ xs) (y ∷ ys) e = let more : uris xs ≡ uris ys = cc in drop_uris n xs ys more

-- those behind a place are taken by the library that the ones before it make
pub taken_from : (lib cs : Contracts) (i : ℕ) → AreTaken lib cs → AreTaken (with_added lib (take i cs)) (drop i cs)
taken_from lib [] zero t = t
taken_from lib [] (suc i) t = t
taken_from lib (c ∷ cs) zero t = t
taken_from lib (c ∷ cs) (suc i) t = taken_from (lib ++ (c.0, result_of lib c.1 None None) ∷ []) cs i t.1

put_there : (lib rest : Contracts) (u : List ℕ) (o p : Object) (n : ℕ) → n ≡ length lib → with_contract n p (lib ++ (u, o) ∷ rest) ≡ lib ++ (u, p) ∷ rest
put_there [] rest u o p zero e = refl
put_there [] rest u o p (suc n) e = absurd (omega (arith, e))
put_there (c ∷ cs) rest u o p zero e = absurd (omega (arith, e))
put_there (c ∷ cs) rest u o p (suc n) e = ap (λ l. c ∷ l) (put_there cs rest u o p n (omega (arith, e)))

module _ (good : List ℕ → Bool) (base old new : Contracts) where
  -- before the first
  pub begins : (now : Contracts) → now ≡ with_added base old → Closed good base → AreRenewedTo good base old new 0 now
  begins now e c = record {
    alike = record { same = λ v g. refl; closed = c };
    stands = e ∙ added_results base old;
  }

  module _ (i : ℕ) (now : Contracts) (c d : List ℕ × Object) (h : AreRenewedTo good base old new i now) (at_old : slice_get old i ≡ Some c) (at_new : slice_get new i ≡ Some d) where
    abbrev was : Contracts
    was = with_added base (take i old)

    abbrev lib : Contracts
    lib = with_added base (take i new)

    was_more : with_added base (take (suc i) old) ≡ was ++ (c.0, result_of was c.1 None None) ∷ []
    was_more = ap (with_added base) (take_more old i c at_old) ∙ added_more base (take i old) c

    lib_more : with_added base (take (suc i) new) ≡ lib ++ (d.0, result_of lib d.1 None None) ∷ []
    lib_more = ap (with_added base) (take_more new i d at_new) ∙ added_more base (take i new) d

    abbrev rest : Contracts
    rest = results (was ++ (c.0, result_of was c.1 None None) ∷ []) (drop (suc i) old)

    held : results was (drop i old) ≡ (c.0, result_of was c.1 None None) ∷ rest
    held = ap (results was) (drop_here old i c at_old)

    rest_is : results (with_added base (take (suc i) old)) (drop (suc i) old) ≡ rest
    rest_is = ap (λ (l : Contracts). results l (drop (suc i) old)) was_more

    -- the contract of a word that is good stays
    pub stays_on : c ≡ d → NamesOnly good d.1 → AreRenewedTo good base old new (suc i) now
    stays_on same own = record {
      alike =
          subst (λ (l : Contracts). AreAlike good l (with_added base (take (suc i) new))) (sym was_more)
          (subst (AreAlike good (was ++ (c.0, result_of was c.1 None None) ∷ [])) (sym lib_more)
          (subst (λ (x : List ℕ × Object). AreAlike good (was ++ (x.0, result_of was x.1 None None) ∷ []) (lib ++ (d.0, result_of lib d.1 None None) ∷ [])) (sym same)
          (alike_kept good was lib d.0 d.1 h.alike own)));
      stands =
          h.stands
          ∙ ap (λ (l : Contracts). lib ++ l) held
          ∙ ap (λ (x : List ℕ × Object). lib ++ (x.0, result_of was x.1 None None) ∷ rest) same
          ∙ ap (λ (x : Object). lib ++ (d.0, x) ∷ rest) (sym (stays good was lib d.1 h.alike own))
          ∙ sym (append_assoc lib ((d.0, result_of lib d.1 None None) ∷ []) rest)
          ∙ ap₂ (λ (l r : Contracts). l ++ r) (sym lib_more) (sym rest_is);
    }

    module _ (within : i ≤ length new) (word : c.0 ≡ d.0) (taken : AreTaken base new) (words : uris old ≡ uris new) where
      abbrev behind : Contracts
      behind = (d.0, result_of was c.1 None None) ∷ rest

      stood : now ≡ lib ++ behind
      stood = h.stands ∙ ap (λ (l : Contracts). lib ++ l) (held ∙ ap (λ (u : List ℕ). (u, result_of was c.1 None None) ∷ rest) word)

      named : uris (d ∷ drop (suc i) new) ≡ uris behind
      named = ap (λ l. d.0 ∷ l) (sym (uris_results (was ++ (c.0, result_of was c.1 None None) ∷ []) (drop (suc i) old) ∙ drop_uris (suc i) old new words))

      those : AreTaken lib (d ∷ drop (suc i) new)
      those = subst (AreTaken lib) (drop_here new i d at_new) (taken_from base new i taken)

      comes : result_of (lib ++ behind) d.1 None None ≡ result_of lib d.1 None None
      comes = made_anew lib behind (drop (suc i) new) d those named

      -- and that of another one is made anew: it has as few parts as where it is added
      pub made_small : parts (result_of now d.1 None None) ≤ 512
      made_small = subst (λ (o : Object). parts o ≤ 512) (sym (ap (λ (l : Contracts). result_of l d.1 None None) stood ∙ comes)) (few_parts lib _ d.0 d.1 those.0)

      pub made_on : (place : ℕ) → place ≡ length base + i → good d.0 ≡ false → AreRenewedTo good base old new (suc i) (with_contract place (result_of now d.1 None None) now)
      made_on place at bad = record {
        alike =
            subst (λ (l : Contracts). AreAlike good l (with_added base (take (suc i) new))) (sym was_more)
            (subst (AreAlike good (was ++ (c.0, result_of was c.1 None None) ∷ [])) (sym lib_more)
            (subst (λ (u : List ℕ). AreAlike good (was ++ (u, result_of was c.1 None None) ∷ []) (lib ++ (d.0, result_of lib d.1 None None) ∷ [])) (sym word)
            (alike_made good was lib d.0 (result_of was c.1 None None) (result_of lib d.1 None None) h.alike bad)));
        stands =
            ap (λ (l : Contracts). with_contract place (result_of l d.1 None None) l) stood
            ∙ put_there lib rest d.0 (result_of was c.1 None None) (result_of (lib ++ behind) d.1 None None) place (at ∙ sym (length_added base new i within))
            ∙ ap (λ (x : Object). lib ++ (d.0, x) ∷ rest) comes
            ∙ sym (append_assoc lib ((d.0, result_of lib d.1 None None) ∷ []) rest)
            ∙ ap₂ (λ (l r : Contracts). l ++ r) (sym lib_more) (sym rest_is);
      }

  -- behind the last it is what the new own objects come to
  pub ends : (n : ℕ) (now : Contracts) → n ≡ length new → n ≡ length old → AreRenewedTo good base old new n now → now ≡ with_added base new
  ends n now e f h =
      h.stands
      ∙ ap (λ (l : Contracts). with_added base (take n new) ++ results (with_added base (take n old)) l) (drop_whole old n f)
      ∙ append_none (with_added base (take n new))
      ∙ ap (λ (m : ℕ). with_added base (take m new)) e
      ∙ ap (with_added base) (take_whole new)
