-- The first of offences.
use Rattle.std.proofs.Common.{◌≡◌, ◌≤◌, ◌<◌, ◌==◌, zero, suc, Bool, true, false, cond, List, [], ◌∷◌, ◌++◌, Option, Some, None, find, refl, ap, ap₂, sym, ◌∙◌, subst, arith, ◌⊎◌, inl, inr}
use Rattle.std.specs.Prelude.{nat_lt}
use Rattle.std.specs.List.{Contains}
use Rattle.std.proofs.lemmas.Bool.Decides.{nat_tests}
use Rattle.ob_parts.specs.declared.offence.Offence.{Offence}
use Rattle.ob_parts.specs.Least.{first_of, earlier, least}
use Rattle.ob_parts.specs.Offences.{IsFirst}

-- of three the first is the same by either pair
first_assoc : {R : Type 0} (a b c : Offence R) → first_of (first_of a b) c ≡ first_of a (first_of b c)
first_assoc a b c = go (nat_lt b.part a.part) (nat_lt c.part b.part) (nat_lt c.part a.part) refl refl refl
  where
    go : (x y z : Bool) → nat_lt b.part a.part ≡ x → nat_lt c.part b.part ≡ y → nat_lt c.part a.part ≡ z
        → first_of (cond x b a) c ≡ first_of a (cond y c b)
    go true true z e f g = (let h : nat_lt c.part a.part ≡ true = grind (arith, nat_tests, e, f) in rw f (rw h refl))
    go true false z e f g = rw f (rw e refl)
    go false true z e f g = refl
    go false false z e f g = (let h : nat_lt c.part a.part ≡ false = grind (arith, nat_tests, e, f) in rw h (rw e refl))

pub earlier_assoc : {R : Type 0} (a b c : Option (Offence R)) → earlier (earlier a b) c ≡ earlier a (earlier b c)
earlier_assoc None b c = refl
earlier_assoc (Some a) None c = refl
earlier_assoc (Some a) (Some b) None = refl
earlier_assoc (Some a) (Some b) (Some c) = ap Some (first_assoc a b c)

pub earlier_none : {R : Type 0} (a : Option (Offence R)) → earlier a None ≡ a
earlier_none None = refl
earlier_none (Some a) = refl

pub least_append : {R : Type 0} (xs ys : List (Offence R)) → least (xs ++ ys) ≡ earlier (least xs) (least ys)
least_append [] ys = refl
least_append (x ∷ xs) ys = ap (earlier (Some x)) (least_append xs ys) ∙ sym (earlier_assoc (Some x) (least xs) (least ys))

-- the earlier of two first offences is the first of both lists
pub both : {R : Type 0} (a b : List (Offence R)) (x y r : Option (Offence R)) → r ≡ earlier x y → x ≡ least a → y ≡ least b → r ≡ least (a ++ b)
both a b x y r is p q = is ∙ (ap₂ earlier p q ∙ sym (least_append a b))

pub some_one : {A : Type 0} (a b : A) → Some a ≡ Some b → a ≡ b
some_one a b e = cc

-- where there is no first offence there is none
least_of : {R : Type 0} (x : Offence R) (o : Option (Offence R)) → earlier (Some x) o ≡ None → ⊥
least_of x None e = let f : Some x ≡ None = e in cc
least_of x (Some y) e = let f : Some (first_of x y) ≡ None = e in cc

pub least_none : {R : Type 0} (xs : List (Offence R)) → least xs ≡ None → xs ≡ []
least_none [] e = refl
least_none (x ∷ xs) e = absurd (least_of x (least xs) e)

first_or : {A : Type 0} (x y : A) (xs : List A) → Contains (x ∷ xs) y → (x ≡ y) ⊎ Contains xs y
first_or x y xs (zero, lt, is) = inl is
first_or x y xs (suc k, lt, is) = inr (k, omega (arith, lt), is)

-- one more in front of those whose first is known
least_more : {R : Type 0} (x : Offence R) (xs : List (Offence R)) (y n : Offence R) → IsFirst xs y → first_of x y ≡ n → IsFirst (x ∷ xs) n
least_more {R = R} x xs y n rest e = go (nat_lt y.part x.part) refl
  where
    go : (b : Bool) → nat_lt y.part x.part ≡ b → IsFirst (x ∷ xs) n
    go true lt =
        let same : y ≡ n = ap (λ (b : Bool). cond b y x) (sym lt) ∙ e in
        let below : y.part < x.part = grind (arith, nat_tests, lt) in
        let apart : (x.part == y.part) ≡ false = grind (arith, nat_tests, below) in
        subst (IsFirst (x ∷ xs)) same (record {
          least = λ o c. elim (first_or x o xs c) [
            | inl f ↦ subst (λ (q : Offence R). y.part ≤ q.part) f (omega (arith, below))
            | inr d ↦ rest.least o d
          ];
          told = ap (λ (b : Bool). cond b (Some x) (find (λ (o : Offence R). o.part == y.part) xs)) apart ∙ rest.told;
        })
    go false le =
        let same : x ≡ n = ap (λ (b : Bool). cond b y x) (sym le) ∙ e in
        let above : x.part ≤ y.part = grind (arith, nat_tests, le) in
        let own : (x.part == x.part) ≡ true = grind (arith, nat_tests) in
        subst (IsFirst (x ∷ xs)) same (record {
          least = λ o c. elim (first_or x o xs c) [
            | inl f ↦ subst (λ (q : Offence R). x.part ≤ q.part) f (omega arith)
            | inr d ↦ (let low = rest.least o d in omega (arith, above, low))
          ];
          told = ap (λ (b : Bool). cond b (Some x) (find (λ (o : Offence R). o.part == x.part) xs)) own;
        })

-- one more in front of none
least_alone : {R : Type 0} (x : Offence R) (xs : List (Offence R)) → xs ≡ [] → IsFirst (x ∷ xs) x
least_alone {R = R} x xs none =
    let own : (x.part == x.part) ≡ true = grind (arith, nat_tests) in
    record {
      least = λ o c. elim (first_or x o xs c) [
        | inl f ↦ subst (λ (q : Offence R). x.part ≤ q.part) f (omega arith)
        | inr d ↦ absurd (let e = subst (λ l. Contains l o) none d in omega (arith, e.1))
      ];
      told = ap (λ (b : Bool). cond b (Some x) (find (λ (o : Offence R). o.part == x.part) xs)) own;
    }

pub least_some : {R : Type 0} (xs : List (Offence R)) (n : Offence R) → least xs ≡ Some n → IsFirst xs n
least_some [] n e = absurd (let f : None ≡ Some n = e in cc)
least_some {R = R} (x ∷ xs) n e = go (least xs) refl e (λ y is. least_some xs y is)
  where
    go : (o : Option (Offence R)) → least xs ≡ o → earlier (Some x) o ≡ Some n → ((y : Offence R) → least xs ≡ Some y → IsFirst xs y) → IsFirst (x ∷ xs) n
    go None is f later = subst (IsFirst (x ∷ xs)) (some_one x n f) (least_alone x xs (least_none xs is))
    go (Some y) is f later = least_more x xs y n (later y is) (some_one (first_of x y) n f)

-- the same of four and of five lists
pub of_four : {R : Type 0} (a b c d : List (Offence R)) (x y z u v w r : Option (Offence R)) → r ≡ earlier x v → v ≡ earlier y w → w ≡ earlier z u → x ≡ least a → y ≡ least b → z ≡ least c → u ≡ least d → r ≡ least (a ++ (b ++ (c ++ d)))
of_four a b c d x y z u v w r is is_v is_w p q s t = both a (b ++ (c ++ d)) x v r is p (both b (c ++ d) y w v is_v q (both c d z u w is_w s t))

pub of_five : {R : Type 0} (a b c d e : List (Offence R)) (x y z u v k l m r : Option (Offence R)) → r ≡ earlier x k → k ≡ earlier y l → l ≡ earlier z m → m ≡ earlier u v
    → x ≡ least a → y ≡ least b → z ≡ least c → u ≡ least d → v ≡ least e → r ≡ least (a ++ (b ++ (c ++ (d ++ e))))
of_five a b c d e x y z u v k l m r is is_k is_l is_m p q s t o = both a (b ++ (c ++ (d ++ e))) x k r is p (of_four b c d e y z u v l m k is_k is_l is_m q s t o)
