-- Who is dialled in a round.
use Rattle.std.proofs.Common.{◌≡◌, ℕ, zero, suc, ◌<◌, ◌≤◌, ◌+◌, ◌-◌, ◌^◌, Bool, true, false, cond, List, [], ◌∷◌, map, Some, None, refl, sym, ap, ◌∙◌, true≢false, arith}
use Rattle.std.specs.Prelude.{◌||◌, ◌==◌, not, nat_lt, min}
use Rattle.std.specs.List.{list_all}
use Rattle.std.proofs.lemmas.Bool.{and_parts, and_from, ltb-true, ne_eqb}
use Rattle.ob_io.specs.Dials.{Dial, Visit}
use Rattle.ob_super.specs.Upstreams.{Upstream}
use Rattle.ob_super.specs.Turns.{Standing}
use Rattle.ob_super.specs.Dialling.{Past, State, states_of, next_place, none_failed, next_dial}
use Rattle.ob_super.specs.Rounds.{IsDialled, DialsAll, Rounds}
use Rattle.ob_super_laws.specs.Laws.{count_number}

abbrev one_if : Bool → ℕ
one_if b = cond b 1 0

most_one : (b : Bool) → one_if b ≤ 1
most_one true = omega (arith)
most_one false = omega (arith)

abbrev numbers : List State → List ℕ
numbers xs = map (λ (x : State). x.failed) xs

abbrev count : ℕ → List State → ℕ
count number xs = count_number number (numbers xs)

none_counted : (number : ℕ) (xs : List State) → none_failed number xs ≡ true → count number xs ≡ 0
none_counted number [] e = refl
none_counted number (x ∷ xs) e =
    let p = and_parts (not (x.failed == number)) (none_failed number xs) e in
    omega (arith, of (x.failed == number) p.0, none_counted number xs p.1)
  where
    of : (b : Bool) → not b ≡ true → one_if b ≡ 0
    of true e = absurd (true≢false (sym e))
    of false e = refl

-- a dial adds one at most
one_more : (Told : Type 0) (number place : ℕ) (us : List Upstream) (xs ys : List State) (ss ts : List Standing) (ds : List Dial) (vs : List Visit)
    → IsDialled Told true number place us xs ss ys ts ds vs → count number ys ≤ 1 + count number xs
one_more Told number zero [] xs ys ss ts ds vs d = absurd d
one_more Told number zero (u ∷ us) [] ys ss ts ds vs d = absurd d
one_more Told number zero (u ∷ us) (x ∷ xs) ys [] ts ds vs d = absurd d
one_more Told number zero (u ∷ us) (x ∷ xs) [] (s ∷ ss) ts ds vs d = absurd d
one_more Told number zero (u ∷ us) (x ∷ xs) (y ∷ ys) (s ∷ ss) [] ds vs d = absurd d
one_more Told number zero (u ∷ us) (x ∷ xs) (y ∷ ys) (s ∷ ss) (t ∷ ts) ds vs (p, kept, others, same) =
    omega (arith, most_one (y.failed == number), ap (count number) others)
one_more Told number (suc place) [] xs ys ss ts ds vs d = absurd d
one_more Told number (suc place) (u ∷ us) [] ys ss ts ds vs d = absurd d
one_more Told number (suc place) (u ∷ us) (x ∷ xs) ys [] ts ds vs d = absurd d
one_more Told number (suc place) (u ∷ us) (x ∷ xs) [] (s ∷ ss) ts ds vs d = absurd d
one_more Told number (suc place) (u ∷ us) (x ∷ xs) (y ∷ ys) (s ∷ ss) [] ds vs d = absurd d
one_more Told number (suc place) (u ∷ us) (x ∷ xs) (y ∷ ys) (s ∷ ss) (t ∷ ts) ds vs (kept, same, d) =
    let more = one_more Told number place us xs ys ss ts ds vs d in
    omega (arith, ap (λ (v : State). one_if (v.failed == number)) kept, more)

-- where one is dialled after the first round, none was left down by a dial of the round
none_yet : (number place : ℕ) (xs : List State) → (number == 1) ≡ false → next_dial number xs ≡ Some place → none_failed number xs ≡ true
none_yet number place xs first next = of (none_failed number xs) (sym (ap (λ (b : Bool). cond (b || none_failed number xs) (next_place xs) None) first) ∙ next)
  where
    of : (b : Bool) → cond b (next_place xs) None ≡ Some place → b ≡ true
    of true e = refl
    of false e = absurd (let x : None ≡ Some place = e in cc)

few : (Told : Type 0) (number : ℕ) (us : List Upstream) (places : List ℕ) (xs ys : List State) (ss ts : List Standing) (ds : List Dial) (vs : List Visit) → (number == 1) ≡ false
    → DialsAll Told true number us places xs ss ys ts ds vs → count number xs ≤ 1 → count number ys ≤ 1
few Told number us [] xs ys ss ts ds vs first (next, kept, same, none, nothing) most = omega (arith, ap (count number) kept, most)
few Told number us (place ∷ places) xs ys ss ts ds vs first (mid, mids, d, e, v, w, dials, visits, next, one, rest) most =
    let none = none_counted number xs (none_yet number place xs first next) in
    let more = one_more Told number place us xs mid ss mids d v one in
    few Told number us places mid ys mids ts e w first rest (omega (arith, none, more))

-- no round before had this number
none_before : (number : ℕ) (ss : List Standing) (fs : List ℕ) → list_all (λ (n : ℕ). nat_lt n number) fs ≡ true → none_failed number (states_of ss fs) ≡ true
none_before number [] fs e = refl
none_before number (s ∷ ss) [] e = refl
none_before number (s ∷ ss) (f ∷ fs) e =
    let p = and_parts (nat_lt f number) (list_all (λ (n : ℕ). nat_lt n number) fs) e in
    and_from _ _ (ap not (ne_eqb f number (λ (x : f ≡ number). let y : ⊥ = omega (arith, x, ltb-true f number p.0) in y))) (none_before number ss fs p.1)

pub one_down : (Told : Type 0) (us : List Upstream) (past past' : Past) (olds news : List Standing) (ds : List Dial) (vs : List Visit) → Rounds Told us past past' olds news ds vs
    → 0 < past.rounds → list_all (λ (n : ℕ). nat_lt n past'.rounds) past.fails ≡ true → count_number past'.rounds past'.fails ≤ 1
one_down Told us past past' olds news ds vs r some before =
    let most = few Told past'.rounds us r.round.places (states_of olds past.fails) r.round.left r.round.asked news ds r.round.back_dialled first r.round.dialling (omega (arith, none)) in
    omega (arith, most, ap (count_number past'.rounds) r.round.fails_are)
  where
    number_is : past'.rounds ≡ min (past.rounds + 1) (2 ^ 64 - 1)
    number_is = r.number_is

    first : (past'.rounds == 1) ≡ false
    first = ne_eqb past'.rounds 1 (λ (e : past'.rounds ≡ 1). let x : ⊥ = omega (arith, e, number_is, some) in x)

    none : count past'.rounds (states_of olds past.fails) ≡ 0
    none = none_counted past'.rounds (states_of olds past.fails) (none_before past'.rounds olds past.fails before)
