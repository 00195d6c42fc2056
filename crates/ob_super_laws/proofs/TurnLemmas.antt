-- Who has turns in a round.
use Rattle.std.proofs.Common.{◌≡◌, ◌⊎◌, ℕ, zero, suc, true, false, List, [], ◌∷◌, Some, refl, sym, ap, subst, ◌∙◌, true≢false, inl, inr}
use Rattle.std.proofs.lemmas.Bool.{and_parts}
use Rattle.ob_io.specs.Dials.{Dial, Visit}
use Rattle.ob_super.specs.Upstreams.{Upstream}
use Rattle.ob_super.specs.Turns.{Standing, Down, Up, is_up}
use Rattle.ob_super.specs.Dialling.{Past, State, states_of, next_place, dialled}
use Rattle.ob_super.specs.Rounds.{Asks, AsksAll, IsDialled, DialsAll, Rounds}
use Rattle.ob_super.proofs.RoundLemmas.{first_next, behind_next, place_next}
use Rattle.ob_super_laws.specs.Laws.{AllOf, HasTurns, TakesTurns}

-- ---- those that are dialled

-- it is as it was, and so is what is kept of it; or it waited, and was dialled
abbrev One : ℕ → Upstream → (x y : State) → (s t : Standing) → Type 0
One number u x y s t = ((t ≡ s) × (y ≡ x)) ⊎ ((x.waits ≡ true) × HasTurns u s t × (y ≡ dialled number t))

abbrev head_of : List State → State
head_of [] = record { waits = false; failed = 0 }
head_of (x ∷ xs) = x

abbrev tail_of : List State → List State
tail_of [] = []
tail_of (x ∷ xs) = xs

abbrev Each : ℕ → List Upstream → (xs ys : List State) → (ss ts : List Standing) → Type 0
Each number (u ∷ us) xs ys (s ∷ ss) (t ∷ ts) = One number u (head_of xs) (head_of ys) s t × Each number us (tail_of xs) (tail_of ys) ss ts
Each number _ _ _ _ _ = Unit {0}

each_same : (number : ℕ) (us : List Upstream) (xs : List State) (ss : List Standing) → Each number us xs xs ss ss
each_same number [] xs ss = tt
each_same number (u ∷ us) xs [] = tt
each_same number (u ∷ us) xs (s ∷ ss) = (inl (refl, refl), each_same number us (tail_of xs) ss)

-- one that was dialled isn't dialled again
once : (number : ℕ) (u : Upstream) (x y z : State) (s t w : Standing) → x.waits ≡ true → HasTurns u s t → y ≡ dialled number t → One number u y z t w → One number u x z s w
once number u x y z s t w waits turns kept one = elim one [
  | inl (same, still) ↦ inr (waits, subst (λ (v : Standing). HasTurns u s v) (sym same) turns, still ∙ kept ∙ ap (dialled number) (sym same))
  | inr (again, others, noted) ↦ absurd (true≢false (sym again ∙ ap (λ (v : State). v.waits) kept))
]

is_one : (Told : Type 0) (number place : ℕ) (us : List Upstream) (xs ys zs : List State) (ss ts ws : List Standing) (ds : List Dial) (vs : List Visit) → next_place xs ≡ Some place
    → IsDialled Told true number place us xs ss ys ts ds vs → Each number us ys zs ts ws → Each number us xs zs ss ws
is_one Told number zero [] xs ys zs ss ts ws ds vs next d rest = tt
is_one Told number zero (u ∷ us) [] ys zs ss ts ws ds vs next d rest = absurd d
is_one Told number zero (u ∷ us) (x ∷ xs) ys zs [] ts ws ds vs next d rest = tt
is_one Told number zero (u ∷ us) (x ∷ xs) [] zs (s ∷ ss) ts ws ds vs next d rest = absurd d
is_one Told number zero (u ∷ us) (x ∷ xs) (y ∷ ys) zs (s ∷ ss) [] ws ds vs next d rest = absurd d
is_one Told number zero (u ∷ us) (x ∷ xs) (y ∷ ys) zs (s ∷ ss) (t ∷ ts) [] ds vs next d rest = tt
is_one Told number zero (u ∷ us) (x ∷ xs) (y ∷ ys) zs (s ∷ ss) (t ∷ ts) (w ∷ ws) ds vs next (p, kept, others, same) (one, rest) = (
  once number u x y (head_of zs) s t w (and_parts x.waits _ (first_next _ (next_place xs) next)).0 (p.turns, p.are, p.new_is) kept one,
  subst (λ (v : List State). Each number us v (tail_of zs) ss ws) others (subst (λ (v : List Standing). Each number us ys (tail_of zs) v ws) same rest),
)
is_one Told number (suc place) [] xs ys zs ss ts ws ds vs next d rest = tt
is_one Told number (suc place) (u ∷ us) [] ys zs ss ts ws ds vs next d rest = absurd d
is_one Told number (suc place) (u ∷ us) (x ∷ xs) ys zs [] ts ws ds vs next d rest = tt
is_one Told number (suc place) (u ∷ us) (x ∷ xs) [] zs (s ∷ ss) ts ws ds vs next d rest = absurd d
is_one Told number (suc place) (u ∷ us) (x ∷ xs) (y ∷ ys) zs (s ∷ ss) [] ws ds vs next d rest = absurd d
is_one Told number (suc place) (u ∷ us) (x ∷ xs) (y ∷ ys) zs (s ∷ ss) (t ∷ ts) [] ds vs next d rest = tt
is_one Told number (suc place) (u ∷ us) (x ∷ xs) (y ∷ ys) zs (s ∷ ss) (t ∷ ts) (w ∷ ws) ds vs next (kept, same, d) (one, rest) = (
  subst (λ (v : State). One number u v (head_of zs) s w) kept (subst (λ (v : Standing). One number u y (head_of zs) v w) same one),
  is_one Told number place us xs ys (tail_of zs) ss ts ws ds vs (behind_next place _ (next_place xs) next) d rest,
)

all_ones : (Told : Type 0) (number : ℕ) (us : List Upstream) (places : List ℕ) (xs ys : List State) (ss ts : List Standing) (ds : List Dial) (vs : List Visit)
    → DialsAll Told true number us places xs ss ys ts ds vs → Each number us xs ys ss ts
all_ones Told number us [] xs ys ss ts ds vs (next, kept, same, none, nothing) =
    subst (λ (v : List State). Each number us xs v ss ts) (sym kept) (subst (λ (v : List Standing). Each number us xs xs ss v) (sym same) (each_same number us xs ss))
all_ones Told number us (place ∷ places) xs ys ss ts ds vs (mid, mids, d, e, v, w, dials, visits, next, first, rest) =
    is_one Told number place us xs mid ys ss mids ts d v (place_next number place xs next) first (all_ones Told number us places mid ys mids ts e w rest)

-- ---- none waits that is up before the round

abbrev OnlyDown : List Standing → List State → Type 0
OnlyDown [] xs = Unit {0}
OnlyDown (s ∷ ss) xs = ((head_of xs).waits ≡ true → is_up s ≡ false) × OnlyDown ss (tail_of xs)

none_wait : (ss : List Standing) → OnlyDown ss []
none_wait [] = tt
none_wait (s ∷ ss) = (λ e. absurd (true≢false (sym e)), none_wait ss)

only_down : (ss : List Standing) (fs : List ℕ) → OnlyDown ss (states_of ss fs)
only_down [] fs = tt
only_down (s ∷ ss) [] = none_wait (s ∷ ss)
only_down (Down ∷ ss) (f ∷ fs) = (λ e. refl, only_down ss fs)
only_down (Up calls ∷ ss) (f ∷ fs) = (λ e. absurd (true≢false (sym e)), only_down ss fs)

-- ---- both

takes : (Told : Type 0) (number : ℕ) (u : Upstream) (x y : State) (s t w : Standing) (vs : List Visit) → Asks Told u s t vs → (x.waits ≡ true → is_up s ≡ false) → One number u x y t w → TakesTurns u s w
takes Told number u x y Down t w vs (down, none) only one = elim one [
  | inl (same, kept) ↦ inl (same ∙ down)
  | inr (waits, turns, kept) ↦ inr (subst (λ (v : Standing). HasTurns u v w) down turns)
]
takes Told number u x y (Up calls) t w vs p only one = elim one [
  | inl (same, kept) ↦ (p.turns, p.are, same ∙ p.new_is)
  | inr (waits, turns, kept) ↦ absurd (true≢false (only waits))
]

each_takes : (Told : Type 0) (number : ℕ) (us : List Upstream) (xs ys : List State) (olds mids news : List Standing) (vs : List Visit) → AsksAll Told us olds mids vs → OnlyDown olds xs
    → Each number us xs ys mids news → AllOf TakesTurns us olds news
each_takes Told number [] xs ys olds mids news vs asks only each = tt
each_takes Told number (u ∷ us) xs ys [] mids news vs asks only each = tt
each_takes Told number (u ∷ us) xs ys (o ∷ olds) mids [] vs asks only each = tt
each_takes Told number (u ∷ us) xs ys (o ∷ olds) [] (n ∷ news) vs asks only each = absurd asks
each_takes Told number (u ∷ us) xs ys (o ∷ olds) (m ∷ mids) (n ∷ news) vs (v, w, both, first, rest) (only, others) (one, each) = (
  takes Told number u (head_of xs) (head_of ys) o m n v first only one,
  each_takes Told number us (tail_of xs) (tail_of ys) olds mids news w rest others each,
)

pub turns : (Told : Type 0) (us : List Upstream) (past past' : Past) (olds news : List Standing) (ds : List Dial) (vs : List Visit) → Rounds Told us past past' olds news ds vs → AllOf TakesTurns us olds news
turns Told us past past' olds news ds vs r =
    each_takes Told past'.rounds us (states_of olds past.fails) r.round.left olds r.round.asked news r.round.back_asked r.round.asks (only_down olds past.fails)
    (all_ones Told past'.rounds us r.round.places (states_of olds past.fails) r.round.left r.round.asked news ds r.round.back_dialled r.round.dialling)
