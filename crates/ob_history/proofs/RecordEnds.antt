-- The first and the last of records that stand in two lists.
use Rattle.std.proofs.Common.{◌≡◌, ℕ, suc, ◌-◌, List, [], ◌∷◌, ◌++◌, length, Option, option_map, refl, sym, ap, ◌∙◌, arith}
use Rattle.std.specs.Prelude.{slice_get}
use Rattle.std.specs.Option.{option_or}
use Rattle.circular_buffer.specs.Buffer.{last_item}
use Rattle.ob_times.specs.Times.{Instant}
use Rattle.ob_history.specs.declared.records.Record.{Record}

abbrev time_in : Option Record → Option Instant
time_in o = option_map (λ r. r.time) o

-- the first of the records in two lists is that of the first one, if it has one
pub first_of : (xs ys : List Record) → option_or (option_map (λ r. r.time) (slice_get xs 0)) (option_map (λ r. r.time) (slice_get ys 0)) ≡ option_map (λ r. r.time) (slice_get (xs ++ ys) 0)
first_of [] ys = refl
first_of (x ∷ xs) ys = refl

minus_one : (n : ℕ) → suc n - 1 ≡ n
minus_one n = omega arith

last_cons : (x y : Record) (rs : List Record) → last_item (x ∷ y ∷ rs) ≡ last_item (y ∷ rs)
last_cons x y rs =
    let n : ℕ = length rs in
    ap (slice_get (x ∷ y ∷ rs)) (minus_one (suc n)) ∙ sym (ap (slice_get (y ∷ rs)) (minus_one n))

last_behind : (xs : List Record) (y : Record) (ys : List Record) → last_item (xs ++ y ∷ ys) ≡ last_item (y ∷ ys)
last_behind [] y ys = refl
last_behind (x ∷ []) y ys = last_cons x y ys
last_behind (x ∷ z ∷ xs) y ys = last_cons x z (xs ++ y ∷ ys) ∙ last_behind (z ∷ xs) y ys

is_there : (y : Record) (ys : List Record) (b : Option Instant) → option_or (time_in (last_item (y ∷ ys))) b ≡ time_in (last_item (y ∷ ys))
is_there y [] b =
    ap (λ (n : ℕ). option_or (time_in (slice_get (y ∷ []) n)) b) (minus_one 0)
    ∙ sym (ap (λ (n : ℕ). time_in (slice_get (y ∷ []) n)) (minus_one 0))
is_there y (z ∷ zs) b =
    ap (λ (o : Option Record). option_or (time_in o) b) (last_cons y z zs)
    ∙ is_there z zs b
    ∙ sym (ap time_in (last_cons y z zs))

no_more : (xs : List Record) → xs ≡ xs ++ []
no_more [] = refl
no_more (x ∷ xs) = ap (λ (l : List Record). x ∷ l) (no_more xs)

-- and the last that of the second one
pub last_of : (xs ys : List Record) → option_or (option_map (λ r. r.time) (last_item ys)) (option_map (λ r. r.time) (last_item xs)) ≡ option_map (λ r. r.time) (last_item (xs ++ ys))
last_of xs [] = ap (λ (l : List Record). time_in (last_item l)) (no_more xs)
last_of xs (y ∷ ys) = is_there y ys (time_in (last_item xs)) ∙ ap time_in (sym (last_behind xs y ys))
