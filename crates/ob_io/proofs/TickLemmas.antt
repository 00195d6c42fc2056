-- The moments of a clock that goes by equal steps.
use Rattle.std.proofs.Common.{◌≡◌, ℕ, zero, suc, min, ◌+◌, ◌-◌, ◌<◌, ◌^◌, Bool, true, false, cond, List, [], ◌∷◌, ◌++◌, Option, Some, None, length, get_or, nat_lt, ◌≤◌, ◌⊎◌, inl, inr, refl, sym, ap, ◌∙◌, subst, arith, IfSome, IsSome}
use Rattle.std.proofs.lemmas.Bool.{ltb-true, lt-ltb, cases_lt}
use Rattle.std.proofs.lemmas.List.{get_or_append_left, get_or_push}
use Rattle.ob_io.specs.Told.{Gains}
use Rattle.ob_io.specs.Ticks.{ticks, tick_at, told_ticks, length-ticks, Pace, KeepsPace, AreFirstOf}

pub ticks-suc : (at tick k : ℕ) → ticks at tick (suc k) ≡ ticks at tick k ++ tick_at at tick k ∷ []
unfolding ticks
ticks-suc at tick k = refl

-- a clock that has given nothing tells so
pub told_none : (at tick : ℕ) → told_ticks at tick 0 ≡ Some []
unfolding ticks
told_none at tick = refl

pub told_new : (at tick : ℕ) → IfSome (told_ticks at tick 0) (λ moments. moments ≡ [])
unfolding ticks
told_new at tick = refl

-- the first k moments, where there is room to tell them
abbrev pub told : ℕ → ℕ → ℕ → Bool → Option (List ℕ)
told at tick k t = cond t (Some (ticks at tick k)) None

pub told_next : (at tick k k' moment : ℕ) (s t : Bool) → (t ≡ true → (k' ≡ suc k) × (s ≡ true)) → moment ≡ tick_at at tick k
    → Gains (told at tick k s) (moment ∷ []) (told at tick k' t)
told_next at tick k k' moment s false next is = tt
told_next at tick k k' moment true true next is =
    ap (ticks at tick) (next refl).0 ∙ ticks-suc at tick k ∙ ap (λ (m : ℕ). ticks at tick k ++ m ∷ []) (sym is)
told_next at tick k k' moment false true next is = absurd (let no : false ≡ true = (next refl).1 in cc)

pub told_on : (at tick k k' : ℕ) (s t : Bool) → (k + 1 < 2 ^ 64 - 1 → t ≡ true)
    → IfSome (told at tick k s) (λ moments. length moments + 1 < 2 ^ 64 - 1 → IsSome (told at tick k' t))
told_on at tick k k' false t next = tt
told_on at tick k k' true true next = λ few. refl
told_on at tick k k' true false next = λ few. absurd (let no : false ≡ true = next (omega (arith, length-ticks at tick k, few)) in cc)

counts : (k k' : ℕ) → k' ≡ min (k + 1) (2 ^ 64 - 1) → nat_lt k' 18446744073709551615 ≡ true
    → (k' ≡ suc k) × (nat_lt k 18446744073709551615 ≡ true)
counts k k' n few =
    let less : k' < 18446744073709551615 = ltb-true _ _ few in (omega (arith, n, less), lt-ltb _ _ (omega (arith, n, less)))

-- a step tells one moment more
pub told_step : (at tick k at' tick' k' moment : ℕ) → (at' ≡ at) × (tick' ≡ tick) → k' ≡ min (k + 1) (2 ^ 64 - 1) → moment ≡ tick_at at tick k
    → Gains (told_ticks at tick k) (moment ∷ []) (told_ticks at' tick' k')
told_step at tick k at' tick' k' moment same n is =
    let told' : told_ticks at tick k' ≡ told_ticks at' tick' k' = (λ i. told_ticks (sym same.0 i) (sym same.1 i) k') in
    subst (λ (t : Option (List ℕ)). Gains (told_ticks at tick k) (moment ∷ []) t) told'
    (told_next at tick k k' moment (nat_lt k 18446744073709551615) (nat_lt k' 18446744073709551615) (counts k k' n) is)

-- and goes on telling them
pub told_lasts : (at tick k at' tick' k' : ℕ) → (at' ≡ at) × (tick' ≡ tick) → k' ≡ min (k + 1) (2 ^ 64 - 1)
    → IfSome (told_ticks at tick k) (λ moments. length moments + 1 < 2 ^ 64 - 1 → IsSome (told_ticks at' tick' k'))
told_lasts at tick k at' tick' k' same n =
    let told' : told_ticks at tick k' ≡ told_ticks at' tick' k' = (λ i. told_ticks (sym same.0 i) (sym same.1 i) k') in
    subst (λ (t : Option (List ℕ)). IfSome (told_ticks at tick k) (λ moments. length moments + 1 < 2 ^ 64 - 1 → IsSome t)) told'
    (told_on at tick k k' (nat_lt k 18446744073709551615) (nat_lt k' 18446744073709551615) (λ few. lt-ltb _ _ (omega (arith, n, few))))

get-last : (at tick k i d : ℕ) → i < suc k → (i < k → get_or (ticks at tick k) i d ≡ tick_at at tick i) → (i < k) ⊎ (k ≤ i)
    → get_or (ticks at tick k ++ tick_at at tick k ∷ []) i d ≡ tick_at at tick i
get-last at tick k i d less before (inl few) =
    get_or_append_left (ticks at tick k) (tick_at at tick k ∷ []) d i (omega (arith, length-ticks at tick k, few)) ∙ before few
get-last at tick k i d less before (inr last) =
    get_or_push (ticks at tick k) (tick_at at tick k) d i (omega (arith, length-ticks at tick k, less, last)) ∙ ap (tick_at at tick) (omega (arith, less, last))

-- the moment after i others
pub get-ticks : (at tick k i d : ℕ) → i < k → get_or (ticks at tick k) i d ≡ tick_at at tick i
get-ticks at tick zero i d less = absurd (omega (arith, less))
get-ticks at tick (suc k) i d less =
    ap (λ (t : List ℕ). get_or t i d) (ticks-suc at tick k)
    ∙ get-last at tick k i d less (λ few. get-ticks at tick k i d few) (cases_lt i k)

-- of a clock that was new, each moment is the one of its place
pub gives_each : (pace : Option Pace) (given : Option (List ℕ)) (moments : List ℕ) → KeepsPace pace given → Gains (Some []) moments given → IsSome given
    → IfSome pace (λ p. (i d : ℕ) → i < length moments → get_or moments i d ≡ tick_at p.at p.tick i)
gives_each None given moments keeps gains some = tt
gives_each (Some p) None moments keeps gains some = absurd (let no : false ≡ true = some in cc)
gives_each (Some p) (Some xs) moments keeps gains some = λ i d less.
    let first : moments ≡ ticks p.at p.tick (length moments) = subst (λ (t : List ℕ). AreFirstOf p t) gains keeps in
    ap (λ (t : List ℕ). get_or t i d) first ∙ get-ticks p.at p.tick (length moments) i d less
