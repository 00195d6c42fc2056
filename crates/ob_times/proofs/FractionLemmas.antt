-- The digits behind a second's point, as nanoseconds.
use Rattle.std.proofs.Common.{◌≡◌, ℕ, ◌-◌, ◌*◌, ◌^◌, ◌<◌, ◌≤◌, List, ◌∷◌, length, ap, ◌∙◌, arith}
use Rattle.std.proofs.lemmas.Nat.{mul-add-lt, mul-le}
use Rattle.ob_spelling.specs.Numeral.{AreDigits, IsNumeral, number, capped}
use Rattle.ob_spelling.proofs.NumberLemmas.{ten_pow_pos, ten_pow_split, number_below}
use Rattle.ob_times.specs.CivilText.{IsPlaces}

pub record PlacesRead (text : List ℕ) (read scale : ℕ) : Type 0 where
  pub is_places : IsPlaces text (read * scale)
  pub small : read * scale < 1_000_000_000
  pub read_small : read < 1_000_000_000
  pub scale_small : scale ≤ 1_000_000_000

pub below_billion : (ds : List ℕ) → AreDigits ds → length ds ≤ 9 → number ds * 10 ^ (9 - length ds) < 1_000_000_000
below_billion ds h few =
    let p = ten_pow_split (9 - length ds) 9 (omega arith) in
    let e : 9 - (9 - length ds) ≡ length ds = omega arith in
    let whole : 1_000_000_000 ≡ 10 ^ length ds * 10 ^ (9 - length ds) = p ∙ ap (λ (k : ℕ). 10 ^ k * 10 ^ (9 - length ds)) e in
    let below = mul-add-lt (number ds) (10 ^ (9 - length ds)) 0 (10 ^ length ds) (number_below ds h) (ten_pow_pos (9 - length ds)) in
    omega (arith, whole, below)

power_below : (k : ℕ) → k ≤ 9 → 10 ^ k ≤ 1_000_000_000
power_below k h =
    let p : 1_000_000_000 ≡ 10 ^ (9 - k) * 10 ^ k = ten_pow_split k 9 h in
    let more = mul-le 1 (10 ^ k) (10 ^ (9 - k)) (10 ^ k) (ten_pow_pos (9 - k)) (omega arith) in
    omega (arith, p, more)

times_one : (n p : ℕ) → 0 < p → n ≤ n * p
times_one n p h = let m = mul-le n 1 n p (omega arith) h in omega (arith, m)

pub places_read : (text ds : List ℕ) (read scale : ℕ) → text ≡ 46 ∷ ds → IsNumeral ds → length ds ≤ 9 → read ≡ capped (number ds) → scale ≡ 10 ^ (9 - length ds) → PlacesRead text read scale
places_read text ds read scale e h few r s =
    let below = below_billion ds h.1 few in
    let least = times_one (number ds) (10 ^ (9 - length ds)) (ten_pow_pos (9 - length ds)) in
    let exact : read ≡ number ds = omega (arith, below, least) in
    let product : read * scale ≡ number ds * 10 ^ (9 - length ds) = ap (λ (n : ℕ). n * scale) exact ∙ ap (λ (p : ℕ). number ds * p) s in
    let power = power_below (9 - length ds) (omega arith) in
    record {
      is_places = record { digits = ds; numeral = h; few = few; text_is = e; value = product };
      small = omega (arith, product, below);
      read_small = omega (arith, exact, below, least);
      scale_small = omega (arith, s, power);
    }

pub few_digits : (ds : List ℕ) → AreDigits ds → length ds ≤ 9 → number ds < 1_000_000_000
few_digits ds h few =
    let below = below_billion ds h few in
    let least = times_one (number ds) (10 ^ (9 - length ds)) (ten_pow_pos (9 - length ds)) in
    omega (arith, below, least)
