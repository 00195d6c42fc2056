-- Lists that go on being told.
use Rattle.std.proofs.Common.{◌≡◌, ℕ, ◌+◌, List, length, length-append, Option, Some, None, false, true, refl, ap, arith}
use Rattle.ob_io.specs.Told.{Gains, Lasts}

module _ {A : Type 0} where
  pub Lasts-none : (u : Option (List A)) → Lasts u 0 u
  Lasts-none None = tt
  Lasts-none (Some xs) = λ few. refl

  -- it goes on being told after these, and then after n more
  pub Lasts-then : (u v w : Option (List A)) (a : List A) (n : ℕ) → Gains u a v → Lasts u (length a) v → Lasts v n w → Lasts u (length a + n) w
  Lasts-then None v w a n gains x y = tt
  Lasts-then (Some xs) None w a n gains x y = λ few. absurd (let no : false ≡ true = x (omega (arith, few)) in cc)
  Lasts-then (Some xs) (Some ys) w a n gains x y = λ few. y (omega (arith, few, ap length gains, length-append xs a))
