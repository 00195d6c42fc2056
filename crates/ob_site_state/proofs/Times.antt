-- Records and the time.
use Rattle.std.proofs.Common.{◌≡◌, ℕ, zero, suc, ◌-◌, ◌≤◌, ◌≤ℤ◌, List, [], ◌∷◌, ◌++◌, length, take, Option, sym, ap, ◌∙◌, subst, arith}
use Rattle.std.proofs.lemmas.Int.{ints}
use Rattle.std.specs.Prelude.{slice_get}
use Rattle.circular_buffer.specs.Buffer.{last_item}
use Rattle.ob_times.specs.Times.{Instant, instant, moment_instant}
use Rattle.ob_history.specs.declared.records.Record.{Record}
use Rattle.ob_history.specs.Records.{Follows, MayFollow}
use Rattle.ob_site_rules.specs.Build.{Path}
use Rattle.ob_site_rules.specs.State.{Log}
use Rattle.ob_site_state.specs.Kept.{AreBy, LogsAreBy}

-- a later moment is a later instant
pub later_instant : (a b : ℕ) → a ≤ b → instant (moment_instant a) ≤ℤ instant (moment_instant b)
later_instant a b h = omega (arith, ints)

-- a record of the time may follow
pub now_follows : (time : ℕ) (rs : List Record) (r : Record) → r.time ≡ moment_instant time → AreBy time rs → MayFollow rs r
now_follows time [] r is by = tt
now_follows time (x ∷ []) r is by = subst (λ (t : Instant). instant x.time ≤ℤ instant t) (sym is) by.0
now_follows time (x ∷ y ∷ rs) r is by =
    let n : ℕ = length rs in
    let last : last_item (y ∷ rs) ≡ last_item (x ∷ y ∷ rs) =
    ap (slice_get (y ∷ rs)) (minus_one n) ∙ sym (ap (slice_get (x ∷ y ∷ rs)) (minus_one (suc n))) in
    subst (λ (o : Option Record). Follows o r) last (now_follows time (y ∷ rs) r is by.1)
  where
    minus_one : (n : ℕ) → suc n - 1 ≡ n
    minus_one n = omega arith

pub AreBy-more : (time : ℕ) (rs : List Record) (r : Record) → r.time ≡ moment_instant time → AreBy time rs → AreBy time (rs ++ r ∷ [])
AreBy-more time [] r is by = (subst (λ (t : Instant). instant t ≤ℤ instant (moment_instant time)) (sym is) (later_instant time time (omega arith)), tt)
AreBy-more time (x ∷ rs) r is by = (by.0, AreBy-more time rs r is by.1)

pub AreBy-take : (time : ℕ) (n : ℕ) (rs : List Record) → AreBy time rs → AreBy time (take n rs)
AreBy-take time zero rs by = tt
AreBy-take time (suc n) [] by = tt
AreBy-take time (suc n) (x ∷ rs) by = (by.0, AreBy-take time n rs by.1)

pub AreBy-later : (a b : ℕ) → a ≤ b → (rs : List Record) → AreBy a rs → AreBy b rs
AreBy-later a b h [] by = tt
AreBy-later a b h (x ∷ rs) by = (omega (arith, ints, later_instant a b h, by.0), AreBy-later a b h rs by.1)

pub LogsAreBy-later : (a b : ℕ) → a ≤ b → (ls : List (Path × Log)) → LogsAreBy a ls → LogsAreBy b ls
LogsAreBy-later a b h [] by = tt
LogsAreBy-later a b h (l ∷ ls) by = (AreBy-later a b h l.1.kept by.0, LogsAreBy-later a b h ls by.1)
