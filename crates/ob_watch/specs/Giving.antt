-- Which watches give way.
use Rattle.std.specs.Prelude.{◌≡◌, ℕ, Bool, cond, not, ◌&&◌, nat_le, List, Option, None, Some}
use Rattle.std.specs.List.{filter}
use Rattle.ob_watch.specs.Tables.{Leased, is_idle, is_over}

-- the lease has not run out, and the last request lies at most a minute back
abbrev pub is_busy : ℕ → Leased → Bool
is_busy now w = not (is_over now w) && not (is_idle now w)

-- of a watch and others, by number and moment of the last request, the one whose request lies farther back
abbrev pub sooner : Option (ℕ × ℕ) → ℕ × ℕ → ℕ × ℕ
sooner None mine = mine
sooner (Some other) mine = cond (nat_le other.1 mine.1) other mine

-- the same, if the watch is idle
abbrev pub least_idle : ℕ → Option (ℕ × ℕ) → ℕ × Leased → Option (ℕ × ℕ)
least_idle now other e = cond (is_idle now e.1) (Some (sooner other (e.0, e.1.touched))) other

-- some of the watches, in their order
pub record IsPart (all some : List (ℕ × Leased)) : Type 0 where
  pub keeps : ℕ × Leased → Bool
  pub kept : some ≡ filter keeps all
