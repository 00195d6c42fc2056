-- What a dialer tells: what was dialled, and the links that came back.
use Rattle.std.specs.Prelude.{ℕ, List, Bool}
-- the links that came back
pub use Rattle.ob_io.specs.Visits.{Visit, IsVisit}

-- a dial: the host, the port, and whether it failed
pub record Dial : Type 0 where
  pub host : List ℕ
  pub port : ℕ
  pub failed : Bool
