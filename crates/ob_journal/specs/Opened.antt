-- The devices that were opened.
use Rattle.std.specs.Prelude.{ℕ, List}

-- a device that was opened by its name, as it was then
pub record Opened (D : Type 0) : Type 0 where
  pub name : List ℕ
  pub device : D
