-- The arguments of a storm.
use Rattle.std.specs.Prelude.{ℕ, List, [], ◌∷◌, Option, Some, None, if◌then◌else◌}
use Rattle.ob_command.specs.Arguments.{Argument, operands, has_only}
use Rattle.ob_command.specs.Number.{number_between}

-- what the draws begin with; how many clients there are, and how many requests they make
pub record Storm : Type 0 where
  pub seed : ℕ
  pub clients : ℕ
  pub requests : ℕ

abbrev pub storm_from : (seed clients requests : Option ℕ) → Option Storm
storm_from (Some seed) (Some clients) (Some requests) = Some (record { seed = seed; clients = clients; requests = requests })
storm_from _ _ _ = None

abbrev pub storm_with : List (List ℕ) → Option Storm
storm_with (seed ∷ (clients ∷ (requests ∷ []))) =
    storm_from (number_between 0 999_999_999_999_999_999 seed) (number_between 1 100 clients) (number_between 1 1_000_000 requests)
storm_with _ = None

-- `SEED CLIENTS REQUESTS`
abbrev pub storm_of : List Argument → Option Storm
storm_of given = if has_only [] given then storm_with (operands given) else None
