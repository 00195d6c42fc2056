-- The bodies of answers that refuse.
use Rattle.std.specs.Prelude.{ℕ, List, ◌++◌, codes}

-- the body of an answer that refuses for this reason
abbrev pub refusal_body : List ℕ → List ℕ
refusal_body why = codes "refused: " ++ (why ++ codes "\n")
