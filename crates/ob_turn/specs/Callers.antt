-- The numbers of callers, and which entries of a history are whose.
use Rattle.std.specs.Prelude.{◌≡◌, ℕ, zero, suc, ◌+◌, ◌≤◌, ◌==◌, cond, List, [], ◌∷◌, ◌++◌}
use Rattle.std.specs.List.{filter}
use Rattle.ob_machine.specs.declared.call.Entry.{Entry}

-- the numbers below n
unfoldable pub numbers_below : ℕ → List ℕ
numbers_below zero = []
numbers_below (suc n) = numbers_below n ++ n ∷ []

-- h of each number, added up
abbrev pub weigh : (ℕ → ℕ) → List ℕ → ℕ
weigh h [] = 0
weigh h (n ∷ ns) = h n + weigh h ns

-- how often x stands in the list
abbrev pub times : ℕ → List ℕ → ℕ
times x ns = weigh (λ n. cond (n == x) 1 0) ns

-- each number of the first list stands in the second, at least as often
abbrev pub Among : List ℕ → List ℕ → Type 0
Among ns ms = (x : ℕ) → times x ns ≤ times x ms

-- a caller's own number is its first
abbrev pub own : List ℕ → ℕ
own [] = 0
own (n ∷ ns) = n

module _ {Q P : Type 0} where
  -- none of the entries has one of the numbers
  abbrev pub Strangers : List ℕ → List (Entry Q P) → Type 0
  Strangers ns [] = Unit {0}
  Strangers ns (e ∷ es) = (times e.caller ns ≡ 0) × Strangers ns es

  -- the entries of that number
  abbrev pub calls_of : ℕ → List (Entry Q P) → List (Entry Q P)
  calls_of n es = filter (λ e. e.caller == n) es

  -- the history is what was seen, and then entries of others
  pub record HasSeen (ns : List ℕ) (seen log : List (Entry Q P)) : Type 0 where
    pub rest : List (Entry Q P)
    pub is : seen ++ rest ≡ log
    pub others : Strangers ns rest
