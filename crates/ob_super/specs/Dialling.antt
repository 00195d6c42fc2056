-- Which upstream is dialled next in a round.
use Rattle.std.specs.Prelude.{ℕ, suc, Bool, false, cond, not, ◌&&◌, ◌||◌, ◌==◌, nat_le, List, [], ◌∷◌, map, Option, Some, None, option_map}
use Rattle.std.specs.List.{list_all}
use Rattle.ob_io.specs.Visits.{raised}
use Rattle.ob_super.specs.Turns.{Standing, is_up}

-- What there was of rounds: how many, and for each upstream the number of the round in which its last dial left it down. The first round
-- has the number 1; 0 stands where the last dial brought the upstream up, and where it was never dialled. The numbers stop at the last
-- value of a u64.
pub record Past : Type 0 where
  pub rounds : ℕ
  pub fails : List ℕ

-- no rounds of so many upstreams
abbrev pub no_rounds : {A : Type 0} → List A → Past
no_rounds us = record { rounds = 0; fails = map (λ u. 0) us }

-- the number of the next round
abbrev pub number_of_next : Past → ℕ
number_of_next past = raised past.rounds 1

-- an upstream in a round: whether it waits for a dial, and the number of the round in which its last dial left it down
pub record State : Type 0 where
  pub waits : Bool
  pub failed : ℕ

-- at first those wait that are down before the round
abbrev pub states_of : List Standing → List ℕ → List State
states_of (s ∷ ss) (n ∷ ns) = record { waits = not (is_up s); failed = n } ∷ states_of ss ns
states_of _ _ = []

-- the other doesn't wait, or its last dial that failed was in no earlier round
abbrev pub is_no_sooner : State → State → Bool
is_no_sooner x other = not other.waits || nat_le x.failed other.failed

-- The first place, of those that wait, where the last dial that failed is the longest ago; before all come those whose last dial didn't
-- fail.
abbrev pub next_place : List State → Option ℕ
next_place [] = None
next_place (x ∷ xs) = cond (x.waits && list_all (is_no_sooner x) xs) (Some 0) (option_map suc (next_place xs))

-- none was left down by a dial of this round
abbrev pub none_failed : ℕ → List State → Bool
none_failed number xs = list_all (λ x. not (x.failed == number)) xs

-- Which place is dialled next in the round of this number. After the first round none is once a dial of the round left one down.
abbrev pub next_dial : ℕ → List State → Option ℕ
next_dial number xs = cond ((number == 1) || none_failed number xs) (next_place xs) None

-- one that a dial of the round of this number left so
abbrev pub dialled : ℕ → Standing → State
dialled number new = record { waits = false; failed = cond (is_up new) 0 number }
