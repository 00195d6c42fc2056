-- The passes of callers that work side by side, and the history that they have made when they are joined.
use Rattle.std.specs.Prelude.{◌≡◌, ⊤, ℕ, ◌+◌, ◌<◌, ◌≤◌, List, [], ◌∷◌, map, length}
use Rattle.ob_machine.specs.declared.call.Entry.{Entry}
use Rattle.ob_machine.specs.History.{IsLegal}
use Rattle.ob_turn.specs.Callers.{numbers_below, weigh, times, own, calls_of, HasSeen}
use Rattle.ob_turn.specs.Standing.{Standing, mine}
use Rattle.ob_server.specs.Passes.{Continues}

module _ {Q P : Type 0} where
  -- the pass that a desk is opened with
  pub record IsFirst (p : Standing Q P) : Type 0 where
    pub numbers : p.numbers ≡ numbers_below 4294967296
    pub since : p.since ≡ 0
    pub seen : p.seen ≡ []

  -- h of each number of the passes, added up
  abbrev pub weigh_all : (ℕ → ℕ) → List (Standing Q P) → ℕ
  weigh_all h [] = 0
  weigh_all h (r ∷ rs) = weigh h r.numbers + weigh_all h rs

  -- the number under which each of the passes calls
  abbrev pub callers : List (Standing Q P) → List ℕ
  callers passes = map (λ r. own r.numbers) passes

  -- a pass that was split off from p: it has one number, has seen what p had, and has made no call
  pub record IsSplitOff (p r : Standing Q P) : Type 0 where
    pub one : length r.numbers ≡ 1
    pub same : r ≡ record p { numbers = r.numbers; since = length p.seen }

  abbrev pub AreSplitOff : Standing Q P → List (Standing Q P) → Type 0
  AreSplitOff p [] = ⊤
  AreSplitOff p (r ∷ rs) = IsSplitOff p r × AreSplitOff p rs

  -- These passes were split off from p, of which q is left, and together they have the numbers that p had.
  pub record AreSplit (p q : Standing Q P) (passes : List (Standing Q P)) : Type 0 where
    pub same : q ≡ record p { numbers = q.numbers }
    pub calls : mine q ≡ mine p
    pub each : AreSplitOff p passes
    pub numbers : (h : ℕ → ℕ) → weigh h q.numbers + weigh_all h passes ≡ weigh h p.numbers

  -- past what any of the passes has seen, the history has no entry of that pass's numbers
  abbrev pub HaveSeen : List (Standing Q P) → List (Entry Q P) → Type 0
  HaveSeen [] history = ⊤
  HaveSeen (r ∷ rs) history = HasSeen r.numbers r.seen history × HaveSeen rs history

  -- The history is made of the calls of these passes: those of each pass's number are its calls, in their order, no two
  -- passes have one number, and there are no other entries.
  abbrev pub HasCallsOf : List (Standing Q P) → List (Entry Q P) → Type 0
  HasCallsOf [] history = ⊤
  HasCallsOf (r ∷ rs) history = (calls_of (own r.numbers) history ≡ mine r) × HasCallsOf rs history

  abbrev pub AreAmong : List ℕ → List (Entry Q P) → Type 0
  AreAmong numbers [] = ⊤
  AreAmong numbers (e ∷ es) = (0 < times e.caller numbers) × AreAmong numbers es

  pub record IsMadeOf (passes : List (Standing Q P)) (history : List (Entry Q P)) : Type 0 where
    pub calls : HasCallsOf passes history
    pub apart : (x : ℕ) → times x (callers passes) ≤ 1
    pub no_others : AreAmong (callers passes) history

module _ {S Q P : Type 0} (act : S → Q → ℕ → S × P) (opening : S) where
  -- what each of the passes has seen is legal
  abbrev pub AreLegal : List (Standing Q P) → Type 0
  AreLegal [] = ⊤
  AreLegal (r ∷ rs) = IsLegal act opening r.seen × AreLegal rs

  -- each of the second passes is the one at its place of the first, later
  abbrev pub AllContinue : List (Standing Q P) → List (Standing Q P) → Type 0
  AllContinue [] [] = ⊤
  AllContinue [] (q ∷ qs) = ⊥
  AllContinue (p ∷ ps) [] = ⊥
  AllContinue (p ∷ ps) (q ∷ qs) = Continues act opening p q × AllContinue ps qs

  -- q is p, which was joined with these passes, and has seen what all of them had.
  pub record AreJoined (p : Standing Q P) (passes : List (Standing Q P)) (q : Standing Q P) : Type 0 where
    pub table : q.table ≡ p.table
    pub since : q.since ≡ p.since
    pub calls : mine q ≡ mine p
    pub numbers : (h : ℕ → ℕ) → weigh h q.numbers ≡ weigh h p.numbers + weigh_all h passes
    pub seen : HasSeen p.numbers p.seen q.seen
    pub each : HaveSeen passes q.seen
    pub legal : IsLegal act opening p.seen → AreLegal passes → IsLegal act opening q.seen

  -- All passes of a desk were joined: q has all shares, and has seen a legal history, which is made of their calls.
  pub record IsWhole (passes : List (Standing Q P)) (q : Standing Q P) : Type 0 where
    pub shares : length q.numbers ≡ 4294967296
    pub legal : IsLegal act opening q.seen
    pub made : IsMadeOf passes q.seen
