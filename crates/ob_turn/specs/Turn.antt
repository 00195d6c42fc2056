-- The rule of the turn, and what each step tells.
-- The word is 0 where no seat has the turn, and else 1 or 2. The one slot holds the machine; it is at home, or out with the seat that has the turn.
use Rattle.std.specs.Prelude.{◌≡◌, ℕ, ◌+◌, ◌<◌, ◌≤◌, ◌⊎◌, ◌==◌, Bool, true, false, cond, List, [], ◌∷◌, ◌++◌, length, take, drop, MatchBool, nat_lt}
use Rattle.std.specs.Prelude as std
use mathlib.Core.Option.{none, some}
use lib.ListN.{get_elem?}
use Rattle.atomic_table.specs.Table.{State, Me, Step, rest}
use Rattle.ob_machine.specs.declared.call.Entry.{Entry}
use Rattle.ob_turn.specs.declared.known.Known.{Known}
use Rattle.ob_turn.specs.declared.known.Past.{Past}
use Rattle.ob_turn.specs.Callers.{numbers_below, weigh, Among, Strangers, HasSeen}
use Rattle.ob_machine.specs.History.{after, IsLegal}

module _ {Q P : Type 0} where
  abbrev pub known : List ℕ → ℕ → List (Entry Q P) → Bool → List (Past Q P) → Known Q P
  known ns since seen turn pasts = record { numbers = ns; since = since; seen = seen; has_turn = turn; pasts = pasts }

  abbrev pub past : Known Q P → Past Q P
  past v = record { numbers = v.numbers; seen = v.seen }

  -- the weights of the numbers of all views
  abbrev pub weigh_all : (ℕ → ℕ) → List (Known Q P) → ℕ
  weigh_all h [] = 0
  weigh_all h (v ∷ vs) = weigh h v.numbers + weigh_all h vs

  -- each of the old histories was seen, under numbers that are among these
  abbrev pub AllSeen : List ℕ → List (Past Q P) → List (Entry Q P) → Type 0
  AllSeen ns [] log = Unit {0}
  AllSeen ns (p ∷ ps) log = Among p.numbers ns × HasSeen p.numbers p.seen log × AllSeen ns ps log

  pub record Agrees (log : List (Entry Q P)) (v : Known Q P) : Type 0 where
    pub seen : HasSeen v.numbers v.seen log
    pub pasts : AllSeen v.numbers v.pasts log
    pub at_turn : v.has_turn ≡ true → (v.pasts ≡ []) × (0 < length v.numbers)

  -- a view without its last numbers
  abbrev pub kept_view : ℕ → Known Q P → Known Q P
  kept_view kept v = known (take kept v.numbers) v.since v.seen v.has_turn v.pasts

  -- a view with these, which has made no call
  abbrev pub cut_view : ℕ → Known Q P → Known Q P
  cut_view kept v = known (drop kept v.numbers) (length v.seen) v.seen false []

  -- the longer of two histories
  abbrev pub longer : List (Entry Q P) → List (Entry Q P) → List (Entry Q P)
  longer xs ys = cond (nat_lt (length xs) (length ys)) ys xs

  -- two views in one, with the histories that they had seen
  abbrev pub both_views : Known Q P → Known Q P → Known Q P
  both_views v w = known (v.numbers ++ w.numbers) v.since (longer v.seen w.seen) v.has_turn (past v ∷ past w ∷ [])

  abbrev pub spent_view : Known Q P
  spent_view = known [] 0 [] false []

module _ {M Q P : Type 0} (act : M → Q → ℕ → M × P) where
  pub record AtHome (opening : M) (log : List (Entry Q P)) (s : State (std.Option M) (Known Q P)) : Type 0 where
    pub word : s.words ≡ 0 ∷ []
    pub machine : s.homes ≡ some (std.Some (after act opening log)) ∷ []
    pub nobody : (k : ℕ) (v : Known Q P) → get_elem? s.views k ≡ some v → v.has_turn ≡ false

  pub record Away (log : List (Entry Q P)) (s : State (std.Option M) (Known Q P)) : Type 0 where
    pub mark : ℕ
    pub taken : 0 < mark
    pub word : s.words ≡ mark ∷ []
    pub machine : s.homes ≡ none ∷ []
    pub holder : ℕ
    pub view : Known Q P
    pub there : get_elem? s.views holder ≡ some view
    pub turn : view.has_turn ≡ true
    pub seen : view.seen ≡ log
    pub only : (k : ℕ) (v : Known Q P) → get_elem? s.views k ≡ some v → v.has_turn ≡ true → k ≡ holder

  -- there is one legal history, of which each view has seen a beginning, and no caller's number is given twice
  pub record Kept (opening : M) (s : State (std.Option M) (Known Q P)) : Type 0 where
    pub log : List (Entry Q P)
    pub legal : IsLegal act opening log
    pub views : (k : ℕ) (v : Known Q P) → get_elem? s.views k ≡ some v → Agrees log v
    pub numbers : (h : ℕ → ℕ) → weigh_all h s.views ≡ weigh h (numbers_below 4294967296)
    pub turn : AtHome opening log s ⊎ Away log s

  -- the seat has the turn and the machine, which stands after all that it has seen
  pub record Took (opening : M) (me me' : Me (std.Option M) (Known Q P)) : Type 0 where
    pub between : List (Entry Q P)
    pub others : Strangers me.0.numbers between
    pub legal : IsLegal act opening (me.0.seen ++ between)
    pub now : me' ≡ (known me.0.numbers me.0.since (me.0.seen ++ between) true me.0.pasts, (0, std.Some (after act opening (me.0.seen ++ between))) ∷ me.1)

  -- o is the machine that the desk was opened with
  abbrev pub Takes : std.Option M → Step (std.Option M) → Me (std.Option M) (Known Q P) → ℕ → Me (std.Option M) (Known Q P) → Type 0
  Takes o st me found me' = MatchBool (found == 0) (std.IfSome o (λ opening. Took opening me me')) (me' ≡ me)

  -- the turn is over, the machine is at home, and these entries were added
  abbrev pub Ends : std.Option M → List (Entry Q P) → Step (std.Option M) → Me (std.Option M) (Known Q P) → ℕ → Me (std.Option M) (Known Q P) → Type 0
  Ends o es st me found me' = (me' ≡ (known me.0.numbers me.0.since (me.0.seen ++ es) false me.0.pasts, rest me.1)) × std.IfSome o (λ opening. IsLegal act opening (me.0.seen ++ es))

-- the history so far begins with what was seen, and with each of the old histories
pub record Saw {Q P : Type 0} (v : Known Q P) : Type 0 where
  pub log : List (Entry Q P)
  pub seen : HasSeen v.numbers v.seen log
  pub pasts : AllSeen v.numbers v.pasts log
  pub count : length v.numbers ≤ 4294967296

-- the old histories go
abbrev pub Looks : {S Q P : Type 0} → Step S → Me S (Known Q P) → ℕ → Me S (Known Q P) → Type 0
Looks st me found me' = (me' ≡ (known me.0.numbers me.0.since me.0.seen me.0.has_turn [], me.1)) × Saw me.0
