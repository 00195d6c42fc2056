-- What follows of a round, and of a PUT that was sent on.
use Rattle.std.specs.Prelude.{◌≡◌, ◌⊎◌, ◌<◌, ◌≤◌, ◌+◌, ◌&&◌, ◌||◌, ◌==◌, not, cond, nat_lt, ℕ, Bool, true, false, List, [], ◌∷◌, Option, Some, None, IsSome, Result}
use Rattle.std.specs.List.{list_all}
use Rattle.std.specs.declared.result.Result.TheVariants.{Ok}
use Rattle.std.specs.declared.alloc.AllocError.{AllocError}
use Rattle.ob_io.specs.Dials.{Dial, Visit}
use Rattle.ob_object.specs.Object.{Object}
use Rattle.ob_watching.specs.WatchOuts.{Text}
use Rattle.ob_asking.specs.declared.request.Request.{Request}
use Rattle.ob_asking.specs.declared.fault.Fault.{Fault}
use Rattle.ob_super.specs.Upstreams.{Upstream}
use Rattle.ob_super.specs.Calls.{Call, stage_of, said_in}
use Rattle.ob_super.specs.Turns.{Turn, Standing, Down, Up, is_up, after, ArePart}
use Rattle.ob_super.specs.Dialling.{Past}
use Rattle.ob_super.specs.Trees.{entry_at}
use Rattle.ob_super.specs.Links.{is_fault, IsBack, IsBroken}
use Rattle.ob_super.specs.Rounds.{host, dial, Part, Rounds, Puts, upstream_down}

-- ---- why an upstream is down

-- Behind these calls the link that came back ended so at a further request.
pub record EndedSo (Told : Type 0) (u : Upstream) (visits : List Visit) : Type 0 where
  pub calls : List Call
  pub request : Request
  pub fault : Fault
  pub visit : Visit
  pub is_fault : is_fault fault ≡ true
  pub back : visits ≡ visit ∷ []
  pub broken : Told → IsBroken (host u) (said_in u calls) request fault visit

-- The last of these calls was answered by an err, or by an object that lacks what is needed, and the link came back.
pub record LacksNeeded (Told : Type 0) (u : Upstream) (visits : List Visit) : Type 0 where
  pub calls : List Call
  pub visit : Visit
  pub leads_nowhere : stage_of u calls ≡ None
  pub back : visits ≡ visit ∷ []
  pub said : Told → IsBack (host u) (said_in u calls) visit

abbrev pub IsCause : Type 0 → Upstream → List Dial → List Visit → Type 0
IsCause Told u dials visits = (dials ≡ dial u true ∷ []) ⊎ (EndedSo Told u visits ⊎ LacksNeeded Told u visits)

-- `back` is what the dialer tells of the links that it has back.

-- An upstream is down after its part in a round only where the dial failed, or its own link came back for one of these.
abbrev pub DownHasCause : Type 0
DownHasCause =
    (back : Option (List Visit)) (u : Upstream) (old : Standing) (dials : List Dial) (visits : List Visit) → Part (IsSome back) u old Down dials visits
    → IsCause (IsSome back) u dials visits

-- ---- the err `upstream down`

-- an upstream that was up is down
abbrev pub goes_down : List Standing → List Standing → Bool
goes_down (old ∷ olds) (new ∷ news) = (is_up old && not (is_up new)) || goes_down olds news
goes_down _ _ = false

-- the reply is that err exactly where this holds
abbrev pub IsTold : Object → Bool → Type 0
IsTold reply down = ((reply ≡ upstream_down) → (down ≡ true)) × ((down ≡ true) → (reply ≡ upstream_down))

-- A PUT that went to an upstream is answered by that err exactly where the upstream goes down.
abbrev pub DownIsTold : Type 0
DownIsTold =
    (back : Option (List Visit)) (us : List Upstream) (olds news : List Standing) (path : Text) (body : Option Object) (visits : List Visit) (reply : Object)
    → Puts (IsSome back) us olds news path body visits (Ok (Some reply)) → IsTold reply (goes_down olds news)

-- ---- one upstream beside another

-- this holds of each upstream with its standing before and after
abbrev pub AllOf : (Upstream → Standing → Standing → Type 0) → List Upstream → List Standing → List Standing → Type 0
AllOf P (u ∷ us) (old ∷ olds) (new ∷ news) = P u old new × AllOf P us olds news
AllOf P _ _ _ = Unit {0}

-- it had the turns of a part, and these alone are what it comes to
abbrev pub HasTurns : Upstream → Standing → Standing → Type 0
HasTurns u old new = (turns : List Turn) × ArePart u old turns × (new ≡ after u old turns)

-- where it is up it had those of being asked; where it is down it had those of a dial, or is as it was
abbrev pub TakesTurns : Upstream → Standing → Standing → Type 0
TakesTurns u Down new = (new ≡ Down) ⊎ HasTurns u Down new
TakesTurns u (Up calls) new = HasTurns u (Up calls) new

-- In a round each upstream has turns once, but for those that are down and are left; what an upstream comes to is decided by no other's
-- turns.
abbrev pub EachHasTurns : Type 0
EachHasTurns =
    (back : Option (List Visit)) (us : List Upstream) (past past' : Past) (olds news : List Standing) (dials : List Dial) (visits : List Visit) → Rounds (IsSome back) us past past' olds news dials visits
    → AllOf TakesTurns us olds news

-- ---- who is dialled

-- how often a number is among these
abbrev pub count_number : ℕ → List ℕ → ℕ
count_number number [] = 0
count_number number (n ∷ ns) = cond (n == number) 1 0 + count_number number ns

-- After the first round at most one upstream is left down by a dial of a round.
abbrev pub OneStaysDown : Type 0
OneStaysDown =
    (back : Option (List Visit)) (us : List Upstream) (past past' : Past) (olds news : List Standing) (dials : List Dial) (visits : List Visit) → Rounds (IsSome back) us past past' olds news dials visits
    → 0 < past.rounds → list_all (λ n. nat_lt n past'.rounds) past.fails ≡ true → count_number past'.rounds past'.fails ≤ 1

-- ---- one upstream beside another, in a PUT

-- it holds nothing at this path, or stays as it is
abbrev pub StaysWithout : Text → Upstream → Standing → Standing → Type 0
StaysWithout path u old new = entry_at u old path ≡ None → new ≡ old

-- A PUT changes no upstream that holds nothing at its path.
abbrev pub OthersStay : Type 0
OthersStay =
    (back : Option (List Visit)) (us : List Upstream) (olds news : List Standing) (path : Text) (body : Option Object) (visits : List Visit) (result : Result (Option Object) AllocError)
    → Puts (IsSome back) us olds news path body visits result → AllOf (StaysWithout path) us olds news
