-- What contracts see of a supervisor in hand.
use Rattle.std.specs.Prelude.{◌≡◌, ◌⊎◌, ◌<◌, ◌+◌, ℕ, zero, suc, Bool, length, false, true, cond, not, is_ok, List, [], ◌∷◌, ◌++◌, map, codes, IsSome, Option, Some, None, is_some, option_map, option_and_then, unwrap_or, slice_get, Result}
use Rattle.std.specs.declared.result.Result.TheVariants.{Ok, Err}
use Rattle.ob_io.specs.Links.{inlet}
use Rattle.ob_asking.specs.Wires.{Wire, wire}
use Rattle.ob_client.specs.declared.session.Session.{Session}
use Rattle.ob_super.specs.Upstreams as spec
use Rattle.ob_super.specs.Upstreams.{IsConfig, IsFirstOffence, configured}
pub use Rattle.ob_super.specs.Configs.{upstream}
use Rattle.ob_io.specs.Dials.{Dial, Visit, IsVisit}
use Rattle.ob_http.specs.Replies.{AreTaken}
use Rattle.ob_io.specs.Told.{Gains}
use Rattle.ob_super.specs.Calls.{Call, SentOn, Stage, Polling, put_on, stage_of, said_in}
use Rattle.ob_super.specs.Turns.{Standing, Down, Up, is_up}
use Rattle.ob_super.specs.Trees.{Entry, View, the_entry, entry_in, objects, subtree, with_children, shown_among}
use Rattle.ob_super.specs.Links.{is_fault, HasSaid}
use Rattle.ob_super.specs.Dialling.{Past, State, dialled}
use Rattle.ob_super.specs.Rounds.{host, BreaksAt, Part, Lacks, HadPart, Asks, AsksAll, StopsAsking, IsDialled, DialsAll, Round, NoneDialled, Rounded, SendsIf, Sends, Puts, Ends}
use Rattle.ob_super.specs.Supervised.{Asked, RepliesBy, LacksReply, RepliesTo, Supervises, ManyRounds, StopsAmong, Supervised, StoppedEarly}
use Rattle.std.specs.declared.alloc.AllocError.{AllocError}
use Rattle.ob_object.specs.Object.{Object, in_row}
use Rattle.std.specs.List.{AllByRecursion, list_all, flat_map}
use Rattle.std.specs.Option.{option_map_or}
use Rattle.ob_watching.specs.WatchOuts.{Text, Held}
use Rattle.ob_client.specs.declared.mirror_fault.MirrorFault.{MirrorFault}
use Rattle.ob_client.specs.declared.mirror_fault.MirrorFault.TheVariants as mirrors
use Rattle.ob_values.specs.declared.verb.Verb.{Verb}
use Rattle.ob_asking.specs.declared.place.Place.{Place}
use Rattle.ob_asking.specs.declared.request.Request.{Request}
use Rattle.ob_asking.specs.Places.{child_place}
use Rattle.ob_client.specs.Mirrors.{found}
use Rattle.ob_asking.specs.declared.fault.Fault.{Fault}
use Rattle.ob_asking.specs.declared.fault.Fault.TheVariants as faults
use Rattle.ob_super.specs.declared.asking.Ops.{Ops}
use Rattle.ob_super.specs.declared.asking.Watch.{Watch}
use Rattle.ob_super.specs.declared.upstream.Upstream.{Upstream}
use Rattle.ob_super.specs.declared.state.Super.{Super}
use Rattle.ob_super.specs.declared.config_fault.ConfigFault.{ConfigFault}
use Rattle.ob_super.specs.declared.config_fault.ConfigFault.TheVariants.{Shape, Memory}
use Rattle.ob_super.specs.declared.upstream.Live.{Live}
use Rattle.ob_super.specs.declared.upstream.Followed.{Followed}

abbrev pub upstreams : {L : Type 0} → List (Followed L) → List spec.Upstream
upstreams all = map (λ f. upstream f.upstream) all

-- the rounds in which their last dials failed
abbrev pub fails : {L : Type 0} → List (Followed L) → List ℕ
fails all = map (λ f. f.failed) all

-- what there was of rounds
abbrev pub past : {L : Type 0} → Super L → Past
past s = record { rounds = s.rounds; fails = fails s.followed.items }

-- all of them are down, none was ever dialled, and there was no round
abbrev pub IsNew : {L : Type 0} → Super L → Type 0
IsNew s = (s.rounds ≡ 0) × AllByRecursion (λ f. (f.live ≡ None) × (f.failed ≡ 0)) s.followed.items

-- an upstream in a round
abbrev pub state : {L : Type 0} → Followed L → State
state f = record { waits = f.waits; failed = f.failed }

abbrev pub states : {L : Type 0} → List (Followed L) → List State
states all = map state all

-- the same at first
abbrev pub begun : {L : Type 0} → Followed L → State
begun f = record { waits = not (is_some f.live); failed = f.failed }

abbrev pub all_begun : {L : Type 0} → List (Followed L) → List State
all_begun all = map begun all

-- what is kept of an upstream after its dial in the round of this number
abbrev pub noted : {L : Type 0} → ℕ → Followed L → Followed L
noted number f = record f { waits = false; failed = cond (is_some f.live) 0 number }

-- the one at a place waits no more, and the others are as they were
abbrev pub IsSpent : (place : ℕ) → (olds news : List State) → Type 0
IsSpent zero (x ∷ xs) (y ∷ ys) = (y.waits ≡ false) × (ys ≡ xs)
IsSpent (suc place) (x ∷ xs) (y ∷ ys) = (y ≡ x) × IsSpent place xs ys
IsSpent _ _ _ = ⊥

-- how many wait
abbrev pub count_waiting : List State → ℕ
count_waiting [] = 0
count_waiting (x ∷ xs) = cond x.waits 1 0 + count_waiting xs

-- what is told outside: the dials, and the links that came back
pub record Outside : Type 0 where
  pub dials : Option (List Dial)
  pub visits : Option (List Visit)

abbrev pub outside : Option (List Dial) → Option (List Visit) → Outside
outside dials visits = record { dials = dials; visits = visits }

-- from the one to the other these were dialled, and these came back
pub record Goes (before : Outside) (dials : List Dial) (visits : List Visit) (after : Outside) : Type 0 where
  pub dialled : Gains before.dials dials after.dials
  pub back : Gains before.visits visits after.visits

abbrev pub asked : Request → Option Object → Asked
asked q reply = record { request = q; reply = reply }

-- the reply, if there was memory for it
abbrev pub replied_by : Result Object AllocError → Option Object
replied_by (Ok o) = Some o
replied_by (Err e) = None

-- Outside a whole run of a supervisor of these upstreams was told, in which this was asked behind so many rounds.
abbrev pub RunsAll : Outside → Outside → List spec.Upstream → ℕ → List Asked → Type 0
RunsAll before after us n qs =
    (dials : List Dial) × (visits : List Visit) × Goes before dials visits after × Supervised (IsSome after.visits) us n qs dials visits

-- Memory was wanting in those rounds.
abbrev pub StopsAll : Outside → Outside → List spec.Upstream → ℕ → Type 0
StopsAll before after us n = (dials : List Dial) × (visits : List Visit) × Goes before dials visits after × StoppedEarly (IsSome after.visits) us n dials visits

module _ {L : Type 0} (left taken held : L → Option (List ℕ)) where
  abbrev pub wire_of : Session L → Wire
  wire_of s = wire (inlet (left s.link) (taken s.link)) (held s.link) s.framer

  -- These calls were made on the link since it was dialled, and left it so.
  pub record IsLive (u : spec.Upstream) (calls : List Call) (live : Live L) : Type 0 where
    pub alive : live.session.is_dead ≡ false
    pub host_is : live.session.host ≡ host u
    pub polls : stage_of u calls ≡ Some (Polling live.watch.changes live.watch.mirror.held)
    pub fresh : live.watch.mirror.stale ≡ false
    pub said : HasSaid (host u) (said_in u calls) (wire_of live.session)

  abbrev pub Stands : spec.Upstream → Standing → Option (Live L) → Type 0
  Stands u Down None = Unit {0}
  Stands u (Up calls) (Some live) = IsLive u calls live
  Stands u _ _ = ⊥

  -- An upstream had its part in a round; or memory was wanting.
  abbrev pub Parts : Outside → Outside → spec.Upstream → Standing → Result (Option (Live L)) AllocError → Type 0
  Parts before after u old (Ok live) =
      (new : Standing) × (dials : List Dial) × (visits : List Visit) × Goes before dials visits after
      × Part (IsSome after.visits) u old new dials visits × Stands u new live
  Parts before after u old (Err e) =
      (dials : List Dial) × (visits : List Visit) × Goes before dials visits after × Lacks (IsSome after.visits) u old dials visits

  abbrev pub Follows : Outside → Outside → spec.Upstream → Standing → Option (Live L) → Result (Unit {0}) AllocError → Type 0
  Follows before after u old live (Ok _) = Parts before after u old (Ok live)
  Follows before after u old live (Err e) = Parts before after u old (Err e) × (live ≡ None)

  -- One that is up was asked for its changes, and one that is down is left so; or memory was wanting.
  abbrev pub Polls : Outside → Outside → spec.Upstream → Standing → Option (Live L) → Result (Unit {0}) AllocError → Type 0
  Polls before after u old live (Ok _) =
      (new : Standing) × (visits : List Visit) × Goes before [] visits after × Asks (IsSome after.visits) u old new visits × Stands u new live
  Polls before after u old live (Err e) =
      (is_up old ≡ true) × ((visits : List Visit) × Goes before [] visits after × Lacks (IsSome after.visits) u old [] visits) × (live ≡ None)

  -- An upstream had its part in the round of this number; or memory was wanting in it.
  abbrev pub DialsOne : Outside → Outside → ℕ → spec.Upstream → Standing → Followed L → Result (Unit {0}) AllocError → Type 0
  DialsOne before after number u old f result =
      (new : Standing) × (dials : List Dial) × (visits : List Visit) × Goes before dials visits after
      × HadPart (IsSome after.visits) (is_ok result) u old new dials visits × (state f ≡ dialled number new) × Stands u new f.live

  -- A PUT was sent on and answered; or the call broke, and its link came back; or memory was wanting.
  abbrev pub SendsOn : Outside → Outside → spec.Upstream → List Call → Request → Option (Live L) → Result (Option Object) AllocError → Type 0
  SendsOn before after u calls q live (Ok (Some o)) = (after ≡ before) × Stands u (Up (calls ++ SentOn q.target q.body o ∷ [])) live
  SendsOn before after u calls q live (Ok None) =
      (live ≡ None) × ((visits : List Visit) × Goes before [] visits after
      × ((e : Fault) × (is_fault e ≡ true) × BreaksAt (IsSome after.visits) u calls q e visits))
  SendsOn before after u calls q live (Err _) =
      (live ≡ None) × ((visits : List Visit) × Goes before [] visits after × BreaksAt (IsSome after.visits) u calls q faults.Memory visits)

  -- The PUT of a path was sent on to this place of the upstream's server, if its href leads to one.
  abbrev pub PutsTo : Outside → Outside → spec.Upstream → List Call → Text → Option Place → Option Object → Option (Live L) → Result (Option Object) AllocError → Type 0
  PutsTo before after u calls path place body live result =
      (new : Standing) × (visits : List Visit) × Goes before [] visits after
      × SendsIf (IsSome after.visits) u calls new path place body visits result × Stands u new live

  -- Without memory it was answered, or its link came back.
  abbrev pub HasSent : Outside → Outside → spec.Upstream → List Call → Option Place → Option Object → Option (Live L) → Type 0
  HasSent before after u calls None body live = ⊥
  HasSent before after u calls (Some p) body live =
      ((o : Object) × (after ≡ before) × Stands u (Up (calls ++ SentOn p.target body o ∷ [])) live)
      ⊎ ((live ≡ None) × ((visits : List Visit) × Goes before [] visits after × BreaksAt (IsSome after.visits) u calls (put_on p.target body) faults.Memory visits))

  -- The same of a PUT that may want memory, before the upstream is taken down for it; nothing may have been sent.
  abbrev pub MayPut : Outside → Outside → spec.Upstream → List Call → Text → Option Place → Option Object → Option (Live L) → Result Object AllocError → Type 0
  MayPut before after u calls path place body live (Ok reply) = PutsTo before after u calls path place body live (Ok (Some reply))
  MayPut before after u calls path place body live (Err e) =
      ((after ≡ before) × Stands u (Up calls) live) ⊎ HasSent before after u calls place body live

  -- the PUT of an entry's place
  abbrev pub PutsOne : Outside → Outside → spec.Upstream → Standing → Entry → Option Object → Option (Live L) → Result (Option Object) AllocError → Type 0
  PutsOne before after u old entry body live result =
      (new : Standing) × (visits : List Visit) × Goes before [] visits after
      × Sends (IsSome after.visits) u old new entry body visits result × Stands u new live

  -- So do the upstreams stand.
  abbrev pub StandAll : List Standing → List (Followed L) → Type 0
  StandAll [] [] = Unit {0}
  StandAll (s ∷ ss) (f ∷ fs) = Stands (upstream f.upstream) s f.live × StandAll ss fs
  StandAll _ _ = ⊥

  -- those that are up were asked for their changes, in order; or memory was wanting in the part of one
  abbrev pub HaveAsked : Type 0 → List spec.Upstream → List Standing → List Standing → List Visit → Result (Unit {0}) AllocError → Type 0
  HaveAsked Told us olds news visits (Ok _) = AsksAll Told us olds news visits
  HaveAsked Told us olds news visits (Err _) = StopsAsking Told us olds news visits

  abbrev pub PollsOver : Outside → Outside → List (Followed L) → List (Followed L) → Result (Unit {0}) AllocError → Type 0
  PollsOver before after old new result =
      (olds : List Standing) → StandAll olds old → (news : List Standing) × (visits : List Visit)
      × Goes before [] visits after × HaveAsked (IsSome after.visits) (upstreams old) olds news visits result × StandAll news new

  -- the one at a place was dialled
  abbrev pub DialsAt : Outside → Outside → ℕ → (place : ℕ) → List (Followed L) → List (Followed L) → Result (Unit {0}) AllocError → Type 0
  DialsAt before after number place old new result =
      (olds : List Standing) → StandAll olds old → (news : List Standing) × (dials : List Dial) × (visits : List Visit)
      × Goes before dials visits after
      × IsDialled (IsSome after.visits) (is_ok result) number place (upstreams old) (states old) olds (states new) news dials visits × StandAll news new

  -- those that are down were dialled
  abbrev pub DialsOver : Outside → Outside → ℕ → List (Followed L) → List (Followed L) → Result (Unit {0}) AllocError → Type 0
  DialsOver before after number old new result =
      (olds : List Standing) → StandAll olds old → (news : List Standing) × (places : List ℕ) × (dials : List Dial) × (visits : List Visit)
      × Goes before dials visits after
      × DialsAll (IsSome after.visits) (is_ok result) number (upstreams old) places (states old) olds (states new) news dials visits × StandAll news new

  -- So it is in a round of this number; or memory was wanting.
  abbrev pub HadRound : Type 0 → List spec.Upstream → ℕ → (fails fails' : List ℕ) → List Standing → List Standing → List Dial → List Visit → Result (Unit {0}) AllocError → Type 0
  HadRound Told us number fails fails' olds news dials visits (Ok _) = Round Told true us number fails fails' olds news dials visits
  HadRound Told us number fails fails' olds news dials visits (Err _) =
      NoneDialled Told us fails fails' olds news dials visits ⊎ Round Told false us number fails fails' olds news dials visits

  abbrev pub RoundsOver : Outside → Outside → ℕ → List (Followed L) → List (Followed L) → Result (Unit {0}) AllocError → Type 0
  RoundsOver before after number old new result =
      (olds : List Standing) → StandAll olds old → (news : List Standing) × (dials : List Dial) × (visits : List Visit)
      × Goes before dials visits after
      × HadRound (IsSome after.visits) (upstreams old) number (fails old) (fails new) olds news dials visits result × StandAll news new

  abbrev pub RoundsAll : Outside → Outside → Super L → Super L → Result (Unit {0}) AllocError → Type 0
  RoundsAll before after old new result =
      (olds : List Standing) → StandAll olds old.followed.items → (news : List Standing) × (dials : List Dial) × (visits : List Visit)
      × Goes before dials visits after
      × Rounded (IsSome after.visits) (upstreams old.followed.items) (past old) (past new) olds news dials visits result × StandAll news new.followed.items

  abbrev pub PutsAll : Outside → Outside → List (Followed L) → List (Followed L) → Text → Option Object → Result (Option Object) AllocError → Type 0
  PutsAll before after old new path body result =
      (olds : List Standing) → StandAll olds old → (news : List Standing) × (visits : List Visit)
      × Goes before [] visits after × Puts (IsSome after.visits) (upstreams old) olds news path body visits result × StandAll news new

  -- Every link came back.
  abbrev pub EndsAll : Outside → Outside → List (Followed L) → Type 0
  EndsAll before after all =
      (ss : List Standing) → StandAll ss all → (visits : List Visit) × Goes before [] visits after × Ends (IsSome after.visits) (upstreams all) ss visits

  -- So many rounds were had; or memory was wanting in one of them.
  abbrev pub HasRounds : Type 0 → List spec.Upstream → ℕ → (past past' : Past) → List Standing → List Standing → List Dial → List Visit → Result (Unit {0}) AllocError → Type 0
  HasRounds Told us n past past' olds news dials visits (Ok _) = ManyRounds Told us n past past' olds news dials visits
  HasRounds Told us n past past' olds news dials visits (Err _) = StopsAmong Told us n past past' olds news dials visits

  abbrev pub ManyAll : Outside → Outside → Super L → Super L → ℕ → Result (Unit {0}) AllocError → Type 0
  ManyAll before after old new n result =
      (olds : List Standing) → StandAll olds old.followed.items → (news : List Standing) × (dials : List Dial) × (visits : List Visit)
      × Goes before dials visits after
      × HasRounds (IsSome after.visits) (upstreams old.followed.items) n (past old) (past new) olds news dials visits result × StandAll news new.followed.items

  -- A request has this reply; or memory was wanting for it.
  abbrev pub RepliesOr : Type 0 → List spec.Upstream → List Standing → List Standing → Request → List Visit → Option Object → Type 0
  RepliesOr Told us olds news q visits (Some reply) = RepliesBy Told us olds news q.verb q.target q.body visits reply
  RepliesOr Told us olds news q visits None = LacksReply Told us olds news q.verb q.target q.body visits

  abbrev pub RepliesAll : Outside → Outside → List (Followed L) → List (Followed L) → Request → Option Object → Type 0
  RepliesAll before after old new q reply =
      (olds : List Standing) → StandAll olds old → (news : List Standing) × (visits : List Visit)
      × Goes before [] visits after × RepliesOr (IsSome after.visits) (upstreams old) olds news q visits reply × StandAll news new

  -- Before a request there was a round, and then it had this reply; or memory was wanting.
  abbrev pub AnswersAll : Outside → Outside → Super L → Super L → Request → Option Object → Type 0
  AnswersAll before after old new q reply =
      (olds : List Standing) → StandAll olds old.followed.items → (news : List Standing) × (dials : List Dial) × (visits : List Visit)
      × Goes before dials visits after
      × RepliesTo (IsSome after.visits) (upstreams old.followed.items) (past old) (past new) olds news q reply dials visits × StandAll news new.followed.items

  abbrev pub SupervisesAll : Outside → Outside → Super L → Super L → List Asked → Type 0
  SupervisesAll before after old new qs =
      (olds : List Standing) → StandAll olds old.followed.items → (news : List Standing) × (dials : List Dial) × (visits : List Visit)
      × Goes before dials visits after
      × Supervises (IsSome after.visits) (upstreams old.followed.items) (past old) (past new) olds news qs dials visits × StandAll news new.followed.items

-- ---- what calls bring

abbrev pub request : Verb → Text → Option Object → Request
request verb target body = record { verb = verb; target = target; body = body }

-- an object came
abbrev pub IsAnswer : {T : Type 0} → Result T Fault → Type 0
IsAnswer (Ok x) = Unit {0}
IsAnswer (Err e) = ⊥

-- the link failed
abbrev pub IsLinkFault : {T : Type 0} → Result T Fault → Type 0
IsLinkFault (Ok x) = ⊥
IsLinkFault (Err e) = e ≡ faults.Link

abbrev pub ops : Ops → Text × Text
ops o = (o.add, o.changes)

-- the stage at which a watch is polled
abbrev pub polling : Watch → Stage
polling w = Polling w.changes w.mirror.held

abbrev pub opened : Result Watch Fault → Result Stage Fault
opened (Ok w) = Ok (polling w)
opened (Err e) = Err e

abbrev pub ops_result : Result Ops Fault → Result (Text × Text) Fault
ops_result (Ok o) = Ok (ops o)
ops_result (Err e) = Err e

-- a link that ended so was given back: the upstream is down, or there was no memory
abbrev pub IsDown : {T : Type 0} → Fault → Result (Option T) AllocError → Type 0
IsDown faults.Memory (Ok live) = ⊥
IsDown faults.Memory (Err e) = Unit {0}
IsDown e result = result ≡ Ok None

-- a session over this link, over which nothing was said
abbrev pub Begins : {L : Type 0} → L → Text → Result (Session L) AllocError → Type 0
Begins link host (Ok s) = (s.link ≡ link) × (s.host ≡ host) × AreTaken [] [] s.framer × (s.is_dead ≡ false)
Begins link host (Err e) = Unit {0}

-- the link came back
abbrev pub ComesBack : {L : Type 0} → (left taken held : L → Option (List ℕ)) → (reads writes : L → ℕ) → L → Option (List Visit) → Option (List Visit) → Type 0
ComesBack left taken held reads writes link before after =
    (v : Visit) × Gains before (v ∷ []) after × (IsSome after → IsVisit v (left link) (taken link) (held link) (reads link) (writes link))

-- both ops of a watch
abbrev pub both_targets : Option Place → Option Place → Option (Text × Text)
both_targets (Some add) (Some changes) = Some (add.target, changes.target)
both_targets _ _ = None

abbrev pub ops_in : Place → Object → Option (Text × Text)
ops_in place watch = both_targets (child_place place.url watch (codes "add")) (child_place place.url watch (codes "pollChanges"))

-- what is found is needed; or there was no memory
abbrev pub Needs : {T : Type 0} → Result (Option T) AllocError → Result T Fault → Type 0
Needs (Ok (Some x)) result = result ≡ Ok x
Needs (Ok None) result = result ≡ Err (faults.Shape)
Needs (Err e) result = result ≡ Err faults.Memory

-- the mirror took a reply, or it is of a wrong form, or there was no memory
abbrev pub TakesReply : Result (Unit {0}) MirrorFault → Result (Unit {0}) Fault → Type 0
TakesReply (Ok _) result = result ≡ Ok tt
TakesReply (Err mirrors.Memory) result = result ≡ Err faults.Memory
TakesReply (Err _) result = result ≡ Err (faults.Shape)

-- what is held of a watch once its changes were asked for
abbrev pub poll_result : Watch → Result (Unit {0}) Fault → Result Stage Fault
poll_result w (Ok _) = Ok (polling w)
poll_result w (Err e) = Err e

-- ---- what is shown

-- what is held of an upstream, as its mirror has it; nothing where it is down
abbrev pub held_in : {L : Type 0} → Option (Live L) → Option (List Held)
held_in live = option_map (λ l. l.watch.mirror.held) live

abbrev pub held_now : {L : Type 0} → Option (Live L) → List Held
held_now live = unwrap_or (held_in live) []

-- the href at a place is held, and its object is the first at this path of those that are
pub record HasEntry (u : spec.Upstream) (held : List Held) (i : ℕ) (path : Text) : Type 0 where
  pub href : Text
  pub one : Held
  pub within : i < length u.hrefs
  pub at : slice_get u.hrefs i ≡ Some href
  pub is_held : found href held ≡ Some one
  pub first : entry_in u held path ≡ Some (the_entry u i href one)

-- the entry of the href at a place, if it is held
abbrev pub entry_of : spec.Upstream → List Held → ℕ → Option Entry
entry_of u held i = option_and_then (λ (href : Text). option_map (λ (h : Held). the_entry u i href h) (found href held)) (slice_get u.hrefs i)

abbrev pub FindsEntry : spec.Upstream → List Held → Text → Option ℕ → Type 0
FindsEntry u held path None = entry_in u held path ≡ None
FindsEntry u held path (Some i) = HasEntry u held i path

abbrev pub view : {L : Type 0} → Followed L → View
view f = (upstream f.upstream, held_in f.live)

abbrev pub views : {L : Type 0} → List (Followed L) → List View
views all = map view all

-- a list with what is held of an upstream in it
abbrev pub with_held : spec.Upstream → List Held → Object → Object
with_held u held list = record { head = list.head; inner = in_row (objects u held) }

-- what upstreams show at a path other than the tree's own
abbrev pub shown_over : {L : Type 0} → List (Followed L) → Text → Option Object
shown_over all path = shown_among (flat_map with_children (map subtree (views all))) path

-- what follows a front of a text, where it begins so
abbrev pub IsBehind : Text → Text → Option Text → Type 0
IsBehind front text None = (rest : Text) → text ≡ front ++ rest → ⊥
IsBehind front text (Some rest) = text ≡ front ++ rest

-- ---- a config

-- an upstream that is down, and was never dialled
abbrev pub down : {L : Type 0} → ℕ → Upstream → Followed L
down wait_ms u = record { upstream = u; wait_ms = wait_ms; waits = false; failed = 0; live = None }

-- these are followed, and all of them are so
abbrev pub AreDown : {L : Type 0} → ℕ → List Upstream → List (Followed L) → Type 0
AreDown wait_ms us all = all ≡ map (down wait_ms) us

-- a limit of so many milliseconds stands for each
abbrev pub AllWait : {L : Type 0} → ℕ → List (Followed L) → Type 0
AllWait wait_ms all = AllByRecursion (λ f. f.wait_ms ≡ wait_ms) all

-- it is a config, and what it tells is followed, with this limit, and all of it is down and was never dialled; or this part is the
-- first that offends against its form; or there was no memory
abbrev pub Configures : {L : Type 0} → Object → ℕ → Result (Super L) ConfigFault → Type 0
Configures config wait_ms (Ok s) =
    IsConfig config × (configured config ≡ Some (upstreams s.followed.items)) × IsNew s × AllWait wait_ms s.followed.items
Configures config wait_ms (Err (Shape offence)) = IsFirstOffence config offence
Configures config wait_ms (Err Memory) = Unit {0}
