-- Links in hand, in the parts of upstreams in rounds.
use Rattle.std.proofs.Common.{◌≡◌, ◌⊎◌, ℕ, Bool, true, false, List, [], ◌∷◌, ◌++◌, Option, Some, None, Result, Ok, Err, refl, sym, ap, subst, ◌∙◌, inl, inr}
use Rattle.std.specs.Prelude.{IsSome, IsErr, option_and_then}
use Rattle.std.specs.declared.alloc.AllocError.{AllocError}
use Rattle.ob_io.specs.Dials.{Dial, Visit, IsVisit}
use Rattle.ob_io.specs.Faults.{Rose}
use Rattle.ob_io.specs.Links.{inlet, IsFresh}
use Rattle.ob_io.specs.Told.{Gains, Gains-none}
use Rattle.ob_object.specs.Object.{Object}
use Rattle.ob_http.proofs.RepliesLemmas.{start}
use Rattle.ob_watching.specs.WatchOuts.{Text}
use Rattle.ob_asking.specs.declared.request.Request.{Request}
use Rattle.ob_asking.specs.Places.{host_of, port_in}
use Rattle.ob_asking.specs.Wires.{Wire, wire}
use Rattle.ob_asking.specs.declared.fault.Fault.{Fault}
use Rattle.ob_asking.specs.declared.fault.Fault.TheVariants as faults
use Rattle.ob_super.specs.declared.asking.Watch.{Watch}
use Rattle.ob_super.specs.declared.upstream.Live.{Live}
use Rattle.ob_super.specs.Upstreams.{Upstream}
use Rattle.ob_super.specs.Calls.{Stage, Lobby, Polling, Call, InRound, SentOn, Said, said, asking, changed, put_on, request_at, next, reached, stage_of, said_in}
use Rattle.ob_super.specs.Turns.{Standing, Down, Up}
use Rattle.ob_super.specs.Links.{HasSaid, IsBroken, is_fault, is_break}
use Rattle.ob_super.specs.Rounds.{host, dial}
use Rattle.ob_super.specs.Asking.{Answered, Broke, Brings, in_round, Opens, is_miss}
use Rattle.ob_super.specs.InHand.{Outside, Goes, Parts, Stands, IsLive, Follows, SendsOn, wire_of, polling, IsDown}
use Rattle.ob_client.proofs.SessionLemmas.{never}
use Rattle.ob_super.proofs.SaidLemmas.{unasked}
use Rattle.ob_super.proofs.OpenLemmas.{spoken_last}
use Rattle.ob_super.proofs.TurnLemmas.{stage_on, stage_more, reached_more, spoken_app, with_reply}
use Rattle.ob_super.proofs.PartLemmas.{fresh_said, said_back, broken_back, part_undialled, lacks_dialled, part_opened, part_missed, part_broken, lacks_opening, part_polled, part_unpolled, part_cut, lacks_poll}

-- a dial of the upstream's host and port
pub gained_dial : (u : Upstream) (before after : Option (List Dial)) (h : Text) (p : ℕ) (failed : Bool) → h ≡ host_of u.lobby.url → p ≡ port_in u.lobby.url
    → Gains before ((let d : Dial = record { host = h; port = p; failed = failed } in d) ∷ []) after → Gains before (dial u failed ∷ []) after
gained_dial u before after h p failed hs ps g =
    subst (λ (y : ℕ). Gains before ((let d : Dial = record { host = host_of u.lobby.url; port = y; failed = failed } in d) ∷ []) after) ps
    (subst (λ (x : Text). Gains before ((let d : Dial = record { host = x; port = p; failed = failed } in d) ∷ []) after) hs g)

-- ---- what is told from a call to the next

module _ {A : Type 0} where
  pub gains_same : (a b : Option (List A)) → b ≡ a → Gains a [] b
  gains_same a b e = subst (λ (x : Option (List A)). Gains a [] x) (sym e) (Gains-none a)

  pub gains_from : (a b c : Option (List A)) (xs : List A) → b ≡ a → Gains b xs c → Gains a xs c
  gains_from a b c xs e g = subst (λ (x : Option (List A)). Gains x xs c) e g

  pub gains_to : (a b c : Option (List A)) (xs : List A) → Gains a xs b → c ≡ b → Gains a xs c
  gains_to a b c xs g e = subst (λ (x : Option (List A)). Gains a xs x) (sym e) g

-- ---- what a fault leaves

not_link : (e : Fault) → e ≡ faults.Memory → e ≡ faults.Link → ⊥
not_link e m l = absurd (let g : faults.Memory ≡ faults.Link = sym m ∙ l in cc)

-- of a break: a fault, or want of memory
break_kind : (e : Fault) → is_break e ≡ true → (is_fault e ≡ true) ⊎ (e ≡ faults.Memory)
break_kind faults.Memory b = inr refl
break_kind faults.Link b = inl refl
break_kind (faults.Status n) b = inl refl
break_kind (faults.Document f) b = inl refl
break_kind (faults.Frame f) b = inl refl
break_kind faults.Ended b = inl refl
break_kind (faults.Err o) b = never b
break_kind faults.Shape b = never b

fault_down : {T : Type 0} (e : Fault) (r : Result (Option T) AllocError) → is_fault e ≡ true → IsDown e r → r ≡ Ok None
fault_down faults.Memory r b d = never b
fault_down faults.Link r b d = d
fault_down (faults.Status n) r b d = d
fault_down (faults.Document f) r b d = d
fault_down (faults.Frame f) r b d = d
fault_down faults.Ended r b d = d
fault_down (faults.Err o) r b d = never b
fault_down faults.Shape r b d = never b

miss_down : {T : Type 0} (e : Fault) (r : Result (Option T) AllocError) → is_miss e ≡ true → IsDown e r → r ≡ Ok None
miss_down faults.Memory r b d = never b
miss_down faults.Link r b d = never b
miss_down (faults.Status n) r b d = never b
miss_down (faults.Document f) r b d = never b
miss_down (faults.Frame f) r b d = never b
miss_down faults.Ended r b d = never b
miss_down (faults.Err o) r b d = d
miss_down faults.Shape r b d = d

memory_down : {T : Type 0} (e : Fault) (r : Result (Option T) AllocError) (P : Result (Option T) AllocError → Type 0) → e ≡ faults.Memory → ((a : AllocError) → P (Err a)) → IsDown e r → P r
memory_down {T} e r P m h d = of r (subst (λ (x : Fault). IsDown x r) m d)
  where
    of : (r : Result (Option T) AllocError) → IsDown faults.Memory r → P r
    of (Ok x) d = absurd d
    of (Err a) d = h a

module _ {L : Type 0} (left taken held : L → Option (List ℕ)) where
  -- what a link is told of once nothing more is said over it
  abbrev at_hand : L → List ℕ → Wire
  at_hand link kept = wire (inlet (left link) (taken link)) (held link) kept

  -- ---- of one that is down

  pub parts_undialled : (u : Upstream) (before after : Outside) → Gains before.dials (dial u true ∷ []) after.dials → Gains before.visits [] after.visits
      → Parts left taken held before after u Down (Ok None)
  parts_undialled u before after d v =
      (Down, dial u true ∷ [], [], (let g : Goes before (dial u true ∷ []) [] after = record { dialled = d; back = v } in g), part_undialled (IsSome after.visits) u, tt)

  pub parts_unbegun : (u : Upstream) (before after : Outside) (link : L) (reads writes : ℕ) (v : Visit) (e : AllocError) → IsFresh (taken link) (held link) reads writes
      → Gains before.dials (dial u false ∷ []) after.dials → Gains before.visits (v ∷ []) after.visits
      → (IsSome after.visits → IsVisit v (left link) (taken link) (held link) reads writes) → Parts left taken held before after u Down (Err e)
  parts_unbegun u before after link reads writes v e fresh d b visit = (
    dial u false ∷ [],
    v ∷ [],
    (let g : Goes before (dial u false ∷ []) (v ∷ []) after = record { dialled = d; back = b } in g),
    lacks_dialled (IsSome after.visits) u (v ∷ []) (
      v,
      refl,
      λ told.
          broken_back (left link) (taken link) (held link) [] reads writes v (visit told) (host u) [] (request_at u Lobby) faults.Memory reads writes
          (λ l. absurd (not_link faults.Memory refl l)) ((unasked (host u) (request_at u Lobby) (at_hand link [])).1 [] (fresh_said (host u) (at_hand link []) reads writes fresh start)),
    ),
  )

  pub parts_unbegun_as : (u : Upstream) (before after : Outside) (link : L) (reads writes : ℕ) (v : Visit) (r : Result (Option (Live L)) AllocError) → IsErr r → IsFresh (taken link) (held link) reads writes
      → Gains before.dials (dial u false ∷ []) after.dials → Gains before.visits (v ∷ []) after.visits
      → (IsSome after.visits → IsVisit v (left link) (taken link) (held link) reads writes) → Parts left taken held before after u Down r
  parts_unbegun_as u before after link reads writes v (Ok x) e fresh d b visit = never e
  parts_unbegun_as u before after link reads writes v (Err x) e fresh d b visit = parts_unbegun u before after link reads writes v x fresh d b visit

  pub parts_opened : (u : Upstream) (before after : Outside) (live : Live L) (w0 : Wire) → HasSaid (host u) [] w0
      → Opens u Lobby w0 (wire_of left taken held live.session) (Ok (polling live.watch))
      → live.session.is_dead ≡ false → live.session.host ≡ host u → live.watch.mirror.stale ≡ false
      → Gains before.dials (dial u false ∷ []) after.dials → Gains before.visits [] after.visits → Parts left taken held before after u Down (Ok (Some live))
  parts_opened u before after live w0 had (polls, (os, passes, says)) alive host_is fresh d v = (
    Up (in_round os),
    dial u false ∷ [],
    [],
    (let g : Goes before (dial u false ∷ []) [] after = record { dialled = d; back = v } in g),
    part_opened (IsSome after.visits) u os (polling live.watch) passes polls,
    (let l : IsLive left taken held u (in_round os) live =
        record { alive = alive; host_is = host_is; polls = stage_on u [] Lobby (polling live.watch) os refl passes; fresh = fresh; said = says [] had } in l),
  )

  pub parts_unopened : (u : Upstream) (before after : Outside) (link : L) (kept : List ℕ) (w0 : Wire) (e : Fault) (reads writes reads0 writes0 : ℕ) (v : Visit) (r : Result (Option (Live L)) AllocError)
      → HasSaid (host u) [] w0 → Opens u Lobby w0 (at_hand link kept) (Err e) → (e ≡ faults.Link → Rose reads0 reads ⊎ Rose writes0 writes)
      → Gains before.dials (dial u false ∷ []) after.dials → Gains before.visits (v ∷ []) after.visits
      → (IsSome after.visits → IsVisit v (left link) (taken link) (held link) reads writes) → IsDown e r → Parts left taken held before after u Down r
  parts_unopened u before after link kept w0 e reads writes reads0 writes0 v r had opens cause d b visit down = elim opens [
    | inl m ↦ subst (λ (x : Result (Option (Live L)) AllocError). Parts left taken held before after u Down x) (sym (miss_down e r m.2 down))
        (Down, dial u false ∷ [], v ∷ [], goes, part_missed Told u m.0 (v ∷ []) m.1 (v, refl, λ told. said_back (left link) (taken link) (held link) kept reads writes v (visit told) (host u) (said_in u (in_round m.0)) (m.3 [] had)), tt)
    | inr k ↦ elim (break_kind e k.4.0) [
      | inl fault ↦ subst (λ (x : Result (Option (Live L)) AllocError). Parts left taken held before after u Down x) (sym (fault_down e r fault down)) (
        Down,
        dial u false ∷ [],
        v ∷ [],
        goes,
        part_broken Told u k.0 k.1 e (v ∷ []) k.3 k.2 fault (
          v,
          refl,
          λ told.
              broken_back (left link) (taken link) (held link) kept reads writes v (visit told) (host u) (said_in u (in_round k.0)) (request_at u k.1) e reads0 writes0 cause (k.4.1 [] had),
        ),
        tt,
      )
      | inr m ↦ memory_down e r (λ (x : Result (Option (Live L)) AllocError). Parts left taken held before after u Down x) m (λ a. (
        dial u false ∷ [],
        v ∷ [],
        goes,
        lacks_opening Told u k.0 k.1 (v ∷ []) k.3 k.2 (
          v,
          refl,
          λ told. subst (λ (f : Fault). IsBroken (host u) (said_in u (in_round k.0)) (request_at u k.1) f v) m
              (broken_back (left link) (taken link) (held link) kept reads writes v (visit told) (host u) (said_in u (in_round k.0)) (request_at u k.1) e reads0 writes0 cause (k.4.1 [] had)),
        ),
      )) down
    ]
  ]
    where
      Told : Type 0
      Told = IsSome after.visits

      goes : Goes before (dial u false ∷ []) (v ∷ []) after
      goes = record { dialled = d; back = b }

  -- ---- of one that is up

  -- what was said once a poll was answered
  said_polled : (u : Upstream) (calls : List Call) (s : Stage) (o : Object) (n : Option Stage) → stage_of u calls ≡ Some s → next u s o ≡ n
      → said_in u (with_reply calls o) ≡ said_in u calls ++ said (request_at u s) o ∷ []
  said_polled u calls s o n at e = spoken_app u Lobby s calls (InRound o ∷ []) at ∙ ap (λ (l : List Said). said_in u calls ++ l) (spoken_last u s o n e)

  pub parts_polled : (u : Upstream) (before after : Outside) (calls : List Call) (old live : Live L) → IsLive left taken held u calls old
      → Brings old.session.host (asking old.watch.changes None) (changed old.watch.changes old.watch.mirror.held) (wire_of left taken held old.session) (wire_of left taken held live.session) (Ok (polling live.watch))
      → live.session.is_dead ≡ false → live.session.host ≡ old.session.host → live.watch.mirror.stale ≡ false
      → Gains before.dials [] after.dials → Gains before.visits [] after.visits → Parts left taken held before after u (Up calls) (Ok (Some live))
  parts_polled u before after calls old live is (o, brings, a) alive host_is fresh d v =
      let s = Polling old.watch.changes old.watch.mirror.held in
      let answered = subst (λ (h : Text). Answered h (request_at u s) o (wire_of left taken held old.session) (wire_of left taken held live.session)) is.host_is a in (
        Up (with_reply calls o),
        [],
        [],
        (let g : Goes before [] [] after = record { dialled = d; back = v } in g),
        part_polled (IsSome after.visits) u calls s (polling live.watch) o is.polls brings refl,
        (let l : IsLive left taken held u (with_reply calls o) live = record {
          alive = alive;
          host_is = host_is ∙ is.host_is;
          polls = stage_more u calls s o is.polls ∙ brings;
          fresh = fresh;
          said = subst (λ (ss : List Said). HasSaid (host u) ss (wire_of left taken held live.session)) (sym (said_polled u calls s o (Some (polling live.watch)) is.polls brings)) (answered (said_in u calls) is.said);
        } in l),
      )

  pub parts_unpolled : (u : Upstream) (before after : Outside) (calls : List Call) (old : Live L) (link : L) (kept : List ℕ) (e : Fault) (reads writes reads0 writes0 : ℕ) (v : Visit) (r : Result (Option (Live L)) AllocError)
      → IsLive left taken held u calls old
      → Brings {T = Stage} old.session.host (asking old.watch.changes None) (changed old.watch.changes old.watch.mirror.held) (wire_of left taken held old.session) (at_hand link kept) (Err e)
      → (e ≡ faults.Link → Rose reads0 reads ⊎ Rose writes0 writes)
      → Gains before.dials [] after.dials → Gains before.visits (v ∷ []) after.visits
      → (IsSome after.visits → IsVisit v (left link) (taken link) (held link) reads writes) → IsDown e r → Parts left taken held before after u (Up calls) r
  parts_unpolled u before after calls old link kept e reads writes reads0 writes0 v r is brings cause d b visit down = elim brings [
    | inl m ↦ subst (λ (x : Result (Option (Live L)) AllocError). Parts left taken held before after u (Up calls) x) (sym (miss_down e r m.2 down)) (
      Down,
      [],
      v ∷ [],
      goes,
      part_unpolled Told u calls s m.0 (v ∷ []) is.polls m.1 (
        v,
        refl,
        λ told. said_back (left link) (taken link) (held link) kept reads writes v (visit told) (host u) (said_in u (with_reply calls m.0))
            (subst (λ (ss : List Said). HasSaid (host u) ss (at_hand link kept)) (sym (said_polled u calls s m.0 None is.polls m.1))
            (subst (λ (h : Text). Answered h (request_at u s) m.0 (wire_of left taken held old.session) (at_hand link kept)) is.host_is m.3 (said_in u calls) is.said)),
      ),
      tt,
    )
    | inr k ↦
        let broke = subst (λ (h : Text). Broke h (request_at u s) e (wire_of left taken held old.session) (at_hand link kept)) is.host_is k in
        elim (break_kind e broke.0) [
          | inl fault ↦ subst (λ (x : Result (Option (Live L)) AllocError). Parts left taken held before after u (Up calls) x) (sym (fault_down e r fault down)) (
            Down,
            [],
            v ∷ [],
            goes,
            part_cut Told u calls s e (v ∷ []) is.polls fault (
              v,
              refl,
              λ told.
                  broken_back (left link) (taken link) (held link) kept reads writes v (visit told) (host u) (said_in u calls) (request_at u s) e reads0 writes0 cause (broke.1 (said_in u calls) is.said),
            ),
            tt,
          )
          | inr m ↦ memory_down e r (λ (x : Result (Option (Live L)) AllocError). Parts left taken held before after u (Up calls) x) m (λ a. (
            [],
            v ∷ [],
            goes,
            lacks_poll Told u calls s (v ∷ []) is.polls (
              v,
              refl,
              λ told. subst (λ (f : Fault). IsBroken (host u) (said_in u calls) (request_at u s) f v) m
                  (broken_back (left link) (taken link) (held link) kept reads writes v (visit told) (host u) (said_in u calls) (request_at u s) e reads0 writes0 cause (broke.1 (said_in u calls) is.said)),
            ),
          )) down
        ]
  ]
    where
      Told : Type 0
      Told = IsSome after.visits

      s : Stage
      s = Polling old.watch.changes old.watch.mirror.held

      goes : Goes before [] (v ∷ []) after
      goes = record { dialled = d; back = b }

  -- ---- whichever it is

  pub of_down : (u : Upstream) (before after : Outside) (old : Standing) (r : Result (Option (Live L)) AllocError) → Stands left taken held u old None
      → Parts left taken held before after u Down r → Parts left taken held before after u old r
  of_down u before after Down r stands p = p
  of_down u before after (Up calls) r stands p = absurd stands

  pub of_up : (u : Upstream) (before after : Outside) (live : Live L) (old : Standing) (r : Result (Option (Live L)) AllocError) → Stands left taken held u old (Some live)
      → ((calls : List Call) → IsLive left taken held u calls live → Parts left taken held before after u (Up calls) r) → Parts left taken held before after u old r
  of_up u before after live Down r stands p = absurd stands
  of_up u before after live (Up calls) r stands p = p calls stands

  pub follows_not : (u : Upstream) (before after : Outside) (old : Standing) (live : Option (Live L)) {e : AllocError} (r : Result (Unit {0}) AllocError) → IsErr r
      → Parts left taken held before after u old (Err e) → live ≡ None → Follows left taken held before after u old live r
  follows_not u before after old live (Ok x) is p none = never is
  follows_not u before after old live (Err x) is p none = (p, none)

  -- ---- a PUT

  pub sends_answered : (u : Upstream) (before after : Outside) (calls : List Call) (old live : Live L) (q : Text) (body : Option Object) (o : Object) → IsLive left taken held u calls old
      → Answered old.session.host (put_on q body) o (wire_of left taken held old.session) (wire_of left taken held live.session)
      → live.session.is_dead ≡ false → live.session.host ≡ old.session.host → live.watch ≡ old.watch → after ≡ before
      → SendsOn left taken held before after u calls (put_on q body) (Some live) (Ok (Some o))
  sends_answered u before after calls old live q body o is a alive host_is watch same =
      let s = Polling old.watch.changes old.watch.mirror.held in
      let more = SentOn q body o in (
        same,
        (let l : IsLive left taken held u (calls ++ more ∷ []) live = record {
          alive = alive;
          host_is = host_is ∙ is.host_is;
          polls = reached_more u Lobby calls (more ∷ []) ∙ ap (option_and_then (λ (t : Stage). reached u t (more ∷ []))) is.polls
              ∙ ap (λ (w : Watch). Some (polling w)) (sym watch);
          fresh = ap (λ (w : Watch). w.mirror.stale) watch ∙ is.fresh;
          said = subst (λ (ss : List Said). HasSaid (host u) ss (wire_of left taken held live.session)) (sym (spoken_app u Lobby s calls (more ∷ []) is.polls))
              (subst (λ (h : Text). Answered h (put_on q body) o (wire_of left taken held old.session) (wire_of left taken held live.session)) is.host_is a (said_in u calls) is.said);
        } in l),
      )

  pub sends_answered_as : (u : Upstream) (before after : Outside) (calls : List Call) (old live : Live L) (now : Option (Live L)) (q : Text) (body : Option Object) (o : Object) → now ≡ Some live → IsLive left taken held u calls old
      → Answered old.session.host (put_on q body) o (wire_of left taken held old.session) (wire_of left taken held live.session)
      → live.session.is_dead ≡ false → live.session.host ≡ old.session.host → live.watch ≡ old.watch → after ≡ before
      → SendsOn left taken held before after u calls (put_on q body) now (Ok (Some o))
  sends_answered_as u before after calls old live now q body o at is a alive host_is watch same =
      subst (λ (x : Option (Live L)). SendsOn left taken held before after u calls (put_on q body) x (Ok (Some o))) (sym at)
      (sends_answered u before after calls old live q body o is a alive host_is watch same)

  pub sends_broken : (u : Upstream) (before after : Outside) (calls : List Call) (old : Live L) (q : Request) (link : L) (kept : List ℕ) (e : Fault) (reads writes reads0 writes0 : ℕ) (v : Visit)
      (live : Option (Live L)) (r : Result (Option Object) AllocError) → IsLive left taken held u calls old
      → Broke old.session.host q e (wire_of left taken held old.session) (at_hand link kept) → (e ≡ faults.Link → Rose reads0 reads ⊎ Rose writes0 writes)
      → Gains before.dials [] after.dials → Gains before.visits (v ∷ []) after.visits
      → (IsSome after.visits → IsVisit v (left link) (taken link) (held link) reads writes) → IsDown e r → live ≡ None → SendsOn left taken held before after u calls q live r
  sends_broken u before after calls old q link kept e reads writes reads0 writes0 v live r is b cause d back visit down none =
      elim (break_kind e broke.0) [
        | inl fault ↦ subst (λ (x : Result (Option Object) AllocError). SendsOn left taken held before after u calls q live x) (sym (fault_down e r fault down))
            (none, (v ∷ [], goes, (e, fault, (v, refl, broken))))
        | inr m ↦ memory_down e r (λ (x : Result (Option Object) AllocError). SendsOn left taken held before after u calls q live x) m (λ a.
            (none, (v ∷ [], goes, (v, refl, subst (λ (f : Fault). IsSome after.visits → IsBroken (host u) (said_in u calls) q f v) m broken)))) down
      ]
    where
      broke : Broke (host u) q e (wire_of left taken held old.session) (at_hand link kept)
      broke = subst (λ (h : Text). Broke h q e (wire_of left taken held old.session) (at_hand link kept)) is.host_is b

      broken : IsSome after.visits → IsBroken (host u) (said_in u calls) q e v
      broken = λ told. broken_back (left link) (taken link) (held link) kept reads writes v (visit told) (host u) (said_in u calls) q e reads0 writes0 cause (broke.1 (said_in u calls) is.said)

      goes : Goes before [] (v ∷ []) after
      goes = record { dialled = d; back = back }
