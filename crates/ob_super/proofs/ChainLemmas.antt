-- A whole run, from the rounds before any request to the end.
use Rattle.std.proofs.Common.{◌≡◌, ℕ, zero, suc, Bool, List, [], ◌∷◌, ◌++◌, map, Option, Some, None, Result, Ok, Err, refl, sym, ap₂, subst, ◌∙◌, append-nil, inl, inr}
use Rattle.std.specs.Prelude.{IsSome}
use Rattle.std.specs.List.{AllByRecursion}
use Rattle.std.specs.declared.alloc.AllocError.{AllocError}
use Rattle.ob_io.specs.Dials.{Dial, Visit}
use Rattle.ob_values.specs.declared.verb.Verb.{Verb}
use Rattle.ob_values.specs.declared.verb.Verb.TheVariants.{Get, Put, Post}
use Rattle.ob_object.specs.Object.{Object}
use Rattle.ob_watching.specs.WatchOuts.{Text}
use Rattle.ob_asking.specs.declared.place.Place.{Place}
use Rattle.ob_asking.specs.declared.request.Request.{Request}
use Rattle.ob_asking.specs.Places.{place_at}
use Rattle.ob_super.specs.declared.upstream.Live.{Live}
use Rattle.ob_super.specs.declared.upstream.Followed.{Followed}
use Rattle.ob_super.specs.declared.state.Super.{Super}
use Rattle.ob_super.specs.Upstreams.{Upstream}
use Rattle.ob_super.specs.Calls.{Call, stage_of}
use Rattle.ob_super.specs.Turns.{Standing, Down, Up, after}
use Rattle.ob_super.specs.Trees.{Entry, entry_at}
use Rattle.ob_super.specs.Dialling.{Past, no_rounds}
use Rattle.ob_super.specs.Rounds.{PutsHere, Sends, SendsIf, SendsTo, Puts, Ends}
use Rattle.ob_super.specs.Supervised.{RepliesBy, LacksReply, Asked, RepliesTo, Supervises, ManyRounds, StopsAmong, all_down}
use Rattle.ob_super.specs.InHand as in_hand
use Rattle.ob_super.specs.InHand.{Outside, Goes, Stands, StandAll, EndsAll, ManyAll, AnswersAll, SupervisesAll, RunsAll, StopsAll, IsNew}
use Rattle.ob_super.proofs.SuperLemmas.{told_before, goes_none, goes_then}
use Rattle.ob_super.proofs.RoundLemmas.{rounds_less, stops_less}
use Rattle.ob_super.proofs.AnswerLemmas.{many_less}

-- ---- what is told less

module _ (T U : Type 0) (less : U → T) where
  sends_to_less : (u : Upstream) (calls : List Call) (new : Standing) (path : Text) (q : Request) (vs : List Visit) (r : Result (Option Object) AllocError) → SendsTo T u calls new path q vs r → SendsTo U u calls new path q vs r
  sends_to_less u calls new path q vs (Ok None) s = s
  sends_to_less u calls new path q vs (Ok (Some reply)) s = elim s [
    | inl a ↦ inl a
    | inr (is, down, (e, fault, (v, one, back))) ↦ inr (is, down, (e, fault, (v, one, λ t. back (less t))))
  ]
  sends_to_less u calls new path q vs (Err e) (down, s) = (
    down,
    elim s [
      | inl (v, one, back) ↦ inl (v, one, λ t. back (less t))
      | inr (o, (v, one, back)) ↦ inr (o, (v, one, λ t. back (less t)))
    ],
  )

  sends_if_less : (u : Upstream) (calls : List Call) (new : Standing) (path : Text) (place : Option Place) (body : Option Object) (vs : List Visit) (r : Result (Option Object) AllocError)
      → SendsIf T u calls new path place body vs r → SendsIf U u calls new path place body vs r
  sends_if_less u calls new path (Some place) body vs r s = sends_to_less u calls new path _ vs r s
  sends_if_less u calls new path None body vs (Ok reply) s = s
  sends_if_less u calls new path None body vs (Err e) (down, (v, one, back)) = (down, (v, one, λ t. back (less t)))

  sends_less : (u : Upstream) (old new : Standing) (entry : Entry) (body : Option Object) (vs : List Visit) (r : Result (Option Object) AllocError) → Sends T u old new entry body vs r → Sends U u old new entry body vs r
  sends_less u Down new entry body vs r s = s
  sends_less u (Up calls) new entry body vs r s = sends_if_less u calls new entry.path (place_at u.lobby.url entry.asked) body vs r s

  here_less : (u : Upstream) (o n : Standing) (olds news : List Standing) (body : Option Object) (vs : List Visit) (r : Result (Option Object) AllocError) (more fewer : Type 0) → (more → fewer) → (e : Option Entry)
      → PutsHere e (λ (entry : Entry). (news ≡ olds) × Sends T u o n entry body vs r) ((n ≡ o) × more)
      → PutsHere e (λ (entry : Entry). (news ≡ olds) × Sends U u o n entry body vs r) ((n ≡ o) × fewer)
  here_less u o n olds news body vs r more fewer f None (same, rest) = (same, f rest)
  here_less u o n olds news body vs r more fewer f (Some entry) (same, sends) = (same, sends_less u o n entry body vs r sends)

  puts_less : (us : List Upstream) (olds news : List Standing) (path : Text) (body : Option Object) (vs : List Visit) (r : Result (Option Object) AllocError) → Puts T us olds news path body vs r → Puts U us olds news path body vs r
  puts_less [] [] [] path body vs r p = p
  puts_less [] [] (n ∷ news) path body vs r p = absurd p
  puts_less [] (o ∷ olds) news path body vs r p = absurd p
  puts_less (u ∷ us) [] news path body vs r p = absurd p
  puts_less (u ∷ us) (o ∷ olds) [] path body vs r p = absurd p
  puts_less (u ∷ us) (o ∷ olds) (n ∷ news) path body vs r p =
      here_less u o n olds news body vs r (Puts T us olds news path body vs r) (Puts U us olds news path body vs r) (puts_less us olds news path body vs r) (entry_at u o path) p

  by_less : (us : List Upstream) (olds news : List Standing) (verb : Verb) (path : Text) (body : Option Object) (vs : List Visit) (reply : Object) → RepliesBy T us olds news verb path body vs reply → RepliesBy U us olds news verb path body vs reply
  by_less us olds news Get path body vs reply r = r
  by_less us olds news Put path body vs reply (put, puts, is) = (put, puts_less us olds news path body vs (Ok put) puts, is)
  by_less us olds news Post path body vs reply r = r

  lacks_reply_less : (us : List Upstream) (olds news : List Standing) (verb : Verb) (path : Text) (body : Option Object) (vs : List Visit) → LacksReply T us olds news verb path body vs → LacksReply U us olds news verb path body vs
  lacks_reply_less us olds news Get path body vs r = r
  lacks_reply_less us olds news Put path body vs (put, none, puts) = (put, none, puts_less us olds news path body vs put puts)
  lacks_reply_less us olds news Post path body vs r = r

  replies_less : (us : List Upstream) (past past' : Past) (olds news : List Standing) (q : Request) (reply : Option Object) (ds : List Dial) (vs : List Visit) → RepliesTo T us past past' olds news q reply ds vs → RepliesTo U us past past' olds news q reply ds vs
  replies_less us past past' olds news q (Some reply) ds vs r = record {
    rounded = r.rounded;
    in_round = r.in_round;
    in_reply = r.in_reply;
    visits_are = r.visits_are;
    round = rounds_less T U less us past past' olds r.rounded ds r.in_round r.round;
    replies = by_less us r.rounded news q.verb q.target q.body r.in_reply reply r.replies;
  }
  replies_less us past past' olds news q None ds vs r = record {
    rounded = r.rounded;
    in_round = r.in_round;
    in_reply = r.in_reply;
    visits_are = r.visits_are;
    lacks = elim r.lacks [
      | inl s ↦ inl (stops_less T U less us past past' olds r.rounded ds r.in_round s.0, s.1, s.2)
      | inr s ↦ inr (rounds_less T U less us past past' olds r.rounded ds r.in_round s.0, lacks_reply_less us r.rounded news q.verb q.target q.body r.in_reply s.1)
    ];
  }

  supervises_less : (us : List Upstream) (past past' : Past) (olds news : List Standing) (qs : List Asked) (ds : List Dial) (vs : List Visit) → Supervises T us past past' olds news qs ds vs → Supervises U us past past' olds news qs ds vs
  supervises_less us past past' olds news [] ds vs s = s
  supervises_less us past past' olds news (a ∷ qs) ds vs (mid, mids, d, e, v, w, dials, visits, first, rest) =
      (mid, mids, d, e, v, w, dials, visits, replies_less us past mid olds mids a.request a.reply d v first, supervises_less us mid past' mids news qs e w rest)

module _ {L : Type 0} (left taken held : L → Option (List ℕ)) where
  abbrev AllStand : List Standing → List (Followed L) → Type 0
  AllStand ss all = StandAll left taken held ss all

  -- ---- requests, one behind the other

  pub supervises_none : (o : Outside) (all : Super L) → SupervisesAll left taken held o o all all []
  supervises_none o all = λ olds are. (olds, [], [], goes_none o, (refl, refl, refl, refl), are)

  pub supervises_more : (before mid after : Outside) (old mids new : Super L) (q : Request) (reply : Option Object) (qs : List Asked) → in_hand.upstreams mids.followed.items ≡ in_hand.upstreams old.followed.items
      → AnswersAll left taken held before mid old mids q reply → SupervisesAll left taken held mid after mids new qs → SupervisesAll left taken held before after old new (in_hand.asked q reply ∷ qs)
  supervises_more before mid after old mids new q reply qs same first rest = λ olds are.
      let p = first olds are in
      let a = rest p.0 p.5 in
      let us = in_hand.upstreams old.followed.items in (
        a.0,
        p.1 ++ a.1,
        p.2 ++ a.2,
        goes_then before mid after p.1 a.1 p.2 a.2 p.3 a.3,
        (
          in_hand.past mids,
          p.0,
          p.1,
          a.1,
          p.2,
          a.2,
          refl,
          refl,
          replies_less (IsSome mid.visits) (IsSome after.visits) (λ t. told_before mid.visits after.visits a.2 a.3.back t) us (in_hand.past old) (in_hand.past mids) olds p.0 q reply p.1 p.2 p.4,
          subst (λ (vs : List Upstream). Supervises (IsSome after.visits) vs (in_hand.past mids) (in_hand.past new) p.0 a.0 qs a.1 a.2) same a.4,
        ),
        a.5,
      )

  -- ---- a whole run

  abbrev NeverDialled : List (Followed L) → Type 0
  NeverDialled all = AllByRecursion (λ (f : Followed L). (f.live ≡ None) × (f.failed ≡ 0)) all

  down_stand : (all : List (Followed L)) → NeverDialled all → AllStand (all_down (in_hand.upstreams all)) all
  down_stand [] down = tt
  down_stand (f ∷ fs) (none, rest) = (subst (λ (live : Option (Live L)). Stands left taken held (in_hand.upstream f.upstream) Down live) (sym none.0) tt, down_stand fs rest)

  none_dialled : (all : List (Followed L)) → NeverDialled all → in_hand.fails all ≡ map (λ (u : Upstream). 0) (in_hand.upstreams all)
  none_dialled [] down = refl
  none_dialled (f ∷ fs) (none, rest) = ap₂ (λ (n : ℕ) (ns : List ℕ). n ∷ ns) none.1 (none_dialled fs rest)

  -- before the first round
  first_past : (s : Super L) → IsNew s → in_hand.past s ≡ no_rounds (in_hand.upstreams s.followed.items)
  first_past s (none, down) = ap₂ (λ (n : ℕ) (ns : List ℕ). let x : Past = record { rounds = n; fails = ns } in x) none (none_dialled s.followed.items down)

  pub runs : (before mid late after : Outside) (old begun last : Super L) (n : ℕ) (x : Unit {0}) (qs : List Asked) → IsNew old
      → in_hand.upstreams begun.followed.items ≡ in_hand.upstreams old.followed.items → in_hand.upstreams last.followed.items ≡ in_hand.upstreams begun.followed.items
      → ManyAll left taken held before mid old begun n (Ok x) → SupervisesAll left taken held mid late begun last qs → EndsAll left taken held late after last.followed.items
      → RunsAll before after (in_hand.upstreams old.followed.items) n qs
  runs before mid late after old begun last n x qs down same still many asked ends =
      let us = in_hand.upstreams old.followed.items in
      let p = many (all_down us) (down_stand old.followed.items down.1) in
      let a = asked p.0 p.5 in
      let e = ends a.0 a.5 in
      let lost = λ (t : IsSome after.visits). told_before late.visits after.visits e.0 e.1.back t in (
        p.1 ++ a.1,
        p.2 ++ (a.2 ++ e.0),
        subst (λ (ds : List Dial). Goes before (p.1 ++ ds) (p.2 ++ (a.2 ++ e.0)) after) (append-nil a.1)
            (goes_then before mid after p.1 (a.1 ++ []) p.2 (a.2 ++ e.0) p.3 (goes_then mid late after a.1 [] a.2 e.0 a.3 e.1)),
        record {
          begun = p.0;
          last = a.0;
          past_begun = in_hand.past begun;
          past_last = in_hand.past last;
          dials_before = p.1;
          dials_asked = a.1;
          back_before = p.2;
          back_asked = a.2;
          back_last = e.0;
          dials_are = refl;
          visits_are = refl;
          before = subst (λ (y : Past). ManyRounds (IsSome after.visits) us n y (in_hand.past begun) (all_down us) p.0 p.1 p.2) (first_past old down)
              (many_less (IsSome mid.visits) (IsSome after.visits) (λ t. told_before mid.visits late.visits a.2 a.3.back (lost t)) us n (in_hand.past old) (in_hand.past begun) (all_down us) p.0 p.1 p.2 p.4);
          replies = subst (λ (vs : List Upstream). Supervises (IsSome after.visits) vs (in_hand.past begun) (in_hand.past last) p.0 a.0 qs a.1 a.2) same
              (supervises_less (IsSome late.visits) (IsSome after.visits) lost (in_hand.upstreams begun.followed.items) (in_hand.past begun) (in_hand.past last) p.0 a.0 qs a.1 a.2 a.4);
          ends = subst (λ (vs : List Upstream). Ends (IsSome after.visits) vs a.0 e.0) (still ∙ same) e.2;
        },
      )

  among_less : (T U : Type 0) → (U → T) → (us : List Upstream) (n : ℕ) (past past' : Past) (olds news : List Standing) (ds : List Dial) (vs : List Visit) → StopsAmong T us n past past' olds news ds vs → StopsAmong U us n past past' olds news ds vs
  among_less T U less us zero past past' olds news ds vs s = s
  among_less T U less us (suc n) past past' olds news ds vs s = elim s [
    | inl a ↦ inl (stops_less T U less us past past' olds news ds vs a)
    | inr (mid, mids, d, e, v, w, dials, visits, round, rest) ↦ inr (mid, mids, d, e, v, w, dials, visits, rounds_less T U less us past mid olds mids d v round, among_less T U less us n mid past' mids news e w rest)
  ]

  pub stops : (before mid after : Outside) (old last : Super L) (n : ℕ) (x : AllocError) → IsNew old
      → in_hand.upstreams last.followed.items ≡ in_hand.upstreams old.followed.items → ManyAll left taken held before mid old last n (Err x) → EndsAll left taken held mid after last.followed.items
      → StopsAll before after (in_hand.upstreams old.followed.items) n
  stops before mid after old last n x down same many ends =
      let us = in_hand.upstreams old.followed.items in
      let p = many (all_down us) (down_stand old.followed.items down.1) in
      let e = ends p.0 p.5 in (
        p.1,
        p.2 ++ e.0,
        subst (λ (ds : List Dial). Goes before ds (p.2 ++ e.0) after) (append-nil p.1) (goes_then before mid after p.1 [] p.2 e.0 p.3 e.1),
        record {
          last = p.0;
          past_last = in_hand.past last;
          back_before = p.2;
          back_last = e.0;
          visits_are = refl;
          before = subst (λ (y : Past). StopsAmong (IsSome after.visits) us n y (in_hand.past last) (all_down us) p.0 p.1 p.2) (first_past old down)
              (among_less (IsSome mid.visits) (IsSome after.visits) (λ t. told_before mid.visits after.visits e.0 e.1.back t) us n (in_hand.past old) (in_hand.past last) (all_down us) p.0 p.1 p.2 p.4);
          ends = subst (λ (vs : List Upstream). Ends (IsSome after.visits) vs p.0 e.0) same e.2;
        },
      )
