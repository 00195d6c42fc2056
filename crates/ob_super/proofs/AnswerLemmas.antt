-- Rounds one behind the other, and the replies to requests.
use Rattle.std.proofs.Common.{◌≡◌, ℕ, zero, suc, ◌+◌, ◌-◌, ◌<◌, Bool, List, [], ◌∷◌, ◌++◌, Option, Some, None, Result, Ok, Err, refl, sym, ap, subst, ◌∙◌, append_assoc, append-nil, add-one, inl, inr, arith}
use Rattle.std.specs.Prelude.{IsSome, IsErr, IfOk, unwrap_or, is_some}
use Rattle.std.specs.declared.alloc.AllocError.{AllocError}
use Rattle.ob_io.specs.Dials.{Dial, Visit}
use Rattle.ob_values.specs.declared.verb.Verb.TheVariants.{Get, Put, Post}
use Rattle.ob_object.specs.Object.{Object}
use Rattle.ob_watching.specs.WatchOuts.{Text, Held}
use Rattle.ob_asking.specs.declared.place.Place.{Place}
use Rattle.ob_asking.specs.declared.request.Request.{Request}
use Rattle.ob_asking.specs.Places.{place_at}
use Rattle.ob_super.specs.declared.upstream.Live.{Live}
use Rattle.ob_super.specs.declared.upstream.Followed.{Followed}
use Rattle.ob_super.specs.declared.state.Super.{Super}
use Rattle.ob_super.specs.Upstreams.{Upstream}
use Rattle.ob_super.specs.Turns.{Standing, Down, Up}
use Rattle.ob_super.specs.Trees.{View, Entry, shown_in, shown_at, view_of, views_of, entry_at}
use Rattle.ob_super.specs.Dialling.{Past}
use Rattle.ob_super.specs.Rounds.{Rounds, Stops, PutsHere, Sends, SendsIf, Puts, not_supported}
use Rattle.ob_super.specs.Supervised.{no_such_object, refused_at, RepliesTo, ManyRounds, StopsAmong}
use Rattle.ob_super.specs.InHand as in_hand
use Rattle.ob_super.specs.InHand.{Outside, Goes, Stands, StandAll, RoundsAll, PutsAll, ManyAll, RepliesOr, RepliesAll, AnswersAll}
use Rattle.ob_client.proofs.SessionLemmas.{never}
use Rattle.ob_super.proofs.SuperLemmas.{told_before, goes_none, goes_then, held_stands}
use Rattle.ob_super.proofs.RoundLemmas.{rounds_less}

-- ---- what is told less

module _ (T U : Type 0) (less : U → T) where
  pub many_less : (us : List Upstream) (n : ℕ) (past past' : Past) (olds news : List Standing) (ds : List Dial) (vs : List Visit) → ManyRounds T us n past past' olds news ds vs → ManyRounds U us n past past' olds news ds vs
  many_less us zero past past' olds news ds vs r = r
  many_less us (suc n) past past' olds news ds vs (mid, mids, d, e, v, w, dials, visits, round, rest) =
      (mid, mids, d, e, v, w, dials, visits, rounds_less T U less us past mid olds mids d v round, many_less us n mid past' mids news e w rest)

-- ---- one more round

more_rounds : (T : Type 0) (us : List Upstream) (n : ℕ) (past mid past' : Past) (olds mids news : List Standing) (d e : List Dial) (v w : List Visit) → ManyRounds T us n past mid olds mids d v → Rounds T us mid past' mids news e w
    → ManyRounds T us (suc n) past past' olds news (d ++ e) (v ++ w)
more_rounds T us zero past mid past' olds mids news d e v w (still, same, none, nothing) round = (
  past',
  news,
  e,
  [],
  w,
  [],
  ap (λ (x : List Dial). x ++ e) none ∙ sym (append-nil e),
  ap (λ (x : List Visit). x ++ w) nothing ∙ sym (append-nil w),
  subst (λ (p : Past). Rounds T us p past' olds news e w) still (subst (λ (s : List Standing). Rounds T us mid past' s news e w) same round),
  (refl, refl, refl, refl),
)
more_rounds T us (suc n) past mid past' olds mids news d e v w (one, first, a, b, p, q, dials, visits, round, rest) last = (
  one,
  first,
  a,
  b ++ e,
  p,
  q ++ w,
  ap (λ (x : List Dial). x ++ e) dials ∙ append_assoc a b e,
  ap (λ (x : List Visit). x ++ w) visits ∙ append_assoc p q w,
  round,
  more_rounds T us n one mid past' first mids news b e q w rest last,
)

-- memory was wanting in the one behind so many
then_stops : (T : Type 0) (us : List Upstream) (n m : ℕ) (past mid past' : Past) (olds mids news : List Standing) (d e : List Dial) (v w : List Visit) → n < m → ManyRounds T us n past mid olds mids d v → Stops T us mid past' mids news e w
    → StopsAmong T us m past past' olds news (d ++ e) (v ++ w)
then_stops T us n zero past mid past' olds mids news d e v w lt many stops = absurd (let x : ⊥ = omega (arith, lt) in x)
then_stops T us zero (suc m) past mid past' olds mids news d e v w lt (still, same, none, nothing) stops =
    inl (subst (λ (x : List Dial). Stops T us past past' olds news (x ++ e) (v ++ w)) (sym none) (subst (λ (y : List Visit). Stops T us past past' olds news e (y ++ w)) (sym nothing)
    (subst (λ (p : Past). Stops T us p past' olds news e w) still (subst (λ (s : List Standing). Stops T us mid past' s news e w) same stops))))
then_stops T us (suc n) (suc m) past mid past' olds mids news d e v w lt (one, first, a, b, p, q, dials, visits, round, rest) stops =
    inr (
      one,
      first,
      a,
      b ++ e,
      p,
      q ++ w,
      ap (λ (x : List Dial). x ++ e) dials ∙ append_assoc a b e,
      ap (λ (x : List Visit). x ++ w) visits ∙ append_assoc p q w,
      round,
      then_stops T us n m one mid past' first mids news b e q w (omega (arith, lt)) rest stops,
    )

-- ---- a PUT of a place that nothing holds

sent_not : (T : Type 0) (u : Upstream) (old new : Standing) (entry : Entry) (body : Option Object) (vs : List Visit) → Sends T u old new entry body vs (Ok None) → ⊥
sent_not T u Down new entry body vs s = s
sent_not T u (Up calls) new entry body vs s = of (place_at u.lobby.url entry.asked) s
  where
    of : (p : Option Place) → SendsIf T u calls new entry.path p body vs (Ok None) → ⊥
    of (Some place) s = s
    of None s = absurd (let x : None ≡ Some not_supported = s.0 in cc)

same_here : (T : Type 0) (u : Upstream) (o n : Standing) (olds news : List Standing) (body : Option Object) (vs : List Visit) (behind : Type 0) → (behind → news ≡ olds) → (e : Option Entry)
    → PutsHere e (λ (entry : Entry). (news ≡ olds) × Sends T u o n entry body vs (Ok None)) ((n ≡ o) × behind) → (n ∷ news) ≡ (o ∷ olds)
same_here T u o n olds news body vs behind same None (here, rest) = ap (λ (s : Standing). s ∷ news) here ∙ ap (λ (ss : List Standing). o ∷ ss) (same rest)
same_here T u o n olds news body vs behind same (Some entry) (there, sends) = absurd (sent_not T u o n entry body vs sends)

puts_same : (T : Type 0) (us : List Upstream) (olds news : List Standing) (path : Text) (body : Option Object) (vs : List Visit) → Puts T us olds news path body vs (Ok None) → news ≡ olds
puts_same T [] [] [] path body vs p = refl
puts_same T [] [] (n ∷ news) path body vs p = absurd p
puts_same T [] (o ∷ olds) news path body vs p = absurd p
puts_same T (u ∷ us) [] news path body vs p = absurd p
puts_same T (u ∷ us) (o ∷ olds) [] path body vs p = absurd p
puts_same T (u ∷ us) (o ∷ olds) (n ∷ news) path body vs p =
    same_here T u o n olds news body vs (Puts T us olds news path body vs (Ok None)) (puts_same T us olds news path body vs) (entry_at u o path) p

module _ {L : Type 0} (left taken held : L → Option (List ℕ)) where
  abbrev AllStand : List Standing → List (Followed L) → Type 0
  AllStand ss all = StandAll left taken held ss all

  -- ---- what is shown

  view_at : (u : Upstream) (s : Standing) (live : Option (Live L)) → Stands left taken held u s live → view_of u s ≡ (let v : View = (u, in_hand.held_in live) in v)
  view_at u Down None stands = refl
  view_at u Down (Some l) stands = absurd stands
  view_at u (Up calls) None stands = absurd stands
  view_at u (Up calls) (Some l) is = ap (λ (hs : List Held). let v : View = (u, Some hs) in v) (held_stands left taken held u (Up calls) (Some l) is)

  views_at : (all : List (Followed L)) (ss : List Standing) → AllStand ss all → views_of (in_hand.upstreams all) ss ≡ in_hand.views all
  views_at [] [] are = refl
  views_at [] (s ∷ ss) are = absurd are
  views_at (f ∷ fs) [] are = absurd are
  views_at (f ∷ fs) (s ∷ ss) (first, others) =
      ap (λ (v : View). v ∷ views_of (in_hand.upstreams fs) ss) (view_at (in_hand.upstream f.upstream) s f.live first) ∙ ap (λ (vs : List View). in_hand.view f ∷ vs) (views_at fs ss others)

  shown_standing : (all : List (Followed L)) (ss : List Standing) (path : Text) → AllStand ss all → shown_in (in_hand.views all) path ≡ shown_at (in_hand.upstreams all) ss path
  shown_standing all ss path are = ap (λ (vs : List View). shown_in vs path) (sym (views_at all ss are))

  -- ---- replies

  pub replies_got : (o : Outside) (all : List (Followed L)) (path : Text) (body : Option Object) (r : Result Object AllocError) → IfOk r (λ x. x ≡ unwrap_or (shown_in (in_hand.views all) path) no_such_object)
      → RepliesAll left taken held o o all all (in_hand.request Get path body) (in_hand.replied_by r)
  replies_got o all path body r is = λ olds are. (olds, [], goes_none o, of olds are r is, are)
    where
      of : (olds : List Standing) → AllStand olds all → (r : Result Object AllocError) → IfOk r (λ x. x ≡ unwrap_or (shown_in (in_hand.views all) path) no_such_object)
          → RepliesOr left taken held (IsSome o.visits) (in_hand.upstreams all) olds olds (in_hand.request Get path body) [] (in_hand.replied_by r)
      of olds are (Ok x) is = (is ∙ ap (λ (s : Option Object). unwrap_or s no_such_object) (shown_standing all olds path are), refl, refl)
      of olds are (Err e) is = (refl, refl)

  pub replies_post : (o : Outside) (all : List (Followed L)) (path : Text) (body : Option Object) (r : Result Object AllocError) → IfOk r (λ x. x ≡ refused_at (is_some (shown_in (in_hand.views all) path)))
      → RepliesAll left taken held o o all all (in_hand.request Post path body) (in_hand.replied_by r)
  replies_post o all path body r is = λ olds are. (olds, [], goes_none o, of olds are r is, are)
    where
      of : (olds : List Standing) → AllStand olds all → (r : Result Object AllocError) → IfOk r (λ x. x ≡ refused_at (is_some (shown_in (in_hand.views all) path)))
          → RepliesOr left taken held (IsSome o.visits) (in_hand.upstreams all) olds olds (in_hand.request Post path body) [] (in_hand.replied_by r)
      of olds are (Ok x) is = (is ∙ ap (λ (s : Option Object). refused_at (is_some s)) (shown_standing all olds path are), refl, refl)
      of olds are (Err e) is = (refl, refl)

  pub replies_put : (before after : Outside) (old new : List (Followed L)) (path : Text) (body : Option Object) (reply : Object) → PutsAll left taken held before after old new path body (Ok (Some reply))
      → RepliesAll left taken held before after old new (in_hand.request Put path body) (Some reply)
  replies_put before after old new path body reply puts = λ olds are. let p = puts olds are in (p.0, p.1, p.2, (Some reply, p.3, refl), p.4)

  pub replies_unput : (before after : Outside) (old new : List (Followed L)) (path : Text) (body : Option Object) (r : Result Object AllocError) → in_hand.upstreams new ≡ in_hand.upstreams old
      → PutsAll left taken held before after old new path body (Ok None) → IfOk r (λ x. x ≡ refused_at (is_some (shown_in (in_hand.views new) path)))
      → RepliesAll left taken held before after old new (in_hand.request Put path body) (in_hand.replied_by r)
  replies_unput before after old new path body r same puts is = λ olds are. let p = puts olds are in (p.0, p.1, p.2, of olds p.0 p.1 p.3 p.4 r is, p.4)
    where
      of : (olds news : List Standing) (vs : List Visit) → Puts (IsSome after.visits) (in_hand.upstreams old) olds news path body vs (Ok None) → AllStand news new → (r : Result Object AllocError)
          → IfOk r (λ x. x ≡ refused_at (is_some (shown_in (in_hand.views new) path))) → RepliesOr left taken held (IsSome after.visits) (in_hand.upstreams old) olds news (in_hand.request Put path body) vs (in_hand.replied_by r)
      of olds news vs p stand (Ok x) is = (
        None,
        p,
        is ∙ ap (λ (s : Option Object). refused_at (is_some s)) (shown_standing new news path stand
            ∙ ap (λ (us : List Upstream). shown_at us news path) same ∙ ap (λ (ss : List Standing). shown_at (in_hand.upstreams old) ss path) (puts_same (IsSome after.visits) (in_hand.upstreams old) olds news path body vs p)),
      )
      of olds news vs p stand (Err e) is = (Ok None, tt, p)

  pub replies_lacked : (before after : Outside) (old new : List (Followed L)) (path : Text) (body : Option Object) (r : Result Object AllocError) {e : AllocError} → IsErr r
      → PutsAll left taken held before after old new path body (Err e) → RepliesAll left taken held before after old new (in_hand.request Put path body) (in_hand.replied_by r)
  replies_lacked before after old new path body (Ok x) is puts = never is
  replies_lacked before after old new path body (Err x) {e} is puts = λ olds are. let p = puts olds are in (p.0, p.1, p.2, (Err e, tt, p.3), p.4)

  -- ---- a round, and a reply

  pub answers : (before mid after : Outside) (old mids new : Super L) (q : Request) (r : Option Object) (x : Unit {0}) → in_hand.upstreams mids.followed.items ≡ in_hand.upstreams old.followed.items
      → in_hand.past new ≡ in_hand.past mids → RoundsAll left taken held before mid old mids (Ok x) → RepliesAll left taken held mid after mids.followed.items new.followed.items q r
      → AnswersAll left taken held before after old new q r
  answers before mid after old mids new q r x same still rounds replies = λ olds are.
      let p = rounds olds are in
      let a = replies p.0 p.5 in (
        a.0,
        p.1,
        p.2 ++ a.1,
        subst (λ (ds : List Dial). Goes before ds (p.2 ++ a.1) after) (append-nil p.1) (goes_then before mid after p.1 [] p.2 a.1 p.3 a.2),
        of r olds p.0 a.0 p.1 p.2 a.1
            (subst (λ (y : Past). Rounds (IsSome after.visits) us (in_hand.past old) y olds p.0 p.1 p.2) (sym still)
            (rounds_less (IsSome mid.visits) (IsSome after.visits) (λ t. told_before mid.visits after.visits a.1 a.2.back t) us (in_hand.past old) (in_hand.past mids) olds p.0 p.1 p.2 p.4))
            (subst (λ (vs : List Upstream). RepliesOr left taken held (IsSome after.visits) vs p.0 a.0 q a.1 r) same a.3),
        a.4,
      )
    where
      us : List Upstream
      us = in_hand.upstreams old.followed.items

      of : (r : Option Object) (olds rounded news : List Standing) (ds : List Dial) (v w : List Visit) → Rounds (IsSome after.visits) us (in_hand.past old) (in_hand.past new) olds rounded ds v
          → RepliesOr left taken held (IsSome after.visits) us rounded news q w r → RepliesTo (IsSome after.visits) us (in_hand.past old) (in_hand.past new) olds news q r ds (v ++ w)
      of (Some reply) olds rounded news ds v w round replies = record { rounded = rounded; in_round = v; in_reply = w; visits_are = refl; round = round; replies = replies }
      of None olds rounded news ds v w round lacks = record { rounded = rounded; in_round = v; in_reply = w; visits_are = refl; lacks = inr (round, lacks) }

  pub answers_not : (before after : Outside) (old new : Super L) (q : Request) (r : Result Object AllocError) {e : AllocError} → IsErr r
      → RoundsAll left taken held before after old new (Err e) → AnswersAll left taken held before after old new q (in_hand.replied_by r)
  answers_not before after old new q (Ok x) is rounds = never is
  answers_not before after old new q (Err x) is rounds = λ olds are.
      let p = rounds olds are in
      (p.0, p.1, p.2, p.3, record { rounded = p.0; in_round = p.2; in_reply = []; visits_are = sym (append-nil p.2); lacks = inl (p.4, refl, refl) }, p.5)

  -- ---- many rounds

  pub many_none : (o : Outside) (all : Super L) → ManyAll left taken held o o all all 0 (Ok tt)
  many_none o all = λ olds are. (olds, [], [], goes_none o, (refl, refl, refl, refl), are)

  pub many_more : (before mid after : Outside) (old mids new : Super L) (n : ℕ) (x y z : Unit {0}) → in_hand.upstreams mids.followed.items ≡ in_hand.upstreams old.followed.items
      → ManyAll left taken held before mid old mids n (Ok x) → RoundsAll left taken held mid after mids new (Ok y) → ManyAll left taken held before after old new (n + 1) (Ok z)
  many_more before mid after old mids new n x y z same many rounds = λ olds are.
      let p = many olds are in
      let a = rounds p.0 p.5 in
      let us = in_hand.upstreams old.followed.items in (
        a.0,
        p.1 ++ a.1,
        p.2 ++ a.2,
        goes_then before mid after p.1 a.1 p.2 a.2 p.3 a.3,
        subst (λ (m : ℕ). ManyRounds (IsSome after.visits) us m (in_hand.past old) (in_hand.past new) olds a.0 (p.1 ++ a.1) (p.2 ++ a.2)) (sym (add-one n))
            (more_rounds (IsSome after.visits) us n (in_hand.past old) (in_hand.past mids) (in_hand.past new) olds p.0 a.0 p.1 a.1 p.2 a.2
            (many_less (IsSome mid.visits) (IsSome after.visits) (λ t. told_before mid.visits after.visits a.2 a.3.back t) us n (in_hand.past old) (in_hand.past mids) olds p.0 p.1 p.2 p.4)
            (subst (λ (vs : List Upstream). Rounds (IsSome after.visits) vs (in_hand.past mids) (in_hand.past new) p.0 a.0 a.1 a.2) same a.4)),
        a.5,
      )

  pub many_stop : (before mid after : Outside) (old mids new : Super L) (n m : ℕ) (x : Unit {0}) (r : Result (Unit {0}) AllocError) {e : AllocError} → IsErr r → n < m → in_hand.upstreams mids.followed.items ≡ in_hand.upstreams old.followed.items
      → ManyAll left taken held before mid old mids n (Ok x) → RoundsAll left taken held mid after mids new (Err e) → ManyAll left taken held before after old new m r
  many_stop before mid after old mids new n m x (Ok y) is lt same many rounds = never is
  many_stop before mid after old mids new n m x (Err y) is lt same many rounds = λ olds are.
      let p = many olds are in
      let a = rounds p.0 p.5 in
      let us = in_hand.upstreams old.followed.items in (
        a.0,
        p.1 ++ a.1,
        p.2 ++ a.2,
        goes_then before mid after p.1 a.1 p.2 a.2 p.3 a.3,
        then_stops (IsSome after.visits) us n m (in_hand.past old) (in_hand.past mids) (in_hand.past new) olds p.0 a.0 p.1 a.1 p.2 a.2 lt
            (many_less (IsSome mid.visits) (IsSome after.visits) (λ t. told_before mid.visits after.visits a.2 a.3.back t) us n (in_hand.past old) (in_hand.past mids) olds p.0 p.1 p.2 p.4)
            (subst (λ (vs : List Upstream). Stops (IsSome after.visits) vs (in_hand.past mids) (in_hand.past new) p.0 a.0 a.1 a.2) same a.4),
        a.5,
      )
