-- Calls over several upstreams, one upstream after the other.
use Rattle.std.proofs.Common.{◌≡◌, ℕ, suc, List, [], ◌∷◌, ◌++◌, length, Option, Some, None, Result, Ok, Err, refl, sym, ap, subst, ◌∙◌, inl, inr}
use Rattle.std.specs.Prelude.{IsSome, IsErr, IfOk, IfSome, slice_get}
use Rattle.std.specs.declared.alloc.AllocError.{AllocError}
use Rattle.ob_io.specs.Dials.{Dial, Visit}
use Rattle.ob_io.specs.Told.{Gains, Gains-none, Gains-then}
use Rattle.ob_object.specs.Object.{Object}
use Rattle.ob_watching.specs.WatchOuts.{Text, Held}
use Rattle.ob_asking.specs.declared.place.Place.{Place}
use Rattle.ob_asking.specs.declared.request.Request.{Request}
use Rattle.ob_asking.specs.Places.{place_at}
use Rattle.ob_asking.specs.Wires.{Wire}
use Rattle.ob_asking.specs.declared.fault.Fault.{Fault}
use Rattle.ob_asking.specs.declared.fault.Fault.TheVariants as faults
use Rattle.ob_super.specs.declared.upstream.Live.{Live}
use Rattle.ob_super.specs.declared.upstream.Followed.{Followed}
use Rattle.ob_super.specs.Upstreams.{Upstream}
use Rattle.ob_super.specs.Calls.{Stage, Call, InRound, SentOn, Said, put_on, said_in, stage_of}
use Rattle.ob_super.specs.Turns.{Turn, Dialled, Reply, Broken, Standing, Down, Up, standing, turned, held_at, held_of}
use Rattle.ob_super.specs.Trees.{Entry, placed, object_path, the_entry, entry_in, entry_at}
use Rattle.ob_super.specs.Links.{IsBack, IsBroken}
use Rattle.ob_super.specs.Rounds.{host, ComesBack, BreaksAt, BreaksNext, BackIfDown, AreBackAt, AreBack, Part, PutsHere, Puts, Sends, Ends, upstream_down, not_supported}
use Rattle.ob_super.specs.InHand as in_hand
use Rattle.ob_super.specs.InHand.{Outside, Goes, Stands, StandAll, SendsOn, PutsTo, HasSent, MayPut, PutsOne, PutsAll, EndsAll, HasEntry}
use Rattle.ob_client.proofs.SessionLemmas.{never}
use Rattle.ob_super.proofs.SaidLemmas.{unasked}
use Rattle.ob_super.proofs.PartLemmas.{said_back, broken_back}

-- ---- what is told less

-- a list that is told was told before
pub told_before : {A : Type 0} (before after : Option (List A)) (more : List A) → Gains before more after → IsSome after → IsSome before
told_before before None more g t = never t
told_before None (Some xs) more g t = absurd g
told_before (Some ys) (Some xs) more g t = refl

module _ (T U : Type 0) (less : U → T) where
  pub comes_less : (u : Upstream) (calls : List Call) (vs : List Visit) → ComesBack T u calls vs → ComesBack U u calls vs
  comes_less u calls vs (v, e, back) = (v, e, λ t. back (less t))

  pub breaks_next_less : (u : Upstream) (calls : List Call) (n : Option Stage) (e : Fault) (vs : List Visit) → BreaksNext T u calls n e vs → BreaksNext U u calls n e vs
  breaks_next_less u calls None e vs b = absurd b
  breaks_next_less u calls (Some s) e vs (v, f, back) = (v, f, λ t. back (less t))

  if_down_less : (u : Upstream) (calls : List Call) (s : Standing) (vs : List Visit) → BackIfDown T u calls s vs → BackIfDown U u calls s vs
  if_down_less u calls Down vs b = comes_less u calls vs b
  if_down_less u calls (Up all) vs b = b

  back_at_less : (u : Upstream) (s : Standing) (t : Turn) (vs : List Visit) → AreBackAt T u s t vs → AreBackAt U u s t vs
  back_at_less u Down t vs b = b
  back_at_less u (Up calls) Dialled vs b = absurd b
  back_at_less u (Up calls) (Reply o) vs b = if_down_less u (calls ++ InRound o ∷ []) (standing u (calls ++ InRound o ∷ [])) vs b
  back_at_less u (Up calls) Broken vs (e, fault, b) = (e, fault, breaks_next_less u calls (stage_of u calls) e vs b)

  pub back_less : (u : Upstream) (s : Standing) (ts : List Turn) (vs : List Visit) → AreBack T u s ts vs → AreBack U u s ts vs
  back_less u s [] vs b = b
  back_less u s (t ∷ ts) vs (these, those, e, a, b) = (these, those, e, back_at_less u s t these a, back_less u (turned u s t) ts those b)

  pub part_less : (u : Upstream) (old new : Standing) (dials : List Dial) (vs : List Visit) → Part T u old new dials vs → Part U u old new dials vs
  part_less u old new dials vs p =
      record { turns = p.turns; are = p.are; new_is = p.new_is; dials_are = p.dials_are; back = back_less u old p.turns vs p.back }

-- ---- what goes on outside

pub goes_none : (o : Outside) → Goes o [] [] o
goes_none o = record { dialled = Gains-none o.dials; back = Gains-none o.visits }

pub goes_then : (a b c : Outside) (ds es : List Dial) (vs ws : List Visit) → Goes a ds vs b → Goes b es ws c → Goes a (ds ++ es) (vs ++ ws) c
goes_then a b c ds es vs ws g h =
    record { dialled = Gains-then a.dials b.dials c.dials ds es g.dialled h.dialled; back = Gains-then a.visits b.visits c.visits vs ws g.back h.back }

pub no_length : {A : Type 0} (xs : List A) → length xs ≡ 0 → xs ≡ []
no_length [] e = refl
no_length (x ∷ xs) e = absurd (let l : suc (length xs) ≡ 0 = e in cc)

module _ {L : Type 0} (left taken held : L → Option (List ℕ)) where
  abbrev AllStand : List Standing → List (Followed L) → Type 0
  AllStand ss all = StandAll left taken held ss all

  -- ---- a PUT

  puts_empty : (o : Outside) (path : Text) (body : Option Object) → PutsAll left taken held o o [] [] path body (Ok None)
  puts_empty o path body = λ olds are. of olds are
    where
      of : (olds : List Standing) → AllStand olds [] → (news : List Standing) × (visits : List Visit)
          × Goes o [] visits o × Puts (IsSome o.visits) [] olds news path body visits (Ok None) × AllStand news []
      of [] are = ([], [], goes_none o, (refl, refl), tt)
      of (s ∷ ss) are = absurd are

  pub puts_none : (o : Outside) (all : List (Followed L)) (path : Text) (body : Option Object) → length all ≡ 0 → PutsAll left taken held o o all all path body (Ok None)
  puts_none o all path body e = subst (λ (x : List (Followed L)). PutsAll left taken held o o x x path body (Ok None)) (sym (no_length all e)) (puts_empty o path body)

  pub puts_here : (before after : Outside) (f g : Followed L) (rest : List (Followed L)) (path : Text) (body : Option Object) (r : Result (Option Object) AllocError) → g.upstream ≡ f.upstream
      → ((old : Standing) → Stands left taken held (in_hand.upstream f.upstream) old f.live
      → (entry : Entry) × (entry_at (in_hand.upstream f.upstream) old path ≡ Some entry) × PutsOne left taken held before after (in_hand.upstream f.upstream) old entry body g.live r)
      → PutsAll left taken held before after (f ∷ rest) (g ∷ rest) path body r
  puts_here before after f g rest path body r same one = λ olds are. of olds are
    where
      of : (olds : List Standing) → AllStand olds (f ∷ rest) → (news : List Standing) × (visits : List Visit)
          × Goes before [] visits after × Puts (IsSome after.visits) (in_hand.upstreams (f ∷ rest)) olds news path body visits r × AllStand news (g ∷ rest)
      of [] are = absurd are
      of (s ∷ ss) (first, others) =
          let h = one s first in
          let p = h.2 in (
            p.0 ∷ ss,
            p.1,
            p.2,
            subst (λ (n : Option Entry). PutsHere n (λ entry. (ss ≡ ss) × Sends (IsSome after.visits) (in_hand.upstream f.upstream) s p.0 entry body p.1 r)
                ((p.0 ≡ s) × Puts (IsSome after.visits) (in_hand.upstreams rest) ss ss path body p.1 r)) (sym h.1) (refl, p.3),
            (subst (λ (u : Upstream). Stands left taken held u p.0 g.live) (sym (ap in_hand.upstream same)) p.4, others),
          )

  pub puts_past : (before after : Outside) (f : Followed L) (rest more : List (Followed L)) (path : Text) (body : Option Object) (r : Result (Option Object) AllocError)
      → ((old : Standing) → Stands left taken held (in_hand.upstream f.upstream) old f.live → entry_at (in_hand.upstream f.upstream) old path ≡ None)
      → PutsAll left taken held before after rest more path body r
      → PutsAll left taken held before after (f ∷ rest) (f ∷ more) path body r
  puts_past before after f rest more path body r none puts = λ olds are. of olds are
    where
      of : (olds : List Standing) → AllStand olds (f ∷ rest) → (news : List Standing) × (visits : List Visit)
          × Goes before [] visits after × Puts (IsSome after.visits) (in_hand.upstreams (f ∷ rest)) olds news path body visits r × AllStand news (f ∷ more)
      of [] are = absurd are
      of (s ∷ ss) (first, others) =
          let q = puts ss others in (
            s ∷ q.0,
            q.1,
            q.2,
            subst (λ (n : Option Entry). PutsHere n (λ entry. (q.0 ≡ ss) × Sends (IsSome after.visits) (in_hand.upstream f.upstream) s s entry body q.1 r)
                ((s ≡ s) × Puts (IsSome after.visits) (in_hand.upstreams rest) ss q.0 path body q.1 r)) (sym (none s first)) (refl, q.3),
            (first, q.4),
          )

  -- ---- the end

  pub ends_none : (o : Outside) (all : List (Followed L)) → length all ≡ 0 → EndsAll left taken held o o all
  ends_none o all e = subst (λ (x : List (Followed L)). EndsAll left taken held o o x) (sym (no_length all e)) (λ ss are. of ss are)
    where
      of : (ss : List Standing) → AllStand ss [] → (visits : List Visit) × Goes o [] visits o × Ends (IsSome o.visits) [] ss visits
      of [] are = ([], goes_none o, refl)
      of (s ∷ ss) are = absurd are

  -- what comes back of one upstream at the end
  abbrev pub EndsOne : Outside → Outside → Upstream → Standing → Type 0
  EndsOne before after u Down = after ≡ before
  EndsOne before after u (Up calls) = (v : Visit) × Goes before [] (v ∷ []) after × (IsSome after.visits → IsBack (host u) (said_in u calls) v)

  pub ends_more : (before mid after : Outside) (f : Followed L) (rest : List (Followed L))
      → ((old : Standing) → Stands left taken held (in_hand.upstream f.upstream) old f.live → EndsOne before mid (in_hand.upstream f.upstream) old)
      → EndsAll left taken held mid after rest → EndsAll left taken held before after (f ∷ rest)
  ends_more before mid after f rest one ends = λ ss are. of ss are
    where
      of : (ss : List Standing) → AllStand ss (f ∷ rest) → (visits : List Visit) × Goes before [] visits after × Ends (IsSome after.visits) (in_hand.upstreams (f ∷ rest)) ss visits
      of [] are = absurd are
      of (Down ∷ ss) (first, others) =
          let q = ends ss others in
          (q.0, subst (λ (o : Outside). Goes o [] q.0 after) (one Down first) q.1, q.2)
      of (Up calls ∷ ss) (first, others) =
          let o = one (Up calls) first in
          let q = ends ss others in
          (o.0 ∷ q.0, goes_then before mid after [] [] (o.0 ∷ []) q.0 o.1 q.1, (o.0, q.0, refl, λ t. o.2 (told_before mid.visits after.visits q.0 q.1.back t), q.2))

-- ---- an upstream that is taken down

-- what is held of an upstream that stands so
pub held_stands : {L : Type 0} (left taken held : L → Option (List ℕ)) (u : Upstream) (s : Standing) (live : Option (Live L)) → Stands left taken held u s live → held_of u s ≡ in_hand.held_now live
held_stands left taken held u Down None stands = refl
held_stands left taken held u Down (Some l) stands = absurd stands
held_stands left taken held u (Up calls) None stands = absurd stands
held_stands left taken held u (Up calls) (Some l) is = ap held_at is.polls

memory_no_link : {A : Type 0} → faults.Memory ≡ faults.Link → A
memory_no_link e = absurd (let g : faults.Memory ≡ faults.Link = e in cc)

broken_memory : (h : Text) (ss : List Said) (q : Request) (e : Fault) (v : Visit) → IsBroken h ss q e v → IsBroken h ss q faults.Memory v
broken_memory h ss q e v b = record {
  sent = b.sent;
  came = record { rs = b.came.rs; are = b.came.are; first = b.came.first; next = tt };
  at_end = λ f. absurd (let g : faults.Memory ≡ faults.Ended = f in cc);
  failed = λ f. memory_no_link f;
}

module _ {L : Type 0} (left taken held : L → Option (List ℕ)) (reads writes : L → ℕ) where
  -- its link came back, if it had one
  abbrev pub IsDown : Option (Live L) → Outside → Outside → Type 0
  IsDown None mid after = after ≡ mid
  IsDown (Some l) mid after = in_hand.ComesBack left taken held reads writes l.session.link mid.visits after.visits × (after.dials ≡ mid.dials)

  pub is_down : (live : Option (Live L)) (mid after : Outside) → (live ≡ None → after ≡ mid) → IfSome live (λ l. in_hand.ComesBack left taken held reads writes l.session.link mid.visits after.visits)
      → after.dials ≡ mid.dials → IsDown live mid after
  is_down None mid after none back apart = none refl
  is_down (Some l) mid after none back apart = (back, apart)

  abbrev wire_at : Live L → Wire
  wire_at l = in_hand.wire_of left taken held l.session

  link_back : (mid after : Outside) (l : Live L) (d : IsDown (Some l) mid after) → Goes mid [] (d.0.0 ∷ []) after
  link_back mid after l d = record { dialled = subst (λ (x : Option (List Dial)). Gains mid.dials [] x) (sym d.1) (Gains-none mid.dials); back = d.0.1 }

  said_is : (u : Upstream) (mid after : Outside) (calls : List Call) (l : Live L) → Stands left taken held u (Up calls) (Some l) → (d : IsDown (Some l) mid after) → IsSome after.visits → IsBack (host u) (said_in u calls) d.0.0
  said_is u mid after calls l is d t =
      said_back (left l.session.link) (taken l.session.link) (held l.session.link) l.session.framer (reads l.session.link) (writes l.session.link) d.0.0 (d.0.2 t) (host u) (said_in u calls) is.said

  unasked_is : (u : Upstream) (mid after : Outside) (calls : List Call) (l : Live L) (q : Request) → Stands left taken held u (Up calls) (Some l) → (d : IsDown (Some l) mid after) → IsSome after.visits → IsBroken (host u) (said_in u calls) q faults.Memory d.0.0
  unasked_is u mid after calls l q is d t =
      broken_back (left l.session.link) (taken l.session.link) (held l.session.link) l.session.framer (reads l.session.link) (writes l.session.link) d.0.0 (d.0.2 t) (host u) (said_in u calls) q faults.Memory
      (reads l.session.link) (writes l.session.link) (λ f. memory_no_link f) ((unasked (host u) q (wire_at l)).1 (said_in u calls) is.said)

  -- at the end
  pub ends_one : (u : Upstream) (before after : Outside) (s : Standing) (live : Option (Live L)) → Stands left taken held u s live → IsDown live before after → EndsOne left taken held before after u s
  ends_one u before after Down None stands d = d
  ends_one u before after Down (Some l) stands d = absurd stands
  ends_one u before after (Up calls) None stands d = absurd stands
  ends_one u before after (Up calls) (Some l) is d = (d.0.0, link_back before after l d, said_is u before after calls l is d)

  -- ---- for want of memory in a PUT

  nothing_sent : (u : Upstream) (mid after : Outside) (calls : List Call) (path : Text) (place : Option Place) (body : Option Object) (live : Option (Live L)) (e : AllocError)
      → Stands left taken held u (Up calls) live → IsDown live mid after → PutsTo left taken held mid after u calls path place body None (Err e)
  nothing_sent u mid after calls path place body None e stands d = absurd stands
  nothing_sent u mid after calls path None body (Some l) e is d =
      (Down, d.0.0 ∷ [], link_back mid after l d, (refl, (d.0.0, refl, said_is u mid after calls l is d)), tt)
  nothing_sent u mid after calls path (Some p) body (Some l) e is d =
      (Down, d.0.0 ∷ [], link_back mid after l d, (refl, inl (d.0.0, refl, unasked_is u mid after calls l (put_on p.target body) is d)), tt)

  was_sent : (u : Upstream) (before mid after : Outside) (calls : List Call) (path : Text) (p : Place) (body : Option Object) (live : Option (Live L)) (e : AllocError) (o : Object)
      → mid ≡ before → Stands left taken held u (Up (calls ++ SentOn p.target body o ∷ [])) live → IsDown live mid after → PutsTo left taken held before after u calls path (Some p) body None (Err e)
  was_sent u before mid after calls path p body None e o same stands d = absurd stands
  was_sent u before mid after calls path p body (Some l) e o same is d = (
    Down,
    d.0.0 ∷ [],
    subst (λ (x : Outside). Goes x [] (d.0.0 ∷ []) after) same (link_back mid after l d),
    (refl, inr (o, (d.0.0, refl, said_is u mid after (calls ++ SentOn p.target body o ∷ []) l is d))),
    tt,
  )

  had_broken : (u : Upstream) (before mid after : Outside) (calls : List Call) (path : Text) (p : Place) (body : Option Object) (live : Option (Live L)) (e : AllocError) (vs : List Visit)
      → live ≡ None → Goes before [] vs mid → BreaksAt (IsSome mid.visits) u calls (put_on p.target body) faults.Memory vs → IsDown live mid after → PutsTo left taken held before after u calls path (Some p) body None (Err e)
  had_broken u before mid after calls path p body None e vs none goes breaks same =
      (Down, vs, subst (λ (x : Outside). Goes before [] vs x) (sym same) goes, (refl, inl (subst (λ (x : Outside). BreaksAt (IsSome x.visits) u calls (put_on p.target body) faults.Memory vs) (sym same) breaks)), tt)
  had_broken u before mid after calls path p body (Some l) e vs none goes breaks d = absurd (let x : Some l ≡ None = none in cc)

  sent_down : (u : Upstream) (before mid after : Outside) (calls : List Call) (path : Text) (place : Option Place) (body : Option Object) (live : Option (Live L)) (e : AllocError)
      → HasSent left taken held before mid u calls place body live → IsDown live mid after → PutsTo left taken held before after u calls path place body None (Err e)
  sent_down u before mid after calls path None body live e h d = absurd h
  sent_down u before mid after calls path (Some p) body live e h d = elim h [
    | inl s ↦ was_sent u before mid after calls path p body live e s.0 s.1 s.2 d
    | inr b ↦ had_broken u before mid after calls path p body live e b.1.0 b.0 b.1.1 b.1.2 d
  ]

  pub put_down : (u : Upstream) (before mid after : Outside) (calls : List Call) (path : Text) (place : Option Place) (body : Option Object) (live : Option (Live L)) (e : AllocError)
      → MayPut left taken held before mid u calls path place body live (Err e) → IsDown live mid after → PutsTo left taken held before after u calls path place body None (Err e)
  put_down u before mid after calls path place body live e may d = elim may [
    | inl n ↦ subst (λ (x : Outside). PutsTo left taken held x after u calls path place body None (Err e)) n.0 (nothing_sent u mid after calls path place body live e n.1 d)
    | inr h ↦ sent_down u before mid after calls path place body live e h d
  ]

module _ {L : Type 0} (left taken held : L → Option (List ℕ)) where
  -- ---- what a PUT gives

  pub may_not : (u : Upstream) (o : Outside) (calls : List Call) (path : Text) (place : Option Place) (body : Option Object) (live : Option (Live L)) (r : Result Object AllocError)
      → None ≡ place → Stands left taken held u (Up calls) live → IfOk r (λ x. x ≡ not_supported) → MayPut left taken held o o u calls path place body live r
  may_not u o calls path None body live (Ok x) none stands is = (Up calls, [], goes_none o, (ap (λ (y : Object). Some y) is, refl, refl), stands)
  may_not u o calls path None body live (Err e) none stands is = inl (refl, stands)
  may_not u o calls path (Some p) body live r none stands is = absurd (let x : None ≡ Some p = none in cc)

  pub may_sent : (u : Upstream) (before after : Outside) (calls : List Call) (path : Text) (place : Option Place) (p : Place) (body : Option Object) (live : Option (Live L)) (reply : Object) (r : Result Object AllocError)
      → Some p ≡ place → SendsOn left taken held before after u calls (put_on p.target body) live (Ok (Some reply)) → IfOk r (λ x. x ≡ placed path reply) → MayPut left taken held before after u calls path place body live r
  may_sent u before after calls path place p body live reply r at (same, stands) is =
      subst (λ (n : Option Place). MayPut left taken held before after u calls path n body live r) at (of r is)
    where
      of : (r : Result Object AllocError) → IfOk r (λ x. x ≡ placed path reply) → MayPut left taken held before after u calls path (Some p) body live r
      of (Ok x) is = (Up (calls ++ SentOn p.target body reply ∷ []), [], subst (λ (y : Outside). Goes before [] [] y) (sym same) (goes_none before), inl (reply, is, refl, refl), stands)
      of (Err e) is = inr (inl (reply, same, stands))

  pub may_broken : (u : Upstream) (before after : Outside) (calls : List Call) (path : Text) (place : Option Place) (p : Place) (body : Option Object) (live : Option (Live L)) (r : Result Object AllocError)
      → Some p ≡ place → SendsOn left taken held before after u calls (put_on p.target body) live (Ok None) → IfOk r (λ x. x ≡ upstream_down) → MayPut left taken held before after u calls path place body live r
  may_broken u before after calls path place p body live r at (none, (vs, goes, (e, fault, (v, one, broken)))) is =
      subst (λ (n : Option Place). MayPut left taken held before after u calls path n body live r) at (of r is)
    where
      down : (live : Option (Live L)) → live ≡ None → Stands left taken held u Down live
      down None d = tt
      down (Some l) d = absurd (let x : Some l ≡ None = d in cc)

      of : (r : Result Object AllocError) → IfOk r (λ x. x ≡ upstream_down) → MayPut left taken held before after u calls path (Some p) body live r
      of (Ok x) is = (Down, vs, goes, inr (is, refl, (e, fault, (v, one, broken))), down live none)
      of (Err x) is = inr (inr (none, (vs, goes, (v, one, λ t. broken_memory (host u) (said_in u calls) (put_on p.target body) e v (broken t)))))

  pub may_unsent_as : (u : Upstream) (before after : Outside) (calls : List Call) (path : Text) (place : Option Place) (p : Place) (body : Option Object) (live : Option (Live L)) {e : AllocError} (r : Result Object AllocError)
      → IsErr r → Some p ≡ place → SendsOn left taken held before after u calls (put_on p.target body) live (Err e) → MayPut left taken held before after u calls path place body live r
  may_unsent_as u before after calls path place p body live (Ok x) is at sends = never is
  may_unsent_as u before after calls path place p body live {e} (Err x) is at sends =
      subst (λ (n : Option Place). MayPut left taken held before after u calls path n body live (Err x)) at (inr (inr sends))

  -- ---- where an upstream holds an entry

  pub puts_first : (before after : Outside) (u : Upstream) (live live' : Option (Live L)) (i : ℕ) (path : Text) (body : Option Object) (r : Result (Option Object) AllocError) → IsSome live
      → (has : HasEntry u (in_hand.held_now live) i path)
      → ((calls : List Call) (href : Text) → Stands left taken held u (Up calls) live → slice_get u.hrefs i ≡ Some href → PutsTo left taken held before after u calls (object_path u i) (place_at u.lobby.url href) body live' r)
      → (old : Standing) → Stands left taken held u old live
      → (entry : Entry) × (entry_at u old path ≡ Some entry) × PutsOne left taken held before after u old entry body live' r
  puts_first before after u None live' i path body r some has puts old stands = never some
  puts_first before after u (Some l) live' i path body r some has puts Down stands = absurd stands
  puts_first before after u (Some l) live' i path body r some has puts (Up calls) is =
      (the_entry u i has.href has.one, ap (λ (hs : List Held). entry_in u hs path) (ap held_at is.polls) ∙ has.first, puts calls has.href is has.at)

  pub puts_none_here : (u : Upstream) (live : Option (Live L)) (path : Text) → entry_in u (in_hand.held_now live) path ≡ None → (old : Standing) → Stands left taken held u old live → entry_at u old path ≡ None
  puts_none_here u live path none old stands = ap (λ (hs : List Held). entry_in u hs path) (held_stands left taken held u old live stands) ∙ none
