-- Rounds over several upstreams.
use Rattle.std.proofs.Common.{◌≡◌, ℕ, zero, suc, ◌+◌, ◌<◌, Bool, true, false, cond, List, [], ◌∷◌, ◌++◌, map, length, Option, Some, None, Result, Ok, Err, refl, sym, ap, ap₂, subst, ◌∙◌, true≢false, inl, inr, arith}
use Rattle.std.specs.Prelude.{IsSome, IsErr, is_some, is_ok, option_map, ◌||◌, ◌==◌, not}
use Rattle.std.specs.declared.alloc.AllocError.{AllocError}
use Rattle.ob_io.specs.Dials.{Dial, Visit}
use Rattle.ob_super.specs.declared.upstream.Live.{Live}
use Rattle.ob_super.specs.declared.upstream.Followed.{Followed}
use Rattle.ob_super.specs.declared.state.Super.{Super}
use Rattle.ob_super.specs.Upstreams.{Upstream}
use Rattle.ob_super.specs.Calls.{stage_of}
use Rattle.ob_super.specs.Turns.{Standing, Down, Up, is_up, after}
use Rattle.ob_super.specs.Dialling.{Past, State, number_of_next, states_of, next_place, none_failed, next_dial}
use Rattle.ob_super.specs.Rounds.{BackForMemory, Part, Lacks, HadPart, Asks, AsksAll, StopsAsking, IsDialled, EndsDialling, DialsAll, Round, NoneDialled, Rounds, Stops, Rounded}
use Rattle.ob_super.specs.InHand as in_hand
use Rattle.ob_super.specs.InHand.{Outside, Goes, Stands, StandAll, Follows, Polls, PollsOver, HaveAsked, DialsOne, DialsAt, DialsOver, HadRound, RoundsOver, IsSpent, count_waiting}
use Rattle.ob_client.proofs.SessionLemmas.{never}
use Rattle.ob_values.proofs.Bools.{both_true}
use Rattle.ob_super.proofs.SuperLemmas.{told_before, breaks_next_less, back_less, part_less, goes_none, goes_then, no_length}

-- ---- what is told less

module _ (T U : Type 0) (less : U → T) where
  for_memory_less : (u : Upstream) (s : Standing) (vs : List Visit) → BackForMemory T u s vs → BackForMemory U u s vs
  for_memory_less u Down vs b = b
  for_memory_less u (Up calls) vs b = breaks_next_less T U less u calls (stage_of u calls) _ vs b

  had_less : (whole : Bool) (u : Upstream) (old new : Standing) (ds : List Dial) (vs : List Visit) → HadPart T whole u old new ds vs → HadPart U whole u old new ds vs
  had_less true u old new ds vs p = part_less T U less u old new ds vs p
  had_less false u old new ds vs (l, down) = (
    record { turns = l.turns; are = l.are; dials_are = l.dials_are; none = back_less T U less u old l.turns [] l.none; back = for_memory_less u (after u old l.turns) vs l.back },
    down,
  )

  asks_less : (u : Upstream) (old new : Standing) (vs : List Visit) → Asks T u old new vs → Asks U u old new vs
  asks_less u Down new vs a = a
  asks_less u (Up calls) new vs a = part_less T U less u (Up calls) new [] vs a

  pub asks_all_less : (us : List Upstream) (olds news : List Standing) (vs : List Visit) → AsksAll T us olds news vs → AsksAll U us olds news vs
  asks_all_less [] [] [] vs a = a
  asks_all_less [] [] (n ∷ news) vs a = absurd a
  asks_all_less [] (o ∷ olds) news vs a = absurd a
  asks_all_less (u ∷ us) [] news vs a = absurd a
  asks_all_less (u ∷ us) (o ∷ olds) [] vs a = absurd a
  asks_all_less (u ∷ us) (o ∷ olds) (n ∷ news) vs (v, w, both, first, rest) = (v, w, both, asks_less u o n v first, asks_all_less us olds news w rest)

  stops_asking_less : (us : List Upstream) (olds news : List Standing) (vs : List Visit) → StopsAsking T us olds news vs → StopsAsking U us olds news vs
  stops_asking_less [] olds news vs s = absurd s
  stops_asking_less (u ∷ us) [] news vs s = absurd s
  stops_asking_less (u ∷ us) (o ∷ olds) [] vs s = absurd s
  stops_asking_less (u ∷ us) (o ∷ olds) (n ∷ news) vs s = elim s [
    | inl (up, had, same) ↦ inl (up, had_less false u o n [] vs had, same)
    | inr (v, w, both, first, rest) ↦ inr (v, w, both, asks_less u o n v first, stops_asking_less us olds news w rest)
  ]

  is_dialled_less : (whole : Bool) (number place : ℕ) (us : List Upstream) (fs : List State) (olds : List Standing) (gs : List State) (news : List Standing) (ds : List Dial) (vs : List Visit)
      → IsDialled T whole number place us fs olds gs news ds vs → IsDialled U whole number place us fs olds gs news ds vs
  is_dialled_less whole number zero [] fs olds gs news ds vs d = absurd d
  is_dialled_less whole number zero (u ∷ us) [] olds gs news ds vs d = absurd d
  is_dialled_less whole number zero (u ∷ us) (f ∷ fs) [] gs news ds vs d = absurd d
  is_dialled_less whole number zero (u ∷ us) (f ∷ fs) (o ∷ olds) [] news ds vs d = absurd d
  is_dialled_less whole number zero (u ∷ us) (f ∷ fs) (o ∷ olds) (g ∷ gs) [] ds vs d = absurd d
  is_dialled_less whole number zero (u ∷ us) (f ∷ fs) (o ∷ olds) (g ∷ gs) (n ∷ news) ds vs (had, kept, fails, rest) = (had_less whole u o n ds vs had, kept, fails, rest)
  is_dialled_less whole number (suc place) [] fs olds gs news ds vs d = absurd d
  is_dialled_less whole number (suc place) (u ∷ us) [] olds gs news ds vs d = absurd d
  is_dialled_less whole number (suc place) (u ∷ us) (f ∷ fs) [] gs news ds vs d = absurd d
  is_dialled_less whole number (suc place) (u ∷ us) (f ∷ fs) (o ∷ olds) [] news ds vs d = absurd d
  is_dialled_less whole number (suc place) (u ∷ us) (f ∷ fs) (o ∷ olds) (g ∷ gs) [] ds vs d = absurd d
  is_dialled_less whole number (suc place) (u ∷ us) (f ∷ fs) (o ∷ olds) (g ∷ gs) (n ∷ news) ds vs (kept, same, rest) =
      (kept, same, is_dialled_less whole number place us fs olds gs news ds vs rest)

  dials_all_less : (whole : Bool) (number : ℕ) (us : List Upstream) (places : List ℕ) (fs : List State) (olds : List Standing) (gs : List State) (news : List Standing) (ds : List Dial) (vs : List Visit)
      → DialsAll T whole number us places fs olds gs news ds vs → DialsAll U whole number us places fs olds gs news ds vs
  dials_all_less true number us [] fs olds gs news ds vs d = d
  dials_all_less false number us [] fs olds gs news ds vs (place, next, d) = (place, next, is_dialled_less false number place us fs olds gs news ds vs d)
  dials_all_less whole number us (place ∷ places) fs olds gs news ds vs (mid, mids, d, e, v, w, dials, visits, next, first, rest) = (
    mid,
    mids,
    d,
    e,
    v,
    w,
    dials,
    visits,
    next,
    is_dialled_less true number place us fs olds mid mids d v first,
    dials_all_less whole number us places mid mids gs news e w rest,
  )

  round_less : (whole : Bool) (us : List Upstream) (number : ℕ) (fs gs : List ℕ) (olds news : List Standing) (ds : List Dial) (vs : List Visit)
      → Round T whole us number fs gs olds news ds vs → Round U whole us number fs gs olds news ds vs
  round_less whole us number fs gs olds news ds vs r = record {
    asked = r.asked;
    places = r.places;
    left = r.left;
    back_asked = r.back_asked;
    back_dialled = r.back_dialled;
    visits_are = r.visits_are;
    asks = asks_all_less us olds r.asked r.back_asked r.asks;
    dialling = dials_all_less whole number us r.places (states_of olds fs) r.asked r.left news ds r.back_dialled r.dialling;
    fails_are = r.fails_are;
  }

  pub rounds_less : (us : List Upstream) (past past' : Past) (olds news : List Standing) (ds : List Dial) (vs : List Visit) → Rounds T us past past' olds news ds vs → Rounds U us past past' olds news ds vs
  rounds_less us past past' olds news ds vs r = record { number_is = r.number_is; round = round_less true us past'.rounds past.fails past'.fails olds news ds vs r.round }

  pub stops_less : (us : List Upstream) (past past' : Past) (olds news : List Standing) (ds : List Dial) (vs : List Visit) → Stops T us past past' olds news ds vs → Stops U us past past' olds news ds vs
  stops_less us past past' olds news ds vs s = record {
    number_is = s.number_is;
    stops = elim s.stops [
      | inl n ↦ inl (record { stops = stops_asking_less us olds news vs n.stops; fails_are = n.fails_are; dials_are = n.dials_are })
      | inr r ↦ inr (round_less false us past'.rounds past.fails past'.fails olds news ds vs r)
    ];
  }

-- ---- who is dialled next

no_place : {A : Type 0} (place : ℕ) → None ≡ Some place → A
no_place place e = absurd (let x : None ≡ Some place = e in cc)

zero_next : (t : Option ℕ) → option_map suc t ≡ Some 0 → ⊥
zero_next None e = no_place 0 e
zero_next (Some n) e = absurd (let x : Some (suc n) ≡ Some 0 = e in cc)

suc_next : (place : ℕ) (t : Option ℕ) → option_map suc t ≡ Some (suc place) → t ≡ Some place
suc_next place None e = no_place (suc place) e
suc_next place (Some n) e = let x : Some (suc n) ≡ Some (suc place) = e in cc

pub first_next : (b : Bool) (t : Option ℕ) → cond b (Some 0) (option_map suc t) ≡ Some 0 → b ≡ true
first_next true t e = refl
first_next false t e = absurd (zero_next t e)

pub behind_next : (place : ℕ) (b : Bool) (t : Option ℕ) → cond b (Some 0) (option_map suc t) ≡ Some (suc place) → t ≡ Some place
behind_next place true t e = absurd (let x : Some 0 ≡ Some (suc place) = e in cc)
behind_next place false t e = suc_next place t e

abbrev one_if : Bool → ℕ
one_if b = cond b 1 0

-- one less waits after a dial of the next one
fewer : (place : ℕ) (xs ys : List State) → next_place xs ≡ Some place → IsSpent place xs ys → count_waiting ys < count_waiting xs
fewer place [] ys next spent = no_place place next
fewer zero (x ∷ xs) [] next spent = absurd spent
fewer zero (x ∷ xs) (y ∷ ys) next (off, same) =
    let on = (both_true x.waits _ (first_next _ (next_place xs) next)).0 in
    omega (arith, ap one_if off, ap one_if on, ap count_waiting same)
fewer (suc place) (x ∷ xs) [] next spent = absurd spent
fewer (suc place) (x ∷ xs) (y ∷ ys) next (same, spent) =
    let less = fewer place xs ys (behind_next place _ (next_place xs) next) spent in
    omega (arith, ap (λ (z : State). one_if z.waits) same, less)

pub place_next : (number place : ℕ) (xs : List State) → next_dial number xs ≡ Some place → next_place xs ≡ Some place
place_next number place xs next = of ((number == 1) || none_failed number xs) next
  where
    of : (b : Bool) → cond b (next_place xs) None ≡ Some place → next_place xs ≡ Some place
    of true e = e
    of false e = no_place place e

pub fewer_wait : (number place : ℕ) (xs ys : List State) → next_dial number xs ≡ Some place → IsSpent place xs ys → count_waiting ys < count_waiting xs
fewer_wait number place xs ys next spent = fewer place xs ys (place_next number place xs next) spent

module _ {L : Type 0} (left taken held : L → Option (List ℕ)) where
  abbrev AllStand : List Standing → List (Followed L) → Type 0
  AllStand ss all = StandAll left taken held ss all

  down_stands : (u : Upstream) (live : Option (Live L)) → live ≡ None → Stands left taken held u Down live
  down_stands u None d = tt
  down_stands u (Some l) d = absurd (let x : Some l ≡ None = d in cc)

  up_at : (u : Upstream) (s : Standing) (live : Option (Live L)) → Stands left taken held u s live → is_up s ≡ is_some live
  up_at u Down None stands = refl
  up_at u Down (Some l) stands = absurd stands
  up_at u (Up calls) None stands = absurd stands
  up_at u (Up calls) (Some l) stands = refl

  -- those that are down wait, as they stand
  states_stand : (ss : List Standing) (all : List (Followed L)) → AllStand ss all → states_of ss (in_hand.fails all) ≡ in_hand.all_begun all
  states_stand [] [] are = refl
  states_stand [] (f ∷ fs) are = absurd are
  states_stand (s ∷ ss) [] are = absurd are
  states_stand (s ∷ ss) (f ∷ fs) (first, others) =
      ap₂ (λ (b : Bool) (xs : List State). (let x : State = record { waits = not b; failed = f.failed } in x) ∷ xs)
      (up_at (in_hand.upstream f.upstream) s f.live first) (states_stand ss fs others)

  fails_states : (all : List (Followed L)) → in_hand.fails all ≡ map (λ (x : State). x.failed) (in_hand.states all)
  fails_states [] = refl
  fails_states (f ∷ fs) = ap (λ (ns : List ℕ). f.failed ∷ ns) (fails_states fs)

  -- ---- those that are up are asked

  pub polls_up : (before after : Outside) (u : Upstream) (s : Standing) (old live : Option (Live L)) (r : Result (Unit {0}) AllocError) → is_some old ≡ true → Stands left taken held u s old
      → Follows left taken held before after u s live r → Polls left taken held before after u s live r
  polls_up before after u Down None live r up stands follows = absurd (true≢false (sym up))
  polls_up before after u Down (Some l) live r up stands follows = absurd stands
  polls_up before after u (Up calls) None live r up stands follows = absurd stands
  polls_up before after u (Up calls) (Some l) live (Ok x) up stands (new, dials, visits, goes, p, still) = (
    new,
    visits,
    subst (λ (ds : List Dial). Goes before ds visits after) p.dials_are goes,
    record { turns = p.turns; are = p.are; new_is = p.new_is; dials_are = refl; back = p.back },
    still,
  )
  polls_up before after u (Up calls) (Some l) live (Err e) up stands ((dials, visits, goes, lacks), none) = (
    refl,
    (
      visits,
      subst (λ (ds : List Dial). Goes before ds visits after) lacks.dials_are goes,
      record { turns = lacks.turns; are = lacks.are; dials_are = refl; none = lacks.none; back = lacks.back },
    ),
    none,
  )

  pub polls_left : (o : Outside) (u : Upstream) (s : Standing) (live : Option (Live L)) → is_some live ≡ false → Stands left taken held u s live → Polls left taken held o o u s live (Ok tt)
  polls_left o u Down None down stands = (Down, [], goes_none o, (refl, refl), tt)
  polls_left o u Down (Some l) down stands = absurd stands
  polls_left o u (Up calls) None down stands = absurd stands
  polls_left o u (Up calls) (Some l) down stands = absurd (true≢false down)

  polls_empty : (o : Outside) → PollsOver left taken held o o [] [] (Ok tt)
  polls_empty o = λ olds are. of olds are
    where
      of : (olds : List Standing) → AllStand olds [] → (news : List Standing) × (visits : List Visit) × Goes o [] visits o × AsksAll (IsSome o.visits) [] olds news visits × AllStand news []
      of [] are = ([], [], goes_none o, refl, tt)
      of (s ∷ ss) are = absurd are

  pub polls_none : (o : Outside) (all : List (Followed L)) → length all ≡ 0 → PollsOver left taken held o o all all (Ok tt)
  polls_none o all e = subst (λ (x : List (Followed L)). PollsOver left taken held o o x x (Ok tt)) (sym (no_length all e)) (polls_empty o)

  pub polls_stop : (before after : Outside) (f g : Followed L) (rest : List (Followed L)) (r : Result (Unit {0}) AllocError) {e : AllocError} → IsErr r → g.upstream ≡ f.upstream
      → ((s : Standing) → Stands left taken held (in_hand.upstream f.upstream) s f.live → Polls left taken held before after (in_hand.upstream f.upstream) s g.live (Err e))
      → PollsOver left taken held before after (f ∷ rest) (g ∷ rest) r
  polls_stop before after f g rest (Ok x) is same polls = never is
  polls_stop before after f g rest (Err x) is same polls = λ olds are. of olds are
    where
      of : (olds : List Standing) → AllStand olds (f ∷ rest) → (news : List Standing) × (visits : List Visit)
          × Goes before [] visits after × StopsAsking (IsSome after.visits) (in_hand.upstreams (f ∷ rest)) olds news visits × AllStand news (g ∷ rest)
      of [] are = absurd are
      of (s ∷ ss) (first, others) =
          let p = polls s first in
          (Down ∷ ss, p.1.0, p.1.1, inl (p.0, (p.1.2, refl), refl), (down_stands (in_hand.upstream g.upstream) g.live p.2, others))

  pub polls_more : (before mid after : Outside) (f g : Followed L) (rest more : List (Followed L)) (r : Result (Unit {0}) AllocError) (x : Unit {0}) → g.upstream ≡ f.upstream
      → ((s : Standing) → Stands left taken held (in_hand.upstream f.upstream) s f.live → Polls left taken held before mid (in_hand.upstream f.upstream) s g.live (Ok x))
      → PollsOver left taken held mid after rest more r → PollsOver left taken held before after (f ∷ rest) (g ∷ more) r
  polls_more before mid after f g rest more r x same polls over = λ olds are. of olds are
    where
      put : (r : Result (Unit {0}) AllocError) (old new : Standing) (olds news : List Standing) (v vs : List Visit) → Asks (IsSome after.visits) (in_hand.upstream f.upstream) old new v
          → HaveAsked left taken held (IsSome after.visits) (in_hand.upstreams rest) olds news vs r
          → HaveAsked left taken held (IsSome after.visits) (in_hand.upstreams (f ∷ rest)) (old ∷ olds) (new ∷ news) (v ++ vs) r
      put (Ok y) old new olds news v vs p q = (v, vs, refl, p, q)
      put (Err e) old new olds news v vs p q = inr (v, vs, refl, p, q)

      of : (olds : List Standing) → AllStand olds (f ∷ rest) → (news : List Standing) × (visits : List Visit)
          × Goes before [] visits after × HaveAsked left taken held (IsSome after.visits) (in_hand.upstreams (f ∷ rest)) olds news visits r × AllStand news (g ∷ more)
      of [] are = absurd are
      of (s ∷ ss) (first, others) =
          let p = polls s first in
          let q = over ss others in (
            p.0 ∷ q.0,
            p.1 ++ q.1,
            goes_then before mid after [] [] p.1 q.1 p.2 q.2,
            put r s p.0 ss q.0 p.1 q.1 (asks_less (IsSome mid.visits) (IsSome after.visits) (λ t. told_before mid.visits after.visits q.1 q.2.back t) (in_hand.upstream f.upstream) s p.0 p.1 p.3) q.3,
            (subst (λ (u : Upstream). Stands left taken held u p.0 g.live) (sym (ap in_hand.upstream same)) p.4, q.4),
          )

  -- ---- one is dialled

  dials_one : (before after : Outside) (number : ℕ) (u : Upstream) (s : Standing) (f : Followed L) (r : Result (Unit {0}) AllocError)
      → Follows left taken held before after u s f.live r → DialsOne left taken held before after number u s (in_hand.noted number f) r
  dials_one before after number u s f (Ok x) (new, dials, visits, goes, p, stands) =
      (new, dials, visits, goes, p, ap (λ (b : Bool). let y : State = record { waits = false; failed = cond b 0 number } in y) (sym (up_at u new f.live stands)), stands)
  dials_one before after number u s f (Err e) ((dials, visits, goes, lacks), none) =
      (Down, dials, visits, goes, (lacks, refl), ap (λ (l : Option (Live L)). let y : State = record { waits = false; failed = cond (is_some l) 0 number } in y) none, down_stands u f.live none)

  pub dials_noted : (before after : Outside) (number : ℕ) (u : Upstream) (s : Standing) (f g : Followed L) (r : Result (Unit {0}) AllocError) → g ≡ in_hand.noted number f
      → Follows left taken held before after u s f.live r → DialsOne left taken held before after number u s g r
  dials_noted before after number u s f g r is follows =
      subst (λ (x : Followed L). DialsOne left taken held before after number u s x r) (sym is) (dials_one before after number u s f r follows)

  pub dials_here : (before after : Outside) (number : ℕ) (f g : Followed L) (rest : List (Followed L)) (r : Result (Unit {0}) AllocError) → g.upstream ≡ f.upstream
      → ((s : Standing) → Stands left taken held (in_hand.upstream f.upstream) s f.live → DialsOne left taken held before after number (in_hand.upstream f.upstream) s g r)
      → DialsAt left taken held before after number 0 (f ∷ rest) (g ∷ rest) r
  dials_here before after number f g rest r same dials = λ olds are. of olds are
    where
      of : (olds : List Standing) → AllStand olds (f ∷ rest) → (news : List Standing) × (ds : List Dial) × (visits : List Visit) × Goes before ds visits after
          × IsDialled (IsSome after.visits) (is_ok r) number 0 (in_hand.upstreams (f ∷ rest)) (in_hand.states (f ∷ rest)) olds (in_hand.states (g ∷ rest)) news ds visits × AllStand news (g ∷ rest)
      of [] are = absurd are
      of (s ∷ ss) (first, others) =
          let p = dials s first in (
            p.0 ∷ ss,
            p.1,
            p.2,
            p.3,
            (p.4, p.5, refl, refl),
            (subst (λ (u : Upstream). Stands left taken held u p.0 g.live) (sym (ap in_hand.upstream same)) p.6, others),
          )

  pub dials_behind : (before after : Outside) (number place : ℕ) (f : Followed L) (rest more : List (Followed L)) (r : Result (Unit {0}) AllocError)
      → DialsAt left taken held before after number place rest more r → DialsAt left taken held before after number (suc place) (f ∷ rest) (f ∷ more) r
  dials_behind before after number place f rest more r dials = λ olds are. of olds are
    where
      of : (olds : List Standing) → AllStand olds (f ∷ rest) → (news : List Standing) × (ds : List Dial) × (visits : List Visit) × Goes before ds visits after
          × IsDialled (IsSome after.visits) (is_ok r) number (suc place) (in_hand.upstreams (f ∷ rest)) (in_hand.states (f ∷ rest)) olds (in_hand.states (f ∷ more)) news ds visits × AllStand news (f ∷ more)
      of [] are = absurd are
      of (s ∷ ss) (first, others) =
          let q = dials ss others in
          (s ∷ q.0, q.1, q.2, q.3, (refl, refl, q.4), (first, q.5))

  -- ---- one after the other

  pub dials_end : (o : Outside) (number : ℕ) (all : List (Followed L)) → None ≡ next_dial number (in_hand.states all) → DialsOver left taken held o o number all all (Ok tt)
  dials_end o number all next = λ olds are. (olds, [], [], [], goes_none o, (sym next, refl, refl, refl, refl), are)

  pub dials_stop : (before after : Outside) (number place : ℕ) (all got : List (Followed L)) (r : Result (Unit {0}) AllocError) {e : AllocError} → IsErr r → Some place ≡ next_dial number (in_hand.states all)
      → DialsAt left taken held before after number place all got (Err e) → DialsOver left taken held before after number all got r
  dials_stop before after number place all got (Ok x) is next dials = never is
  dials_stop before after number place all got (Err x) is next dials = λ olds are.
      let p = dials olds are in
      (p.0, [], p.1, p.2, p.3, (place, sym next, p.4), p.5)

  pub dials_more : (before mid after : Outside) (number place : ℕ) (all mids got : List (Followed L)) (r : Result (Unit {0}) AllocError) (x : Unit {0}) → Some place ≡ next_dial number (in_hand.states all)
      → in_hand.upstreams mids ≡ in_hand.upstreams all → DialsAt left taken held before mid number place all mids (Ok x) → DialsOver left taken held mid after number mids got r
      → DialsOver left taken held before after number all got r
  dials_more before mid after number place all mids got r x next same dials over = λ olds are.
      let p = dials olds are in
      let q = over p.0 p.5 in (
        q.0,
        place ∷ q.1,
        p.1 ++ q.2,
        p.2 ++ q.3,
        goes_then before mid after p.1 q.2 p.2 q.3 p.3 q.4,
        (
          in_hand.states mids,
          p.0,
          p.1,
          q.2,
          p.2,
          q.3,
          refl,
          refl,
          sym next,
          is_dialled_less (IsSome mid.visits) (IsSome after.visits) (λ t. told_before mid.visits after.visits q.3 q.4.back t) true number place (in_hand.upstreams all) (in_hand.states all) olds (in_hand.states mids) p.0 p.1 p.2 p.4,
          subst (λ (us : List Upstream). DialsAll (IsSome after.visits) (is_ok r) number us q.1 (in_hand.states mids) p.0 (in_hand.states got) q.0 q.2 q.3) same q.5,
        ),
        q.6,
      )

  -- ---- a round

  pub round_stop : (before after : Outside) (number : ℕ) (all got : List (Followed L)) (r : Result (Unit {0}) AllocError) {e : AllocError} → IsErr r → in_hand.fails got ≡ in_hand.fails all
      → PollsOver left taken held before after all got (Err e) → RoundsOver left taken held before after number all got r
  round_stop before after number all got (Ok x) is kept polls = never is
  round_stop before after number all got (Err x) is kept polls = λ olds are.
      let p = polls olds are in
      (p.0, [], p.1, p.2, inl (record { stops = p.3; fails_are = kept; dials_are = refl }), p.4)

  pub round_more : (before mid after : Outside) (number : ℕ) (all mids got : List (Followed L)) (r : Result (Unit {0}) AllocError) (x : Unit {0}) → in_hand.upstreams mids ≡ in_hand.upstreams all
      → in_hand.states mids ≡ in_hand.all_begun all → PollsOver left taken held before mid all mids (Ok x) → DialsOver left taken held mid after number mids got r
      → RoundsOver left taken held before after number all got r
  round_more before mid after number all mids got r x same begun polls over = λ olds are.
      let p = polls olds are in
      let q = over p.0 p.4 in (
        q.0,
        q.2,
        p.1 ++ q.3,
        goes_then before mid after [] q.2 p.1 q.3 p.2 q.4,
        had r olds q.0 q.2 (p.1 ++ q.3) (record {
          asked = p.0;
          places = q.1;
          left = in_hand.states got;
          back_asked = p.1;
          back_dialled = q.3;
          visits_are = refl;
          asks = asks_all_less (IsSome mid.visits) (IsSome after.visits) (λ t. told_before mid.visits after.visits q.3 q.4.back t) (in_hand.upstreams all) olds p.0 p.1 p.3;
          dialling = subst (λ (us : List Upstream). DialsAll (IsSome after.visits) (is_ok r) number us q.1 (states_of olds (in_hand.fails all)) p.0 (in_hand.states got) q.0 q.2 q.3) same
              (subst (λ (xs : List State). DialsAll (IsSome after.visits) (is_ok r) number (in_hand.upstreams mids) q.1 xs p.0 (in_hand.states got) q.0 q.2 q.3) (begun ∙ sym (states_stand olds all are)) q.5);
          fails_are = fails_states got;
        }),
        q.6,
      )
    where
      had : (r : Result (Unit {0}) AllocError) (olds news : List Standing) (ds : List Dial) (vs : List Visit)
          → Round (IsSome after.visits) (is_ok r) (in_hand.upstreams all) number (in_hand.fails all) (in_hand.fails got) olds news ds vs
          → HadRound left taken held (IsSome after.visits) (in_hand.upstreams all) number (in_hand.fails all) (in_hand.fails got) olds news ds vs r
      had (Ok y) olds news ds vs round = round
      had (Err e) olds news ds vs round = inr round

  -- it is the next one
  pub rounds_all : (before after : Outside) (old : Super L) (number : ℕ) (all got : List (Followed L)) (r : Result (Unit {0}) AllocError) → number ≡ number_of_next (in_hand.past old) → all ≡ got
      → RoundsOver left taken held before after number old.followed.items got r
      → (olds : List Standing) → AllStand olds old.followed.items → (news : List Standing) × (dials : List Dial) × (visits : List Visit) × Goes before dials visits after
      × Rounded (IsSome after.visits) (in_hand.upstreams old.followed.items) (in_hand.past old) (record { rounds = number; fails = in_hand.fails all }) olds news dials visits r × AllStand news all
  rounds_all before after old number all got r next are_all rounds olds are =
      let p = subst (λ (fs : List (Followed L)). RoundsOver left taken held before after number old.followed.items fs r) (sym are_all) rounds olds are in
      (p.0, p.1, p.2, p.3, of r p.0 p.1 p.2 p.4, p.5)
    where
      of : (r : Result (Unit {0}) AllocError) (news : List Standing) (dials : List Dial) (visits : List Visit)
          → HadRound left taken held (IsSome after.visits) (in_hand.upstreams old.followed.items) number (in_hand.fails old.followed.items) (in_hand.fails all) olds news dials visits r
          → Rounded (IsSome after.visits) (in_hand.upstreams old.followed.items) (in_hand.past old) (record { rounds = number; fails = in_hand.fails all }) olds news dials visits r
      of (Ok x) news dials visits round = record { number_is = next; round = round }
      of (Err e) news dials visits stops = record { number_is = next; stops = stops }
