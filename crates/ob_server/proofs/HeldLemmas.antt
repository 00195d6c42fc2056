-- Requests that are answered one after the other, from those that a framer holds.
use Rattle.std.proofs.Common.{◌≡◌, ◌≢◌, ◌⊎◌, ℕ, ◌+◌, Bool, true, false, List, [], ◌∷◌, ◌++◌, Option, Some, None, Ok, Err, refl, sym, ap, subst, ◌∙◌, length, append_assoc, append-nil, inl, inr, MatchBool, IfSome, ◌<◌, ◌≤◌, length-drop, arith, length-append}
use Rattle.ob_io.specs.Told.{IsFront}
use Rattle.ob_http.specs.declared.seen.Seen.{Seen}
use Rattle.ob_http.specs.declared.fault.FrameFault.{FrameFault}
use Rattle.ob_http.specs.declared.fault.FrameFault.TheVariants as faults
use Rattle.ob_http.specs.Answer.{refusal_text}
use Rattle.ob_http.specs.Requests.{seen_request, front_of, SeesNext, Follows}
use Rattle.ob_http.specs.Request.{Request, Stands}
use Rattle.ob_http.specs.Requests.{Framed, AreFirst, IsTaken}
use Rattle.ob_http.specs.Stream.{Received, resting, closing, faulted, behind}
use Rattle.ob_server.specs.Exchange.{Exchange, SortsTo, Call, Had, Went, IsExchange, HasAnswer, AreAnswered, request_of, moment_of, calls_in, answer_to, requests_of, moments_of, calls_of, answers_to}
use Rattle.ob_io.specs.Faults.{Rose}
use Rattle.ob_server.specs.Answered.{AnswersOne, AnswersHeld, BreakRose, IsLast}
use Rattle.ob_server.specs.declared.end.Break.TheVariants as breaks
use Rattle.ob_server.specs.Next.{SortsNext, IsNext, IsAtRest, IsFaulted}
use Rattle.ob_server.specs.declared.next.Next.{Next}
use Rattle.ob_server.specs.declared.end.Break.{Break}
use Rattle.ob_server.specs.declared.end.Stop.TheVariants as stops
use Rattle.ob_server.proofs.BodyLemmas.{body_short}
use Rattle.ob_server.proofs.ExchangeLemmas.{answers_then, calls_then, moments_then, requests_then, answered_then, went_none, went_then}

-- All requests so far are answered, whatever was taken before them.
pub record Answering (ns : Option (List ℕ)) (old now : Received) (before after : Had) : Type 0 where
  pub done : List Exchange
  pub answered : AreAnswered done
  pub went : Went before (answers_to ns done) (moments_of done) (calls_of done) after
  pub taken : (stream : List ℕ) (requests : List Request) → IsTaken stream requests old → IsTaken stream (requests ++ requests_of done) now
  pub size : now.place + length now.kept ≡ old.place + length old.kept
  pub few : length done + old.place ≤ now.place

pub answering_none : (ns : Option (List ℕ)) (held : Received) (h : Had) → Answering ns held held h h
answering_none ns held h = record {
  done = [];
  answered = tt;
  went = went_none h;
  taken = λ stream requests taken. subst (λ (rs : List Request). IsTaken stream rs held) (sym (append-nil requests)) taken;
  size = refl;
  few = omega arith;
}

-- what was done, and then some more
pub went_more : (ns : Option (List ℕ)) (done more : List Exchange) (text : List ℕ) (h i j : Had) → Went h (answers_to ns done) (moments_of done) (calls_of done) i
    → Went i text (moments_of more) (calls_of more) j → Went h (answers_to ns done ++ text) (moments_of (done ++ more)) (calls_of (done ++ more)) j
went_more ns done more text h i j x y =
    subst (λ (cs : List Call). Went h (answers_to ns done ++ text) (moments_of (done ++ more)) cs j) (sym (calls_then done more))
    (subst (λ (ms : List ℕ). Went h (answers_to ns done ++ text) ms (calls_of done ++ calls_of more) j) (sym (moments_then done more))
    (went_then h i j (answers_to ns done) text (moments_of done) (moments_of more) (calls_of done) (calls_of more) x y))

at_most_one : (last : List Exchange) → IsLast last → length last ≤ 1
at_most_one [] one = omega arith
at_most_one (x ∷ xs) one = omega (arith, ap (λ (l : List Exchange). length l) one.1)

module _ (ns : Option (List ℕ)) (old now : Received) (h i : Had) (a : Answering ns old now h i) where
  -- what is taken from the stream next, as the requests that were answered come before it
  with_next : (before : List Request) (x : Exchange) (request : Request) → request_of x ≡ request
      → (before ++ requests_of a.done) ++ request ∷ [] ≡ before ++ requests_of (a.done ++ x ∷ [])
  with_next before x request is =
      append_assoc before (requests_of a.done) (request ∷ []) ∙ ap (λ (l : List Request). before ++ l)
      (ap (λ (r : Request). requests_of a.done ++ r ∷ []) (sym is) ∙ sym (requests_then a.done (x ∷ [])))

  answered_one : (x : Exchange) → IsExchange x → HasAnswer x → AreAnswered (a.done ++ x ∷ [])
  answered_one x right has = answered_then a.done (x ∷ []) a.answered (right, has, tt)

  went_one : (x : Exchange) (j : Had) → Went i (answer_to ns x) (moment_of x ∷ []) (calls_in x) j
      → Went h (answers_to ns (a.done ++ x ∷ [])) (moments_of (a.done ++ x ∷ [])) (calls_of (a.done ++ x ∷ [])) j
  went_one x j went =
      subst (λ (text : List ℕ). Went h text (moments_of (a.done ++ x ∷ [])) (calls_of (a.done ++ x ∷ [])) j)
      (ap (λ (t : List ℕ). answers_to ns a.done ++ t) (sym (append-nil (answer_to ns x))) ∙ sym (answers_then ns a.done (x ∷ [])))
      (went_more ns a.done (x ∷ []) (answer_to ns x) h i j a.went
      (subst (λ (cs : List Call). Went i (answer_to ns x) (moment_of x ∷ []) cs j) (sym (append-nil (calls_in x))) went))

  -- one request more
  pub one_more : (request : Request) (next : Received) (j : Had) (u : Unit {0}) → AnswersOne ns request i j (Ok u)
      → ((stream : List ℕ) (requests : List Request) → IsTaken stream requests now → IsTaken stream (requests ++ request ∷ []) next)
      → next.place + length next.kept ≡ now.place + length now.kept → now.place < next.place → Answering ns old next h j
  one_more request next j u (x, right, has, is, went) takes size onward = record {
    done = a.done ++ x ∷ [];
    answered = answered_one x right has;
    went = went_one x j went;
    taken = λ stream requests taken. subst (λ (rs : List Request). IsTaken stream rs next) (with_next requests x request is)
        (takes stream (requests ++ requests_of a.done) (a.taken stream requests taken));
    size = size ∙ a.size;
    few = omega (arith, a.few, onward, length-append a.done (x ∷ []));
  }

  -- there are no more than bytes were taken
  none_last : (next : Received) → now.place ≤ next.place → (let none : List Exchange = [] in length (a.done ++ none) + old.place ≤ next.place)
  none_last next onward = let none : List Exchange = [] in omega (arith, a.few, onward, length-append a.done none)

  -- where nothing stands behind the answers
  whole_text : (j : Had) (xs : List Exchange) → Went h (answers_to ns xs) (moments_of xs) (calls_of xs) j
      → Went h (answers_to ns xs ++ []) (moments_of (xs ++ [])) (calls_of (xs ++ [])) j
  whole_text j xs went =
      let none : List Exchange = [] in
      subst (λ (ys : List Exchange). Went h (answers_to ns xs ++ []) (moments_of ys) (calls_of ys) j) (sym (append-nil xs))
      (subst (λ (t : List ℕ). Went h t (moments_of xs) (calls_of xs) j) (sym (append-nil (answers_to ns xs))) went)

  -- no whole request is held
  pub nothing_held : (next : Received) (u : Unit {0}) → next ≡ now
      → ((stream : List ℕ) (requests : List Request) → IsTaken stream requests now → Framed stream requests (resting now.kept))
      → AnswersHeld ns old next h i (Ok u)
  nothing_held next u same ends = record {
    done = a.done;
    last = [];
    tail = [];
    answered = a.answered;
    went = whole_text i a.done a.went;
    tail_is = (refl, refl);
    stops = λ stream requests taken.
        let t = a.taken stream requests taken in
        subst (λ (r : Received). IsTaken stream (requests ++ requests_of a.done) r × Framed stream (requests ++ requests_of a.done) (resting r.kept)) (sym same)
        (t, ends stream (requests ++ requests_of a.done) t);
    size = ap (λ (r : Received). r.place + length r.kept) same ∙ a.size;
    few = none_last next (omega (arith, ap (λ (r : Received). r.place) same));
  }

  -- the request asked for the end
  pub asked_end : (request : Request) (next : Received) (j : Had) (u : Unit {0}) → AnswersOne ns request i j (Ok u)
      → ((stream : List ℕ) (requests : List Request) → IsTaken stream requests now → Framed stream (requests ++ request ∷ []) closing)
      → next.place + length next.kept ≡ now.place + length now.kept → now.place < next.place → AnswersHeld ns old next h j (Err stops.Asked)
  asked_end request next j u (x, right, has, is, went) ends size onward = record {
    done = a.done ++ x ∷ [];
    last = [];
    tail = [];
    answered = answered_one x right has;
    went = whole_text j (a.done ++ x ∷ []) (went_one x j went);
    tail_is = (refl, refl);
    stops = λ stream requests taken. subst (λ (rs : List Request). Framed stream rs closing) (with_next requests x request is)
        (ends stream (requests ++ requests_of a.done) (a.taken stream requests taken));
    size = size ∙ a.size;
    few = (let none : List Exchange = [] in omega (arith, a.few, onward, length-append a.done (x ∷ []), length-append (a.done ++ x ∷ []) none));
  }

  first_done : (stream : List ℕ) (requests : List Request) → IsTaken stream requests old → AreFirst stream (requests ++ requests_of a.done)
  first_done stream requests taken = λ more all end framed.
      let t = (a.taken stream requests taken).back more all end framed in (t.0, t.1)

  -- nothing was done with what comes next
  pub broke_between : (broken : Break) (next : Received) (j : Had) (tail : List ℕ) → Went i tail [] [] j
      → ((stream : List ℕ) (requests : List Request) → IsTaken stream requests now
      → IsFront tail [] ⊎ ((fault : FrameFault) × Framed stream requests (faulted fault next.place) × IsFront tail (refusal_text fault)))
      → next ≡ now → AnswersHeld ns old next h j (Err (stops.Broke broken))
  broke_between broken next j tail went fronts same = record {
    done = a.done;
    last = [];
    tail = tail;
    answered = a.answered;
    went = went_more ns a.done [] tail h i j a.went went;
    tail_is = tt;
    stops = λ stream requests taken. (
      subst (λ (xs : List Exchange). AreFirst stream (requests ++ requests_of xs)) (sym (append-nil a.done)) (first_done stream requests taken),
      elim (fronts stream (requests ++ requests_of a.done) (a.taken stream requests taken)) [ inl f ↦ inl f | inr f ↦ inr (refl, f) ],
    );
    size = ap (λ (r : Received). r.place + length r.kept) same ∙ a.size;
    few = none_last next (omega (arith, ap (λ (r : Received). r.place) same));
  }

  first_last : (stream : List ℕ) (requests : List Request) (request : Request) (last : List Exchange) → IsTaken stream requests old
      → ((last ≡ []) ⊎ (requests_of last ≡ request ∷ []))
      → AreFirst stream ((requests ++ requests_of a.done) ++ request ∷ [])
      → AreFirst stream (requests ++ requests_of (a.done ++ last))
  first_last stream requests request last taken which with_it =
      elim which [
        | inl none ↦ subst (λ (xs : List Exchange). AreFirst stream (requests ++ requests_of (a.done ++ xs))) (sym none)
            (subst (λ (xs : List Exchange). AreFirst stream (requests ++ requests_of xs)) (sym (append-nil a.done)) (first_done stream requests taken))
        | inr one ↦ subst (λ (rs : List Request). AreFirst stream rs)
            (append_assoc requests (requests_of a.done) (request ∷ []) ∙ ap (λ (l : List Request). requests ++ l)
            (ap (λ (l : List Request). requests_of a.done ++ l) (sym one) ∙ sym (requests_then a.done last))) with_it
      ]

  -- the service broke off at a request
  pub broke_at : (request : Request) (broken : Break) (next : Received) (j : Had) → AnswersOne ns request i j (Err broken)
      → ((stream : List ℕ) (requests : List Request) → IsTaken stream requests now → AreFirst stream (requests ++ request ∷ []))
      → next.place + length next.kept ≡ now.place + length now.kept → now.place < next.place → AnswersHeld ns old next h j (Err (stops.Broke broken))
  broke_at request broken next j (last, tail, one, which, front, went) first size onward = record {
    done = a.done;
    last = last;
    tail = tail;
    answered = a.answered;
    went = went_more ns a.done last tail h i j a.went went;
    tail_is = one;
    stops = λ stream requests taken.
        (first_last stream requests request last taken which (first stream (requests ++ requests_of a.done) (a.taken stream requests taken)), inl front);
    size = size ∙ a.size;
    few = omega (arith, a.few, onward, length-append a.done last, at_most_one last one);
  }

  -- what comes next was refused
  pub refused_next : (fault : FrameFault) (next : Received) (j : Had) → fault ≢ faults.Memory → next ≡ now → Went i (refusal_text fault) [] [] j
      → ((stream : List ℕ) (requests : List Request) → IsTaken stream requests now → Framed stream requests (faulted fault now.place))
      → AnswersHeld ns old next h j (Err (stops.BadFrame fault))
  refused_next fault next j counts same went ends = record {
    done = a.done;
    last = [];
    tail = refusal_text fault;
    answered = a.answered;
    went = went_more ns a.done [] (refusal_text fault) h i j a.went went;
    tail_is = (counts, refl, refl);
    stops = λ stream requests taken. subst (λ (r : Received). Framed stream (requests ++ requests_of a.done) (faulted fault r.place)) (sym same)
        (ends stream (requests ++ requests_of a.done) (a.taken stream requests taken));
    size = ap (λ (r : Received). r.place + length r.kept) same ∙ a.size;
    few = none_last next (omega (arith, ap (λ (r : Received). r.place) same));
  }

-- ---- what the next request is

pub sorts_some : (old new : Received) (o : Option Next) (next : Next) → o ≡ Some next → SortsNext old new (Ok o) → IsNext old new next
sorts_some old new o next is told = subst (λ (p : Option Next). SortsNext old new (Ok p)) is told

pub sorts_none : (old new : Received) (o : Option Next) → o ≡ None → SortsNext old new (Ok o) → IsAtRest old new
sorts_none old new o is told = subst (λ (p : Option Next). SortsNext old new (Ok p)) is told

-- what was lent, sorted and dropped is the next request
pub next_taken : (old new : Received) (o : Option Seen) (seen : Seen) (next : Next) → o ≡ Some seen
    → ((stream : List ℕ) (requests : List Request) → IsTaken stream requests old → SeesNext stream requests old (Ok o))
    → IfSome o (λ s. (0 < s.len) × (s.len ≤ length old.kept))
    → Stands old.kept (front_of (Ok o)) → SortsTo (seen_request seen) next.sorted → seen.close ≡ next.close → new ≡ behind seen.len old → IsNext old new next
next_taken old new o seen next is sees within stands sorts closes dropped =
    let size = subst (λ (p : Option Seen). IfSome p (λ s. (0 < s.len) × (s.len ≤ length old.kept))) is within in
    record {
      request = seen_request seen;
      sorts = sorts;
      closes = closes;
      short = body_short old.kept (seen_request seen) seen.len (subst (λ (p : Option Seen). Stands old.kept (front_of (Ok p))) is stands);
      follows = λ stream requests taken. subst (λ (r : Received). Follows stream requests (seen_request seen) r) (sym dropped)
          (subst (λ (p : Option Seen). SeesNext stream requests old (Ok p)) is (sees stream requests taken));
      len = seen.len;
      some = size.0;
      within = size.1;
      dropped = dropped;
    }

pub rest_seen : (old : Received) (o : Option Seen) → o ≡ None
    → ((stream : List ℕ) (requests : List Request) → IsTaken stream requests old → SeesNext stream requests old (Ok o)) → IsAtRest old old
rest_seen old o is sees = record {
  same = refl;
  rests = λ stream requests taken. subst (λ (p : Option Seen). SeesNext stream requests old (Ok p)) is (sees stream requests taken);
}

pub fault_seen : (old : Received) (fault : FrameFault)
    → ((stream : List ℕ) (requests : List Request) → IsTaken stream requests old → SeesNext stream requests old (Err fault)) → IsFaulted old old fault
fault_seen old fault sees = record { same = refl; faults = λ stream requests taken. inl (sees stream requests taken) }

pub memory_fault : (old : Received) → IsFaulted old old faults.Memory
memory_fault old = record { same = refl; faults = λ stream requests taken. inr refl }

match_true : (b : Bool) (A B : Type 0) → b ≡ true → MatchBool b A B → A
match_true true A B is m = m
match_true false A B is m = absurd (cc)

match_false : (b : Bool) (A B : Type 0) → b ≡ false → MatchBool b A B → B
match_false false A B is m = m
match_false true A B is m = absurd (cc)

pub size_of_same : (old new : Received) → new ≡ old → new.place + length new.kept ≡ old.place + length old.kept
size_of_same old new same = ap (λ (r : Received). r.place + length r.kept) same

module _ (old new : Received) (next : Next) (n : IsNext old new next) where
  pub next_first : (stream : List ℕ) (requests : List Request) → IsTaken stream requests old → AreFirst stream (requests ++ n.request ∷ [])
  next_first stream requests taken = (n.follows stream requests taken).0

  pub next_closes : next.close ≡ true → (stream : List ℕ) (requests : List Request) → IsTaken stream requests old → Framed stream (requests ++ n.request ∷ []) closing
  next_closes is stream requests taken = match_true n.request.close _ _ (n.closes ∙ is) (n.follows stream requests taken).1

  pub next_goes_on : next.close ≡ false → (stream : List ℕ) (requests : List Request) → IsTaken stream requests old → IsTaken stream (requests ++ n.request ∷ []) new
  next_goes_on is stream requests taken = match_false n.request.close _ _ (n.closes ∙ is) (n.follows stream requests taken).1

  pub next_size : new.place + length new.kept ≡ old.place + length old.kept
  next_size = omega (arith, ap (λ (r : Received). r.place + length r.kept) n.dropped, length-drop n.len old.kept, n.within)

  pub next_place : old.place < new.place
  next_place = omega (arith, ap (λ (r : Received). r.place) n.dropped, n.some)

  pub next_shorter : length new.kept < length old.kept
  next_shorter = omega (arith, ap (λ (r : Received). length r.kept) n.dropped, length-drop n.len old.kept, n.within, n.some)

pub next_refused : (old new : Received) (fault : FrameFault) → fault ≢ faults.Memory → IsFaulted old new fault → (stream : List ℕ) (requests : List Request) → IsTaken stream requests old → Framed stream requests (faulted fault old.place)
next_refused old new fault counts told stream requests taken =
    elim (told.faults stream requests taken) [ inl framed ↦ framed | inr memory ↦ absurd (counts memory) ]

-- ---- causes

pub rose_along : (before now after : ℕ) → before ≤ now → Rose now after → Rose before after
rose_along before now after le rose = omega (arith, le, rose)

pub break_along : (broken : Break) (writes writes' writes'' clocks clocks' clocks'' : ℕ) → writes ≤ writes' → clocks ≤ clocks'
    → BreakRose broken writes' writes'' clocks' clocks'' → BreakRose broken writes writes'' clocks clocks''
break_along breaks.WriteFault writes writes' writes'' clocks clocks' clocks'' w c rose = rose_along writes writes' writes'' w rose
break_along breaks.ClockFault writes writes' writes'' clocks clocks' clocks'' w c rose = rose_along clocks clocks' clocks'' c rose
break_along breaks.Memory writes writes' writes'' clocks clocks' clocks'' w c rose = tt

pub write_broke : (broken : Break) (writes writes' clocks clocks' : ℕ) → broken ≡ breaks.WriteFault → Rose writes writes' → BreakRose broken writes writes' clocks clocks'
write_broke broken writes writes' clocks clocks' is rose = subst (λ (b : Break). BreakRose b writes writes' clocks clocks') (sym is) rose
