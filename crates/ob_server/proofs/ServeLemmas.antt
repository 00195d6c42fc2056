-- The service of a link: what holds between two pieces, and at each end.
use Rattle.std.proofs.Common.{◌≡◌, ◌≢◌, ◌==◌, ℕ, ◌+◌, ◌-◌, ◌^◌, ◌≤◌, Bool, true, false, List, [], ◌∷◌, ◌++◌, Option, Ok, Err, refl, sym, ap, subst, ◌∙◌, length, length-append, append_assoc, append-nil, inl, inr, arith, Result}
use Rattle.std.proofs.lemmas.Bool.{eqb-true, eqb-false}
use Rattle.std.proofs.lemmas.List.{length-map}
use Rattle.std.specs.Io.KnownBytes.{IsAtEnd}
use Rattle.ob_io.specs.Links.{Inlet, Takes, Takes-none, Takes-then, inlet}
use Rattle.ob_http.specs.declared.fault.FrameFault.{FrameFault}
use Rattle.ob_http.specs.Stream.{Received}
use Rattle.ob_http.specs.Request.{Request}
use Rattle.ob_http.specs.Requests.{Framed, AreFirst, IsTaken}
use Rattle.ob_http.specs.Stream.{resting, closing, faulted}
use Rattle.ob_server.specs.Exchange.{Exchange, Call, Had, had, Went, AreAnswered, moment_of, requests_of, moments_of, calls_of, answers_to}
use Rattle.ob_server.specs.Answered.{AnswersHeld, IsWhole, BreaksOff, EndsAs, Serves, ReadsPiece, PauseRose, StopRose, EndRose, HasEndCause, end_of, end_at}
use Rattle.ob_server.specs.declared.end.LinkEnd.{LinkEnd}
use Rattle.ob_server.specs.declared.end.LinkEnd.TheVariants as ends
use Rattle.ob_server.specs.declared.end.Break.{Break}
use Rattle.ob_server.specs.declared.end.Break.TheVariants as breaks
use Rattle.ob_server.specs.declared.end.Pause.{Pause}
use Rattle.ob_server.specs.declared.end.Pause.TheVariants as pauses
use Rattle.ob_server.specs.declared.end.Stop.{Stop}
use Rattle.ob_server.specs.declared.end.Stop.TheVariants as stops
use Rattle.ob_server.proofs.ExchangeLemmas.{answers_then, requests_then, answered_then, went_none}
use Rattle.ob_server.proofs.HeldLemmas.{went_more, rose_along, break_along}

-- All requests of what was taken so far are answered, but those in the bytes that are held, and so many bytes may still be taken.
pub record Serving (ns : Option (List ℕ)) (u v : Inlet) (h i : Had) (held : Received) (room : ℕ) : Type 0 where
  pub taken : List ℕ
  pub done : List Exchange
  pub consumed : Takes u v taken
  pub answered : AreAnswered done
  pub went : Went h (answers_to ns done) (moments_of done) (calls_of done) i
  pub is_taken : IsTaken taken (requests_of done) held
  pub total : held.place + length held.kept + room ≡ 2 ^ 40
  pub few : length done ≤ held.place

-- and no whole request is held
pub record Resting (ns : Option (List ℕ)) (u v : Inlet) (h i : Had) (held : Received) (room : ℕ) : Type 0 where
  pub serving : Serving ns u v h i held room
  pub framed : Framed serving.taken (requests_of serving.done) (resting held.kept)

pub serving_none : (ns : Option (List ℕ)) (u : Inlet) (h : Had) (held : Received) → held ≡ record { place = 0; kept = [] } → IsTaken [] [] held → Serving ns u u h h held (2 ^ 40)
serving_none ns u h held empty taken = record {
  taken = [];
  done = [];
  consumed = Takes-none u;
  answered = tt;
  went = went_none h;
  is_taken = taken;
  total = (let none : List ℕ = [] in ap (λ (r : Received). r.place + length r.kept + 2 ^ 40) empty);
  few = omega arith;
}

-- ---- how it goes on

went_join : (ns : Option (List ℕ)) (s d l : List Exchange) (text : List ℕ) (h i j : Had) → Went h (answers_to ns s) (moments_of s) (calls_of s) i
    → Went i (answers_to ns d ++ text) (moments_of (d ++ l)) (calls_of (d ++ l)) j
    → Went h (answers_to ns (s ++ d) ++ text) (moments_of ((s ++ d) ++ l)) (calls_of ((s ++ d) ++ l)) j
went_join ns s d l text h i j x y =
    subst (λ (t : List ℕ). Went h t (moments_of ((s ++ d) ++ l)) (calls_of ((s ++ d) ++ l)) j)
    (sym (append_assoc (answers_to ns s) (answers_to ns d) text) ∙ ap (λ (t : List ℕ). t ++ text) (sym (answers_then ns s d)))
    (subst (λ (xs : List Exchange). Went h (answers_to ns s ++ (answers_to ns d ++ text)) (moments_of xs) (calls_of xs) j) (sym (append_assoc s d l))
    (went_more ns s (d ++ l) (answers_to ns d ++ text) h i j x y))

module _ (ns : Option (List ℕ)) (u v : Inlet) (h i j : Had) (old new : Received) (room : ℕ) (s : Serving ns u v h i old room) where
  -- the held requests were answered
  pub held_answered : (x : Unit {0}) → AnswersHeld ns old new i j (Ok x) → Resting ns u v h j new room
  held_answered x a =
      let all = sym (requests_then s.done a.done) in
      let stop = a.stops s.taken (requests_of s.done) s.is_taken in
      let went = went_join ns s.done a.done a.last a.tail h i j s.went a.went in
      let none : List Exchange = [] in
      record {
        serving = record {
          taken = s.taken;
          done = s.done ++ a.done;
          consumed = s.consumed;
          answered = answered_then s.done a.done s.answered a.answered;
          went = whole_went (s.done ++ a.done) a.last a.tail j (a.tail_is) went;
          is_taken = subst (λ (rs : List Request). IsTaken s.taken rs new) all stop.0;
          total = omega (arith, s.total, a.size);
          few = omega (arith, s.few, a.few, length-append s.done a.done, length-append a.done a.last);
        };
        framed = subst (λ (rs : List Request). Framed s.taken rs (resting new.kept)) all stop.1;
      }
    where
      whole_went : (d l : List Exchange) (t : List ℕ) (k : Had) → IsWhole l t → Went h (answers_to ns d ++ t) (moments_of (d ++ l)) (calls_of (d ++ l)) k
          → Went h (answers_to ns d) (moments_of d) (calls_of d) k
      whole_went d l t k whole went =
          subst (λ (text : List ℕ). Went h text (moments_of d) (calls_of d) k) (ap (λ (x : List ℕ). answers_to ns d ++ x) whole.1 ∙ append-nil (answers_to ns d))
          (subst (λ (xs : List Exchange). Went h (answers_to ns d ++ t) (moments_of xs) (calls_of xs) k) (ap (λ (x : List Exchange). d ++ x) whole.0 ∙ append-nil d) went)

  -- what came to an end
  finished : (taken : List ℕ) (w : Inlet) (done last : List Exchange) (tail : List ℕ) (end : LinkEnd) → Takes u w taken → AreAnswered done
      → Went h (answers_to ns done ++ tail) (moments_of (done ++ last)) (calls_of (done ++ last)) j → EndsAs ns end taken w.left done last tail → length (done ++ last) ≤ 2 ^ 40 → Serves ns u w h j end
  finished taken w done last tail end consumed answered went ending few = record {
    taken = taken;
    written = answers_to ns done ++ tail;
    moments = moments_of (done ++ last);
    calls = calls_of (done ++ last);
    consumed = consumed;
    went = went;
    answered = record { done = done; last = last; tail = tail; answered = answered; written_is = refl; calls_are = refl; moments_are = refl; ends = ending };
    few = omega (arith, length-map (done ++ last) moment_of, few);
  }

  few_of : (result : Result (Unit {0}) Stop) (a : AnswersHeld ns old new i j result) → length ((s.done ++ a.done) ++ a.last) ≤ 2 ^ 40
  few_of result a = omega (arith, s.few, a.few, a.size, s.total, length-append (s.done ++ a.done) a.last, length-append s.done a.done, length-append a.done a.last)

  pub ends_asked : AnswersHeld ns old new i j (Err stops.Asked) → Serves ns u v h j ends.Asked
  ends_asked a =
      finished s.taken v (s.done ++ a.done) a.last a.tail ends.Asked s.consumed (answered_then s.done a.done s.answered a.answered) (went_join ns s.done a.done a.last a.tail h i j s.went a.went)
      (subst (λ (rs : List Request). Framed s.taken rs closing) (sym (requests_then s.done a.done)) (a.stops s.taken (requests_of s.done) s.is_taken), a.tail_is) (few_of (Err stops.Asked) a)

  pub ends_refused : (fault : FrameFault) (at : ℕ) → at ≡ new.place → AnswersHeld ns old new i j (Err (stops.BadFrame fault)) → Serves ns u v h j (ends.BadFrame fault at)
  ends_refused fault at is a =
      finished s.taken v (s.done ++ a.done) a.last a.tail (ends.BadFrame fault at) s.consumed (answered_then s.done a.done s.answered a.answered) (went_join ns s.done a.done a.last a.tail h i j s.went a.went) (
        subst (λ (n : ℕ). Framed s.taken (requests_of (s.done ++ a.done)) (faulted fault n)) (sym is)
            (subst (λ (rs : List Request). Framed s.taken rs (faulted fault new.place)) (sym (requests_then s.done a.done)) (a.stops s.taken (requests_of s.done) s.is_taken)),
        a.tail_is.0,
        a.tail_is.1,
        a.tail_is.2,
      ) (few_of (Err (stops.BadFrame fault)) a)

  breaks_off : (broken : Break) (a : AnswersHeld ns old new i j (Err (stops.Broke broken))) → BreaksOff ns s.taken (s.done ++ a.done) a.last a.tail
  breaks_off broken a =
      let stop = a.stops s.taken (requests_of s.done) s.is_taken in
      record {
        one = a.tail_is;
        first = subst (λ (rs : List Request). AreFirst s.taken rs)
            (sym (requests_then s.done (a.done ++ a.last)) ∙ ap requests_of (sym (append_assoc s.done a.done a.last))) stop.0;
        front = elim stop.1 [
          | inl front ↦ inl front
          | inr refusal ↦ inr (refusal.0, (refusal.1.0, new.place, subst (λ (rs : List Request). Framed s.taken rs (faulted refusal.1.0 new.place)) (sym (requests_then s.done a.done)) refusal.1.1, refusal.1.2))
        ];
      }

  broken_end : (broken : Break) (end : LinkEnd) → AnswersHeld ns old new i j (Err (stops.Broke broken))
      → ((done last : List Exchange) (tail : List ℕ) → BreaksOff ns s.taken done last tail → EndsAs ns end s.taken v.left done last tail) → Serves ns u v h j end
  broken_end broken end a ending =
      finished s.taken v (s.done ++ a.done) a.last a.tail end s.consumed (answered_then s.done a.done s.answered a.answered) (went_join ns s.done a.done a.last a.tail h i j s.went a.went)
      (ending (s.done ++ a.done) a.last a.tail (breaks_off broken a)) (few_of (Err (stops.Broke broken)) a)

  -- where no more requests are answered
  pub ends_of : (stop : Stop) (place : ℕ) → place ≡ new.place → AnswersHeld ns old new i j (Err stop) → Serves ns u v h j (end_of stop place)
  ends_of stops.Asked place is a = ends_asked a
  ends_of (stops.BadFrame fault) place is a = ends_refused fault place is a
  ends_of (stops.Broke breaks.WriteFault) place is a = broken_end breaks.WriteFault ends.WriteFault a (λ done last tail b. b)
  ends_of (stops.Broke breaks.ClockFault) place is a = broken_end breaks.ClockFault ends.ClockFault a (λ done last tail b. b)
  ends_of (stops.Broke breaks.Memory) place is a = broken_end breaks.Memory ends.Memory a (λ done last tail b. b)

module _ (ns : Option (List ℕ)) (u v w : Inlet) (h i : Had) (held : Received) (room : ℕ) (r : Resting ns u v h i held room) where
  consumed_none : Takes v w [] → Takes u w r.serving.taken
  consumed_none read = subst (Takes u w) (append-nil r.serving.taken) (Takes-then u v w r.serving.taken [] r.serving.consumed read)

  few_rest : length (moments_of r.serving.done) ≤ 2 ^ 40
  few_rest = omega (arith, length-map r.serving.done moment_of, r.serving.few, r.serving.total)

  -- an end where each request is answered
  at_rest : (end : LinkEnd) → Takes v w [] → EndsAs ns end r.serving.taken w.left r.serving.done [] [] → Serves ns u w h i end
  at_rest end read ending =
      let s = r.serving in
      let text = answers_to ns s.done in
      record {
        taken = s.taken;
        written = text;
        moments = moments_of s.done;
        calls = calls_of s.done;
        consumed = consumed_none read;
        went = s.went;
        answered = record {
          done = s.done;
          last = [];
          tail = [];
          answered = s.answered;
          written_is = sym (append-nil text);
          calls_are = ap calls_of (sym (append-nil s.done));
          moments_are = ap moments_of (sym (append-nil s.done));
          ends = ending;
        };
        few = few_rest;
      }

  pub ends_closed : Takes v w [] → IsAtEnd w.left → length held.kept ≡ 0 → Serves ns u w h i ends.Closed
  ends_closed read end none =
      let empty : held.kept ≡ [] = nothing held.kept none in
      at_rest ends.Closed read (subst (λ (rest : List ℕ). Framed r.serving.taken (requests_of r.serving.done) (resting rest)) empty r.framed, end, (refl, refl))
    where
      nothing : (xs : List ℕ) → length xs ≡ 0 → xs ≡ []
      nothing [] e = refl
      nothing (x ∷ xs) e = absurd (omega (arith, e))

  pub ends_truncated : Takes v w [] → IsAtEnd w.left → length held.kept ≢ 0 → Serves ns u w h i ends.Truncated
  ends_truncated read end some =
      at_rest ends.Truncated read (held.kept, (λ none. some (ap (λ (xs : List ℕ). length xs) none)), r.framed, end, (refl, refl))

  pub ends_read_fault : Takes v w [] → Serves ns u w h i ends.ReadFault
  ends_read_fault keeps = at_rest ends.ReadFault (keeps) (held.kept, r.framed, (refl, refl))

  -- a piece was read and is held
  pub fed : (piece : List ℕ) (count : ℕ) (next : Received) → Takes v w piece → length piece ≡ count → count ≤ room → next ≡ record held { kept = held.kept ++ piece }
      → ((stream : List ℕ) (requests : List Request) → IsTaken stream requests held → IsTaken (stream ++ piece) requests next)
      → Serving ns u w h i next (room - count)
  fed piece count next read size le is takes =
      let s = r.serving in
      record {
        taken = s.taken ++ piece;
        done = s.done;
        consumed = Takes-then u v w s.taken piece s.consumed read;
        answered = s.answered;
        went = s.went;
        is_taken = takes s.taken (requests_of s.done) s.is_taken;
        total = omega (arith, s.total, ap (λ (q : Received). q.place + length q.kept) is, length-append held.kept piece, size, le);
        few = omega (arith, s.few, ap (λ (q : Received). q.place) is);
      }

  -- a piece was read and could not be held
  pub ends_fed_memory : (piece : List ℕ) → Takes v w piece → Serves ns u w h i ends.Memory
  ends_fed_memory piece read =
      let s = r.serving in
      record {
        taken = s.taken ++ piece;
        written = answers_to ns s.done;
        moments = moments_of s.done;
        calls = calls_of s.done;
        consumed = Takes-then u v w s.taken piece s.consumed read;
        went = s.went;
        answered = record {
          done = s.done;
          last = [];
          tail = [];
          answered = s.answered;
          written_is = sym (append-nil (answers_to ns s.done));
          calls_are = ap calls_of (sym (append-nil s.done));
          moments_are = ap moments_of (sym (append-nil s.done));
          ends = record {
            one = tt;
            first = subst (λ (xs : List Exchange). AreFirst (s.taken ++ piece) (requests_of xs)) (sym (append-nil s.done))
                (λ more all end framed. let t = s.is_taken.back (piece ++ more) all end (subst (λ (l : List ℕ). Framed l all end) (append_assoc s.taken piece more) framed) in (t.0, t.1));
            front = inl ([], refl);
          };
        };
        few = few_rest;
      }

-- where no piece was read
pub ends_at : (ns : Option (List ℕ)) (u v w : Inlet) (h i : Had) (held next : Received) (room most : ℕ) (pause : Pause) (holds_none : Bool) → Resting ns u v h i held room
    → holds_none ≡ (length next.kept == 0) → ReadsPiece most v w held next (Err pause) → Serves ns u w h i (end_at pause holds_none)
ends_at ns u v w h i held next room most pauses.Ended true r is told =
    let none : length next.kept ≡ 0 = eqb-true (length next.kept) 0 (sym is) in
    ends_closed ns u v w h i held room r told.0 told.1 (ap (λ (q : Received). length q.kept) (sym told.2) ∙ none)
ends_at ns u v w h i held next room most pauses.Ended false r is told =
    let some : length next.kept ≢ 0 = eqb-false (length next.kept) 0 (sym is) in
    ends_truncated ns u v w h i held room r told.0 told.1 (λ none. some (ap (λ (q : Received). length q.kept) told.2 ∙ none))
ends_at ns u v w h i held next room most pauses.ReadFault holds_none r is told = ends_read_fault ns u v w h i held room r told
ends_at ns u v w h i held next room most pauses.Memory holds_none r is told = ends_fed_memory ns u v w h i held room r told.0 told.1

-- ---- a value that stayed the same

pub serves_as : (ns : Option (List ℕ)) (u v : Inlet) (h i : Had) (end end' : LinkEnd) → end ≡ end' → Serves ns u v h i end' → Serves ns u v h i end
serves_as ns u v h i end end' same s = subst (λ (e : LinkEnd). Serves ns u v h i e) (sym same) s

pub serving_along : (ns : Option (List ℕ)) (u : Inlet) (left left' taken taken' : Option (List ℕ)) (h i : Had) (held : Received) (room : ℕ) → left' ≡ left → taken' ≡ taken
    → Serving ns u (inlet left taken) h i held room → Serving ns u (inlet left' taken') h i held room
serving_along ns u left left' taken taken' h i held room same same' s =
    subst (λ (x : Option (List ℕ)). Serving ns u (inlet x taken') h i held room) (sym same)
    (subst (λ (x : Option (List ℕ)). Serving ns u (inlet left x) h i held room) (sym same') s)

pub serves_along : (ns : Option (List ℕ)) (u v : Inlet) (h : Had) (held held' given : Option (List ℕ)) (calls : List Call) (end : LinkEnd) → held' ≡ held → Serves ns u v h (had held given calls) end → Serves ns u v h (had held' given calls) end
serves_along ns u v h held held' given calls end same s = subst (λ (x : Option (List ℕ)). Serves ns u v h (had x given calls) end) (sym same) s

pub serving_held : (ns : Option (List ℕ)) (u v : Inlet) (h : Had) (held held' given : Option (List ℕ)) (calls : List Call) (r : Received) (room : ℕ) → held' ≡ held → Serving ns u v h (had held given calls) r room → Serving ns u v h (had held' given calls) r room
serving_held ns u v h held held' given calls r room same s = subst (λ (x : Option (List ℕ)). Serving ns u v h (had x given calls) r room) (sym same) s

-- ---- causes

pub stop_cause : (reads reads' writes writes' clocks clocks' place : ℕ) (stop : Stop) → reads ≤ reads' → writes ≤ writes' → clocks ≤ clocks' → StopRose stop writes writes' clocks clocks'
    → HasEndCause reads reads' writes writes' clocks clocks' (end_of stop place)
stop_cause reads reads' writes writes' clocks clocks' place stop r w c rose = record { reads_later = r; writes_later = w; clocks_later = c; rose = by_stop stop rose }
  where
    by_stop : (stop : Stop) → StopRose stop writes writes' clocks clocks' → EndRose (end_of stop place) reads reads' writes writes' clocks clocks'
    by_stop stops.Asked rose = tt
    by_stop (stops.BadFrame fault) rose = tt
    by_stop (stops.Broke breaks.WriteFault) rose = rose
    by_stop (stops.Broke breaks.ClockFault) rose = rose
    by_stop (stops.Broke breaks.Memory) rose = tt

pub pause_cause : (reads reads' writes writes' clocks clocks' : ℕ) (pause : Pause) (holds_none : Bool) → reads ≤ reads' → writes ≤ writes' → clocks ≤ clocks' → PauseRose (Err pause) reads reads'
    → HasEndCause reads reads' writes writes' clocks clocks' (end_at pause holds_none)
pause_cause reads reads' writes writes' clocks clocks' pause holds_none r w c rose = record { reads_later = r; writes_later = w; clocks_later = c; rose = by_pause pause holds_none rose }
  where
    by_pause : (pause : Pause) (holds_none : Bool) → PauseRose (Err pause) reads reads' → EndRose (end_at pause holds_none) reads reads' writes writes' clocks clocks'
    by_pause pauses.Ended true rose = tt
    by_pause pauses.Ended false rose = tt
    by_pause pauses.ReadFault holds_none rose = rose
    by_pause pauses.Memory holds_none rose = tt

pub stop_along : (stop : Stop) (writes writes' writes'' clocks clocks' clocks'' : ℕ) → writes ≤ writes' → clocks ≤ clocks'
    → StopRose stop writes' writes'' clocks' clocks'' → StopRose stop writes writes'' clocks clocks''
stop_along stops.Asked writes writes' writes'' clocks clocks' clocks'' w c rose = tt
stop_along (stops.BadFrame fault) writes writes' writes'' clocks clocks' clocks'' w c rose = tt
stop_along (stops.Broke broken) writes writes' writes'' clocks clocks' clocks'' w c rose = break_along broken writes writes' writes'' clocks clocks' clocks'' w c rose

pub pause_along : (pause : Pause) (reads reads' reads'' : ℕ) → reads ≤ reads' → PauseRose (Err pause) reads' reads'' → PauseRose (Err pause) reads reads''
pause_along pauses.Ended reads reads' reads'' r rose = tt
pause_along pauses.ReadFault reads reads' reads'' r rose = rose_along reads reads' reads'' r rose
pause_along pauses.Memory reads reads' reads'' r rose = tt

pub cause_as : (reads reads' writes writes' clocks clocks' : ℕ) (end end' : LinkEnd) → end ≡ end' → HasEndCause reads reads' writes writes' clocks clocks' end'
    → HasEndCause reads reads' writes writes' clocks clocks' end
cause_as reads reads' writes writes' clocks clocks' end end' same cause = subst (λ (e : LinkEnd). HasEndCause reads reads' writes writes' clocks clocks' e) (sym same) cause

pub ends_budget : (ns : Option (List ℕ)) (u v : Inlet) (h i : Had) (held : Received) (room : ℕ) → Resting ns u v h i held room → room ≡ 0 → Serves ns u v h i ends.Budget
ends_budget ns u v h i held room r none =
    at_rest ns u v v h i held room r ends.Budget (Takes-none v) (held.kept, r.framed, omega (arith, r.serving.total, r.serving.is_taken.size, none), (refl, refl))

-- nothing was taken, since there was no memory to begin
pub ends_unstarted : (ns : Option (List ℕ)) (u : Inlet) (h : Had) → Serves ns u u h h ends.Memory
ends_unstarted ns u h = record {
  taken = [];
  written = [];
  moments = [];
  calls = [];
  consumed = Takes-none u;
  went = went_none h;
  answered = record {
    done = [];
    last = [];
    tail = [];
    answered = tt;
    written_is = refl;
    calls_are = refl;
    moments_are = refl;
    ends = record { one = tt; first = λ more all end framed. (all, refl); front = inl ([], refl) };
  };
  few = omega arith;
}
