-- Requests that are answered by an answerer, one after the other.
use Rattle.std.proofs.Common.{◌≡◌, ◌≢◌, ◌⊎◌, ◌==◌, ℕ, ◌+◌, ◌-◌, ◌<◌, ◌≤◌, ◌^◌, Bool, List, [], ◌∷◌, ◌++◌, length, Option, Result, Ok, Err, refl, sym, ap, subst, inl, inr}
use Rattle.ob_http.specs.declared.fault.FrameFault.{FrameFault}
use Rattle.ob_http.specs.declared.fault.FrameFault.TheVariants as faults
use Rattle.ob_http.specs.Answer.{refusal_text}
use Rattle.ob_http.specs.Request.{Request}
use Rattle.ob_http.specs.Requests.{Framed, AreFirst, IsTaken}
use Rattle.ob_http.specs.Stream.{Received, resting, closing, faulted}
use Rattle.ob_io.specs.Links.{Inlet, inlet, Takes}
use Rattle.ob_io.specs.Told.{IsFront}
use Rattle.ob_server.specs.Answered.{AnswersOne, AnswersHeld, ReadsPiece, end_of, end_at}
use Rattle.ob_server.specs.Answering.{AreDone, AreAsked, AnswersOneBy, AnswersHeldBy, ServesBy}
use Rattle.ob_server.specs.Exchange.{Call, Went, had, answer_to, calls_in, moment_of}
use Rattle.ob_server.specs.declared.end.Break.{Break}
use Rattle.ob_server.specs.declared.end.Break.TheVariants as breaks
use Rattle.ob_server.specs.declared.end.LinkEnd.{LinkEnd}
use Rattle.ob_server.specs.declared.end.LinkEnd.TheVariants as ends
use Rattle.ob_server.specs.declared.end.Pause.{Pause}
use Rattle.ob_server.specs.declared.end.Stop.{Stop}
use Rattle.ob_server.specs.declared.end.Stop.TheVariants as stops
use Rattle.ob_server.proofs.HeldLemmas.{Answering, answering_none, one_more, nothing_held, asked_end, broke_between, broke_at, refused_next}
use Rattle.ob_server.proofs.ServeLemmas.{Serving, Resting, serving_none, serving_along, held_answered, ends_of, ends_at, ends_budget, ends_unstarted, fed}

-- ---- what is said of calls that no others come before, said behind others

went_behind : (held held' given given' : Option (List ℕ)) (before calls cs : List Call) (text moments : List ℕ)
    → Went (had held given []) text moments cs (had held' given' calls) → Went (had held given before) text moments cs (had held' given' (before ++ calls))
went_behind held held' given given' before calls cs text moments w =
    record { wrote = w.wrote; gave = w.gave; lasts = w.lasts; made = ap (λ (l : List Call). before ++ l) w.made }

one_behind : (ns held held' given given' : Option (List ℕ)) (before calls : List Call) (request : Request) (result : Result (Unit {0}) Break)
    → AnswersOne ns request (had held given []) (had held' given' calls) result → AnswersOne ns request (had held given before) (had held' given' (before ++ calls)) result
one_behind ns held held' given given' before calls request (Ok done) (x, right, has, is, went) =
    (x, right, has, is, went_behind held held' given given' before calls (calls_in x) (answer_to ns x) (moment_of x ∷ []) went)
one_behind ns held held' given given' before calls request (Err broken) (last, tail, one, which, front, went) =
    (last, tail, one, which, front, went_behind held held' given given' before calls _ tail _ went)

held_behind : (ns held held' given given' : Option (List ℕ)) (before calls : List Call) (old new : Received) (result : Result (Unit {0}) Stop)
    → AnswersHeld ns old new (had held given []) (had held' given' calls) result → AnswersHeld ns old new (had held given before) (had held' given' (before ++ calls)) result
held_behind ns held held' given given' before calls old new result a = record {
  done = a.done;
  last = a.last;
  tail = a.tail;
  answered = a.answered;
  went = went_behind held held' given given' before calls _ _ _ a.went;
  tail_is = a.tail_is;
  stops = a.stops;
  size = a.size;
  few = a.few;
}

-- ---- calls that have replies

pub done_then : (xs ys : List Call) → AreDone xs → AreDone ys → AreDone (xs ++ ys)
done_then [] ys a b = b
done_then (x ∷ xs) ys a b = (a.0, done_then xs ys a.1 b)

-- what didn't break off
done_of : {E : Type 0} (done : Unit {0}) (broken : E) (calls : List Call) → (let kept : Result (Unit {0}) E = Ok done in kept ≡ Err broken) ⊎ AreDone calls → AreDone calls
done_of done broken calls memory = elim memory [ inl wrong ↦ absurd (cc) | inr all ↦ all ]

broke_then : (before calls : List Call) (broken : Break) → AreDone before → (let kept : Result (Unit {0}) Break = Err broken in kept ≡ Err breaks.Memory) ⊎ AreDone calls
    → (let kept : Result (Unit {0}) Stop = Err (stops.Broke broken) in kept ≡ Err (stops.Broke breaks.Memory)) ⊎ AreDone (before ++ calls)
broke_then before calls broken first memory = elim memory [
  | inl is ↦ let same : broken ≡ breaks.Memory = cc in inl (ap (λ (b : Break). Err (stops.Broke b)) same)
  | inr all ↦ inr (done_then before calls first all)
]

stopped_then : (before calls : List Call) (stop : Stop) (place : ℕ) → AreDone before → (let kept : Result (Unit {0}) Stop = Err stop in kept ≡ Err (stops.Broke breaks.Memory)) ⊎ AreDone calls
    → (end_of stop place ≡ ends.Memory) ⊎ AreDone (before ++ calls)
stopped_then before calls stop place first memory = elim memory [
  | inl is ↦ let same : stop ≡ stops.Broke breaks.Memory = cc in inl (ap (λ (s : Stop). end_of s place) same)
  | inr all ↦ inr (done_then before calls first all)
]

module _ {S : Type 0} (asks : S → S → Call → Type 0) where
  asked_then : (s t u : S) (cs ds : List Call) → AreAsked asks s t cs → AreAsked asks t u ds → AreAsked asks s u (cs ++ ds)
  asked_then s t u [] ds same then = subst (λ (x : S). AreAsked asks x u ds) same then
  asked_then s t u (c ∷ cs) ds first then = (first.0, first.1, asked_then first.0 t u cs ds first.2 then)

  module _ (ns : Option (List ℕ)) where
    -- ---- the requests that a framer holds

    -- all so far were answered
    pub record Holding (s now : S) (old held : Received) (sent sent' given given' : Option (List ℕ)) : Type 0 where
      pub calls : List Call
      pub asked : AreAsked asks s now calls
      pub answering : Answering ns old held (had sent given []) (had sent' given' calls)
      pub done : AreDone calls

    pub holding_none : (s : S) (held : Received) (sent given : Option (List ℕ)) → Holding s s held held sent sent given given
    holding_none s held sent given = record { calls = []; asked = refl; answering = answering_none ns held (had sent given []); done = tt }

    module _ (s now next : S) (old held held' : Received) (sent sent' sent'' given given' given'' : Option (List ℕ)) (h : Holding s now old held sent sent' given given') where
      -- one more
      pub holding_more : (request : Request) (done : Unit {0}) → AnswersOneBy asks now next ns request sent' sent'' given' given'' (Ok done)
          → ((stream : List ℕ) (requests : List Request) → IsTaken stream requests held → IsTaken stream (requests ++ request ∷ []) held')
          → held'.place + length held'.kept ≡ held.place + length held.kept → held.place < held'.place → Holding s next old held' sent sent'' given given''
      holding_more request done r takes size onward = record {
        calls = h.calls ++ r.calls;
        asked = asked_then s now next h.calls r.calls h.asked r.asked;
        answering = one_more ns old held (had sent given []) (had sent' given' h.calls) h.answering request held' (had sent'' given'' (h.calls ++ r.calls)) done
            (one_behind ns sent' sent'' given' given'' h.calls r.calls request (Ok done) r.answers) takes size onward;
        done = done_then h.calls r.calls h.done (done_of done breaks.Memory r.calls r.memory);
      }

      -- the request asked for the end
      pub held_asked : (request : Request) (done : Unit {0}) → AnswersOneBy asks now next ns request sent' sent'' given' given'' (Ok done)
          → ((stream : List ℕ) (requests : List Request) → IsTaken stream requests held → Framed stream (requests ++ request ∷ []) closing)
          → held'.place + length held'.kept ≡ held.place + length held.kept → held.place < held'.place
          → AnswersHeldBy asks s next ns old held' sent sent'' given given'' (Err stops.Asked)
      held_asked request done r closes size onward = record {
        calls = h.calls ++ r.calls;
        asked = asked_then s now next h.calls r.calls h.asked r.asked;
        answers = asked_end ns old held (had sent given []) (had sent' given' h.calls) h.answering request held' (had sent'' given'' (h.calls ++ r.calls)) done
            (one_behind ns sent' sent'' given' given'' h.calls r.calls request (Ok done) r.answers) closes size onward;
        memory = inr (done_then h.calls r.calls h.done (done_of done breaks.Memory r.calls r.memory));
      }

      -- it broke off at a request
      pub held_broke : (request : Request) (broken : Break) → AnswersOneBy asks now next ns request sent' sent'' given' given'' (Err broken)
          → ((stream : List ℕ) (requests : List Request) → IsTaken stream requests held → AreFirst stream (requests ++ request ∷ []))
          → held'.place + length held'.kept ≡ held.place + length held.kept → held.place < held'.place
          → AnswersHeldBy asks s next ns old held' sent sent'' given given'' (Err (stops.Broke broken))
      held_broke request broken r first size onward = record {
        calls = h.calls ++ r.calls;
        asked = asked_then s now next h.calls r.calls h.asked r.asked;
        answers = broke_at ns old held (had sent given []) (had sent' given' h.calls) h.answering request broken held' (had sent'' given'' (h.calls ++ r.calls))
            (one_behind ns sent' sent'' given' given'' h.calls r.calls request (Err broken) r.answers) first size onward;
        memory = broke_then h.calls r.calls broken h.done r.memory;
      }

    module _ (s now : S) (old held : Received) (sent sent' given given' : Option (List ℕ)) (h : Holding s now old held sent sent' given given') where
      pub held_nothing : (next : Received) (done : Unit {0}) → next ≡ held
          → ((stream : List ℕ) (requests : List Request) → IsTaken stream requests held → Framed stream requests (resting held.kept))
          → AnswersHeldBy asks s now ns old next sent sent' given given' (Ok done)
      held_nothing next done same rests = record {
        calls = h.calls;
        asked = h.asked;
        answers = nothing_held ns old held (had sent given []) (had sent' given' h.calls) h.answering next done same rests;
        memory = inr h.done;
      }

      -- it broke off between two requests, at a refusal or for want of memory
      pub held_cut : (sent'' : Option (List ℕ)) (broken : Break) (next : Received) (tail : List ℕ) → Went (had sent' given' h.calls) tail [] [] (had sent'' given' h.calls)
          → ((stream : List ℕ) (requests : List Request) → IsTaken stream requests held
          → IsFront tail [] ⊎ ((fault : FrameFault) × Framed stream requests (faulted fault next.place) × IsFront tail (refusal_text fault)))
          → next ≡ held → AnswersHeldBy asks s now ns old next sent sent'' given given' (Err (stops.Broke broken))
      held_cut sent'' broken next tail went fronts same = record {
        calls = h.calls;
        asked = h.asked;
        answers = broke_between ns old held (had sent given []) (had sent' given' h.calls) h.answering broken next (had sent'' given' h.calls) tail went fronts same;
        memory = inr h.done;
      }

      pub held_refused : (sent'' : Option (List ℕ)) (fault : FrameFault) (next : Received) → fault ≢ faults.Memory → next ≡ held
          → Went (had sent' given' h.calls) (refusal_text fault) [] [] (had sent'' given' h.calls)
          → ((stream : List ℕ) (requests : List Request) → IsTaken stream requests held → Framed stream requests (faulted fault held.place))
          → AnswersHeldBy asks s now ns old next sent sent'' given given' (Err (stops.BadFrame fault))
      held_refused sent'' fault next counts same went refuses = record {
        calls = h.calls;
        asked = h.asked;
        answers = refused_next ns old held (had sent given []) (had sent' given' h.calls) h.answering fault next (had sent'' given' h.calls) counts same went refuses;
        memory = inr h.done;
      }

    -- ---- the pieces of a link

    pub record Going (s now : S) (u v : Inlet) (held : Received) (room : ℕ) (sent sent' given given' : Option (List ℕ)) : Type 0 where
      pub calls : List Call
      pub asked : AreAsked asks s now calls
      pub serving : Serving ns u v (had sent given []) (had sent' given' calls) held room
      pub done : AreDone calls

    pub going_none : (s : S) (u : Inlet) (held : Received) (sent given : Option (List ℕ)) → held ≡ record { place = 0; kept = [] } → IsTaken [] [] held
        → Going s s u u held (2 ^ 40) sent sent given given
    going_none s u held sent given empty taken = record { calls = []; asked = refl; serving = serving_none ns u (had sent given []) held empty taken; done = tt }

    module _ (s now next : S) (u : Inlet) (left left' taken taken' : Option (List ℕ)) (old new : Received) (room : ℕ) (sent sent' sent'' given given' given'' : Option (List ℕ))
        (same : left' ≡ left) (kept : taken' ≡ taken) (g : Going s now u (inlet left taken) old room sent sent' given given') where
      here : Serving ns u (inlet left' taken') (had sent given []) (had sent' given' g.calls) old room
      here = serving_along ns u left left' taken taken' (had sent given []) (had sent' given' g.calls) old room same kept g.serving

      -- no more requests are answered
      pub link_stopped : (stop : Stop) (place : ℕ) → place ≡ new.place → AnswersHeldBy asks now next ns old new sent' sent'' given' given'' (Err stop)
          → ServesBy asks s next ns u (inlet left' taken') sent sent'' given given'' (end_of stop place)
      link_stopped stop place is r = record {
        calls = g.calls ++ r.calls;
        asked = asked_then s now next g.calls r.calls g.asked r.asked;
        serves = ends_of ns u (inlet left' taken') (had sent given []) (had sent' given' g.calls) (had sent'' given'' (g.calls ++ r.calls)) old new room here stop place is
            (held_behind ns sent' sent'' given' given'' g.calls r.calls old new (Err stop) r.answers);
        memory = stopped_then g.calls r.calls stop place g.done r.memory;
      }

      -- nothing whole is held
      pub record Paused : Type 0 where
        pub calls : List Call
        pub asked : AreAsked asks s next calls
        pub resting : Resting ns u (inlet left' taken') (had sent given []) (had sent'' given'' calls) new room
        pub done : AreDone calls

      pub link_paused : (done : Unit {0}) → AnswersHeldBy asks now next ns old new sent' sent'' given' given'' (Ok done) → Paused
      link_paused done r = record {
        calls = g.calls ++ r.calls;
        asked = asked_then s now next g.calls r.calls g.asked r.asked;
        resting = held_answered ns u (inlet left' taken') (had sent given []) (had sent' given' g.calls) (had sent'' given'' (g.calls ++ r.calls)) old new room here done
            (held_behind ns sent' sent'' given' given'' g.calls r.calls old new (Ok done) r.answers);
        done = done_then g.calls r.calls g.done (done_of done (stops.Broke breaks.Memory) r.calls r.memory);
      }

      pub link_budget : Paused → room ≡ 0 → ServesBy asks s next ns u (inlet left' taken') sent sent'' given given'' ends.Budget
      link_budget p none = record {
        calls = p.calls;
        asked = p.asked;
        serves = ends_budget ns u (inlet left' taken') (had sent given []) (had sent'' given'' p.calls) new room p.resting none;
        memory = inr p.done;
      }

      pub link_ended : (w : Inlet) (fed_to : Received) (most : ℕ) (pause : Pause) (holds_none : Bool) → Paused → holds_none ≡ (length fed_to.kept == 0)
          → ReadsPiece most (inlet left' taken') w new fed_to (Err pause) → ServesBy asks s next ns u w sent sent'' given given'' (end_at pause holds_none)
      link_ended w fed_to most pause holds_none p is read = record {
        calls = p.calls;
        asked = p.asked;
        serves = ends_at ns u (inlet left' taken') w (had sent given []) (had sent'' given'' p.calls) new fed_to room most pause holds_none p.resting is read;
        memory = inr p.done;
      }

      pub link_fed : (w : Inlet) (piece : List ℕ) (count : ℕ) (fed_to : Received) → Paused → Takes (inlet left' taken') w piece → length piece ≡ count → count ≤ room
          → fed_to ≡ record new { kept = new.kept ++ piece }
          → ((stream : List ℕ) (requests : List Request) → IsTaken stream requests new → IsTaken (stream ++ piece) requests fed_to)
          → Going s next u w fed_to (room - count) sent sent'' given given''
      link_fed w piece count fed_to p read size le is takes = record {
        calls = p.calls;
        asked = p.asked;
        serving = fed ns u (inlet left' taken') w (had sent given []) (had sent'' given'' p.calls) new room p.resting piece count fed_to read size le is takes;
        done = p.done;
      }

    pub link_unstarted : (s : S) (u : Inlet) (sent given : Option (List ℕ)) → ServesBy asks s s ns u u sent sent given given ends.Memory
    link_unstarted s u sent given = record { calls = []; asked = refl; serves = ends_unstarted ns u (had sent given []); memory = inl refl }

    -- said of an end that is another's
    pub link_as : (s s' : S) (u v : Inlet) (sent sent' given given' : Option (List ℕ)) (end end' : LinkEnd) → end ≡ end'
        → ServesBy asks s s' ns u v sent sent' given given' end' → ServesBy asks s s' ns u v sent sent' given given' end
    link_as s s' u v sent sent' given given' end end' same r = subst (λ (e : LinkEnd). ServesBy asks s s' ns u v sent sent' given given' e) (sym same) r

    -- what was written is the same
    pub link_held : (s s' : S) (u v : Inlet) (sent sent' sent'' given given' : Option (List ℕ)) (end : LinkEnd) → sent'' ≡ sent'
        → ServesBy asks s s' ns u v sent sent' given given' end → ServesBy asks s s' ns u v sent sent'' given given' end
    link_held s s' u v sent sent' sent'' given given' end same r = subst (λ (t : Option (List ℕ)). ServesBy asks s s' ns u v sent t given given' end) (sym same) r

    pub going_held : (s now : S) (u v : Inlet) (held : Received) (room : ℕ) (sent sent' sent'' given given' : Option (List ℕ)) → sent'' ≡ sent'
        → Going s now u v held room sent sent' given given' → Going s now u v held room sent sent'' given given'
    going_held s now u v held room sent sent' sent'' given given' same g = subst (λ (t : Option (List ℕ)). Going s now u v held room sent t given given') (sym same) g
