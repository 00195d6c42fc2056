-- The requests of a link, recorded one after the other.
use Rattle.std.proofs.Common.{◌≡◌, ◌≢◌, ◌⊎◌, ℕ, ◌+◌, ◌-◌, ◌<◌, ◌≤◌, ◌^◌, List, [], ◌∷◌, ◌++◌, length, Option, Some, None, Result, Ok, Err, Bool, ◌==◌, refl, sym, ap, subst, ◌∙◌, append-nil, arith, inl, inr}
use Rattle.ob_http.specs.declared.fault.FrameFault.{FrameFault}
use Rattle.ob_http.specs.declared.fault.FrameFault.TheVariants as faults
use Rattle.ob_http.specs.Answer.{refusal_text}
use Rattle.ob_http.specs.Request.{Request as Framed}
use Rattle.ob_http.specs.Requests.{Framed as IsFramed, AreFirst, IsTaken}
use Rattle.ob_http.specs.Stream.{Received, resting, closing, faulted}
use Rattle.ob_io.specs.Links.{Inlet, inlet, Takes}
use Rattle.ob_object.specs.Object.{Object}
use Rattle.ob_record.specs.Legal.{Call}
use Rattle.ob_server.specs.Answered.{AnswersHeld, ReadsPiece, Serves, end_of, end_at}
use Rattle.ob_server.specs.Exchange.{Had, had}
use Rattle.ob_server.specs.declared.end.Break.{Break}
use Rattle.ob_server.specs.declared.end.Break.TheVariants as breaks
use Rattle.ob_server.specs.declared.end.LinkEnd.{LinkEnd}
use Rattle.ob_server.specs.declared.end.LinkEnd.TheVariants as ends
use Rattle.ob_server.specs.declared.end.Pause.{Pause}
use Rattle.ob_server.specs.declared.end.Pause.TheVariants as pauses
use Rattle.ob_server.specs.declared.end.Stop.{Stop}
use Rattle.ob_server.specs.declared.end.Stop.TheVariants as stops
use Rattle.ob_server.proofs.ExchangeLemmas.{went_none, went_sent}
use Rattle.ob_server.proofs.HeldLemmas.{Answering, answering_none, one_more, nothing_held, asked_end, broke_between, broke_at, refused_next}
use Rattle.ob_server.proofs.ServeLemmas.{Serving, Resting, serving_none, serving_along, held_answered, ends_of, ends_at, ends_budget, ends_unstarted, fed, serves_as}
use Rattle.ob_site_rules.specs.declared.request.Request.{Request}
use Rattle.ob_record.specs.Recording.{IsDone, IsUnbroken, IsWhole, Asks, RecordsOne, RecordsHeld, RecordsLink}
use Rattle.ob_record.proofs.AskLaws.{asks_none, asks_less, asks_then, asks_held, one_behind, behind_calls}

module _ {S : Type 0} (act : S → Request → ℕ → S × Object) where
  -- ---- the requests that a framer holds

  -- all so far were recorded
  pub record Holding (s now : S) (old held : Received) (text text' given given' : Option (List ℕ)) : Type 0 where
    pub calls : List Call
    pub answering : Answering None old held (had None given []) (had None given' calls)
    pub asks : Asks act s now text text' calls (Unit {0})

  pub holding_none : (s : S) (held : Received) (text given : Option (List ℕ)) → Holding s s held held text text given given
  holding_none s held text given = record { calls = []; answering = answering_none None held (had None given []); asks = asks_none act s text (Unit {0}) }

  module _ (s now next : S) (old held held' : Received) (text text' text'' given given' given'' : Option (List ℕ)) (h : Holding s now old held text text' given given') where
    both : (Whole : Type 0) (request : Framed) (result : Result (Unit {0}) Break) (r : RecordsOne act now next text' text'' given' given'' request result) → (Whole → IsDone result)
        → Asks act s next text text'' (h.calls ++ r.calls) Whole
    both Whole request result r to =
        asks_then act s now next text text' text'' h.calls r.calls (Unit {0}) Whole tt h.asks (asks_less act now next text' text'' r.calls (IsDone result) Whole to r.asks)

    -- one more
    pub holding_more : (request : Framed) (done : Unit {0}) → RecordsOne act now next text' text'' given' given'' request (Ok done)
        → ((stream : List ℕ) (requests : List Framed) → IsTaken stream requests held → IsTaken stream (requests ++ request ∷ []) held')
        → held'.place + length held'.kept ≡ held.place + length held.kept → held.place < held'.place → Holding s next old held' text text'' given given''
    holding_more request done r takes size onward = record {
      calls = h.calls ++ r.calls;
      answering = one_more None old held (had None given []) (had None given' h.calls) h.answering request held' (had None given'' (h.calls ++ r.calls)) done
          (one_behind given' given'' h.calls r.calls request (Ok done) r.answers) takes size onward;
      asks = both (Unit {0}) request (Ok done) r (λ w. tt);
    }

    -- the request asked for the end
    pub held_asked : (request : Framed) (done : Unit {0}) → RecordsOne act now next text' text'' given' given'' request (Ok done)
        → ((stream : List ℕ) (requests : List Framed) → IsTaken stream requests held → IsFramed stream (requests ++ request ∷ []) closing)
        → held'.place + length held'.kept ≡ held.place + length held.kept → held.place < held'.place
        → RecordsHeld act s next old held' text text'' given given'' (Err stops.Asked)
    held_asked request done r closes size onward = record {
      calls = h.calls ++ r.calls;
      answers = asked_end None old held (had None given []) (had None given' h.calls) h.answering request held' (had None given'' (h.calls ++ r.calls)) done
          (one_behind given' given'' h.calls r.calls request (Ok done) r.answers) closes size onward;
      asks = both _ request (Ok done) r (λ w. tt);
    }

    -- it broke off at a request
    pub held_broke : (request : Framed) (broken : Break) → RecordsOne act now next text' text'' given' given'' request (Err broken)
        → ((stream : List ℕ) (requests : List Framed) → IsTaken stream requests held → AreFirst stream (requests ++ request ∷ []))
        → held'.place + length held'.kept ≡ held.place + length held.kept → held.place < held'.place
        → RecordsHeld act s next old held' text text'' given given'' (Err (stops.Broke broken))
    held_broke request broken r first size onward = record {
      calls = h.calls ++ r.calls;
      answers = broke_at None old held (had None given []) (had None given' h.calls) h.answering request broken held' (had None given'' (h.calls ++ r.calls))
          (one_behind given' given'' h.calls r.calls request (Err broken) r.answers) first size onward;
      asks = both _ request (Err broken) r (λ w. w);
    }

  module _ (s now : S) (old held : Received) (text text' given given' : Option (List ℕ)) (h : Holding s now old held text text' given given') where
    pub held_nothing : (next : Received) (done : Unit {0}) → next ≡ held
        → ((stream : List ℕ) (requests : List Framed) → IsTaken stream requests held → IsFramed stream requests (resting held.kept))
        → RecordsHeld act s now old next text text' given given' (Ok done)
    held_nothing next done same rests = record {
      calls = h.calls;
      answers = nothing_held None old held (had None given []) (had None given' h.calls) h.answering next done same rests;
      asks = asks_less act s now text text' h.calls (Unit {0}) _ (λ w. tt) h.asks;
    }

    pub held_memory : (next : Received) → next ≡ held → RecordsHeld act s now old next text text' given given' (Err (stops.Broke breaks.Memory))
    held_memory next same = record {
      calls = h.calls;
      answers = broke_between None old held (had None given []) (had None given' h.calls) h.answering breaks.Memory next (had None given' h.calls) []
          (went_none (had None given' h.calls)) (λ stream requests taken. inl ([], refl)) same;
      asks = asks_less act s now text text' h.calls (Unit {0}) _ (λ w. tt) h.asks;
    }

    pub held_refused : (fault : FrameFault) (next : Received) → fault ≢ faults.Memory → next ≡ held
        → ((stream : List ℕ) (requests : List Framed) → IsTaken stream requests held → IsFramed stream requests (faulted fault held.place))
        → RecordsHeld act s now old next text text' given given' (Err (stops.BadFrame fault))
    held_refused fault next counts same refuses = record {
      calls = h.calls;
      answers = refused_next None old held (had None given []) (had None given' h.calls) h.answering fault next (had None given' h.calls) counts same
          (went_sent None None given' h.calls (refusal_text fault) tt) refuses;
      asks = asks_less act s now text text' h.calls (Unit {0}) _ (λ w. tt) h.asks;
    }

  -- ---- the pieces of a link

  pub record Going (s now : S) (u v : Inlet) (held : Received) (room : ℕ) (text text' given given' : Option (List ℕ)) : Type 0 where
    pub calls : List Call
    pub serving : Serving None u v (had None given []) (had None given' calls) held room
    pub asks : Asks act s now text text' calls (Unit {0})

  pub going_none : (s : S) (u : Inlet) (held : Received) (text given : Option (List ℕ)) → held ≡ record { place = 0; kept = [] } → IsTaken [] [] held
      → Going s s u u held (2 ^ 40) text text given given
  going_none s u held text given empty taken = record {
    calls = [];
    serving = serving_none None u (had None given []) held empty taken;
    asks = asks_none act s text (Unit {0});
  }

  -- what the held requests came to is said behind calls that were made before
  held_behind : (given given' : Option (List ℕ)) (before calls : List Call) (old new : Received) (result : Result (Unit {0}) Stop)
      → AnswersHeld None old new (had None given []) (had None given' calls) result → AnswersHeld None old new (had None given before) (had None given' (before ++ calls)) result
  held_behind given given' before calls old new result a = record {
    done = a.done;
    last = a.last;
    tail = a.tail;
    answered = a.answered;
    went = behind_calls given given' before calls _ _ _ a.went;
    tail_is = a.tail_is;
    stops = a.stops;
    size = a.size;
    few = a.few;
  }

  module _ (s now next : S) (u : Inlet) (left left' taken taken' : Option (List ℕ)) (old new : Received) (room : ℕ) (text text' text'' given given' given'' : Option (List ℕ))
      (same : left' ≡ left) (kept : taken' ≡ taken) (g : Going s now u (inlet left taken) old room text text' given given') where
    here : Serving None u (inlet left' taken') (had None given []) (had None given' g.calls) old room
    here = serving_along None u left left' taken taken' (had None given []) (had None given' g.calls) old room same kept g.serving

    all : (Whole : Type 0) (result : Result (Unit {0}) Stop) (r : RecordsHeld act now next old new text' text'' given' given'' result) → (Whole → IsUnbroken result)
        → Asks act s next text text'' (g.calls ++ r.calls) Whole
    all Whole result r to =
        asks_then act s now next text text' text'' g.calls r.calls (Unit {0}) Whole tt g.asks (asks_less act now next text' text'' r.calls (IsUnbroken result) Whole to r.asks)

    -- no more requests are recorded
    pub link_stopped : (stop : Stop) (place : ℕ) → place ≡ new.place → RecordsHeld act now next old new text' text'' given' given'' (Err stop)
        → RecordsLink act s next u (inlet left' taken') text text'' given given'' (end_of stop place)
    link_stopped stop place is r = record {
      calls = g.calls ++ r.calls;
      serves = ends_of None u (inlet left' taken') (had None given []) (had None given' g.calls) (had None given'' (g.calls ++ r.calls)) old new room here stop place is
          (held_behind given' given'' g.calls r.calls old new (Err stop) r.answers);
      asks = all (IsWhole (end_of stop place)) (Err stop) r (unbroken stop);
    }
      where
        unbroken : (x : Stop) → IsWhole (end_of x place) → IsUnbroken (Err x)
        unbroken stops.Asked w = tt
        unbroken (stops.BadFrame fault) w = tt
        unbroken (stops.Broke breaks.WriteFault) w = w
        unbroken (stops.Broke breaks.ClockFault) w = w
        unbroken (stops.Broke breaks.Memory) w = w

    -- nothing whole is held
    pub record Paused : Type 0 where
      pub calls : List Call
      pub resting : Resting None u (inlet left' taken') (had None given []) (had None given'' calls) new room
      pub asks : Asks act s next text text'' calls (Unit {0})

    pub link_paused : (done : Unit {0}) → RecordsHeld act now next old new text' text'' given' given'' (Ok done) → Paused
    link_paused done r = record {
      calls = g.calls ++ r.calls;
      resting = held_answered None u (inlet left' taken') (had None given []) (had None given' g.calls) (had None given'' (g.calls ++ r.calls)) old new room here done
          (held_behind given' given'' g.calls r.calls old new (Ok done) r.answers);
      asks = all (Unit {0}) (Ok done) r (λ w. tt);
    }

    pub link_budget : Paused → room ≡ 0 → RecordsLink act s next u (inlet left' taken') text text'' given given'' ends.Budget
    link_budget p none = record {
      calls = p.calls;
      serves = ends_budget None u (inlet left' taken') (had None given []) (had None given'' p.calls) new room p.resting none;
      asks = asks_less act s next text text'' p.calls (Unit {0}) _ (λ w. tt) p.asks;
    }

    pub link_ended : (w : Inlet) (fed_to : Received) (most : ℕ) (pause : Pause) (holds_none : Bool) → Paused → holds_none ≡ (length fed_to.kept == 0)
        → ReadsPiece most (inlet left' taken') w new fed_to (Err pause) → RecordsLink act s next u w text text'' given given'' (end_at pause holds_none)
    link_ended w fed_to most pause holds_none p is read = record {
      calls = p.calls;
      serves = ends_at None u (inlet left' taken') w (had None given []) (had None given'' p.calls) new fed_to room most pause holds_none p.resting is read;
      asks = asks_less act s next text text'' p.calls (Unit {0}) _ (λ w. tt) p.asks;
    }

    pub link_fed : (w : Inlet) (piece : List ℕ) (count : ℕ) (fed_to : Received) → Paused → Takes (inlet left' taken') w piece → length piece ≡ count → count ≤ room
        → fed_to ≡ record new { kept = new.kept ++ piece }
        → ((stream : List ℕ) (requests : List Framed) → IsTaken stream requests new → IsTaken (stream ++ piece) requests fed_to)
        → Going s next u w fed_to (room - count) text text'' given given''
    link_fed w piece count fed_to p read size le is takes = record {
      calls = p.calls;
      serving = fed None u (inlet left' taken') w (had None given []) (had None given'' p.calls) new room p.resting piece count fed_to read size le is takes;
      asks = p.asks;
    }

  pub link_unstarted : (s : S) (u : Inlet) (text given : Option (List ℕ)) → RecordsLink act s s u u text text given given ends.Memory
  link_unstarted s u text given = record { calls = []; serves = ends_unstarted None u (had None given []); asks = asks_none act s text _ }

  -- said of an end that is another's
  pub link_as : (s s' : S) (u v : Inlet) (text text' given given' : Option (List ℕ)) (end end' : LinkEnd) → end ≡ end' → RecordsLink act s s' u v text text' given given' end'
      → RecordsLink act s s' u v text text' given given' end
  link_as s s' u v text text' given given' end end' same r = subst (λ (e : LinkEnd). RecordsLink act s s' u v text text' given given' e) (sym same) r

  -- the sink is as it was
  pub link_held : (s s' : S) (u v : Inlet) (text text' text'' given given' : Option (List ℕ)) (end : LinkEnd) → text'' ≡ text' → RecordsLink act s s' u v text text' given given' end
      → RecordsLink act s s' u v text text'' given given' end
  link_held s s' u v text text' text'' given given' end same r = subst (λ (t : Option (List ℕ)). RecordsLink act s s' u v text t given given' end) (sym same) r

  pub going_held : (s now : S) (u v : Inlet) (held : Received) (room : ℕ) (text text' text'' given given' : Option (List ℕ)) → text'' ≡ text' → Going s now u v held room text text' given given'
      → Going s now u v held room text text'' given given'
  going_held s now u v held room text text' text'' given given' same g = subst (λ (t : Option (List ℕ)). Going s now u v held room text t given given') (sym same) g
