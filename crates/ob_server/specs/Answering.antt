-- The service of a link by an answerer, which nobody else asks.
use Rattle.std.specs.Prelude.{◌≡◌, ◌⊎◌, ℕ, List, [], ◌∷◌, Option, Result, Err}
use Rattle.std.specs.List.{AllByRecursion}
use Rattle.ob_http.specs.Request.{Request}
use Rattle.ob_http.specs.Stream.{Received}
use Rattle.ob_io.specs.Links.{Inlet}
use Rattle.ob_server.specs.Answered.{AnswersOne, AnswersHeld, Serves}
use Rattle.ob_server.specs.Exchange.{Call, IsDone, had}
use Rattle.ob_server.specs.declared.end.Break.{Break}
use Rattle.ob_server.specs.declared.end.Break.TheVariants as breaks
use Rattle.ob_server.specs.declared.end.LinkEnd.{LinkEnd}
use Rattle.ob_server.specs.declared.end.LinkEnd.TheVariants as ends
use Rattle.ob_server.specs.declared.end.Stop.{Stop}
use Rattle.ob_server.specs.declared.end.Stop.TheVariants as stops

-- each of the calls has a reply
abbrev pub AreDone : List Call → Type 0
AreDone calls = AllByRecursion (λ call. IsDone call.answer) calls

-- asks s t c: the call c may make t of s
module _ {S : Type 0} (asks : S → S → Call → Type 0) where
  -- these calls, one after the other, made the last state of the first
  abbrev pub AreAsked : S → S → List Call → Type 0
  AreAsked s s' [] = s' ≡ s
  AreAsked s s' (call ∷ calls) = (t : S) × asks s t call × AreAsked t s' calls

  -- One request was answered, or the service broke off before or in it.
  pub record AnswersOneBy (s s' : S) (ns : Option (List ℕ)) (request : Request) (held held' given given' : Option (List ℕ))
      (result : Result (Unit {0}) Break) : Type 0 where
    pub calls : List Call
    pub asked : AreAsked s s' calls
    pub answers : AnswersOne ns request (had held given []) (had held' given' calls) result
    pub memory : (result ≡ Err breaks.Memory) ⊎ AreDone calls

  -- The whole requests that a framer held were answered, as far as the result says.
  pub record AnswersHeldBy (s s' : S) (ns : Option (List ℕ)) (old new : Received) (held held' given given' : Option (List ℕ))
      (result : Result (Unit {0}) Stop) : Type 0 where
    pub calls : List Call
    pub asked : AreAsked s s' calls
    pub answers : AnswersHeld ns old new (had held given []) (had held' given' calls) result
    pub memory : (result ≡ Err (stops.Broke breaks.Memory)) ⊎ AreDone calls

  -- The link was served with these calls, and they are what the answerer was asked, in their order. A call without a reply
  -- ends it for want of memory.
  pub record ServesBy (s s' : S) (ns : Option (List ℕ)) (before after : Inlet) (held held' given given' : Option (List ℕ))
      (end : LinkEnd) : Type 0 where
    pub calls : List Call
    pub asked : AreAsked s s' calls
    pub serves : Serves ns before after (had held given []) (had held' given' calls) end
    pub memory : (end ≡ ends.Memory) ⊎ AreDone calls
