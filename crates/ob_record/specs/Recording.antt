-- What is written of the requests that the bytes taken from a link are framed into: their record.
use Rattle.std.specs.Prelude.{◌≡◌, ⊤, ℕ, ◌≤◌, List, [], ◌++◌, length, Option, None, Result, Ok, Err}
use Rattle.std.specs.List.{AllByRecursion}
use Rattle.ob_http.specs.Request.{Request as Framed}
use Rattle.ob_http.specs.Stream.{Received}
use Rattle.ob_io.specs.Links.{Inlet}
use Rattle.ob_io.specs.Told.{Gains, IsFront}
use Rattle.ob_machine.specs.History.{IsLegal, after}
use Rattle.ob_object.specs.Object.{Object}
use Rattle.ob_record.specs.Legal.{Call, IsLegalRun}
use Rattle.ob_record.specs.Runs.{IsRun, run_text}
use Rattle.ob_server.specs.Answered.{AnswersOne, AnswersHeld, Serves}
use Rattle.ob_server.specs.Exchange.{had}
use Rattle.ob_server.specs.declared.end.Break.{Break}
use Rattle.ob_server.specs.declared.end.LinkEnd.{LinkEnd}
use Rattle.ob_server.specs.declared.end.LinkEnd.TheVariants as ends
use Rattle.ob_server.specs.declared.end.Stop.{Stop}
use Rattle.ob_server.specs.declared.end.Stop.TheVariants as stops
use Rattle.ob_site_rules.specs.declared.request.Request.{Request}
use Rattle.ob_record.specs.Entries.{IsOwn, calls_text, entries_of, run_of}

-- a request was recorded
abbrev pub IsDone : Result (Unit {0}) Break → Type 0
IsDone (Ok done) = ⊤
IsDone (Err broken) = ⊥

-- the service of the requests that were held didn't break off
abbrev pub IsUnbroken : Result (Unit {0}) Stop → Type 0
IsUnbroken (Ok going_on) = ⊤
IsUnbroken (Err stops.Asked) = ⊤
IsUnbroken (Err (stops.BadFrame fault)) = ⊤
IsUnbroken (Err (stops.Broke broken)) = ⊥

-- so did that of the link
abbrev pub IsWhole : LinkEnd → Type 0
IsWhole ends.WriteFault = ⊥
IsWhole ends.ClockFault = ⊥
IsWhole ends.Memory = ⊥
IsWhole _ = ⊤

module _ {S : Type 0} (act : S → Request → ℕ → S × Object) where
  -- The calls are a legal history of the machine. All of them but the last were told, or all where this holds; a front of their
  -- entries was written, or all of them where this holds.
  pub record Asks (s s' : S) (held held' : Option (List ℕ)) (calls : List Call) (Whole : Type 0) : Type 0 where
    pub legal : IsLegal act s calls
    pub left : s' ≡ after act s calls
    pub told : List Call
    pub untold : List Call
    pub split : calls ≡ told ++ untold
    pub few : length untold ≤ 1
    pub own : AllByRecursion IsOwn told
    pub text : List ℕ
    pub wrote : Gains held text held'
    pub front : IsFront text (calls_text told)
    pub whole : Whole → (untold ≡ []) × (text ≡ calls_text told)

  -- one request, as `AnswersOne` says of a link that tells nothing of what is written to it
  pub record RecordsOne (s s' : S) (held held' given given' : Option (List ℕ)) (request : Framed) (result : Result (Unit {0}) Break) : Type 0 where
    pub calls : List Call
    pub answers : AnswersOne None request (had None given []) (had None given' calls) result
    pub asks : Asks s s' held held' calls (IsDone result)

  -- the requests that a framer holds
  pub record RecordsHeld (s s' : S) (old new : Received) (held held' given given' : Option (List ℕ)) (result : Result (Unit {0}) Stop) : Type 0 where
    pub calls : List Call
    pub answers : AnswersHeld None old new (had None given []) (had None given' calls) result
    pub asks : Asks s s' held held' calls (IsUnbroken result)

  -- The requests of the bytes that were taken from a link were asked, as the end says, and their record was written.
  pub record RecordsLink (s s' : S) (before after : Inlet) (held held' given given' : Option (List ℕ)) (end : LinkEnd) : Type 0 where
    pub calls : List Call
    pub serves : Serves None before after (had None given []) (had None given' calls) end
    pub asks : Asks s s' held held' calls (IsWhole end)

  -- The run of these calls since the boot has a record and is legal; this text is a front of its record, or all of it where
  -- this holds. But the last call may be untold: memory was wanting for it.
  pub record WritesRun (s : S) (boot : ℕ) (calls : List Call) (text : List ℕ) (Whole : Type 0) : Type 0 where
    pub told : List Call
    pub untold : List Call
    pub split : calls ≡ told ++ untold
    pub few : length untold ≤ 1
    pub valid : IsRun (run_of boot told)
    pub legal : IsLegalRun act s (entries_of told)
    pub front : IsFront text (run_text (run_of boot told))
    pub whole : Whole → (untold ≡ []) × (text ≡ run_text (run_of boot told))

  -- The requests of the bytes that were taken from a link were asked of a machine since its boot, as the end says, and what was
  -- written is the record of that run: of the requests that go to the site, with the moments that each request is given, and the
  -- replies of the machine.
  pub record RecordsRun (s s' : S) (boot : ℕ) (before behind : Inlet) (held held' given given' : Option (List ℕ)) (end : LinkEnd) : Type 0 where
    pub calls : List Call
    pub serves : Serves None before behind (had None given []) (had None given' calls) end
    pub legal : IsLegal act s calls
    pub left : s' ≡ after act s calls
    pub text : List ℕ
    pub wrote : Gains held text held'
    pub writes : WritesRun s boot calls text (IsWhole end)
