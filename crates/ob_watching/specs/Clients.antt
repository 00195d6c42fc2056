-- What a client of a watch holds that replays the replies on it.
use Rattle.std.specs.Prelude.{ℕ, Bool, false, cond, List, [], ◌∷◌, ◌++◌, map, ◌==◌, Option, Some, None}
use Rattle.ob_machine.specs.declared.call.Answer.{Answer}
use Rattle.ob_machine.specs.declared.call.Answer.TheVariants.{Done, NoMemory}
use Rattle.ob_machine.specs.declared.call.Entry.{Entry}
use Rattle.ob_watching.specs.Operations.{Target, OneWatch, HeardOf}
use Rattle.ob_watching.specs.Replay.{replay_heard, gives_whole}
use Rattle.ob_watching.specs.Sites.{Site}
use Rattle.ob_watching.specs.Tables.{lookup}
use Rattle.ob_watching.specs.Watches.{Watch, World, Reading, Asks, reading}

module _ (m : Site) where
  -- what a client hears in a reply
  abbrev pub Heard : Type 0
  Heard = HeardOf m.Text m.Object m.Event m.Err

  -- an answer: what was sent, or that there was no memory
  abbrev pub Replied : Type 0
  Replied = Answer m.Sent

  -- an entry of a history: a request, its moment, and its answer
  abbrev pub Asking : Type 0
  Asking = Entry m.Request m.Sent

  -- want of memory counts for nothing
  abbrev pub replay_call : Asks m → Replied → List (Reading m) → List (Reading m)
  replay_call op (Done reply) held = replay_heard m.same_text op (m.heard op reply) held
  replay_call op NoMemory held = held

  -- a call on a watch: what was asked of it, and the answer
  pub record Call : Type 0 where
    pub operation : Asks m
    pub answer : Replied

  -- the call that an entry is on the watch of a number, if it is one
  abbrev pub call_of : ℕ → Replied → Target m.Text m.Input m.Part m.Fault → List Call
  call_of n answer (OneWatch k op) = cond (k == n) (record { operation = op; answer = answer } ∷ []) []
  call_of n answer _ = []

  -- the calls on one watch, in order, whoever made them
  abbrev pub calls : ℕ → List Asking → List Call
  calls n [] = []
  calls n (e ∷ es) = call_of n e.answer (m.target e.request) ++ calls n es

  -- what is held once these calls were replayed, one after the other
  abbrev pub replayed : List Call → List (Reading m) → List (Reading m)
  replayed [] held = held
  replayed (c ∷ cs) held = replayed cs (replay_call c.operation c.answer held)

  -- what a client holds that has replayed these calls, beginning with nothing
  abbrev pub replay : List Call → List (Reading m)
  replay cs = replayed cs []

  -- what all items of a watch read in a state of the site, if there is a watch
  abbrev pub readings : m.State → Option (Watch m) → Option (List (Reading m))
  readings s None = None
  readings s (Some v) = Some (map (reading m s) v.items)

  -- what a pollRefresh would give of all items of a watch, if it stands
  abbrev pub watched : ℕ → World m → Option (List (Reading m))
  watched n w = readings w.site (lookup n w.watches)

  -- whether a call was answered with all that an href names
  abbrev pub call_gives : m.Text → Asks m → Replied → Bool
  call_gives text op (Done reply) = gives_whole m.same_text text op (m.heard op reply)
  call_gives text op NoMemory = false
