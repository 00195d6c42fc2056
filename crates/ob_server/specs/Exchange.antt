-- Framed requests and what was done with each.
use Rattle.std.specs.Prelude.{◌≡◌, ⊤, ℕ, ◌+◌, List, [], ◌∷◌, ◌++◌, length, map, Option}
use Rattle.std.specs.List.{flat_map}
use Rattle.ob_http.specs.declared.answer.StatusLine.{StatusLine}
use Rattle.ob_http.specs.declared.answer.StatusLine.TheVariants as lines
use Rattle.ob_http.specs.Answer.{answer_text}
use Rattle.ob_http.specs.Request.{Request}
use Rattle.ob_io.specs.Told.{Gains, Lasts}
use Rattle.ob_encoding.specs.Canonical.{canonical_text}
use Rattle.ob_object.specs.Object.{Object}
use Rattle.ob_site_rules.specs.declared.request.Request.{Request as Asked}
use Rattle.ob_machine.specs.declared.call.Answer.{Answer}
use Rattle.ob_machine.specs.declared.call.Answer.TheVariants.{Done, NoMemory}
use Rattle.ob_machine.specs.declared.call.Entry.{Entry}
use Rattle.ob_server.specs.Sort.{Sorts}
use Rattle.ob_server.specs.declared.sort.Sorted.{Sorted}
use Rattle.ob_server.specs.declared.sort.Sorted.TheVariants.{Step, Fixed}

-- an entry of the site's history
abbrev pub Call : Type 0
Call = Entry Asked Object

-- a framed request, and what was done with it
pub data Exchange : Type 0 where
  -- at this moment it was given an answer that needs no site
  fixed : Request → ℕ → StatusLine → List ℕ → Exchange
  -- the site was asked, which is this entry
  stepped : Request → Call → Exchange

-- the request of an exchange
abbrev pub request_of : Exchange → Request
request_of (fixed request moment line body) = request
request_of (stepped request call) = request

-- the moment that it was given
abbrev pub moment_of : Exchange → ℕ
moment_of (fixed request moment line body) = moment
moment_of (stepped request call) = call.moment

-- the entry of the site's history that it is, where the site was asked
abbrev pub calls_in : Exchange → List Call
calls_in (fixed request moment line body) = []
calls_in (stepped request call) = call ∷ []

-- the answer that carries a reply; want of memory has none
abbrev pub reply_text : Option (List ℕ) → Request → Answer Object → List ℕ
reply_text ns request (Done reply) = answer_text lines.Done request.close (canonical_text ns reply)
reply_text ns request NoMemory = []

-- the bytes that answer an exchange
abbrev pub answer_to : Option (List ℕ) → Exchange → List ℕ
answer_to ns (fixed request moment line body) = answer_text line request.close body
answer_to ns (stepped request call) = reply_text ns request call.answer

-- the request is to be answered so
abbrev pub SortsTo : Request → Sorted → Type 0
SortsTo request sorted = Sorts request.method request.target request.media request.body sorted

-- it was done with the request as is right
abbrev pub IsExchange : Exchange → Type 0
IsExchange (fixed request moment line body) = SortsTo request (Fixed line body)
IsExchange (stepped request call) = SortsTo request (Step call.request)

-- the reply isn't want of memory
abbrev pub IsDone : Answer Object → Type 0
IsDone (Done reply) = ⊤
IsDone NoMemory = ⊥

-- the exchange has an answer
abbrev pub HasAnswer : Exchange → Type 0
HasAnswer (fixed request moment line body) = ⊤
HasAnswer (stepped request call) = IsDone call.answer

-- every one of them was right and has an answer
abbrev pub AreAnswered : List Exchange → Type 0
AreAnswered [] = ⊤
AreAnswered (x ∷ xs) = IsExchange x × HasAnswer x × AreAnswered xs

-- the requests of exchanges, in order
abbrev pub requests_of : List Exchange → List Request
requests_of xs = map request_of xs

-- their moments
abbrev pub moments_of : List Exchange → List ℕ
moments_of xs = map moment_of xs

-- the entries of the site's history among them
abbrev pub calls_of : List Exchange → List Call
calls_of xs = flat_map calls_in xs

-- the bytes that answer them, one answer behind the other
abbrev pub answers_to : Option (List ℕ) → List Exchange → List ℕ
answers_to ns xs = flat_map (answer_to ns) xs

-- what the outside has had: the bytes written and the moments given, where they are told, and the calls made
pub record Had : Type 0 where
  pub held : Option (List ℕ)
  pub given : Option (List ℕ)
  pub calls : List Call

-- From the one to the other these bytes were written, these moments given and these calls made. Moments that were told
-- are still told, while a u64 can count one more.
pub record Went (old : Had) (written moments : List ℕ) (calls : List Call) (new : Had) : Type 0 where
  pub wrote : Gains old.held written new.held
  pub gave : Gains old.given moments new.given
  pub lasts : Lasts old.given (length moments + 1) new.given
  pub made : new.calls ≡ old.calls ++ calls

-- the three of them in one
abbrev pub had : Option (List ℕ) → Option (List ℕ) → List Call → Had
had held given calls = record { held = held; given = given; calls = calls }
