-- What is written is read as what it was written from.
use Rattle.std.specs.Prelude.{ℕ, ◌+◌, ◌<◌, ◌≤◌, Bool, false, List, [], ◌∷◌, length, IsUtf8}
use Rattle.httparse.specs.Grammar.{AllPass, is_uri_byte, is_value_byte}
use Rattle.ob_values.specs.declared.verb.Verb.{Verb}
use Rattle.ob_values.specs.declared.verb.Verb.TheVariants.{Get, Put, Post}
use Rattle.ob_http.specs.declared.media.Media.TheVariants.{Absent, Xml}
use Rattle.ob_http.specs.declared.answer.StatusLine.{StatusLine}
use Rattle.ob_http.specs.declared.answer.StatusLine.TheVariants.{Done, BadRequest, NotAllowed, BadMedia}
use Rattle.ob_http.specs.Request.{Request, body_limit}
use Rattle.ob_http.specs.Requests.{Framed}
use Rattle.ob_http.specs.Reply.{reply_limit}
use Rattle.ob_http.specs.Replies.{Replied}
use Rattle.ob_http.specs.Stream.{resting}
use Rattle.ob_http.specs.Asking.{verb_text, request_text}
use Rattle.ob_http.specs.Answer.{answer_text}

-- a target and a host that a head can carry, and a body that is taken
pub record CanAsk (target host body : List ℕ) : Type 0 where
  pub some : 0 < length target
  pub target_bytes : AllPass is_uri_byte target
  pub target_text : IsUtf8 target
  pub host_bytes : AllPass is_value_byte host
  pub head_small : length target + length host ≤ 8000
  pub body_small : length body ≤ body_limit

-- what is asked: a Get has no body
abbrev pub asked : Verb → List ℕ → List ℕ → Request
asked Get target body = record { method = verb_text Get; target = target; close = false; media = Absent; body = [] }
asked Put target body = record { method = verb_text Put; target = target; close = false; media = Xml; body = body }
asked Post target body = record { method = verb_text Post; target = target; close = false; media = Xml; body = body }

-- a request that is written is framed as itself
abbrev pub AskedIsFramed : Type 0
AskedIsFramed =
    (verb : Verb) (target host body : List ℕ) → CanAsk target host body
    → Framed (request_text verb target host body) (asked verb target body ∷ []) (resting [])

-- the number of a status
abbrev pub status_number : StatusLine → ℕ
status_number Done = 200
status_number BadRequest = 400
status_number NotAllowed = 405
status_number BadMedia = 415

-- an answer that is written is framed as its status and its body
abbrev pub AnswerIsReplied : Type 0
AnswerIsReplied =
    (line : StatusLine) (close : Bool) (body : List ℕ) → length body ≤ reply_limit
    → Replied (answer_text line close body) ((record { status = status_number line; body = body }) ∷ []) (resting [])
