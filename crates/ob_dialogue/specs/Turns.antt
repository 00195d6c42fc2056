-- Dialogues: what is asked on each link and what is printed, computed from the turns that were had.
use Rattle.std.specs.Prelude.{ℕ, Bool, false, List, [], ◌∷◌, ◌++◌, IsSome, Option, Some, None, Result, Ok, Err}
use Rattle.ob_object.specs.Object.{Object}
use Rattle.ob_dialogue.specs.Plans.{DialoguePlan, Place, Request, place_at}
use Rattle.ob_dialogue.specs.Stages.{Stage, Lobby, request_at, is_poll, mended}
use Rattle.ob_dialogue.specs.Taking.{taken, or_shape}
use Rattle.ob_dialogue.specs.declared.ending.Peer.{Peer}

-- A turn: the object of the reply to the last request, or the link broke before one came.
pub data Turn : Type 0 where
  Reply : (reply : Object) → Turn
  Broken : Turn

abbrev pub in_front : Object → List (List Object) → List (List Object)
in_front o [] = (o ∷ []) ∷ []
in_front o (os ∷ links) = (o ∷ os) ∷ links

-- the replies on each link; where one breaks, the next begins
abbrev pub on_links : List Turn → List (List Object)
on_links [] = [] ∷ []
on_links (Reply o ∷ turns) = in_front o (on_links turns)
on_links (Broken ∷ turns) = [] ∷ on_links turns

-- how far a dialogue has come: what is asked next, or why nothing is any more
abbrev pub Reached : Type 0
Reached = Result Stage Peer

-- a dialogue begins with the lobby
abbrev pub begins : DialoguePlan → Reached
begins p = or_shape (lobby (place_at p.url []))
  where
    lobby : Option Place → Option Stage
    lobby None = None
    lobby (Some place) = Some (Lobby place)

abbrev pub with_request : Option Request → List Request → List Request
with_request None requests = requests
with_request (Some request) requests = request ∷ requests

-- ---- on one link

-- what is asked where these replies come; the last request has no reply yet
abbrev pub asked : DialoguePlan → Reached → List Object → List Request
asked p (Err fault) replies = []
asked p (Ok s) [] = with_request (request_at s) []
asked p (Ok s) (o ∷ replies) = with_request (request_at s) (asked p (taken p s o).next replies)

-- what is printed
abbrev pub shown : DialoguePlan → Reached → List Object → List ℕ
shown p (Err fault) replies = []
shown p (Ok s) [] = []
shown p (Ok s) (o ∷ replies) = (taken p s o).lines ++ shown p (taken p s o).next replies

-- how far it comes
abbrev pub after : DialoguePlan → Reached → List Object → Reached
after p (Err fault) replies = Err fault
after p (Ok s) [] = Ok s
after p (Ok s) (o ∷ replies) = after p (taken p s o).next replies

-- a request is asked
abbrev pub IsAsking : Reached → Type 0
IsAsking (Ok s) = IsSome (request_at s)
IsAsking (Err fault) = ⊥

-- each reply is one to a request
abbrev pub AreAnswers : DialoguePlan → Reached → List Object → Type 0
AreAnswers p (Err fault) [] = Unit {0}
AreAnswers p (Err fault) (o ∷ replies) = ⊥
AreAnswers p (Ok s) [] = Unit {0}
AreAnswers p (Ok s) (o ∷ replies) = IsSome (request_at s) × AreAnswers p (taken p s o).next replies

-- ---- on all links

-- a poll is asked
abbrev pub polls : Reached → Bool
polls (Ok s) = is_poll s
polls (Err fault) = false

-- where a poll was broken, the next link begins with a refresh of the same watch
abbrev pub resumed : Reached → Reached
resumed (Ok s) = Ok (mended s)
resumed (Err fault) = Err fault

-- what is asked on each link
abbrev pub asks : DialoguePlan → Reached → List (List Object) → List (List Request)
asks p at [] = []
asks p at (replies ∷ links) = asked p at replies ∷ asks p (resumed (after p at replies)) links

-- what is printed on all of them
abbrev pub lines : DialoguePlan → Reached → List (List Object) → List ℕ
lines p at [] = []
lines p at (replies ∷ links) = shown p at replies ++ lines p (resumed (after p at replies)) links
