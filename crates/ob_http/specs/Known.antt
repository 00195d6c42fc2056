-- What a framer knows of the front of the bytes that it keeps.
use Rattle.std.specs.Prelude.{Bool, false, is_none, ◌≡◌, ℕ, ◌≤◌, List, length, map, Option, Some, None, Result, Ok, Err}
use Rattle.httparse.specs.Grammar.{RequestHead, print_request, ResponseHead, print_response, status_code}
use Rattle.httparse.specs.Spans.{IsWithin, span_bytes, name_and_value}
use Rattle.ob_http.specs.declared.fault.FrameFault.{FrameFault}
use Rattle.ob_http.specs.declared.request_head.HeadPlace.{HeadPlace}
use Rattle.ob_http.specs.declared.reply_head.ReplyPlace.{ReplyPlace}
use Rattle.ob_http.specs.Fields.{media_of, asks_close}
use Rattle.ob_http.specs.Message.{head, short, field_limit, length_by}
use Rattle.ob_http.specs.Request.{request_shape, body_limit, Opens, Stands}
use Rattle.ob_http.specs.Reply.{reply_shape, reply_limit, ReplyOpens, ReplyStands}
use Rattle.ob_http.specs.Message.{refused}

-- more bytes may tell of a head
abbrev pub is_open : {P : Type 0} → Result (Option P) FrameFault → Bool
is_open (Ok place) = is_none place
is_open (Err fault) = false

-- the places are those of the head's parts
pub record HasParts (bytes : List ℕ) (h : RequestHead) (p : HeadPlace) : Type 0 where
  pub start : p.start ≡ length (print_request h)
  pub in_bytes : p.start ≤ length bytes
  pub length_is : length_by request_shape h ≡ Ok p.body
  pub small : p.body ≤ body_limit
  pub method_within : IsWithin p.start p.method
  pub target_within : IsWithin p.start p.target
  pub method : span_bytes bytes p.method ≡ h.method
  pub target : span_bytes bytes p.target ≡ h.target
  pub close : p.close ≡ asks_close h.minor (map name_and_value h.fields)
  pub media : p.media ≡ media_of (map name_and_value h.fields)

-- a head that is taken stands at the front, its parts at these places
pub record HasHead (bytes : List ℕ) (p : HeadPlace) : Type 0 where
  pub h : RequestHead
  pub opens : Opens bytes (head h)
  pub few : length h.fields ≤ field_limit
  pub parts : HasParts bytes h p

-- the whole head h is refused, or its parts stand at these places
abbrev pub Places : List ℕ → RequestHead → Result (Option HeadPlace) FrameFault → Type 0
Places bytes h (Ok (Some p)) = HasParts bytes h p
Places bytes h (Ok None) = ⊥
Places bytes h (Err fault) = length_by request_shape h ≡ Err fault

-- a head, or no whole one, or what is refused
abbrev pub Knows : List ℕ → Result (Option HeadPlace) FrameFault → Type 0
Knows bytes (Ok (Some p)) = HasHead bytes p
Knows bytes (Ok None) = Opens bytes short
Knows bytes (Err fault) = Stands bytes (refused fault)

-- ---- the same of replies

pub record HasReplyParts (bytes : List ℕ) (h : ResponseHead) (p : ReplyPlace) : Type 0 where
  pub start : p.start ≡ length (print_response h)
  pub in_bytes : p.start ≤ length bytes
  pub length_is : length_by reply_shape h ≡ Ok p.body
  pub small : p.body ≤ reply_limit
  pub status : p.status ≡ status_code h

pub record HasReplyHead (bytes : List ℕ) (p : ReplyPlace) : Type 0 where
  pub h : ResponseHead
  pub opens : ReplyOpens bytes (head h)
  pub few : length h.fields ≤ field_limit
  pub parts : HasReplyParts bytes h p

abbrev pub PlacesReply : List ℕ → ResponseHead → Result (Option ReplyPlace) FrameFault → Type 0
PlacesReply bytes h (Ok (Some p)) = HasReplyParts bytes h p
PlacesReply bytes h (Ok None) = ⊥
PlacesReply bytes h (Err fault) = length_by reply_shape h ≡ Err fault

abbrev pub KnowsReply : List ℕ → Result (Option ReplyPlace) FrameFault → Type 0
KnowsReply bytes (Ok (Some p)) = HasReplyHead bytes p
KnowsReply bytes (Ok None) = ReplyOpens bytes short
KnowsReply bytes (Err fault) = ReplyStands bytes (refused fault)
