-- What the calls of a framer tell of the stream of replies.
use Rattle.std.proofs.Common.{◌≡◌, ℕ, ◌+◌, List, [], ◌∷◌, ◌++◌, Option, Some, None, Result, Ok, Err, refl, sym, ap, subst, inl, inr, ◌≤◌, length, IfOk, IfSome, arith, ◌<◌, length-drop, slice_range}
use Rattle.httparse.specs.Grammar.{ReadsResponse, NeverHasResponse}
use Rattle.ob_http.specs.declared.fault.FrameFault.{FrameFault}
use Rattle.ob_http.specs.declared.reply.Reply.{Reply}
use Rattle.ob_http.specs.declared.reply_head.SeenReply.{SeenReply}
use Rattle.ob_http.specs.Message.{whole, refused, unfinished}
use Rattle.ob_http.specs.Reply.{Response, reply_shape, ReplyStands}
use Rattle.ob_http.specs.Replies.{never_last, HasReplies, AreTaken, reply_response, reply_front_of, TakesReply, TakesNextReply}
use Rattle.ob_http.specs.Stream.{Received}
use Rattle.ob_http.proofs.MessageLemmas.{front_unique, front_there, front_stays, whole_fits}
use Rattle.ob_http.proofs.StreamLemmas.{IsFraming, taken_start, taken_feed, taken_take, taken_rests, taken_faults, first_more}
use Rattle.ob_http.proofs.StreamLemmas as stream
use Rattle.ob_http.proofs.HeadLemmas.{response_grammar}

pub reply_framing : IsFraming ReplyStands
reply_framing = record {
  unique = front_unique ReadsResponse NeverHasResponse reply_shape response_grammar;
  stays = front_stays ReadsResponse NeverHasResponse reply_shape response_grammar;
  fits = whole_fits ReadsResponse NeverHasResponse reply_shape response_grammar;
}

pub start : AreTaken [] [] []
start = (0, taken_start ReplyStands never_last reply_framing)

pub fed : (stream piece : List ℕ) (replies : List Response) (kept : List ℕ) → AreTaken stream replies kept
    → AreTaken (stream ++ piece) replies (kept ++ piece)
fed stream piece replies kept (place, taken) =
    (place, taken_feed ReplyStands never_last reply_framing stream piece replies (record { place = place; kept = kept }) taken)

pub takes_next : (stream : List ℕ) (replies : List Response) (old new : List ℕ) (result : Result (Option Reply) FrameFault) → AreTaken stream replies old
    → TakesReply old new result → TakesNextReply stream replies old new result
takes_next stream replies old new (Ok (Some reply)) (place, taken) (len, stands, is) =
    let held : Received = record { place = place; kept = old } in (
      first_more ReplyStands never_last reply_framing stream replies held (reply_response reply) len taken stands,
      subst (AreTaken stream (replies ++ reply_response reply ∷ [])) (sym is)
          (place + len, taken_take ReplyStands never_last reply_framing stream replies held (reply_response reply) len taken stands refl),
    )
takes_next stream replies old new (Ok None) (place, taken) (stands, is) =
    (taken_rests ReplyStands never_last reply_framing stream replies (record { place = place; kept = old }) taken stands, is)
takes_next stream replies old new (Err fault) (place, taken) (why, is) = (
  elim why [
    | inl stands ↦ inl (place, taken_faults ReplyStands never_last reply_framing stream replies (record { place = place; kept = old }) fault taken stands)
    | inr memory ↦ inr memory
  ],
  is,
)

pub sees_within : (kept : List ℕ) (result : Result (Option SeenReply) FrameFault) → ReplyStands kept (reply_front_of result)
    → IfOk result (λ next. IfSome next (λ seen. seen.len ≤ length kept))
sees_within kept (Ok (Some seen)) stands = (reply_framing.fits kept _ seen.len stands).1
sees_within kept (Ok None) stands = tt
sees_within kept (Err fault) stands = tt

-- ---- there is a framing

pub none_unframed : (place : ℕ) (bytes : List ℕ) → ¬ (¬ (HasReplies place bytes))
none_unframed place bytes =
    stream.none_unframed ReplyStands never_last reply_framing (front_there ReadsResponse NeverHasResponse reply_shape response_grammar) (length bytes) place bytes (omega arith)

abbrev HasSome : List ℕ → Type 0
HasSome bytes = (place : ℕ) → HasReplies place bytes

abbrev seen_response : SeenReply → Response
seen_response seen = record { status = seen.status; body = seen.body.now }

pub seen_stands : (bytes : List ℕ) (next : Option SeenReply) (seen : SeenReply) → next ≡ Some seen → ReplyStands bytes (reply_front_of (Ok next))
    → ReplyStands bytes (whole (seen_response seen) seen.len)
seen_stands bytes next seen is stands = subst (λ (o : Option SeenReply). ReplyStands bytes (reply_front_of (Ok o))) is stands

pub some_within : (bytes : List ℕ) (seen : SeenReply) → ReplyStands bytes (whole (seen_response seen) seen.len) → seen.len ≤ length bytes
some_within bytes seen stands = (reply_framing.fits bytes (seen_response seen) seen.len stands).1

pub some_shorter : (bytes : List ℕ) (seen : SeenReply) → ReplyStands bytes (whole (seen_response seen) seen.len)
    → length (slice_range bytes seen.len (length bytes)) < length bytes
some_shorter bytes seen stands =
    let inside = reply_framing.fits bytes (seen_response seen) seen.len stands in
    let rest = ap (λ (l : List ℕ). length l) (stream.slice_to_end bytes seen.len) in
    omega (arith, inside.0, inside.1, rest, length-drop seen.len bytes)

pub some_before : (bytes : List ℕ) (seen : SeenReply) → ReplyStands bytes (whole (seen_response seen) seen.len)
    → HasSome (slice_range bytes seen.len (length bytes)) → HasSome bytes
some_before bytes seen stands there =
    stream.there_before ReplyStands never_last reply_framing bytes (seen_response seen) seen.len stands
    (subst HasSome (stream.slice_to_end bytes seen.len) there)

pub some_resting : (bytes : List ℕ) → ReplyStands bytes unfinished → HasSome bytes
some_resting bytes stands place = stream.rests_there ReplyStands never_last reply_framing place bytes stands

pub some_faulted : (bytes : List ℕ) (fault : FrameFault) → ReplyStands bytes (refused fault) → HasSome bytes
some_faulted bytes fault stands place = stream.faulted_there ReplyStands never_last reply_framing place bytes fault stands
