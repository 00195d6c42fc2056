-- What the calls of a framer tell of the stream of requests.
use Rattle.std.proofs.Common.{◌≡◌, ◌≢◌, ℕ, ◌+◌, ◌<◌, ◌≤◌, Bool, List, [], ◌++◌, length, drop, Option, Some, None, Result, Ok, Err, sym, ap, ◌∙◌, subst, arith, inl, inr, IfOk, IfErr, IfSome, length-drop, slice_range}
use Rattle.httparse.specs.Grammar.{ReadsRequest, IsToken}
use Rattle.ob_http.specs.declared.fault.FrameFault.{FrameFault}
use Rattle.ob_http.specs.declared.fault.FrameFault.TheVariants.{Memory}
use Rattle.ob_http.specs.declared.asked.Asked.{Asked}
use Rattle.ob_http.specs.declared.seen.Seen.{Seen}
use Rattle.ob_http.specs.Message.{whole, refused, unfinished}
use Rattle.ob_http.specs.Request.{Request, request_shape, IsHopeless, Stands}
use Rattle.ob_http.specs.Requests.{HasFraming, IsTaken, seen_request, asked_request, front_of, Takes, Follows, SeesNext, TakesNext}
use Rattle.ob_http.specs.Stream.{Received, behind}
use Rattle.ob_http.proofs.MessageLemmas.{front_unique, front_there, front_stays, whole_fits, whole_message, never_memory}
use Rattle.ob_http.proofs.StreamLemmas.{IsFraming, by_close, taken_start, taken_feed, taken_take, taken_rests, taken_closes, taken_faults, first_more}
use Rattle.ob_http.proofs.StreamLemmas as stream
use Rattle.ob_http.proofs.HeadLemmas.{request_grammar}

abbrev closes : Request → Bool
closes r = r.close

pub request_framing : IsFraming Stands
request_framing = record {
  unique = front_unique ReadsRequest IsHopeless request_shape request_grammar;
  stays = front_stays ReadsRequest IsHopeless request_shape request_grammar;
  fits = whole_fits ReadsRequest IsHopeless request_shape request_grammar;
}

pub start : IsTaken [] [] (record { place = 0; kept = [] })
start = taken_start Stands closes request_framing

pub fed : (stream piece : List ℕ) (requests : List Request) (held : Received) → IsTaken stream requests held
    → IsTaken (stream ++ piece) requests (record held { kept = held.kept ++ piece })
fed = taken_feed Stands closes request_framing

-- a whole request at the front comes next
pub follows : (stream : List ℕ) (requests : List Request) (request : Request) (len : ℕ) (held : Received) → IsTaken stream requests held
    → Stands held.kept (whole request len) → Follows stream requests request (behind len held)
follows stream requests request len held taken stands = (
  first_more Stands closes request_framing stream requests held request len taken stands,
  by_close request.close _ _
      (λ last. taken_closes Stands closes request_framing stream requests held request len taken stands last)
      (λ goes_on. taken_take Stands closes request_framing stream requests held request len taken stands goes_on),
)

pub sees_next : (stream : List ℕ) (requests : List Request) (held : Received) (result : Result (Option Seen) FrameFault)
    → IsTaken stream requests held → Stands held.kept (front_of result) → SeesNext stream requests held result
sees_next stream requests held (Ok (Some seen)) taken stands = follows stream requests (seen_request seen) seen.len held taken stands
sees_next stream requests held (Ok None) taken stands = taken_rests Stands closes request_framing stream requests held taken stands
sees_next stream requests held (Err fault) taken stands = taken_faults Stands closes request_framing stream requests held fault taken stands

pub sees_within : (kept : List ℕ) (result : Result (Option Seen) FrameFault) → Stands kept (front_of result)
    → IfOk result (λ next. IfSome next (λ seen. (0 < seen.len) × (seen.len ≤ length kept)))
sees_within kept (Ok (Some seen)) stands = request_framing.fits kept (seen_request seen) seen.len stands
sees_within kept (Ok None) stands = tt
sees_within kept (Err fault) stands = tt

pub sees_no_memory : (kept : List ℕ) (result : Result (Option Seen) FrameFault) → Stands kept (front_of result) → IfErr result (λ fault. fault ≢ Memory)
sees_no_memory kept (Ok next) stands = tt
sees_no_memory kept (Err fault) stands = never_memory ReadsRequest IsHopeless request_shape request_grammar (λ e. cc) kept fault stands

pub seen_token : (kept : List ℕ) (request : Request) (len : ℕ) → Stands kept (whole request len) → IsToken request.method
seen_token kept request len stands =
    let (h, reads, body, is) = whole_message ReadsRequest IsHopeless request_shape request_grammar kept request len stands in
    subst (λ (r : Request). IsToken r.method) (sym is) reads.1.0.method

pub takes_next : (stream : List ℕ) (requests : List Request) (old new : Received) (result : Result (Option Asked) FrameFault) → IsTaken stream requests old
    → Takes old new result → TakesNext stream requests old new result
takes_next stream requests old new (Ok (Some asked)) taken (len, stands, is) =
    subst (Follows stream requests (asked_request asked)) (sym is) (follows stream requests (asked_request asked) len old taken stands)
takes_next stream requests old new (Ok None) taken (stands, is) =
    (taken_rests Stands closes request_framing stream requests old taken stands, is)
takes_next stream requests old new (Err fault) taken (why, is) = (
  elim why [
    | inl stands ↦ inl (taken_faults Stands closes request_framing stream requests old fault taken stands)
    | inr memory ↦ inr memory
  ],
  is,
)

-- the stream's bytes stay as many, and a request is gone with some
pub takes_size : (old new : Received) (result : Result (Option Asked) FrameFault) → Takes old new result
    → new.place + length new.kept ≡ old.place + length old.kept
takes_size old new (Ok (Some asked)) (len, stands, is) =
    let fits = (request_framing.fits old.kept (asked_request asked) len stands).1 in
    ap (λ (r : Received). r.place + length r.kept) is ∙ omega (arith, length-drop len old.kept, fits)
takes_size old new (Ok None) (stands, is) = ap (λ (r : Received). r.place + length r.kept) is
takes_size old new (Err fault) (why, is) = ap (λ (r : Received). r.place + length r.kept) is

pub takes_shorter : (old new : Received) (result : Result (Option Asked) FrameFault) → Takes old new result
    → IfOk result (λ next. IfSome next (λ asked. length new.kept < length old.kept))
takes_shorter old new (Ok (Some asked)) (len, stands, is) =
    let (some, fits) = request_framing.fits old.kept (asked_request asked) len stands in
    let same : length new.kept ≡ length (drop len old.kept) = ap (λ (r : Received). length r.kept) is in
    omega (arith, same, length-drop len old.kept, fits, some)
takes_shorter old new (Ok None) told = tt
takes_shorter old new (Err fault) told = tt

-- a request that was seen has a method that is a token
pub seen_method : (kept : List ℕ) (result : Result (Option Seen) FrameFault) (seen : Seen) → result ≡ Ok (Some seen) → Stands kept (front_of result)
    → IsToken seen.method.now
seen_method kept result seen is stands =
    seen_token kept (seen_request seen) seen.len (subst (λ (r : Result (Option Seen) FrameFault). Stands kept (front_of r)) is stands)

-- ---- there is a framing

pub none_unframed : (place : ℕ) (bytes : List ℕ) → ¬ (¬ (HasFraming place bytes))
none_unframed place bytes =
    stream.none_unframed Stands closes request_framing (front_there ReadsRequest IsHopeless request_shape request_grammar) (length bytes) place bytes (omega arith)

abbrev HasSome : List ℕ → Type 0
HasSome bytes = (place : ℕ) → HasFraming place bytes

pub seen_stands : (bytes : List ℕ) (next : Option Seen) (seen : Seen) → next ≡ Some seen → Stands bytes (front_of (Ok next))
    → Stands bytes (whole (seen_request seen) seen.len)
seen_stands bytes next seen is stands = subst (λ (o : Option Seen). Stands bytes (front_of (Ok o))) is stands

pub some_within : (bytes : List ℕ) (seen : Seen) → Stands bytes (whole (seen_request seen) seen.len) → seen.len ≤ length bytes
some_within bytes seen stands = (request_framing.fits bytes (seen_request seen) seen.len stands).1

pub some_shorter : (bytes : List ℕ) (seen : Seen) → Stands bytes (whole (seen_request seen) seen.len)
    → length (slice_range bytes seen.len (length bytes)) < length bytes
some_shorter bytes seen stands =
    let inside = request_framing.fits bytes (seen_request seen) seen.len stands in
    let rest = ap (λ (l : List ℕ). length l) (stream.slice_to_end bytes seen.len) in
    omega (arith, inside.0, inside.1, rest, length-drop seen.len bytes)

pub some_before : (bytes : List ℕ) (seen : Seen) → Stands bytes (whole (seen_request seen) seen.len)
    → HasSome (slice_range bytes seen.len (length bytes)) → HasSome bytes
some_before bytes seen stands there =
    stream.there_before Stands closes request_framing bytes (seen_request seen) seen.len stands
    (subst HasSome (stream.slice_to_end bytes seen.len) there)

pub some_resting : (bytes : List ℕ) → Stands bytes unfinished → HasSome bytes
some_resting bytes stands place = stream.rests_there Stands closes request_framing place bytes stands

pub some_faulted : (bytes : List ℕ) (fault : FrameFault) → Stands bytes (refused fault) → HasSome bytes
some_faulted bytes fault stands place = stream.faulted_there Stands closes request_framing place bytes fault stands
