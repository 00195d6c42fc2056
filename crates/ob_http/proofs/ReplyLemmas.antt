-- Lemmas on what a parsed reply head says of the front of the bytes.
use Rattle.std.proofs.Common.{false, ◌≡◌, ◌≢◌, ◌⊎◌, ℕ, ◌+◌, ◌*◌, ◌<◌, ◌≤◌, List, [], ◌++◌, length, take, drop, map, slice_range, Option, Some, None, Result, Ok, Err, refl, sym, ap, ◌∙◌, subst, arith, append-nil, take_all, length-take, length-append, inl, inr, take-append-drop}
use Rattle.std.proofs.lemmas.Bool.{cond-true, cond-false, le-leb, lt-leb}
use Rattle.std.specs.List.{flat_map}
use Rattle.httparse.specs.declared.spans.HeaderSpan.{HeaderSpan}
use Rattle.httparse.specs.declared.spans.ResponseSpans.{ResponseSpans}
use Rattle.httparse.specs.declared.Error.{Error}
use Rattle.httparse.specs.declared.Error.TheVariants.{TooManyHeaders}
use Rattle.httparse.specs.declared.Status.{Status}
use Rattle.httparse.specs.declared.Status.TheVariants.{Partial}
use Rattle.httparse.specs.Outcome.{OnPartial}
use Rattle.httparse.specs.Grammar.{lf, print_end, print_field, print_section, ResponseHead, IsResponseHead, print_response, ReadsResponse, HasNoResponse, NeverHasResponse, MayBecomeResponse}
use Rattle.httparse.specs.Spans.{header_bytes, IsResponseAt, ResponseExceeds, ResponseOverflows, IsResponseOf}
use Rattle.ob_http.specs.declared.fault.FrameFault.{FrameFault}
use Rattle.ob_http.specs.declared.fault.FrameFault.TheVariants.{Head}
use Rattle.ob_http.specs.declared.reply_head.ReplyPlace.{ReplyPlace}
use Rattle.ob_http.specs.Message.{whole, refused, unfinished, head, hopeless, looked_at, field_limit, with_body, front_behind}
use Rattle.ob_http.specs.Reply.{reply_shape, IsReplyUndecided, ReplyStands}
use Rattle.ob_http.specs.Known.{is_open, HasReplyParts, HasReplyHead, PlacesReply, KnowsReply}
use Rattle.ob_http.proofs.MessageLemmas.{opening_stays, front_stays}
use Rattle.ob_http.proofs.HeadLemmas.{response_grammar}
use Rattle.ob_http.proofs.RequestLemmas.{few_fields, fields_size, begins_with, ends_with}

-- the head stands at the front of the spans that were written
at_taken : (bytes : List ℕ) (headers : List HeaderSpan) (spans : ResponseSpans) (h : ResponseHead)
    → IsResponseAt bytes headers spans h → IsResponseAt bytes (take spans.headers headers) spans h
at_taken bytes headers spans h at =
    let same = take_all spans.headers (take spans.headers headers) (omega (arith, length-take spans.headers headers)) in
    record {
      reads = at.reads;
      len = at.len;
      version = at.version;
      code = at.code;
      reason = at.reason;
      fields = ap (map (header_bytes bytes)) same ∙ at.fields;
    }

-- ---- the room that fields take

head_size : (h : ResponseHead) → IsResponseHead h → 3 * length h.fields ≤ length (print_response h)
unfolding print_response
head_size h valid =
    let fields = fields_size h.fields valid.fields in
    let section = begins_with (flat_map print_field h.fields) (print_end h.last) in
    let all : length (print_section h.fields h.last) ≤ length (print_response h) = ends_with _ (print_section h.fields h.last) in
    omega arith

few_bytes : (bytes : List ℕ) (h : ResponseHead) (rest : List ℕ) → length bytes ≤ 8193 → ReadsResponse bytes h rest
    → 2731 < length h.fields → ⊥
few_bytes bytes h rest small reads many =
    let size = head_size h reads.0 in
    let lengths = ap (λ (t : List ℕ). length t) reads.1 in
    omega (arith, lengths, length-append (print_response h) rest)

has_room : (bytes : List ℕ) → length bytes ≤ 8192 → ¬ (ResponseExceeds 2731 bytes)
has_room bytes small (front, rest, split, h, reads, many) =
    let lengths = ap (λ (t : List ℕ). length t) split in
    few_bytes (front ++ print_end lf) h [] (omega (arith, lengths, length-append front rest, length-append front (print_end lf))) reads many

-- ---- the answers of the parser

-- a refusal in ample room says that no head comes
pub never_reply : (bytes : List ℕ) (e : Error) → length bytes ≤ 8192
    → (e ≢ TooManyHeaders → NeverHasResponse bytes) → (e ≡ TooManyHeaders → ResponseExceeds 2731 bytes)
    → NeverHasResponse bytes ⊎ ((h : ResponseHead) × (rest : List ℕ) × ReadsResponse bytes h rest)
never_reply bytes e small invalid exceeds = inl (invalid (λ same. has_room bytes small (exceeds same)))

pub of_partial : {A : Type 0} (bytes : List ℕ) (r : Result (Status A) Error) → r ≡ Ok Partial
    → OnPartial r (HasNoResponse bytes) → OnPartial r (MayBecomeResponse bytes) → IsReplyUndecided bytes
of_partial bytes r same none may =
    let (more, h, reads) = subst (λ s. OnPartial s (MayBecomeResponse bytes)) same may in
    (subst (λ s. OnPartial s (HasNoResponse bytes)) same none, λ never. never more h [] reads)

-- ---- what is known

parts_more : (xs ys : List ℕ) (h : ResponseHead) (p : ReplyPlace) → HasReplyParts xs h p → HasReplyParts (xs ++ ys) h p
parts_more xs ys h p parts =
    let size = length-append xs ys in
    record {
      start = parts.start;
      in_bytes = omega (arith, parts.in_bytes, size);
      length_is = parts.length_is;
      small = parts.small;
      status = parts.status;
    }

parts_of_front : (n : ℕ) (bytes : List ℕ) (h : ResponseHead) (p : ReplyPlace) → HasReplyParts (take n bytes) h p → HasReplyParts bytes h p
parts_of_front n bytes h p parts =
    subst (λ l. HasReplyParts l h p) (take-append-drop n bytes) (parts_more (take n bytes) (drop n bytes) h p parts)

-- a head that is read
pub knows_head : (bytes looked : List ℕ) (headers : List HeaderSpan) (spans : ResponseSpans) (result : Result (Option ReplyPlace) FrameFault)
    → looked ≡ looked_at bytes → length headers ≤ field_limit → IsResponseOf looked headers spans
    → ((h : ResponseHead) → IsResponseAt looked (take spans.headers headers) spans h → PlacesReply looked h result) → KnowsReply bytes result
knows_head bytes looked headers spans (Ok (Some p)) same few (h, at) told = record {
  h = h;
  opens = (drop spans.len looked, subst (λ l. ReadsResponse l h (drop spans.len looked)) same at.reads);
  few = few_fields looked headers spans.headers h.fields at.fields few;
  parts = parts_of_front 8192 bytes h p (subst (λ l. HasReplyParts l h p) same (told h (at_taken looked headers spans h at)));
}
knows_head bytes looked headers spans (Ok None) same few (h, at) told = absurd (told h (at_taken looked headers spans h at))
knows_head bytes looked headers spans (Err fault) same few (h, at) told = (
  head h,
  (drop spans.len looked, subst (λ l. ReadsResponse l h (drop spans.len looked)) same at.reads),
  cond-true _ _ _ (le-leb (length h.fields) field_limit (few_fields looked headers spans.headers h.fields at.fields few))
      ∙ ap (with_body reply_shape bytes h) (told h (at_taken looked headers spans h at)),
)

-- no head, or one with too many fields
pub knows_refused : (bytes looked : List ℕ) → looked ≡ looked_at bytes → ResponseOverflows field_limit looked
    → NeverHasResponse looked ⊎ ((h : ResponseHead) × (rest : List ℕ) × ReadsResponse looked h rest) → ReplyStands bytes (refused Head)
knows_refused bytes looked same many (inl never) = (hopeless, subst NeverHasResponse same never, refl)
knows_refused bytes looked same many (inr (h, rest, reads)) = (
  head h,
  (rest, subst (λ l. ReadsResponse l h rest) same reads),
  cond-false _ _ _ (lt-leb (length h.fields) field_limit (many [] h rest (subst (λ l. ReadsResponse l h rest) (sym (append-nil looked)) reads))),
)

-- what is known of a head or a refusal stays known
pub knows_more : (bytes front more : List ℕ) (known : Result (Option ReplyPlace) FrameFault) → is_open known ≡ false
    → bytes ≡ front ++ more → KnowsReply front known → KnowsReply bytes known
knows_more bytes front more (Ok (Some p)) closed same knows =
    subst (λ l. HasReplyHead l p) (sym same) (record {
      h = knows.h;
      opens = opening_stays ReadsResponse NeverHasResponse reply_shape response_grammar front more (head knows.h) knows.opens (λ e. cc);
      few = knows.few;
      parts = parts_more front more knows.h p knows.parts;
    })
knows_more bytes front more (Ok None) closed same knows = absurd (cc)
knows_more bytes front more (Err fault) closed same knows =
    subst (λ l. ReplyStands l (refused fault)) (sym same) (front_stays ReadsResponse NeverHasResponse reply_shape response_grammar front more (refused fault) tt knows)

behind : (bytes : List ℕ) (p : ReplyPlace) (knows : HasReplyHead bytes p)
    → front_behind reply_shape bytes (head knows.h) ≡ with_body reply_shape bytes knows.h (Ok p.body)
behind bytes p knows =
    cond-true _ _ _ (le-leb (length knows.h.fields) field_limit knows.few) ∙ ap (with_body reply_shape bytes knows.h) knows.parts.length_is

-- a body that isn't there yet
pub no_body_yet : (bytes : List ℕ) (p : ReplyPlace) → HasReplyHead bytes p → length bytes < p.start + p.body → ReplyStands bytes unfinished
no_body_yet bytes p knows few = (
  head knows.h,
  knows.opens,
  behind bytes p knows ∙ cond-false _ _ _ (lt-leb (length (print_response knows.h) + p.body) (length bytes) (omega (arith, knows.parts.start, few))),
)

-- a whole reply
pub body_there : (bytes body : List ℕ) (p : ReplyPlace) → HasReplyHead bytes p → p.start + p.body ≤ length bytes
    → body ≡ slice_range bytes p.start (p.start + p.body) → ReplyStands bytes (whole (record { status = p.status; body = body }) (p.start + p.body))
body_there bytes body p knows fits body_is =
    let parts = knows.parts in
    let d : body ≡ slice_range bytes (length (print_response knows.h)) (length (print_response knows.h) + p.body) =
    body_is ∙ ap (λ l. slice_range bytes l (l + p.body)) parts.start in (
      head knows.h,
      knows.opens,
      behind bytes p knows ∙ cond-true _ _ _ (le-leb (length (print_response knows.h) + p.body) (length bytes) (omega (arith, parts.start, fits)))
          ∙ (λ i. whole (record { status = sym parts.status i; body = sym d i }) (sym parts.start i + p.body)),
    )
