-- Lemmas on what a parsed head says of the front of the bytes.
use Rattle.std.proofs.Common.{◌≡◌, ◌≢◌, ◌↔◌, ◌⊎◌, ℕ, ◌+◌, ◌*◌, ◌<◌, ◌≤◌, min, Bool, true, false, not, List, [], ◌∷◌, ◌++◌, length, take, drop, map, slice_range, Option, Some, None, Result, Ok, Err, refl, sym, ap, ◌∙◌, subst, arith, IsTrue, MatchBool, append-nil, ⊎_elim, take_all, length-take, length-append, All, inl, inr, take-append-drop}
use Rattle.std.proofs.lemmas.Bool.{cond-true, cond-false, le-leb, lt-leb, cases_lt, true≢false}
use Rattle.std.proofs.lemmas.List.{length-map}
use Rattle.std.specs.List.{flat_map}
use Rattle.std.proofs.lemmas.List.Elements.{All-weaker, All-head, All-tail}
use Rattle.httparse.specs.declared.spans.HeaderSpan.{HeaderSpan}
use Rattle.httparse.specs.declared.spans.RequestSpans.{RequestSpans}
use Rattle.httparse.specs.declared.Error.{Error}
use Rattle.httparse.specs.declared.Error.TheVariants.{TooManyHeaders}
use Rattle.httparse.specs.declared.Status.{Status}
use Rattle.httparse.specs.declared.Status.TheVariants.{Complete, Partial}
use Rattle.httparse.specs.Outcome.{IfComplete, OnPartial}
use Rattle.httparse.specs.Grammar.{LineEnd, crlf, lf, print_end, Field, IsField, IsToken, print_field, print_section, RequestHead, IsRequestHead, print_request, ReadsRequest, HasNoRequest, NeverHasRequest, MayBecomeRequest, EndsInTarget}
use Rattle.httparse.specs.Spans.{header_bytes, name_and_value, span_bytes, AreFieldsAt, IsHeaderWithin, IsSectionWithin, IsRequestAt, RequestExceeds, RequestOverflows, IsRequestOf}
use Rattle.ob_http.specs.declared.fault.FrameFault.{FrameFault}
use Rattle.ob_http.specs.declared.fault.FrameFault.TheVariants.{Head}
use Rattle.ob_http.specs.declared.request_head.HeadPlace.{HeadPlace}
use Rattle.ob_http.specs.Message.{whole, refused, unfinished, head, hopeless, looked_at, field_limit, with_body, front_behind}
use Rattle.ob_http.specs.Request.{request_shape, IsHopeless, IsUndecided, Stands}
use Rattle.ob_http.specs.Known.{is_open, HasParts, HasHead, Places, Knows}
use Rattle.ob_http.proofs.MessageLemmas.{slice_stays, opening_stays, front_stays}
use Rattle.ob_http.proofs.HeadLemmas.{request_grammar}

-- ---- the spans that the parser writes

-- the spans are those of the head's fields
pub fields_are : (bytes : List ℕ) (headers : List HeaderSpan) (count : ℕ) (fields : List Field)
    → count ≡ length headers → AreFieldsAt bytes headers count fields → map (header_bytes bytes) headers ≡ map name_and_value fields
fields_are bytes headers count fields all same =
    ap (map (header_bytes bytes)) (sym (take_all count headers (omega arith))) ∙ same

-- so there are as many
pub few_fields : (bytes : List ℕ) (headers : List HeaderSpan) (count : ℕ) (fields : List Field)
    → AreFieldsAt bytes headers count fields → length headers ≤ field_limit → length fields ≤ field_limit
few_fields bytes headers count fields same few =
    let lengths = ap (λ (fs : List (List ℕ × List ℕ)). length fs) same in
    omega (arith, lengths, length-map (take count headers) (header_bytes bytes), length-map fields name_and_value, length-take count headers)

-- the spans lie in the bytes
pub all_within : (bytes : List ℕ) (headers : List HeaderSpan) (len count : ℕ)
    → count ≡ length headers → IsSectionWithin bytes headers len count → All (IsHeaderWithin (length bytes)) headers
all_within bytes headers len count all within =
    let fit = within.len_fits in
    subst (All (IsHeaderWithin (length bytes))) (take_all count headers (omega arith))
    (All-weaker (IsHeaderWithin len) (IsHeaderWithin (length bytes))
    (λ h w. ((w.0.0, omega arith), (w.1.0, omega arith))) _ within.headers_fit)

-- the head stands at the front of the spans that were written
pub at_taken : (bytes : List ℕ) (headers : List HeaderSpan) (spans : RequestSpans) (h : RequestHead)
    → IsRequestAt bytes headers spans h → IsRequestAt bytes (take spans.headers headers) spans h
at_taken bytes headers spans h at =
    let same = take_all spans.headers (take spans.headers headers) (omega (arith, length-take spans.headers headers)) in
    record {
      reads = at.reads;
      len = at.len;
      method = at.method;
      path = at.path;
      version = at.version;
      fields = ap (map (header_bytes bytes)) same ∙ at.fields;
    }

-- the bytes that are looked at, as they are cut out
pub looked_at_is : (bytes : List ℕ) (n : ℕ) → n ≡ min (length bytes) 8192 → take n bytes ≡ looked_at bytes
looked_at_is bytes n least =
    ⊎_elim
    (λ short. take_all n bytes (omega arith) ∙ sym (take_all 8192 bytes (omega arith)))
    (λ long. let same : n ≡ 8192 = omega arith in ap (λ k. take k bytes) same)
    (cases_lt (length bytes) 8192)

-- ---- the room that fields take

field_size : (f : Field) → IsField f → 3 ≤ length (print_field f)
field_size f valid =
    let name = valid.name.0 in
    omega (arith, length-append (f.name ++ 58 ∷ f.raw) (print_end f.end), length-append f.name (58 ∷ f.raw), end_size f.end, cons_size f.raw)
  where
    end_size : (e : LineEnd) → 1 ≤ length (print_end e)
    end_size crlf = omega arith
    end_size lf = omega arith

    cons_size : (xs : List ℕ) → 1 ≤ length (58 ∷ xs)
    cons_size xs = omega arith

pub fields_size : (fields : List Field) → All IsField fields → 3 * length fields ≤ length (flat_map print_field fields)
fields_size [] valid = omega arith
fields_size (f ∷ fields) valid =
    omega (
      arith,
      fields_size fields (All-tail IsField f fields valid),
      field_size f (All-head IsField f fields valid),
      length-append (print_field f) (flat_map print_field fields),
    )

pub ends_with : (a s : List ℕ) → length s ≤ length (a ++ s)
ends_with a s = omega (arith, length-append a s)

pub begins_with : (a s : List ℕ) → length a ≤ length (a ++ s)
begins_with a s = omega (arith, length-append a s)

-- each field takes three bytes of the head or more
head_size : (h : RequestHead) → IsRequestHead h → 3 * length h.fields ≤ length (print_request h)
unfolding print_request
head_size h valid =
    let fields = fields_size h.fields valid.fields in
    let section = begins_with (flat_map print_field h.fields) (print_end h.last) in
    let all : length (print_section h.fields h.last) ≤ length (print_request h) = ends_with _ (print_section h.fields h.last) in
    omega arith

-- bytes that are few hold no head of many fields
few_bytes : (bytes : List ℕ) (h : RequestHead) (rest : List ℕ) → length bytes ≤ 8193 → ReadsRequest bytes h rest
    → 2731 < length h.fields → ⊥
few_bytes bytes h rest small reads many =
    let size = head_size h reads.0 in
    let lengths = ap (λ (t : List ℕ). length t) reads.1 in
    omega (arith, lengths, length-append (print_request h) rest)

-- so a refusal for want of room can't come
has_room : (bytes : List ℕ) → length bytes ≤ 8192 → ¬ (RequestExceeds 2731 bytes)
has_room bytes small (front, rest, split, h, reads, many) =
    let lengths = ap (λ (t : List ℕ). length t) split in
    few_bytes (front ++ print_end lf) h [] (omega (arith, lengths, length-append front rest, length-append front (print_end lf))) reads many

-- ---- the answers of the parser

pub of_complete : {A : Type 0} (r : Result (Status A) Error) (a : A) (P : A → Type 0) → r ≡ Ok (Complete a) → IfComplete r P → P a
of_complete r a P same told = subst (λ s. IfComplete s P) same told

-- what may still become a head is not hopeless
may_become : (bytes : List ℕ) → MayBecomeRequest bytes → ¬ (IsHopeless bytes)
may_become bytes (inl (more, h, reads)) never = never.0 more h [] reads
may_become bytes (inr ends) never = never.1 ends

pub of_partial : {A : Type 0} (bytes : List ℕ) (r : Result (Status A) Error) → r ≡ Ok Partial
    → OnPartial r (HasNoRequest bytes) → OnPartial r (MayBecomeRequest bytes) → IsUndecided bytes
of_partial bytes r same none may =
    (subst (λ s. OnPartial s (HasNoRequest bytes)) same none, may_become bytes (subst (λ s. OnPartial s (MayBecomeRequest bytes)) same may))

-- a refusal, told by whether the bytes end in a target
pub refused_by : (bytes : List ℕ) (e : Error) (ends : Bool) → length bytes ≤ 8192
    → (e ≢ TooManyHeaders → NeverHasRequest bytes) → (e ≡ TooManyHeaders → RequestExceeds 2731 bytes)
    → (IsTrue ends ↔ EndsInTarget bytes)
    → MatchBool (not ends) (IsHopeless bytes ⊎ ((h : RequestHead) × (rest : List ℕ) × ReadsRequest bytes h rest)) (IsUndecided bytes)
refused_by bytes e ends small invalid exceeds target =
    let never = invalid (λ same. has_room bytes small (exceeds same)) in
    let none : HasNoRequest bytes = λ h rest reads. never [] h rest (subst (λ l. ReadsRequest l h rest) (sym (append-nil bytes)) reads) in
    by_end ends target never none
  where
    by_end : (b : Bool) → (IsTrue b ↔ EndsInTarget bytes) → NeverHasRequest bytes → HasNoRequest bytes
        → MatchBool (not b) (IsHopeless bytes ⊎ ((h : RequestHead) × (rest : List ℕ) × ReadsRequest bytes h rest)) (IsUndecided bytes)
    by_end true told never none = (none, λ bad. bad.1 (told.0 refl))
    by_end false told never none = inl (never, λ there. true≢false (sym (told.1 there)))

-- ---- what is known

-- the head's places stay, whatever bytes follow
parts_more : (xs ys : List ℕ) (h : RequestHead) (p : HeadPlace) → HasParts xs h p → HasParts (xs ++ ys) h p
parts_more xs ys h p parts =
    let size = length-append xs ys in
    record {
      start = parts.start;
      in_bytes = omega (arith, parts.in_bytes, size);
      length_is = parts.length_is;
      small = parts.small;
      method_within = parts.method_within;
      target_within = parts.target_within;
      method = slice_stays xs ys p.method.start p.method.end (omega (arith, parts.method_within.1, parts.in_bytes)) parts.method_within.0 ∙ parts.method;
      target = slice_stays xs ys p.target.start p.target.end (omega (arith, parts.target_within.1, parts.in_bytes)) parts.target_within.0 ∙ parts.target;
      close = parts.close;
      media = parts.media;
    }

parts_of_front : (n : ℕ) (bytes : List ℕ) (h : RequestHead) (p : HeadPlace) → HasParts (take n bytes) h p → HasParts bytes h p
parts_of_front n bytes h p parts =
    subst (λ l. HasParts l h p) (take-append-drop n bytes) (parts_more (take n bytes) (drop n bytes) h p parts)

-- a head that is read
pub knows_head : (bytes looked : List ℕ) (headers : List HeaderSpan) (spans : RequestSpans) (result : Result (Option HeadPlace) FrameFault)
    → looked ≡ looked_at bytes → length headers ≤ field_limit → IsRequestOf looked headers spans
    → ((h : RequestHead) → IsRequestAt looked (take spans.headers headers) spans h → Places looked h result) → Knows bytes result
knows_head bytes looked headers spans (Ok (Some p)) same few (h, at) told = record {
  h = h;
  opens = (drop spans.len looked, subst (λ l. ReadsRequest l h (drop spans.len looked)) same at.reads);
  few = few_fields looked headers spans.headers h.fields at.fields few;
  parts = parts_of_front 8192 bytes h p (subst (λ l. HasParts l h p) same (told h (at_taken looked headers spans h at)));
}
knows_head bytes looked headers spans (Ok None) same few (h, at) told = absurd (told h (at_taken looked headers spans h at))
knows_head bytes looked headers spans (Err fault) same few (h, at) told = (
  head h,
  (drop spans.len looked, subst (λ l. ReadsRequest l h (drop spans.len looked)) same at.reads),
  cond-true _ _ _ (le-leb (length h.fields) field_limit (few_fields looked headers spans.headers h.fields at.fields few))
      ∙ ap (with_body request_shape bytes h) (told h (at_taken looked headers spans h at)),
)

-- no head, or one with too many fields
pub knows_refused : (bytes looked : List ℕ) → looked ≡ looked_at bytes → RequestOverflows field_limit looked
    → IsHopeless looked ⊎ ((h : RequestHead) × (rest : List ℕ) × ReadsRequest looked h rest) → Stands bytes (refused Head)
knows_refused bytes looked same many (inl never) = (hopeless, subst IsHopeless same never, refl)
knows_refused bytes looked same many (inr (h, rest, reads)) = (
  head h,
  (rest, subst (λ l. ReadsRequest l h rest) same reads),
  cond-false _ _ _ (lt-leb (length h.fields) field_limit (many [] h rest (subst (λ l. ReadsRequest l h rest) (sym (append-nil looked)) reads))),
)

-- what is known of a head or a refusal stays known
pub knows_more : (bytes front more : List ℕ) (known : Result (Option HeadPlace) FrameFault) → is_open known ≡ false
    → bytes ≡ front ++ more → Knows front known → Knows bytes known
knows_more bytes front more (Ok (Some p)) closed same knows =
    subst (λ l. HasHead l p) (sym same) (record {
      h = knows.h;
      opens = opening_stays ReadsRequest IsHopeless request_shape request_grammar front more (head knows.h) knows.opens (λ e. cc);
      few = knows.few;
      parts = parts_more front more knows.h p knows.parts;
    })
knows_more bytes front more (Ok None) closed same knows = absurd (cc)
knows_more bytes front more (Err fault) closed same knows =
    subst (λ l. Stands l (refused fault)) (sym same) (front_stays ReadsRequest IsHopeless request_shape request_grammar front more (refused fault) tt knows)

behind : (bytes : List ℕ) (p : HeadPlace) (knows : HasHead bytes p)
    → front_behind request_shape bytes (head knows.h) ≡ with_body request_shape bytes knows.h (Ok p.body)
behind bytes p knows =
    cond-true _ _ _ (le-leb (length knows.h.fields) field_limit knows.few) ∙ ap (with_body request_shape bytes knows.h) knows.parts.length_is

-- a body that isn't there yet
pub no_body_yet : (bytes : List ℕ) (p : HeadPlace) → HasHead bytes p → length bytes < p.start + p.body → Stands bytes unfinished
no_body_yet bytes p knows few = (
  head knows.h,
  knows.opens,
  behind bytes p knows ∙ cond-false _ _ _ (lt-leb (length (print_request knows.h) + p.body) (length bytes) (omega (arith, knows.parts.start, few))),
)

-- a whole request
pub body_there : (bytes method target body : List ℕ) (p : HeadPlace) → HasHead bytes p → p.start + p.body ≤ length bytes
    → method ≡ span_bytes bytes p.method → target ≡ span_bytes bytes p.target → body ≡ slice_range bytes p.start (p.start + p.body)
    → Stands bytes (whole (record { method = method; target = target; close = p.close; media = p.media; body = body }) (p.start + p.body))
body_there bytes method target body p knows fits method_is target_is body_is =
    let parts = knows.parts in
    let a = method_is ∙ parts.method in
    let b = target_is ∙ parts.target in
    let d : body ≡ slice_range bytes (length (print_request knows.h)) (length (print_request knows.h) + p.body) =
    body_is ∙ ap (λ l. slice_range bytes l (l + p.body)) parts.start in (
      head knows.h,
      knows.opens,
      behind bytes p knows ∙ cond-true _ _ _ (le-leb (length (print_request knows.h) + p.body) (length bytes) (omega (arith, parts.start, fits)))
          ∙ (λ i. whole (record { method = sym a i; target = sym b i; close = sym parts.close i; media = sym parts.media i; body = sym d i }) (sym parts.start i + p.body)),
    )

pub method_token : (bytes : List ℕ) (p : HeadPlace) → HasHead bytes p → IsToken (span_bytes bytes p.method)
method_token bytes p knows = subst IsToken (sym knows.parts.method) knows.opens.1.0.method
