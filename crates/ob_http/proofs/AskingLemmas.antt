-- A request that is written is framed as itself.
use Rattle.std.proofs.Common.{◌≡◌, ℕ, ◌+◌, ◌^◌, ◌<◌, ◌≤◌, true, false, List, [], ◌∷◌, ◌++◌, length, map, codes, decimal, Ok, refl, sym, ap, ◌∙◌, subst, arith, append_assoc, append-nil, All, lit<, lit≤, length-append}
use Rattle.std.proofs.lemmas.Fmt.{length-decimal-le}
use Rattle.std.proofs.lemmas.List.Elements.{All-cons}
use Rattle.httparse.specs.Grammar.{AllPass, is_token, is_token_byte, is_value_byte, trim_ows, crlf, Field, IsField, RequestHead, IsRequestHead, print_field, print_section, print_request, ReadsRequest}
use Rattle.httparse.specs.Spans.{name_and_value}
use Rattle.httparse.proofs.GrammarLemmas.{print_request-append}
use Rattle.ob_values.specs.declared.verb.Verb.{Verb}
use Rattle.ob_values.specs.declared.verb.Verb.TheVariants.{Get, Put, Post}
use Rattle.ob_http.specs.declared.media.Media.TheVariants.{Xml}
use Rattle.ob_http.specs.Message.{whole, length_by}
use Rattle.ob_http.specs.Request.{Request, request_shape, request_of, body_limit, IsHopeless, Stands}
use Rattle.ob_http.specs.Requests.{Framed}
use Rattle.ob_http.specs.Stream.{resting}
use Rattle.ob_http.specs.Fields.{length_value}
use Rattle.ob_http.specs.Asking.{verb_text, request_text}
use Rattle.ob_http.specs.RoundTrip.{CanAsk, asked}
use Rattle.ob_http.proofs.MessageLemmas.{written_stands, nothing_rests}
use Rattle.ob_http.proofs.StreamLemmas.{framed_one}
use Rattle.ob_http.proofs.HeadLemmas.{request_grammar}
use Rattle.ob_http.proofs.RequestsLemmas.{request_framing}
use Rattle.ob_http.proofs.WrittenLemmas.{written, written_valid, text_valid, length_valid, token_of, trim_digits, length_written, is_same_length, length_told, one_valid}

abbrev host_line : List ℕ → Field
host_line host = written (codes "Host") host

abbrev sized_lines : List ℕ → ℕ → List Field
sized_lines host n = host_line host ∷ written (codes "Content-Type") (codes "text/xml") ∷ written (codes "Content-Length") (decimal n) ∷ []

abbrev head_of : List ℕ → List ℕ → List Field → RequestHead
head_of method target lines = record { blank = []; method = method; target = target; minor = 1; line_end = crlf; fields = lines; last = crlf }

-- ---- the heads are valid

host_valid : (host : List ℕ) → AllPass is_value_byte host → IsField (host_line host)
unfolding is_token_byte
host_valid host all = written_valid (codes "Host") host refl all

type_valid : IsField (written (codes "Content-Type") (codes "text/xml"))
unfolding is_token_byte
type_valid = text_valid (codes "Content-Type") (codes "text/xml") refl refl

sized_valid : (host : List ℕ) (n : ℕ) → AllPass is_value_byte host → n < 2 ^ 64 → All IsField (sized_lines host n)
sized_valid host n all small =
    let type = written (codes "Content-Type") (codes "text/xml") in
    let size = written (codes "Content-Length") (decimal n) in
    All-cons IsField (host_line host) (type ∷ size ∷ []) (host_valid host all) (All-cons IsField type (size ∷ []) type_valid (one_valid size (length_valid n small)))

verb_token : (verb : Verb) → is_token (verb_text verb) ≡ true
unfolding is_token_byte
verb_token Get = refl
verb_token Put = refl
verb_token Post = refl

head_valid : (verb : Verb) (target host body : List ℕ) (lines : List Field) → CanAsk target host body → All IsField lines
    → IsRequestHead (head_of (verb_text verb) target lines)
head_valid verb target host body lines can valid = record {
  method = token_of (verb_text verb) (verb_token verb);
  target = (can.some, can.target_bytes);
  target_text = can.target_text;
  minor = lit≤ tt;
  fields = valid;
}

-- ---- the texts are those of the heads

written_line : (name value rest : List ℕ) → print_field (written name value) ++ rest ≡ name ++ (codes ": " ++ (value ++ (codes "\r\n" ++ rest)))
written_line name value rest = simp append_assoc refl

one_section : (f : Field) (rest : List ℕ) → print_section (f ∷ []) crlf ++ rest ≡ print_field f ++ (codes "\r\n" ++ rest)
one_section f rest = regroup (print_field f) (codes "\r\n") rest
  where
    regroup : (a e r : List ℕ) → ((a ++ []) ++ e) ++ r ≡ a ++ (e ++ r)
    regroup a e r = simp (append_assoc, append-nil) refl

three_section : (f g h : Field) (rest : List ℕ) → print_section (f ∷ g ∷ h ∷ []) crlf ++ rest ≡ print_field f ++ (print_field g ++ (print_field h ++ (codes "\r\n" ++ rest)))
three_section f g h rest = regroup (print_field f) (print_field g) (print_field h) (codes "\r\n") rest
  where
    regroup : (a b c e r : List ℕ) → ((a ++ (b ++ (c ++ []))) ++ e) ++ r ≡ a ++ (b ++ (c ++ (e ++ r)))
    regroup a b c e r = simp (append_assoc, append-nil) refl

get_text : (target host body : List ℕ) → request_text Get target host body ≡ print_request (head_of (codes "GET") target (host_line host ∷ [])) ++ []
get_text target host body =
    sym (print_request-append (head_of (codes "GET") target (host_line host ∷ [])) []
    ∙ ap (λ (l : List ℕ). codes "GET" ++ (codes " " ++ (target ++ (codes " HTTP/1.1\r\n" ++ l))))
    (one_section (host_line host) [] ∙ written_line (codes "Host") host (codes "\r\n")))

sized_text : (method target host body : List ℕ)
    → method ++ (codes " " ++ (target ++ (codes " HTTP/1.1\r\nHost: " ++ (host ++ (codes "\r\n"
    ++ (codes "Content-Type: text/xml\r\nContent-Length: " ++ (decimal (length body) ++ (codes "\r\n\r\n" ++ body))))))))
    ≡ print_request (head_of method target (sized_lines host (length body))) ++ body
sized_text method target host body =
    let type = written (codes "Content-Type") (codes "text/xml") in
    let size = written (codes "Content-Length") (decimal (length body)) in
    let tail = codes "\r\n" ++ body in
    sym (print_request-append (head_of method target (sized_lines host (length body))) body
    ∙ ap (λ (l : List ℕ). method ++ (codes " " ++ (target ++ (codes " HTTP/1.1\r\n" ++ l))))
    (three_section (host_line host) type size body
    ∙ written_line (codes "Host") host (print_field type ++ (print_field size ++ tail))
    ∙ ap (λ (l : List ℕ). codes "Host: " ++ (host ++ (codes "\r\n" ++ l)))
    (written_line (codes "Content-Type") (codes "text/xml") (print_field size ++ tail)
    ∙ ap (λ (l : List ℕ). codes "Content-Type: text/xml\r\n" ++ l) (written_line (codes "Content-Length") (decimal (length body)) tail))))

-- ---- what the fields tell

get_length : (method target host : List ℕ) → length_by request_shape (head_of method target (host_line host ∷ [])) ≡ Ok 0
get_length method target host = refl

sized_length : (method target host : List ℕ) (n : ℕ) → n ≤ body_limit → length_by request_shape (head_of method target (sized_lines host n)) ≡ Ok n
sized_length method target host n small =
    let value = trim_ows (32 ∷ decimal n) in
    let fits : n < 2 ^ 64 = omega arith in
    let number = ap (λ (v : List ℕ). length_value v) (trim_digits n fits) ∙ length_written n (omega arith) fits in
    let same = is_same_length value n number in
    length_told (Ok 0) body_limit n (map name_and_value (sized_lines host n)) value refl refl number (rw same refl) small

-- ---- the round trip

framed_as : (text : List ℕ) (h : RequestHead) (body : List ℕ) (request : Request) → text ≡ print_request h ++ body → IsRequestHead h
    → length (print_request h) ≤ 8192 → length h.fields ≤ 64 → length_by request_shape h ≡ Ok (length body)
    → request_of h body ≡ request → request.close ≡ false → Framed text (request ∷ []) (resting [])
framed_as text h body request same valid small few told is goes_on =
    let stands = written_stands ReadsRequest IsHopeless request_shape request_grammar h body (λ rest. (valid, refl)) small few told in
    let whole_text : Stands text (whole request (length text)) =
    subst (λ (l : List ℕ). Stands l (whole request (length l))) (sym same)
    (subst (λ (r : Request). Stands (print_request h ++ body) (whole r (length (print_request h ++ body)))) is
    (subst (λ (n : ℕ). Stands (print_request h ++ body) (whole (request_of h body) n)) (sym (length-append (print_request h) body)) stands)) in
    framed_one Stands (λ r. r.close) request_framing text request goes_on whole_text
    (nothing_rests ReadsRequest IsHopeless request_shape request_grammar h (valid, refl))

-- ---- the sizes of the heads

get_parts : (a b c d e f g : List ℕ) → length (a ++ (b ++ (c ++ (d ++ (e ++ (f ++ g)))))) ≡ length a + (length b + (length c + (length d + (length e + (length f + length g)))))
get_parts a b c d e f g = simp length-append refl

sized_parts : (a b c d e f g h i k : List ℕ) → length (a ++ (b ++ (c ++ (d ++ (e ++ (f ++ (g ++ (h ++ (i ++ k)))))))))
    ≡ length a + (length b + (length c + (length d + (length e + (length f + (length g + (length h + (length i + length k))))))))
sized_parts a b c d e f g h i k = simp length-append refl

get_size : (target host : List ℕ) → length target + length host ≤ 8000 → length (print_request (head_of (codes "GET") target (host_line host ∷ []))) ≤ 8192
get_size target host small =
    let h = head_of (codes "GET") target (host_line host ∷ []) in
    let text = ap (λ (l : List ℕ). length l) (get_text target host []) in
    let parts = get_parts (codes "GET") (codes " ") target (codes " HTTP/1.1\r\nHost: ") host (codes "\r\n") (codes "\r\n") in
    omega (arith, text, parts, length-append (print_request h) [])

sized_size : (method target host body : List ℕ) → length method ≤ 4 → length target + length host ≤ 8000 → length body ≤ body_limit
    → length (print_request (head_of method target (sized_lines host (length body)))) ≤ 8192
sized_size method target host body short small fits =
    let h = head_of method target (sized_lines host (length body)) in
    let text = ap (λ (l : List ℕ). length l) (sized_text method target host body) in
    let parts = sized_parts method (codes " ") target (codes " HTTP/1.1\r\nHost: ") host (codes "\r\n") (codes "Content-Type: text/xml\r\nContent-Length: ") (decimal (length body)) (codes "\r\n\r\n") body in
    let digits = length-decimal-le 7 (length body) (lit< tt) (omega arith) (omega arith) in
    omega (arith, text, parts, digits, length-append (print_request h) body)

sized_media : (method target host : List ℕ) (n : ℕ) (body : List ℕ) → request_of (head_of method target (sized_lines host n)) body
    ≡ record { method = method; target = target; close = false; media = Xml; body = body }
unfolding trim_ows
sized_media method target host n body = refl

pub asked_is_framed : (verb : Verb) (target host body : List ℕ) → CanAsk target host body
    → Framed (request_text verb target host body) (asked verb target body ∷ []) (resting [])
asked_is_framed Get target host body can =
    framed_as _ (head_of (codes "GET") target (host_line host ∷ [])) [] (asked Get target body) (get_text target host body)
    (head_valid Get target host body (host_line host ∷ []) can (one_valid (host_line host) (host_valid host can.host_bytes)))
    (get_size target host can.head_small) (lit≤ tt) (get_length (codes "GET") target host) refl refl
asked_is_framed Put target host body can =
    framed_as _ (head_of (codes "PUT") target (sized_lines host (length body))) body (asked Put target body) (sized_text (codes "PUT") target host body)
    (head_valid Put target host body (sized_lines host (length body)) can (sized_valid host (length body) can.host_bytes (omega (arith, can.body_small))))
    (sized_size (codes "PUT") target host body (lit≤ tt) can.head_small can.body_small) (lit≤ tt) (sized_length (codes "PUT") target host (length body) can.body_small) (sized_media (codes "PUT") target host (length body) body) refl
asked_is_framed Post target host body can =
    framed_as _ (head_of (codes "POST") target (sized_lines host (length body))) body (asked Post target body) (sized_text (codes "POST") target host body)
    (head_valid Post target host body (sized_lines host (length body)) can (sized_valid host (length body) can.host_bytes (omega (arith, can.body_small))))
    (sized_size (codes "POST") target host body (lit≤ tt) can.head_small can.body_small) (lit≤ tt) (sized_length (codes "POST") target host (length body) can.body_small) (sized_media (codes "POST") target host (length body) body) refl
