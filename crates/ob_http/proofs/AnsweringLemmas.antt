-- An answer that is written is framed as its status and its body.
use Rattle.std.proofs.Common.{◌≡◌, ℕ, ◌+◌, ◌^◌, ◌<◌, ◌≤◌, Bool, true, false, cond, ◌==◌, List, [], ◌∷◌, ◌++◌, length, map, codes, decimal, Some, Ok, Err, refl, sym, ap, ◌∙◌, subst, arith, append_assoc, append-nil, All, lit<, lit≤, length-append}
use Rattle.std.proofs.lemmas.Fmt.{length-decimal-le}
use Rattle.std.proofs.lemmas.List.Elements.{All-nil, All-cons, All-append}
use Rattle.std.proofs.lemmas.Grind.{flat_map-append}
use Rattle.std.proofs.lemmas.List.Sums.{AllPass-from_list_all}
use Rattle.std.specs.Char.{is_ascii_digit}
use Rattle.std.specs.List.{flat_map, concat}
use Rattle.httparse.specs.Grammar.{AllPass, is_token_byte, is_value_byte, trim_ows, crlf, Field, IsField, print_field, print_section, ResponseHead, IsResponseHead, print_response, ReadsResponse, NeverHasResponse, status_code}
use Rattle.httparse.specs.Spans.{name_and_value}
use Rattle.httparse.proofs.GrammarLemmas.{print_response-append}
use Rattle.ob_http.specs.declared.answer.StatusLine.{StatusLine}
use Rattle.ob_http.specs.declared.answer.StatusLine.TheVariants.{Done, BadRequest, NotAllowed, BadMedia}
use Rattle.ob_http.specs.declared.fault.FrameFault.TheVariants.{NoLength}
use Rattle.ob_http.specs.Message.{whole, length_by}
use Rattle.ob_http.specs.Reply.{Response, reply_shape, reply_limit, ReplyStands}
use Rattle.ob_http.specs.Replies.{never_last, Replied}
use Rattle.ob_http.specs.Stream.{resting}
use Rattle.ob_http.specs.Fields.{length_value}
use Rattle.ob_http.specs.Answer.{status_text, type_text, allow_text, close_text, answer_text}
use Rattle.ob_http.specs.RoundTrip.{status_number}
use Rattle.ob_http.proofs.MessageLemmas.{written_stands, nothing_rests}
use Rattle.ob_http.proofs.StreamLemmas.{framed_one}
use Rattle.ob_http.proofs.HeadLemmas.{response_grammar}
use Rattle.ob_http.proofs.RepliesLemmas.{reply_framing}
use Rattle.ob_http.proofs.WrittenLemmas.{written, text_valid, length_valid, trim_digits, length_written, is_same_length, length_told, one_valid}

-- ---- the head of an answer; `empty` says that it has no body

abbrev type_lines : StatusLine → Bool → List Field
type_lines Done empty = written (codes "Content-Type") (codes "text/xml") ∷ []
type_lines BadRequest true = []
type_lines BadRequest false = written (codes "Content-Type") (codes "text/plain") ∷ []
type_lines NotAllowed empty = []
type_lines BadMedia empty = []

abbrev allow_lines : StatusLine → List Field
allow_lines Done = []
allow_lines BadRequest = []
allow_lines NotAllowed = written (codes "Allow") (codes "GET, PUT, POST") ∷ []
allow_lines BadMedia = []

abbrev close_lines : Bool → List Field
close_lines true = written (codes "Connection") (codes "close") ∷ []
close_lines false = []

abbrev answer_lines : StatusLine → Bool → Bool → ℕ → List Field
answer_lines line empty close n = type_lines line empty ++ (written (codes "Content-Length") (decimal n) ∷ (allow_lines line ++ close_lines close))

abbrev status_digits : StatusLine → List ℕ
status_digits Done = codes "200"
status_digits BadRequest = codes "400"
status_digits NotAllowed = codes "405"
status_digits BadMedia = codes "415"

abbrev status_reason : StatusLine → List ℕ
status_reason Done = codes "OK"
status_reason BadRequest = codes "Bad Request"
status_reason NotAllowed = codes "Method Not Allowed"
status_reason BadMedia = codes "Unsupported Media Type"

abbrev head_of : StatusLine → Bool → Bool → ℕ → ResponseHead
head_of line empty close n = record {
  blank = [];
  minor = 1;
  digits = status_digits line;
  reason = Some (status_reason line);
  line_end = crlf;
  fields = answer_lines line empty close n;
  last = crlf;
}

-- ---- it is valid

type_valid : (line : StatusLine) (empty : Bool) → All IsField (type_lines line empty)
unfolding is_token_byte
type_valid Done empty = one_valid (written (codes "Content-Type") (codes "text/xml")) (text_valid (codes "Content-Type") (codes "text/xml") refl refl)
type_valid BadRequest true = All-nil IsField
type_valid BadRequest false = one_valid (written (codes "Content-Type") (codes "text/plain")) (text_valid (codes "Content-Type") (codes "text/plain") refl refl)
type_valid NotAllowed empty = All-nil IsField
type_valid BadMedia empty = All-nil IsField

allow_valid : (line : StatusLine) → All IsField (allow_lines line)
unfolding is_token_byte
allow_valid Done = All-nil IsField
allow_valid BadRequest = All-nil IsField
allow_valid NotAllowed = one_valid (written (codes "Allow") (codes "GET, PUT, POST")) (text_valid (codes "Allow") (codes "GET, PUT, POST") refl refl)
allow_valid BadMedia = All-nil IsField

close_valid : (close : Bool) → All IsField (close_lines close)
unfolding is_token_byte
close_valid true = one_valid (written (codes "Connection") (codes "close")) (text_valid (codes "Connection") (codes "close") refl refl)
close_valid false = All-nil IsField

digits_valid : (line : StatusLine) → (length (status_digits line) ≡ 3) × AllPass is_ascii_digit (status_digits line)
digits_valid Done = (refl, AllPass-from_list_all is_ascii_digit (codes "200") refl)
digits_valid BadRequest = (refl, AllPass-from_list_all is_ascii_digit (codes "400") refl)
digits_valid NotAllowed = (refl, AllPass-from_list_all is_ascii_digit (codes "405") refl)
digits_valid BadMedia = (refl, AllPass-from_list_all is_ascii_digit (codes "415") refl)

reason_valid : (line : StatusLine) → AllPass is_value_byte (status_reason line)
reason_valid Done = AllPass-from_list_all is_value_byte (codes "OK") refl
reason_valid BadRequest = AllPass-from_list_all is_value_byte (codes "Bad Request") refl
reason_valid NotAllowed = AllPass-from_list_all is_value_byte (codes "Method Not Allowed") refl
reason_valid BadMedia = AllPass-from_list_all is_value_byte (codes "Unsupported Media Type") refl

head_valid : (line : StatusLine) (empty close : Bool) (n : ℕ) → n < 2 ^ 64 → IsResponseHead (head_of line empty close n)
head_valid line empty close n small = record {
  minor = lit≤ tt;
  digits = digits_valid line;
  reason = reason_valid line;
  fields = All-append IsField (type_lines line empty) (written (codes "Content-Length") (decimal n) ∷ (allow_lines line ++ close_lines close)) (type_valid line empty)
      (All-cons IsField (written (codes "Content-Length") (decimal n)) (allow_lines line ++ close_lines close) (length_valid n small) (All-append IsField (allow_lines line) (close_lines close) (allow_valid line) (close_valid close)));
}

-- ---- its text

type_is : (line : StatusLine) (body : List ℕ) → type_text line body ≡ flat_map print_field (type_lines line (length body == 0))
type_is Done body = refl
type_is BadRequest body = by_test (length body == 0)
  where
    by_test : (t : Bool) → cond t [] (codes "Content-Type: text/plain\r\n") ≡ flat_map print_field (type_lines BadRequest t)
    by_test true = refl
    by_test false = refl
type_is NotAllowed body = refl
type_is BadMedia body = refl

allow_is : (line : StatusLine) → allow_text line ≡ flat_map print_field (allow_lines line)
allow_is Done = refl
allow_is BadRequest = refl
allow_is NotAllowed = refl
allow_is BadMedia = refl

close_is : (close : Bool) → close_text close ≡ flat_map print_field (close_lines close)
close_is true = refl
close_is false = refl

length_line : (n : ℕ) (rest : List ℕ) → print_field (written (codes "Content-Length") (decimal n)) ++ rest ≡ codes "Content-Length: " ++ (decimal n ++ (codes "\r\n" ++ rest))
length_line n rest = simp append_assoc refl

section_is : (line : StatusLine) (empty close : Bool) (n : ℕ) (rest : List ℕ)
    → print_section (answer_lines line empty close n) crlf ++ rest
    ≡ flat_map print_field (type_lines line empty) ++ (codes "Content-Length: " ++ (decimal n ++ (codes "\r\n"
    ++ (flat_map print_field (allow_lines line) ++ (flat_map print_field (close_lines close) ++ (codes "\r\n" ++ rest))))))
section_is line empty close n rest =
    append_assoc (flat_map print_field (answer_lines line empty close n)) (codes "\r\n") rest
    ∙ ap (λ (l : List ℕ). l ++ (codes "\r\n" ++ rest)) (flat_map-append print_field (type_lines line empty) (written (codes "Content-Length") (decimal n) ∷ (allow_lines line ++ close_lines close)))
    ∙ append_assoc (flat_map print_field (type_lines line empty)) _ (codes "\r\n" ++ rest)
    ∙ ap (λ (l : List ℕ). flat_map print_field (type_lines line empty) ++ l)
    (append_assoc (print_field (written (codes "Content-Length") (decimal n))) (flat_map print_field (allow_lines line ++ close_lines close)) (codes "\r\n" ++ rest)
    ∙ length_line n (flat_map print_field (allow_lines line ++ close_lines close) ++ (codes "\r\n" ++ rest))
    ∙ ap (λ (l : List ℕ). codes "Content-Length: " ++ (decimal n ++ (codes "\r\n" ++ l)))
    (ap (λ (l : List ℕ). l ++ (codes "\r\n" ++ rest)) (flat_map-append print_field (allow_lines line) (close_lines close))
    ∙ append_assoc (flat_map print_field (allow_lines line)) (flat_map print_field (close_lines close)) (codes "\r\n" ++ rest)))

start_is : (line : StatusLine) (rest : List ℕ) → status_text line ++ rest ≡ codes "HTTP/1.1 " ++ (status_digits line ++ (codes " " ++ (status_reason line ++ (codes "\r\n" ++ rest))))
start_is Done rest = refl
start_is BadRequest rest = refl
start_is NotAllowed rest = refl
start_is BadMedia rest = refl

text_is : (line : StatusLine) (close : Bool) (body : List ℕ) → answer_text line close body ≡ print_response (head_of line (length body == 0) close (length body)) ++ body
text_is line close body =
    let empty = length body == 0 in
    let tail : List ℕ = codes "Content-Length: " ++ (decimal (length body) ++ (codes "\r\n" ++ (flat_map print_field (allow_lines line) ++ (flat_map print_field (close_lines close) ++ (codes "\r\n" ++ body))))) in
    ap (λ (l : List ℕ). status_text line ++ (type_text line body ++ (codes "Content-Length: " ++ (decimal (length body) ++ (codes "\r\n" ++ (allow_text line ++ (close_text close ++ (codes "\r\n" ++ l)))))))) (append-nil body)
    ∙ (λ i. status_text line ++ (type_is line body i ++ (codes "Content-Length: " ++ (decimal (length body) ++ (codes "\r\n" ++ (allow_is line i ++ (close_is close i ++ (codes "\r\n" ++ body))))))))
    ∙ start_is line (flat_map print_field (type_lines line empty) ++ tail)
    ∙ sym (print_response-append (head_of line empty close (length body)) body
    ∙ ap (λ (l : List ℕ). codes "HTTP/1.1 " ++ (status_digits line ++ (codes " " ++ (status_reason line ++ (codes "\r\n" ++ l))))) (section_is line empty close (length body) body))

-- ---- its size and what its fields tell

start_size : (line : StatusLine) → length (status_text line) ≤ 50
start_size Done = lit≤ tt
start_size BadRequest = lit≤ tt
start_size NotAllowed = lit≤ tt
start_size BadMedia = lit≤ tt

type_size : (line : StatusLine) (body : List ℕ) → length (type_text line body) ≤ 50
type_size Done body = lit≤ tt
type_size BadRequest body = by_test (length body == 0)
  where
    by_test : (t : Bool) → length (cond t [] (codes "Content-Type: text/plain\r\n")) ≤ 50
    by_test true = lit≤ tt
    by_test false = lit≤ tt
type_size NotAllowed body = lit≤ tt
type_size BadMedia body = lit≤ tt

allow_size : (line : StatusLine) → length (allow_text line) ≤ 50
allow_size Done = lit≤ tt
allow_size BadRequest = lit≤ tt
allow_size NotAllowed = lit≤ tt
allow_size BadMedia = lit≤ tt

close_size : (close : Bool) → length (close_text close) ≤ 50
close_size true = lit≤ tt
close_size false = lit≤ tt

nine_sizes : (a b c d e f g h i : List ℕ) → length (concat (a ∷ b ∷ c ∷ d ∷ e ∷ f ∷ g ∷ h ∷ i ∷ []))
    ≡ length a + (length b + (length c + (length d + (length e + (length f + (length g + (length h + length i)))))))
nine_sizes a b c d e f g h i = simp (append-nil, length-append) refl

head_size : (line : StatusLine) (close : Bool) (body : List ℕ) → length body ≤ reply_limit → length (print_response (head_of line (length body == 0) close (length body))) ≤ 8192
head_size line close body small =
    let h = head_of line (length body == 0) close (length body) in
    let text = ap (λ (l : List ℕ). length l) (text_is line close body) in
    let parts = nine_sizes (status_text line) (type_text line body) (codes "Content-Length: ") (decimal (length body)) (codes "\r\n") (allow_text line) (close_text close) (codes "\r\n") body in
    let digits = length-decimal-le 8 (length body) (lit< tt) (omega arith) (omega arith) in
    omega (arith, text, parts, digits, start_size line, type_size line body, allow_size line, close_size close, length-append (print_response h) body)

few_lines : (line : StatusLine) (empty close : Bool) (n : ℕ) → length (answer_lines line empty close n) ≤ 64
few_lines Done empty true n = lit≤ tt
few_lines Done empty false n = lit≤ tt
few_lines BadRequest true true n = lit≤ tt
few_lines BadRequest true false n = lit≤ tt
few_lines BadRequest false true n = lit≤ tt
few_lines BadRequest false false n = lit≤ tt
few_lines NotAllowed empty true n = lit≤ tt
few_lines NotAllowed empty false n = lit≤ tt
few_lines BadMedia empty true n = lit≤ tt
few_lines BadMedia empty false n = lit≤ tt

module _ (n : ℕ) (small : n ≤ reply_limit) where
  abbrev value : List ℕ
  value = trim_ows (32 ∷ decimal n)

  number : length_value value ≡ Some n
  number = ap (λ (v : List ℕ). length_value v) (trim_digits n (omega arith)) ∙ length_written n (omega arith) (omega arith)

  told : (line : StatusLine) (empty close : Bool) → length_by reply_shape (head_of line empty close n) ≡ Ok n
  told Done empty true = length_told (Err NoLength) reply_limit n (map name_and_value (answer_lines Done empty true n)) value refl refl number (let same = is_same_length value n number in rw same refl) small
  told Done empty false = length_told (Err NoLength) reply_limit n (map name_and_value (answer_lines Done empty false n)) value refl refl number (let same = is_same_length value n number in rw same refl) small
  told BadRequest true true = length_told (Err NoLength) reply_limit n (map name_and_value (answer_lines BadRequest true true n)) value refl refl number (let same = is_same_length value n number in rw same refl) small
  told BadRequest true false = length_told (Err NoLength) reply_limit n (map name_and_value (answer_lines BadRequest true false n)) value refl refl number (let same = is_same_length value n number in rw same refl) small
  told BadRequest false true = length_told (Err NoLength) reply_limit n (map name_and_value (answer_lines BadRequest false true n)) value refl refl number (let same = is_same_length value n number in rw same refl) small
  told BadRequest false false = length_told (Err NoLength) reply_limit n (map name_and_value (answer_lines BadRequest false false n)) value refl refl number (let same = is_same_length value n number in rw same refl) small
  told NotAllowed empty true = length_told (Err NoLength) reply_limit n (map name_and_value (answer_lines NotAllowed empty true n)) value refl refl number (let same = is_same_length value n number in rw same refl) small
  told NotAllowed empty false = length_told (Err NoLength) reply_limit n (map name_and_value (answer_lines NotAllowed empty false n)) value refl refl number (let same = is_same_length value n number in rw same refl) small
  told BadMedia empty true = length_told (Err NoLength) reply_limit n (map name_and_value (answer_lines BadMedia empty true n)) value refl refl number (let same = is_same_length value n number in rw same refl) small
  told BadMedia empty false = length_told (Err NoLength) reply_limit n (map name_and_value (answer_lines BadMedia empty false n)) value refl refl number (let same = is_same_length value n number in rw same refl) small

number_is : (line : StatusLine) (empty close : Bool) (n : ℕ) → status_code (head_of line empty close n) ≡ status_number line
number_is Done empty close n = refl
number_is BadRequest empty close n = refl
number_is NotAllowed empty close n = refl
number_is BadMedia empty close n = refl

-- ---- the round trip

pub answer_is_replied : (line : StatusLine) (close : Bool) (body : List ℕ) → length body ≤ reply_limit
    → Replied (answer_text line close body) ((record { status = status_number line; body = body }) ∷ []) (resting [])
answer_is_replied line close body small =
    let empty = length body == 0 in
    let h = head_of line empty close (length body) in
    let reply : Response = record { status = status_number line; body = body } in
    let valid = head_valid line empty close (length body) (omega arith) in
    let stands = written_stands ReadsResponse NeverHasResponse reply_shape response_grammar h body (λ rest. (valid, refl)) (head_size line close body small) (few_lines line empty close (length body)) (told (length body) small line empty close) in
    let whole_text : ReplyStands (answer_text line close body) (whole reply (length (answer_text line close body))) =
    subst (λ (l : List ℕ). ReplyStands l (whole reply (length l))) (sym (text_is line close body))
    (subst (λ (s : ℕ). ReplyStands (print_response h ++ body) (whole (record { status = s; body = body }) (length (print_response h ++ body)))) (number_is line empty close (length body))
    (subst (λ (k : ℕ). ReplyStands (print_response h ++ body) (whole (record { status = status_code h; body = body }) k)) (sym (length-append (print_response h) body)) stands)) in
    framed_one ReplyStands never_last reply_framing (answer_text line close body) reply refl whole_text
    (nothing_rests ReadsResponse NeverHasResponse reply_shape response_grammar h (valid, refl))
