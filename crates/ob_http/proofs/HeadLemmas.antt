-- The grammars of heads, as the framing of messages needs them.
use Rattle.std.proofs.Common.{◌≡◌, ◌⊎◌, ℕ, ◌<◌, IsTrue, List, [], ◌∷◌, ◌++◌, length, drop, refl, sym, ap, ◌∙◌, subst, arith, inl, inr, append_assoc, append-nil, length-append, All, get_or, lit<}
use Rattle.std.proofs.lemmas.List.Elements.{All-cons, All-nil, All-head, All-tail}
use Rattle.std.proofs.lemmas.Str.{IsUtf8-from_ascii}
use Rattle.std.proofs.lemmas.Str.Ascii.{IsAscii-cons, IsAscii-nil}
use Rattle.std.specs.List.{flat_map}
use Rattle.httparse.specs.Grammar.{LineEnd, crlf, lf, IsField, print_version, print_end, print_field, print_section, print_blank, print_request, print_response, AllPass, IsToken, is_uri_byte, RequestHead, IsRequestHead, ReadsRequest, HasNoRequest, NeverHasRequest, EndsInTarget, ResponseHead, ReadsResponse, HasNoResponse, NeverHasResponse}
use Rattle.httparse.proofs.GrammarLemmas.{request_unique, ReadsRequest-append, print_request-append, response_unique, ReadsResponse-append}
use Rattle.ob_http.specs.Request.{IsHopeless}
use Rattle.ob_http.proofs.MessageLemmas.{IsGrammar}

All_front : (P : ℕ → Type 0) (xs ys : List ℕ) → All P (xs ++ ys) → All P xs
All_front P [] ys all = All-nil P
All_front P (x ∷ xs) ys all = All-cons P x xs (All-head P x (xs ++ ys) all) (All_front P xs ys (All-tail P x (xs ++ ys) all))

-- a text cut at two places
cut_twice : (a b c d : List ℕ) → a ++ b ≡ c ++ d
    → ((q : List ℕ) × (a ≡ c ++ q) × (d ≡ q ++ b)) ⊎ ((q : List ℕ) × (c ≡ a ++ q))
cut_twice a b [] d same = inl (a, refl, sym same)
cut_twice [] b (y ∷ c) d same = inr (y ∷ c, refl)
cut_twice (x ∷ a) b (y ∷ c) d same =
    let first : x ≡ y = ap (λ (l : List ℕ). get_or l 0 0) same in
    let rest : a ++ b ≡ c ++ d = ap (drop 1) same in
    elim (cut_twice a b c d rest) [
      | inl t ↦ inl (t.0, (λ i. first i ∷ t.1 i), t.2)
      | inr t ↦ inr (t.0, λ i. sym first i ∷ t.1 i)
    ]

-- a head that begins with these bytes
abbrev root_head : List LineEnd → List ℕ → RequestHead
root_head blank method = record { blank = blank; method = method; target = 47 ∷ []; minor = 1; line_end = lf; fields = []; last = lf }

root_head_valid : (blank : List LineEnd) (method : List ℕ) → IsToken method → IsRequestHead (root_head blank method)
root_head_valid blank method token = record {
  method = token;
  target = (lit< tt, All-cons (λ b. IsTrue (is_uri_byte b)) 47 [] refl (All-nil (λ b. IsTrue (is_uri_byte b))));
  target_text = IsUtf8-from_ascii _ (IsAscii-cons 47 [] (omega arith) IsAscii-nil);
  minor = omega arith;
  fields = All-nil IsField;
}

-- what ends in a target once more has come did so before, or was the beginning of a head
ended_before : (bytes more : List ℕ) → EndsInTarget (bytes ++ more) → NeverHasRequest bytes → EndsInTarget bytes
ended_before bytes more (blank, method, target, token, uri, spelled) never =
    let begun = print_blank blank ++ method ++ 32 ∷ [] in
    let cut = cut_twice bytes more begun target (spelled ∙ sym (append_assoc (print_blank blank ++ method) (32 ∷ []) target)) in
    elim cut [
      | inl t ↦ (
        blank,
        method,
        t.0,
        token,
        All_front (λ b. IsTrue (is_uri_byte b)) t.0 more (subst (AllPass is_uri_byte) t.2 uri),
        t.1 ∙ append_assoc (print_blank blank ++ method) (32 ∷ []) t.0,
      )
      | inr t ↦
          let h = root_head blank method in
          let tail = 47 ∷ 32 ∷ (print_version 1 ++ (print_end lf ++ (print_section [] lf ++ []))) in
          let text : bytes ++ (t.0 ++ tail) ≡ print_request h ++ [] =
          sym (append_assoc bytes t.0 tail) ∙ ap (λ l. l ++ tail) (sym t.1)
          ∙ append_assoc (print_blank blank ++ method) (32 ∷ []) tail ∙ append_assoc (print_blank blank) method (32 ∷ tail)
          ∙ sym (print_request-append h []) in
          absurd (never (t.0 ++ tail) h [] (root_head_valid blank method token, text))
    ]

-- ---- what is hopeless stays so

hopeless_more : (bytes more : List ℕ) → IsHopeless bytes → IsHopeless (bytes ++ more)
hopeless_more bytes more (never, target) = (
  λ others. subst HasNoRequest (sym (append_assoc bytes more others)) (never (more ++ others)),
  λ there. target (ended_before bytes more there never),
)

-- ---- a head has bytes

end_some : (e : LineEnd) → 0 < length (print_end e)
end_some crlf = omega arith
end_some lf = omega arith

some_behind : (a s : List ℕ) → 0 < length s → 0 < length (a ++ s)
some_behind a s some = omega (arith, length-append a s)

request_some : (h : RequestHead) → 0 < length (print_request h)
unfolding print_request
request_some h = some_behind _ (print_section h.fields h.last) (some_behind (flat_map print_field h.fields) (print_end h.last) (end_some h.last))

response_some : (h : ResponseHead) → 0 < length (print_response h)
unfolding print_response
response_some h = some_behind _ (print_section h.fields h.last) (some_behind (flat_map print_field h.fields) (print_end h.last) (end_some h.last))

-- ---- the two grammars

pub request_grammar : IsGrammar ReadsRequest IsHopeless print_request
request_grammar = record {
  one = λ bytes h k r q x y. (request_unique bytes h k r q x y).0;
  more = ReadsRequest-append;
  never = λ bytes h rest reads hopeless. hopeless.0 [] h rest (subst (λ l. ReadsRequest l h rest) (sym (append-nil bytes)) reads);
  hopeless_more = hopeless_more;
  some = request_some;
  text = λ bytes h rest reads. reads.1;
}

pub response_grammar : IsGrammar ReadsResponse NeverHasResponse print_response
response_grammar = record {
  one = λ bytes h k r q x y. (response_unique bytes h k r q x y).0;
  more = ReadsResponse-append;
  never = λ bytes h rest reads hopeless. hopeless [] h rest (subst (λ l. ReadsResponse l h rest) (sym (append-nil bytes)) reads);
  hopeless_more = λ bytes more never others. subst HasNoResponse (sym (append_assoc bytes more others)) (never (more ++ others));
  some = response_some;
  text = λ bytes h rest reads. reads.1;
}
