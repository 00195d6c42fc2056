-- The parts that are read are those of the grammar, and the parts of the grammar are read.
use Rattle.std.proofs.Common.{◌≡◌, ℕ, ◌^◌, ◌<◌, ◌≤◌, ◌⊎◌, inl, inr, false, eqb, ltb, List, [], ◌∷◌, ◌++◌, length, take, drop, codes, decimal, Option, Some, None, option_map, unwrap_or, refl, sym, ap, subst, ◌∙◌, append_assoc, arith, length-append, length-take}
use Rattle.std.specs.Prelude.{IfSome}
use Rattle.std.proofs.lemmas.Bool.{ltb-false, le-ltb}
use Rattle.std.proofs.lemmas.Bool.Decides.{nat_tests}
use Rattle.std.proofs.lemmas.Fmt.{decimal_nonempty, digits_decimal}
use Rattle.std.proofs.lemmas.List.{take-append-drop, take_at, drop_at}
use Rattle.std.proofs.lemmas.Option.{some_pair_parts}
use Rattle.ob_spelling.specs.Numeral.{AreDigits}
use Rattle.ob_spelling.proofs.NumeralLemmas.{decimal_numerals}
use Rattle.ob_values.specs.declared.verb.Verb.{Verb}
use Rattle.ob_values.specs.declared.verb.Verb.TheVariants.{Get, Put, Post}
use Rattle.ob_record.specs.Parts.{Parts, verb_word, number_word, size_word, parts_text, open_text, AreSmall}
use Rattle.ob_record.specs.Reading.{◌>>=◌, after, number_at, or_else, with_rest, verb_at, size_at, bytes_at, reply_at, behind_line, open_at, parts_at}
use Rattle.ob_record.proofs.Words.{bind_some, skipped, after_found, number_found, number_again}

-- ---- verbs

or_some : {A : Type 0} (a b : Option A) (y : A) → or_else a b ≡ Some y → (a ≡ Some y) ⊎ (b ≡ Some y)
or_some (Some x) b y e = inl e
or_some None b y e = inr e

rest_some : {A : Type 0} (x y : A) (o : Option (List ℕ)) (rest : List ℕ) → with_rest x o ≡ Some (y, rest) → (x ≡ y) × (o ≡ Some rest)
rest_some x y None rest e = absurd cc
rest_some x y (Some r) rest e = (let parts = some_pair_parts x y r rest e in (parts.0, ap Some parts.1))

one_verb : (given v : Verb) (bytes rest : List ℕ) → with_rest given (after (verb_word given) bytes) ≡ Some (v, rest) → bytes ≡ verb_word v ++ rest
one_verb given v bytes rest e =
    let r = rest_some given v (after (verb_word given) bytes) rest e in
    after_found (verb_word given) bytes rest r.1 ∙ ap (λ (w : Verb). verb_word w ++ rest) r.0

verb_found : (bytes : List ℕ) (v : Verb) (rest : List ℕ) → verb_at bytes ≡ Some (v, rest) → bytes ≡ verb_word v ++ rest
unfolding verb_at
verb_found bytes v rest e =
    elim (or_some (with_rest Get (after (codes "GET ") bytes)) (or_else (with_rest Put (after (codes "PUT ") bytes)) (with_rest Post (after (codes "POST ") bytes))) (v, rest) e) [
      | inl get ↦ one_verb Get v bytes rest get
      | inr other ↦ elim (or_some (with_rest Put (after (codes "PUT ") bytes)) (with_rest Post (after (codes "POST ") bytes)) (v, rest) other) [
        | inl put ↦ one_verb Put v bytes rest put
        | inr post ↦ one_verb Post v bytes rest post
      ]
    ]

verb_again : (v : Verb) (rest : List ℕ) → verb_at (verb_word v ++ rest) ≡ Some (v, rest)
unfolding verb_at
verb_again Get rest = refl
verb_again Put rest = refl
verb_again Post rest = refl

-- ---- the size of a reply

abbrev IsSmallSize : Option ℕ → Type 0
IsSmallSize size = IfSome size (λ n. n < 2 ^ 63)

no_dash : (ds rest : List ℕ) → AreDigits ds → 0 < length ds → after (codes "-\n") (ds ++ rest) ≡ None
no_dash [] rest digits some = absurd (omega arith)
no_dash (d ∷ ds) rest digits some = (let other : eqb 45 d ≡ false = (let low = digits.0.0 in grind (arith, nat_tests)) in rw other refl)

size_found : (bytes : List ℕ) (size : Option ℕ) (rest : List ℕ) → size_at bytes ≡ Some (size, rest) → IsSmallSize size × (bytes ≡ size_word size ++ rest)
unfolding size_at
size_found bytes size rest e =
    elim (or_some (with_rest None (after (codes "-\n") bytes)) (number_at 10 bytes >>= λ (n : ℕ × List ℕ). Some (Some n.0, n.1)) (size, rest) e) [
      | inl dash ↦
          let r = rest_some None size (after (codes "-\n") bytes) rest dash in
          subst (λ (s : Option ℕ). IsSmallSize s × (bytes ≡ size_word s ++ rest)) r.0 (tt, after_found (codes "-\n") bytes rest r.1)
      | inr number ↦
          let b = bind_some (number_at 10 bytes) (λ (n : ℕ × List ℕ). Some (Some n.0, n.1)) (size, rest) number in
          let parts = some_pair_parts (Some b.0.0) size b.0.1 rest b.2 in
          let found = number_found 10 bytes b.0.0 b.0.1 b.1 in
          subst (λ (s : Option ℕ). IsSmallSize s × (bytes ≡ size_word s ++ rest)) parts.0 (found.0, found.1 ∙ ap (λ (l : List ℕ). number_word b.0.0 10 ++ l) parts.1)
    ]

size_again : (size : Option ℕ) (rest : List ℕ) → IsSmallSize size → size_at (size_word size ++ rest) ≡ Some (size, rest)
unfolding size_at
size_again None rest small = refl
size_again (Some n) rest small =
    let dash : after (codes "-\n") (number_word n 10 ++ rest) ≡ None =
    ap (after (codes "-\n")) (append_assoc (decimal n) (10 ∷ []) rest)
    ∙ no_dash (decimal n) (10 ∷ rest) (digits_decimal decimal_numerals n (omega arith)) (decimal_nonempty n (omega arith)) in
    rw (dash, number_again 10 n rest refl small) refl

-- ---- bytes

bytes_found : (len : ℕ) (bytes xs rest : List ℕ) → bytes_at len bytes ≡ Some (xs, rest) → (length xs ≡ len) × (bytes ≡ xs ++ rest)
bytes_found len bytes xs rest e =
    let s = skipped (ltb (length bytes) len) (Some (take len bytes, drop len bytes)) (xs, rest) e in
    let parts = some_pair_parts (take len bytes) xs (drop len bytes) rest s.1 in
    let long : len ≤ length bytes = ltb-false _ _ s.0 in
    (rw (← parts.0) (omega (arith, length-take len bytes)), rw (← parts.0, ← parts.1) (sym (take-append-drop len bytes)))

bytes_again : (xs rest : List ℕ) → bytes_at (length xs) (xs ++ rest) ≡ Some (xs, rest)
bytes_again xs rest =
    let long : ltb (length (xs ++ rest)) (length xs) ≡ false = le-ltb _ _ (omega (arith, length-append xs rest)) in
    rw (long, take_at xs rest (length xs) refl, drop_at xs rest (length xs) refl) refl

reply_found : (size : Option ℕ) (bytes : List ℕ) (reply : Option (List ℕ)) (rest : List ℕ) → reply_at size bytes ≡ Some (reply, rest)
    → (option_map length reply ≡ size) × (bytes ≡ unwrap_or reply [] ++ rest)
unfolding reply_at
reply_found None bytes reply rest e =
    let parts = some_pair_parts None reply bytes rest e in
    subst (λ (r : Option (List ℕ)). (option_map length r ≡ None) × (bytes ≡ unwrap_or r [] ++ rest)) parts.0 (refl, parts.1)
reply_found (Some len) bytes reply rest e =
    let b = bind_some (bytes_at len bytes) (λ (r : List ℕ × List ℕ). Some (Some r.0, r.1)) (reply, rest) e in
    let parts = some_pair_parts (Some b.0.0) reply b.0.1 rest b.2 in
    let found = bytes_found len bytes b.0.0 b.0.1 b.1 in
    subst (λ (r : Option (List ℕ)). (option_map length r ≡ Some len) × (bytes ≡ unwrap_or r [] ++ rest)) parts.0
    (ap Some found.0, found.1 ∙ ap (λ (l : List ℕ). b.0.0 ++ l) parts.1)

reply_again : (reply : Option (List ℕ)) (rest : List ℕ) → reply_at (option_map length reply) (unwrap_or reply [] ++ rest) ≡ Some (reply, rest)
unfolding reply_at
reply_again None rest = refl
reply_again (Some reply) rest = rw (bytes_again reply rest) refl

-- ---- an entry

-- nine texts, one behind the other
regroup : (a b c d e f g h z rest : List ℕ) → (a ++ (b ++ (c ++ (d ++ (e ++ (f ++ (g ++ (h ++ z)))))))) ++ rest
    ≡ a ++ (b ++ (c ++ (d ++ (e ++ (f ++ (g ++ (h ++ (z ++ rest))))))))
regroup a b c d e f g h z rest = simp append_assoc refl

-- eight
regroup_open : (a b c d e f g h rest : List ℕ) → (a ++ (b ++ (c ++ (d ++ (e ++ (f ++ (g ++ h))))))) ++ rest ≡ a ++ (b ++ (c ++ (d ++ (e ++ (f ++ (g ++ (h ++ rest)))))))
regroup_open a b c d e f g h rest = simp append_assoc refl

-- the text of an entry is the one without the last line feed, and that line feed
pub parts_closed : (p : Parts) (rest : List ℕ) → parts_text p ++ rest ≡ open_text p ++ (10 ∷ rest)
parts_closed p rest =
    regroup (number_word p.moment 32) (verb_word p.verb) (number_word (length p.target) 32) (number_word (length p.body) 32)
    (size_word (option_map length p.reply)) p.target p.body (unwrap_or p.reply []) (10 ∷ []) rest
    ∙ sym (regroup_open (number_word p.moment 32) (verb_word p.verb) (number_word (length p.target) 32) (number_word (length p.body) 32)
    (size_word (option_map length p.reply)) p.target p.body (unwrap_or p.reply []) (10 ∷ rest))

small_sizes : (reply : Option (List ℕ)) → IfSome reply (λ r. length r < 2 ^ 63) → IsSmallSize (option_map length reply)
small_sizes None small = tt
small_sizes (Some r) small = small

small_reply : (reply : Option (List ℕ)) (size : Option ℕ) → option_map length reply ≡ size → IsSmallSize size → IfSome reply (λ r. length r < 2 ^ 63)
small_reply None size is small = tt
small_reply (Some r) size is small = subst IsSmallSize (sym is) small

pub open_again : (p : Parts) (rest : List ℕ) → AreSmall p → open_at (open_text p ++ rest) ≡ Some (p, rest)
unfolding open_at
open_again p rest small =
    let reply = unwrap_or p.reply [] ++ rest in
    let body = p.body ++ reply in
    let target = p.target ++ body in
    let size = size_word (option_map length p.reply) ++ target in
    let body_len = number_word (length p.body) 32 ++ size in
    let target_len = number_word (length p.target) 32 ++ body_len in
    let verb = verb_word p.verb ++ target_len in
    ap open_at (regroup_open (number_word p.moment 32) (verb_word p.verb) (number_word (length p.target) 32) (number_word (length p.body) 32)
    (size_word (option_map length p.reply)) p.target p.body (unwrap_or p.reply []) rest)
    ∙ rw (
      number_again 32 p.moment verb refl small.moment,
      verb_again p.verb target_len,
      number_again 32 (length p.target) body_len refl small.target,
      number_again 32 (length p.body) size refl small.body,
      size_again (option_map length p.reply) target (small_sizes p.reply small.reply),
      bytes_again p.target body,
      bytes_again p.body reply,
      reply_again p.reply rest,
    ) refl

pub parts_again : (p : Parts) (rest : List ℕ) → AreSmall p → parts_at (parts_text p ++ rest) ≡ Some (p, rest)
unfolding parts_at
parts_again p rest small = ap parts_at (parts_closed p rest) ∙ rw (open_again p (10 ∷ rest) small) refl

-- what stands behind the line is found
pub record FindsBehind (moment : ℕ) (verb : Verb) (target_len body_len : ℕ) (size : Option ℕ) (bytes : List ℕ) (p : Parts) (rest : List ℕ) : Type 0 where
  pub moment_is : p.moment ≡ moment
  pub verb_is : p.verb ≡ verb
  pub target : length p.target ≡ target_len
  pub body : length p.body ≡ body_len
  pub reply : option_map length p.reply ≡ size
  pub text : bytes ≡ p.target ++ (p.body ++ (unwrap_or p.reply [] ++ rest))

behind_line_found : (moment : ℕ) (verb : Verb) (target_len body_len : ℕ) (size : Option ℕ) (bytes : List ℕ) (p : Parts) (rest : List ℕ)
    → behind_line moment verb target_len body_len size bytes ≡ Some (p, rest) → FindsBehind moment verb target_len body_len size bytes p rest
behind_line_found moment verb target_len body_len size bytes p rest e =
    let made : List ℕ → List ℕ → Option (List ℕ) → Parts = λ t b r. record { moment = moment; verb = verb; target = t; body = b; reply = r } in
    let t = bind_some (bytes_at target_len bytes) (λ (target : List ℕ × List ℕ). bytes_at body_len target.1 >>= λ (body : List ℕ × List ℕ). reply_at size body.1
    >>= λ (reply : Option (List ℕ) × List ℕ). Some (made target.0 body.0 reply.0, reply.1)) (p, rest) e in
    let b = bind_some (bytes_at body_len t.0.1) (λ (body : List ℕ × List ℕ). reply_at size body.1
    >>= λ (reply : Option (List ℕ) × List ℕ). Some (made t.0.0 body.0 reply.0, reply.1)) (p, rest) t.2 in
    let r = bind_some (reply_at size b.0.1) (λ (reply : Option (List ℕ) × List ℕ). Some (made t.0.0 b.0.0 reply.0, reply.1)) (p, rest) b.2 in
    let parts = some_pair_parts (made t.0.0 b.0.0 r.0.0) p r.0.1 rest r.2 in
    let target = bytes_found target_len bytes t.0.0 t.0.1 t.1 in
    let body = bytes_found body_len t.0.1 b.0.0 b.0.1 b.1 in
    let reply = reply_found size b.0.1 r.0.0 r.0.1 r.1 in
    subst (λ (q : Parts). FindsBehind moment verb target_len body_len size bytes q rest) parts.0 (record {
      moment_is = refl;
      verb_is = refl;
      target = target.0;
      body = body.0;
      reply = reply.0;
      text = target.1 ∙ ap (λ (x : List ℕ). t.0.0 ++ x) (body.1 ∙ ap (λ (x : List ℕ). b.0.0 ++ x) (reply.1
          ∙ ap (λ (x : List ℕ). unwrap_or r.0.0 [] ++ x) parts.1));
    })

-- a line of these sizes, and what follows
abbrev pub with_line : ℕ → Verb → ℕ → ℕ → Option ℕ → List ℕ → List ℕ
with_line moment verb target body size tail =
    number_word moment 32 ++ (verb_word verb ++ (number_word target 32 ++ (number_word body 32 ++ (size_word size ++ tail))))

abbrev pub behind_text : Parts → List ℕ → List ℕ
behind_text p rest = p.target ++ (p.body ++ (unwrap_or p.reply [] ++ rest))

lined : (bytes : List ℕ) (moment : ℕ) (b1 : List ℕ) (verb : Verb) (b2 : List ℕ) (target : ℕ) (b3 : List ℕ) (body : ℕ) (b4 : List ℕ) (size : Option ℕ) (b5 tail : List ℕ)
    → bytes ≡ number_word moment 32 ++ b1 → b1 ≡ verb_word verb ++ b2 → b2 ≡ number_word target 32 ++ b3 → b3 ≡ number_word body 32 ++ b4 → b4 ≡ size_word size ++ b5 → b5 ≡ tail
    → bytes ≡ with_line moment verb target body size tail
lined bytes moment b1 verb b2 target b3 body b4 size b5 tail e1 e2 e3 e4 e5 e6 =
    e1 ∙ ap (λ (x : List ℕ). number_word moment 32 ++ x) (e2 ∙ ap (λ (x : List ℕ). verb_word verb ++ x) (e3 ∙ ap (λ (x : List ℕ). number_word target 32 ++ x)
    (e4 ∙ ap (λ (x : List ℕ). number_word body 32 ++ x) (e5 ∙ ap (λ (x : List ℕ). size_word size ++ x) e6))))

sizes_are : (p : Parts) (moment : ℕ) (verb : Verb) (target body : ℕ) (size : Option ℕ) (tail : List ℕ)
    → p.moment ≡ moment → p.verb ≡ verb → length p.target ≡ target → length p.body ≡ body → option_map length p.reply ≡ size
    → with_line moment verb target body size tail ≡ with_line p.moment p.verb (length p.target) (length p.body) (option_map length p.reply) tail
sizes_are p moment verb target body size tail e1 e2 e3 e4 e5 =
    λ i. with_line (sym e1 i) (sym e2 i) (sym e3 i) (sym e4 i) (sym e5 i) tail

pub open_found : (bytes : List ℕ) (p : Parts) (rest : List ℕ) → open_at bytes ≡ Some (p, rest) → AreSmall p × (bytes ≡ open_text p ++ rest)
unfolding open_at
open_found bytes p rest e =
    let m = bind_some (number_at 32 bytes) (λ (moment : ℕ × List ℕ). verb_at moment.1 >>= λ (verb : Verb × List ℕ). number_at 32 verb.1
    >>= λ (target : ℕ × List ℕ). number_at 32 target.1 >>= λ (body : ℕ × List ℕ). size_at body.1
    >>= λ (size : Option ℕ × List ℕ). behind_line moment.0 verb.0 target.0 body.0 size.0 size.1) (p, rest) e in
    let v = bind_some (verb_at m.0.1) (λ (verb : Verb × List ℕ). number_at 32 verb.1
    >>= λ (target : ℕ × List ℕ). number_at 32 target.1 >>= λ (body : ℕ × List ℕ). size_at body.1
    >>= λ (size : Option ℕ × List ℕ). behind_line m.0.0 verb.0 target.0 body.0 size.0 size.1) (p, rest) m.2 in
    let t = bind_some (number_at 32 v.0.1) (λ (target : ℕ × List ℕ). number_at 32 target.1 >>= λ (body : ℕ × List ℕ). size_at body.1
    >>= λ (size : Option ℕ × List ℕ). behind_line m.0.0 v.0.0 target.0 body.0 size.0 size.1) (p, rest) v.2 in
    let b = bind_some (number_at 32 t.0.1) (λ (body : ℕ × List ℕ). size_at body.1
    >>= λ (size : Option ℕ × List ℕ). behind_line m.0.0 v.0.0 t.0.0 body.0 size.0 size.1) (p, rest) t.2 in
    let s = bind_some (size_at b.0.1) (λ (size : Option ℕ × List ℕ). behind_line m.0.0 v.0.0 t.0.0 b.0.0 size.0 size.1) (p, rest) b.2 in
    let moment = number_found 32 bytes m.0.0 m.0.1 m.1 in
    let verb = verb_found m.0.1 v.0.0 v.0.1 v.1 in
    let target = number_found 32 v.0.1 t.0.0 t.0.1 t.1 in
    let body = number_found 32 t.0.1 b.0.0 b.0.1 b.1 in
    let size = size_found b.0.1 s.0.0 s.0.1 s.1 in
    let last = behind_line_found m.0.0 v.0.0 t.0.0 b.0.0 s.0.0 s.0.1 p rest s.2 in (
      record {
        moment = rw last.moment_is moment.0;
        target = rw last.target target.0;
        body = rw last.body body.0;
        reply = small_reply p.reply s.0.0 last.reply size.0;
      },
      lined bytes m.0.0 m.0.1 v.0.0 v.0.1 t.0.0 t.0.1 b.0.0 b.0.1 s.0.0 s.0.1 (behind_text p rest) moment.1 verb target.1 body.1 size.1 last.text
          ∙ sizes_are p m.0.0 v.0.0 t.0.0 b.0.0 s.0.0 (behind_text p rest) last.moment_is last.verb_is last.target last.body last.reply
          ∙ sym (regroup_open (number_word p.moment 32) (verb_word p.verb) (number_word (length p.target) 32) (number_word (length p.body) 32)
          (size_word (option_map length p.reply)) p.target p.body (unwrap_or p.reply []) rest),
    )

pub parts_found : (bytes : List ℕ) (p : Parts) (rest : List ℕ) → parts_at bytes ≡ Some (p, rest) → AreSmall p × (bytes ≡ parts_text p ++ rest)
unfolding parts_at
parts_found bytes p rest e =
    let o = bind_some (open_at bytes) (λ (entry : Parts × List ℕ). after (10 ∷ []) entry.1 >>= λ (r : List ℕ). Some (entry.0, r)) (p, rest) e in
    let l = bind_some (after (10 ∷ []) o.0.1) (λ (r : List ℕ). Some (o.0.0, r)) (p, rest) o.2 in
    let parts = some_pair_parts o.0.0 p l.0 rest l.2 in
    let found = open_found bytes o.0.0 o.0.1 o.1 in
    let last = after_found (10 ∷ []) o.0.1 l.0 l.1 ∙ ap (λ (x : List ℕ). 10 ∷ x) parts.1 in
    subst (λ (q : Parts). AreSmall q × (bytes ≡ parts_text q ++ rest)) parts.0 (found.0, found.1 ∙ ap (λ (x : List ℕ). open_text o.0.0 ++ x) last ∙ sym (parts_closed o.0.0 rest))
