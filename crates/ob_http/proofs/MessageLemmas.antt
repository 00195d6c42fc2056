-- What stands at the front of bytes is one thing, and more bytes behind them do not change it.
use Rattle.std.proofs.Common.{lit<, ◌≡◌, ◌≢◌, ℕ, ◌+◌, ◌-◌, ◌<◌, ◌≤◌, Bool, true, false, cond, List, [], ◌++◌, length, take, drop, slice_range, Result, Ok, Err, refl, sym, ap, ◌∙◌, subst, arith, ⊎_elim, append-nil, take_all, length-append, length-drop, nat_le}
use Rattle.std.proofs.lemmas.Bool.{cond-true, le-leb, leb-true, cases_lt}
use Rattle.std.proofs.lemmas.List.{take-append-le, drop-append-le}
use Rattle.std.proofs.Math.Seq.{take-append-add, drop-append_seam}
use Rattle.std.specs.Prelude.{⊤}
use Rattle.ob_http.specs.declared.fault.FrameFault.{FrameFault}
use Rattle.ob_http.specs.declared.fault.FrameFault.TheVariants.{Head, HeadBig, Memory}
use Rattle.ob_http.specs.Message.{Front, whole, refused, unfinished, Opening, head, hopeless, long, short, head_limit, field_limit, looked_at, HasNone, MayHave, OpensBy, Shape, fields_by, length_by, with_body, front_behind, StandsBy}
use Rattle.ob_http.proofs.FieldLemmas.{length_never_memory}

-- a longer text begins alike
take_more_bytes : (n : ℕ) (xs ys : List ℕ) → (m : List ℕ) × (take n (xs ++ ys) ≡ take n xs ++ m)
take_more_bytes n xs ys =
    ⊎_elim
    (λ inside. ([], take-append-le n xs ys (omega arith) ∙ sym (append-nil (take n xs))))
    (λ past.
    let k = n - length xs in
    let sum : length xs + k ≡ n = omega arith in
    (take k ys, ap (λ j. take j (xs ++ ys)) (sym sum) ∙ take-append-add xs ys k ∙ ap (λ l. l ++ take k ys) (sym (take_all n xs past))))
    (cases_lt n (length xs))

-- what is looked at stays, and more may follow it
pub looked_at_more : (bytes more : List ℕ) → (m : List ℕ) × (looked_at (bytes ++ more) ≡ looked_at bytes ++ m)
looked_at_more bytes more = take_more_bytes head_limit bytes more

looked_at_full : (bytes more : List ℕ) → head_limit ≤ length bytes → looked_at (bytes ++ more) ≡ looked_at bytes
looked_at_full bytes more full = take-append-le head_limit bytes more full

pub slice_stays : (bytes more : List ℕ) (i j : ℕ) → j ≤ length bytes → i ≤ j
    → slice_range (bytes ++ more) i j ≡ slice_range bytes i j
slice_stays bytes more i j inside ordered =
    ap (take (j - i)) (drop-append-le i bytes more (omega arith))
    ∙ take-append-le (j - i) (drop i bytes) more (omega (arith, length-drop i bytes))

take_behind : (n : ℕ) (xs ys : List ℕ) → length xs ≤ n → (r : List ℕ) × (take n (xs ++ ys) ≡ xs ++ r)
take_behind n xs ys small =
    let k = n - length xs in
    let sum : length xs + k ≡ n = omega arith in
    (take k ys, ap (λ j. take j (xs ++ ys)) (sym sum) ∙ take-append-add xs ys k)

slice_behind : (xs ys : List ℕ) → slice_range (xs ++ ys) (length xs) (length xs + length ys) ≡ ys
slice_behind xs ys =
    let count : length xs + length ys - length xs ≡ length ys = omega arith in
    ap (λ k. take k (drop (length xs) (xs ++ ys))) count ∙ ap (take (length ys)) (drop-append_seam xs ys) ∙ take_all (length ys) ys (omega arith)

-- the answer that is final
abbrev pub IsFinal : {M : Type 0} → Front M → Type 0
IsFinal (whole m len) = ⊤
IsFinal (refused fault) = ⊤
IsFinal unfinished = ⊥

-- what a grammar of heads and its hopeless bytes keep to
pub record IsGrammar {H : Type 0} (Reads : List ℕ → H → List ℕ → Type 0) (IsHopeless : List ℕ → Type 0) (print : H → List ℕ) : Type 0 where
  pub one : (bytes : List ℕ) (h k : H) (r q : List ℕ) → Reads bytes h r → Reads bytes k q → h ≡ k
  pub more : (bytes : List ℕ) (h : H) (rest others : List ℕ) → Reads bytes h rest → Reads (bytes ++ others) h (rest ++ others)
  pub never : (bytes : List ℕ) (h : H) (rest : List ℕ) → Reads bytes h rest → ¬ (IsHopeless bytes)
  pub hopeless_more : (bytes others : List ℕ) → IsHopeless bytes → IsHopeless (bytes ++ others)
  pub some : (h : H) → 0 < length (print h)
  pub text : (bytes : List ℕ) (h : H) (rest : List ℕ) → Reads bytes h rest → bytes ≡ print h ++ rest

module _ {H M : Type 0} (Reads : List ℕ → H → List ℕ → Type 0) (IsHopeless : List ℕ → Type 0) (shape : Shape H M) (law : IsGrammar Reads IsHopeless shape.print) where
  abbrev Opens : List ℕ → Opening H → Type 0
  Opens bytes o = OpensBy Reads IsHopeless bytes o

  abbrev Stands : List ℕ → Front M → Type 0
  Stands bytes f = StandsBy Reads IsHopeless shape bytes f

  opening_unique : (bytes : List ℕ) (a b : Opening H) → Opens bytes a → Opens bytes b → a ≡ b
  opening_unique bytes (head h) (head k) (r, x) (q, y) = ap head (law.one _ h k r q x y)
  opening_unique bytes (head h) hopeless (r, x) y = absurd (law.never _ h r x y)
  opening_unique bytes (head h) long (r, x) y = absurd (y.0.0 h r x)
  opening_unique bytes (head h) short (r, x) y = absurd (y.0.0 h r x)
  opening_unique bytes hopeless (head k) x (q, y) = absurd (law.never _ k q y x)
  opening_unique bytes hopeless hopeless x y = refl
  opening_unique bytes hopeless long x y = absurd (y.0.1 x)
  opening_unique bytes hopeless short x y = absurd (y.0.1 x)
  opening_unique bytes long (head k) x (q, y) = absurd (x.0.0 k q y)
  opening_unique bytes long hopeless x y = absurd (x.0.1 y)
  opening_unique bytes long long x y = refl
  opening_unique bytes long short x y = absurd (omega (arith, x.1, y.1))
  opening_unique bytes short (head k) x (q, y) = absurd (x.0.0 k q y)
  opening_unique bytes short hopeless x y = absurd (x.0.1 y)
  opening_unique bytes short long x y = absurd (omega (arith, x.1, y.1))
  opening_unique bytes short short x y = refl

  -- at most one thing stands at the front
  pub front_unique : (bytes : List ℕ) (a b : Front M) → Stands bytes a → Stands bytes b → a ≡ b
  front_unique bytes a b (o, x, to_a) (p, y, to_b) =
      sym to_a ∙ ap (front_behind shape bytes) (opening_unique bytes o p x y) ∙ to_b

  pub opening_stays : (bytes more : List ℕ) (o : Opening H) → Opens bytes o → o ≢ short → Opens (bytes ++ more) o
  opening_stays bytes more (head h) (rest, reads) final =
      let (m, same) = looked_at_more bytes more in
      (rest ++ m, subst (λ l. Reads l h (rest ++ m)) (sym same) (law.more (looked_at bytes) h rest m reads))
  opening_stays bytes more hopeless never final =
      let (m, same) = looked_at_more bytes more in
      subst IsHopeless (sym same) (law.hopeless_more (looked_at bytes) m never)
  opening_stays bytes more long (here, full) final =
      (subst (MayHave Reads IsHopeless) (sym (looked_at_full bytes more full)) here, omega (arith, length-append bytes more))
  opening_stays bytes more short here final = absurd (final refl)

  body_stays : (bytes more : List ℕ) (h : H) (r : Result ℕ FrameFault) → IsFinal (with_body shape bytes h r)
      → with_body shape (bytes ++ more) h r ≡ with_body shape bytes h r
  body_stays bytes more h (Err fault) final = refl
  body_stays bytes more h (Ok n) final =
      by_room (nat_le (length (shape.print h) + n) (length bytes)) refl final
    where
      by_room : (t : Bool) → nat_le (length (shape.print h) + n) (length bytes) ≡ t
          → IsFinal (cond t (whole (shape.message h (slice_range bytes (length (shape.print h)) (length (shape.print h) + n))) (length (shape.print h) + n)) unfinished)
          → with_body shape (bytes ++ more) h (Ok n) ≡ with_body shape bytes h (Ok n)
      by_room false short_body bad = absurd bad
      by_room true fits good =
          let room = leb-true (length (shape.print h) + n) (length bytes) fits in
          let still : nat_le (length (shape.print h) + n) (length (bytes ++ more)) ≡ true =
          le-leb _ _ (omega (arith, length-append bytes more)) in
          let body = slice_stays bytes more (length (shape.print h)) (length (shape.print h) + n) room (omega arith) in
          rw (still, fits) (ap (λ l. whole (shape.message h l) (length (shape.print h) + n)) body)

  not_short : (bytes : List ℕ) (o : Opening H) → IsFinal (front_behind shape bytes o) → o ≢ short
  not_short bytes o final same = subst (λ p. IsFinal (front_behind shape bytes p)) same final

  behind_stays : (bytes more : List ℕ) (o : Opening H) → IsFinal (front_behind shape bytes o)
      → front_behind shape (bytes ++ more) o ≡ front_behind shape bytes o
  behind_stays bytes more (head h) final = by_count (nat_le (length (shape.lines h)) field_limit) refl final
    where
      by_count : (t : Bool) → nat_le (length (shape.lines h)) field_limit ≡ t
          → IsFinal (cond t (with_body shape bytes h (length_by shape h)) (refused Head))
          → front_behind shape (bytes ++ more) (head h) ≡ front_behind shape bytes (head h)
      by_count true few good = rw few (body_stays bytes more h (length_by shape h) good)
      by_count false many good = rw many refl
  behind_stays bytes more hopeless final = refl
  behind_stays bytes more long final = refl
  behind_stays bytes more short final = refl

  -- what is whole or refused stays so, whatever bytes follow
  pub front_stays : (bytes more : List ℕ) (f : Front M) → IsFinal f → Stands bytes f → Stands (bytes ++ more) f
  front_stays bytes more f final (o, opens, is) =
      let told : IsFinal (front_behind shape bytes o) = subst IsFinal (sym is) final in
      (o, opening_stays bytes more o opens (not_short bytes o told), behind_stays bytes more o told ∙ is)

  -- something stands at the front
  pub front_there : (bytes : List ℕ) → ¬ ((f : Front M) → ¬ (Stands bytes f))
  front_there bytes none =
      let may : MayHave Reads IsHopeless (looked_at bytes) = (
        (λ h rest reads. none (front_behind shape bytes (head h)) (head h, (rest, reads), refl)),
        (λ never. none (refused Head) (hopeless, never, refl)),
      ) in
      ⊎_elim
      (λ few. none unfinished (short, (may, few), refl))
      (λ full. none (refused HeadBig) (long, (may, full), refl))
      (cases_lt (length bytes) head_limit)

  -- ---- a whole message has bytes, and lies in those that are there

  abbrev Fits : List ℕ → ℕ → Type 0
  Fits bytes len = (0 < len) × (len ≤ length bytes)

  body_fits : (bytes : List ℕ) (h : H) (m : M) (len : ℕ) (b : Result ℕ FrameFault) → with_body shape bytes h b ≡ whole m len → Fits bytes len
  body_fits bytes h m len (Err f) same = absurd (cc)
  body_fits bytes h m len (Ok n) same =
      by_room (nat_le (length (shape.print h) + n) (length bytes)) (shape.message h (slice_range bytes (length (shape.print h)) (length (shape.print h) + n)))
      (leb-true (length (shape.print h) + n) (length bytes)) same
    where
      by_room : (t : Bool) (q : M) → (t ≡ true → length (shape.print h) + n ≤ length bytes)
          → cond t (whole q (length (shape.print h) + n)) unfinished ≡ whole m len → Fits bytes len
      by_room true q room there =
          let same_len : length (shape.print h) + n ≡ len = cc in
          (omega (arith, law.some h, same_len), omega (arith, room refl, same_len))
      by_room false q room there = absurd (cc)

  count_fits : (bytes : List ℕ) (m : M) (len : ℕ) (t : Bool) (f : Front M) → (f ≡ whole m len → Fits bytes len)
      → cond t f (refused Head) ≡ whole m len → Fits bytes len
  count_fits bytes m len true f fits same = fits same
  count_fits bytes m len false f fits same = absurd (cc)

  pub whole_fits : (bytes : List ℕ) (m : M) (len : ℕ) → Stands bytes (whole m len) → (0 < len) × (len ≤ length bytes)
  whole_fits bytes m len (head h, opens, is) =
      count_fits bytes m len (nat_le (length (shape.lines h)) field_limit) (with_body shape bytes h (length_by shape h)) (body_fits bytes h m len (length_by shape h)) is
  whole_fits bytes m len (hopeless, opens, is) = absurd (cc)
  whole_fits bytes m len (long, opens, is) = absurd (cc)
  whole_fits bytes m len (short, opens, is) = absurd (cc)

  -- ---- the message and the faults that a head may have

  body_message : (bytes : List ℕ) (h : H) (m : M) (len : ℕ) (b : Result ℕ FrameFault) → with_body shape bytes h b ≡ whole m len
      → (body : List ℕ) × (m ≡ shape.message h body)
  body_message bytes h m len (Err f) same = absurd (cc)
  body_message bytes h m len (Ok n) same =
      by_room (nat_le (length (shape.print h) + n) (length bytes)) (slice_range bytes (length (shape.print h)) (length (shape.print h) + n)) same
    where
      by_room : (t : Bool) (body : List ℕ) → cond t (whole (shape.message h body) (length (shape.print h) + n)) unfinished ≡ whole m len
          → (b : List ℕ) × (m ≡ shape.message h b)
      by_room true body there = (body, let same_message : shape.message h body ≡ m = cc in sym same_message)
      by_room false body there = absurd (cc)

  count_message : (h : H) (m : M) (len : ℕ) (t : Bool) (f : Front M) → (f ≡ whole m len → (body : List ℕ) × (m ≡ shape.message h body))
      → cond t f (refused Head) ≡ whole m len → (body : List ℕ) × (m ≡ shape.message h body)
  count_message h m len true f told same = told same
  count_message h m len false f told same = absurd (cc)

  -- a whole message is that of the head at the front
  pub whole_message : (bytes : List ℕ) (m : M) (len : ℕ) → Stands bytes (whole m len)
      → (h : H) × ((rest : List ℕ) × Reads (looked_at bytes) h rest) × (body : List ℕ) × (m ≡ shape.message h body)
  whole_message bytes m len (head h, opens, is) =
      let told = count_message h m len (nat_le (length (shape.lines h)) field_limit) (with_body shape bytes h (length_by shape h)) (body_message bytes h m len (length_by shape h)) is in
      (h, opens, told.0, told.1)
  whole_message bytes m len (hopeless, opens, is) = absurd (cc)
  whole_message bytes m len (long, opens, is) = absurd (cc)
  whole_message bytes m len (short, opens, is) = absurd (cc)

  room_fault : (bytes : List ℕ) (h : H) (n : ℕ) (t : Bool) (m : M) (fault : FrameFault) → cond t (whole m n) unfinished ≡ refused fault → fault ≢ Memory
  room_fault bytes h n true m fault same = absurd (cc)
  room_fault bytes h n false m fault same = absurd (cc)

  body_fault : (bytes : List ℕ) (h : H) (b : Result ℕ FrameFault) (fault : FrameFault) → b ≢ Err Memory → with_body shape bytes h b ≡ refused fault → fault ≢ Memory
  body_fault bytes h (Err f) fault other same = λ memory. other (let inner : f ≡ fault = cc in ap Err (inner ∙ memory))
  body_fault bytes h (Ok n) fault other same =
      room_fault bytes h (length (shape.print h) + n) (nat_le (length (shape.print h) + n) (length bytes)) (shape.message h (slice_range bytes (length (shape.print h)) (length (shape.print h) + n))) fault same

  count_fault : (t : Bool) (f : Front M) (fault : FrameFault) → (f ≡ refused fault → fault ≢ Memory) → cond t f (refused Head) ≡ refused fault → fault ≢ Memory
  count_fault true f fault other same = other same
  count_fault false f fault other same = λ memory. absurd (cc)

  -- no front is refused for want of memory
  pub never_memory : shape.absent ≢ Err Memory → (bytes : List ℕ) (fault : FrameFault) → Stands bytes (refused fault) → fault ≢ Memory
  never_memory absent bytes fault (head h, opens, is) =
      count_fault (nat_le (length (shape.lines h)) field_limit) (with_body shape bytes h (length_by shape h)) fault
      (body_fault bytes h (length_by shape h) fault (length_never_memory shape.absent shape.limit (fields_by shape h) absent)) is
  never_memory absent bytes fault (hopeless, opens, is) = λ memory. absurd (cc)
  never_memory absent bytes fault (long, opens, is) = λ memory. absurd (cc)
  never_memory absent bytes fault (short, opens, is) = absurd (cc)

  -- ---- a message that is written

  pub written_stands : (h : H) (body : List ℕ) → ((rest : List ℕ) → Reads (shape.print h ++ rest) h rest) → length (shape.print h) ≤ head_limit
      → length (shape.lines h) ≤ field_limit → length_by shape h ≡ Ok (length body)
      → Stands (shape.print h ++ body) (whole (shape.message h body) (length (shape.print h) + length body))
  written_stands h body reads small few told =
      let start = length (shape.print h) in
      let size = length-append (shape.print h) body in
      let (r, cut) = take_behind head_limit (shape.print h) body small in (
        head h,
        (r, subst (λ l. Reads l h r) (sym cut) (reads r)),
        cond-true _ _ _ (le-leb (length (shape.lines h)) field_limit few)
            ∙ ap (with_body shape (shape.print h ++ body) h) told
            ∙ cond-true _ _ _ (le-leb (start + length body) (length (shape.print h ++ body)) (omega (arith, size)))
            ∙ ap (λ b. whole (shape.message h b) (start + length body)) (slice_behind (shape.print h) body),
      )

  -- no bytes are no message, and may become one
  pub nothing_rests : (h : H) → Reads (shape.print h ++ []) h [] → Stands [] unfinished
  nothing_rests h reads =
      let none : HasNone Reads [] = λ k rest there.
      omega (arith, law.some k, ap (λ (l : List ℕ). length l) (law.text [] k rest there), length-append (shape.print k) rest) in
      let hope : ¬ (IsHopeless []) = λ never. law.never (shape.print h ++ []) h [] reads (law.hopeless_more [] (shape.print h ++ []) never) in
      (short, (subst (MayHave Reads IsHopeless) (sym (take_all 8192 [] (omega arith))) (none, hope), lit< tt), refl)
