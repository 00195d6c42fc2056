-- Legal histories, and what others add to them.
use Rattle.std.proofs.Common.{◌≡◌, ℕ, ◌<◌, ◌≤◌, ◌==◌, ◌⊎◌, true, false, cond, nat_lt, List, [], ◌∷◌, ◌++◌, length, drop, refl, ap, sym, ◌∙◌, subst, arith, inl, inr, append_assoc, length-append}
use Rattle.std.proofs.lemmas.List.{append-nil, drop-append-le}
use Rattle.std.proofs.lemmas.List.Elements.{filter-append}
use Rattle.std.proofs.lemmas.Bool.Decides.{nat_tests}
use Rattle.ob_machine.specs.declared.call.Entry.{Entry}
use Rattle.ob_turn.specs.declared.known.Past.{Past}
use Rattle.ob_turn.specs.Callers.{times, own, Among, Strangers, calls_of, HasSeen}
use Rattle.ob_turn.specs.Turn.{AllSeen, longer}
use Rattle.ob_turn.proofs.Numbers.{weigh_append, bit, own_there, not_true}

module _ {Q P : Type 0} where
  pub strangers_snoc : (ns : List ℕ) (es : List (Entry Q P)) (e : Entry Q P) → Strangers ns es → times e.caller ns ≡ 0 → Strangers ns (es ++ e ∷ [])
  strangers_snoc ns [] e o n = (n, tt)
  strangers_snoc ns (x ∷ xs) e o n = (o.0, strangers_snoc ns xs e o.1 n)

  -- an entry of another is added
  pub seen_snoc : (ns : List ℕ) (seen log : List (Entry Q P)) (e : Entry Q P) → HasSeen ns seen log → times e.caller ns ≡ 0 → HasSeen ns seen (log ++ e ∷ [])
  seen_snoc ns seen log e h n = record {
    rest = h.rest ++ e ∷ [];
    is = sym (append_assoc seen h.rest (e ∷ [])) ∙ ap (λ l. l ++ e ∷ []) h.is;
    others = strangers_snoc ns h.rest e h.others n;
  }

  pub all_seen_snoc : (ns : List ℕ) (ps : List (Past Q P)) (log : List (Entry Q P)) (e : Entry Q P) → AllSeen ns ps log → times e.caller ns ≡ 0 → AllSeen ns ps (log ++ e ∷ [])
  all_seen_snoc ns [] log e a n = tt
  all_seen_snoc ns (p ∷ ps) log e a n = let m = a.0 e.caller in (a.0, seen_snoc p.numbers p.seen log e a.1 (omega arith), all_seen_snoc ns ps log e a.2 n)

  pub strangers_none : (es : List (Entry Q P)) → Strangers [] es
  strangers_none [] = tt
  strangers_none (e ∷ es) = (refl, strangers_none es)

  pub strangers_among : (ns ms : List ℕ) (es : List (Entry Q P)) → Among ms ns → Strangers ns es → Strangers ms es
  strangers_among ns ms [] a o = tt
  strangers_among ns ms (e ∷ es) a o = let m = a e.caller in let n = o.0 in (omega arith, strangers_among ns ms es a o.1)

  pub strangers_both : (ns ms : List ℕ) (es : List (Entry Q P)) → Strangers ns es → Strangers ms es → Strangers (ns ++ ms) es
  strangers_both ns ms [] a b = tt
  strangers_both ns ms (e ∷ es) a b = let m = weigh_append (bit e.caller) ns ms in let p = a.0 in let q = b.0 in (omega arith, strangers_both ns ms es a.1 b.1)

  strangers_right : (ns : List ℕ) (xs ys : List (Entry Q P)) → Strangers ns (xs ++ ys) → Strangers ns ys
  strangers_right ns [] ys o = o
  strangers_right ns (x ∷ xs) ys o = strangers_right ns xs ys o.1

  strangers_left : (ns : List ℕ) (xs ys : List (Entry Q P)) → Strangers ns (xs ++ ys) → Strangers ns xs
  strangers_left ns [] ys o = tt
  strangers_left ns (x ∷ xs) ys o = (o.0, strangers_left ns xs ys o.1)

  -- of two beginnings of one list the shorter begins the longer
  aligned : (a x b y : List (Entry Q P)) → a ++ x ≡ b ++ y → length a ≤ length b → (m : List (Entry Q P)) × (a ++ m ≡ b) × (x ≡ m ++ y)
  aligned [] x b y e le = (b, refl, e)
  aligned (p ∷ a) x [] y e le = absurd (omega arith)
  aligned (p ∷ a) x (q ∷ b) y e le = let heads : p ≡ q = cc e in let r = aligned a x b y (cc e) (omega arith) in (r.0, cc (heads, r.1), r.2)

  -- what was seen of the whole was seen of a longer beginning
  pub seen_within : (ns : List ℕ) (a b rest log : List (Entry Q P)) → HasSeen ns a log → b ++ rest ≡ log → length a ≤ length b → HasSeen ns a b
  seen_within ns a b rest log h is le = let r = aligned a h.rest b rest (h.is ∙ sym is) le in record { rest = r.0; is = r.1; others = strangers_left ns r.0 rest (subst (Strangers ns) r.2 h.others) }

  -- who has seen less has no entries past what is seen more
  seen_beyond : (ns ms : List ℕ) (a b log : List (Entry Q P)) → HasSeen ns a log → HasSeen ms b log → length a ≤ length b → HasSeen (ns ++ ms) b log
  seen_beyond ns ms a b log h k le = let r = aligned a h.rest b k.rest (h.is ∙ sym k.is) le in record { rest = k.rest; is = k.is; others = strangers_both ns ms k.rest (strangers_right ns r.0 k.rest (subst (Strangers ns) r.2 h.others)) k.others }

  swapped : (ns ms : List ℕ) (b log : List (Entry Q P)) → HasSeen (ms ++ ns) b log → HasSeen (ns ++ ms) b log
  swapped ns ms b log h = record { rest = h.rest; is = h.is; others = strangers_among (ms ++ ns) (ns ++ ms) h.rest (λ x. let p = weigh_append (bit x) ns ms in let q = weigh_append (bit x) ms ns in omega arith) h.others }

  pub seen_both : (ns ms : List ℕ) (a b log : List (Entry Q P)) → HasSeen ns a log → HasSeen ms b log → HasSeen (ns ++ ms) (longer a b) log
  seen_both ns ms a b log h k = elim (nat_lt (length a) (length b)) as (λ t. nat_lt (length a) (length b) ≡ t → HasSeen (ns ++ ms) (cond t b a) log) [
    | true ↦ λ is. let lt : length a < length b = grind (arith, nat_tests) in seen_beyond ns ms a b log h k (omega arith)
    | false ↦ λ is. let le : length b ≤ length a = grind (arith, nat_tests) in swapped ns ms a log (seen_beyond ms ns b a log k h le)
  ] refl

  pub longer_first : (a b : List (Entry Q P)) → length a ≤ length (longer a b)
  longer_first a b = elim (nat_lt (length a) (length b)) as (λ t. nat_lt (length a) (length b) ≡ t → length a ≤ length (cond t b a)) [
    | true ↦ λ is. let lt : length a < length b = grind (arith, nat_tests) in omega arith
    | false ↦ λ is. omega arith
  ] refl

  pub longer_second : (a b : List (Entry Q P)) → length b ≤ length (longer a b)
  longer_second a b = elim (nat_lt (length a) (length b)) as (λ t. nat_lt (length a) (length b) ≡ t → length b ≤ length (cond t b a)) [
    | true ↦ λ is. omega arith
    | false ↦ λ is. let le : length b ≤ length a = grind (arith, nat_tests) in omega arith
  ] refl

  pub longer_one : (a b : List (Entry Q P)) → (longer a b ≡ a) ⊎ (longer a b ≡ b)
  longer_one a b = elim (nat_lt (length a) (length b)) as (λ t. (cond t b a ≡ a) ⊎ (cond t b a ≡ b)) [ true ↦ inr refl | false ↦ inl refl ]

  no_calls : (n : ℕ) (ns : List ℕ) (es : List (Entry Q P)) → 0 < times n ns → Strangers ns es → calls_of n es ≡ []
  no_calls n ns [] there o = refl
  no_calls n ns (e ∷ es) there o = let rest = no_calls n ns es there o.1 in
      let none : (e.caller == n) ≡ false = not_true (e.caller == n) (λ is. let same : e.caller ≡ n = grind (arith, nat_tests) in let z : times n ns ≡ 0 = ap (λ x. times x ns) (sym same) ∙ o.0 in omega arith) in
      rw none rest

  -- what others add is no call of a number that one has
  pub calls_same : (n : ℕ) (ns : List ℕ) (since : ℕ) (seen seen' : List (Entry Q P)) → 0 < times n ns → since ≤ length seen → HasSeen ns seen seen' → calls_of n (drop since seen') ≡ calls_of n (drop since seen)
  calls_same n ns since seen seen' there le h =
      let a : drop since seen' ≡ drop since seen ++ h.rest = ap (drop since) (sym h.is) ∙ drop-append-le since seen h.rest le in
      let b = filter-append (λ (e : Entry Q P). e.caller == n) (drop since seen) h.rest in
      let c = no_calls n ns h.rest there h.others in
      ap (calls_of n) a ∙ (b ∙ (ap (λ l. calls_of n (drop since seen) ++ l) c ∙ append-nil (calls_of n (drop since seen))))

  pub mine_same : (ns : List ℕ) (since : ℕ) (seen seen' : List (Entry Q P)) → 0 < length ns → since ≤ length seen → HasSeen ns seen seen' → calls_of (own ns) (drop since seen') ≡ calls_of (own ns) (drop since seen)
  mine_same ns since seen seen' some_numbers le h = calls_same (own ns) ns since seen seen' (own_there ns some_numbers) le h

  pub mine_more : (ns : List ℕ) (since : ℕ) (seen between : List (Entry Q P)) (e : Entry Q P) → 0 < length ns → since ≤ length seen → Strangers ns between → e.caller ≡ own ns
      → calls_of (own ns) (drop since ((seen ++ between) ++ e ∷ [])) ≡ calls_of (own ns) (drop since seen) ++ e ∷ []
  mine_more ns since seen between e some_numbers le others is =
      let l : since ≤ length (seen ++ between) = omega (arith, length-append seen between) in
      let a = ap (calls_of (own ns)) (drop-append-le since (seen ++ between) (e ∷ []) l) in
      let b = filter-append (λ (x : Entry Q P). x.caller == own ns) (drop since (seen ++ between)) (e ∷ []) in
      let c = mine_same ns since seen (seen ++ between) some_numbers le record { rest = between; is = refl; others = others } in
      let d : (e.caller == own ns) ≡ true = grind (arith, nat_tests) in
      let f : calls_of (own ns) (e ∷ []) ≡ e ∷ [] = rw d refl in
      a ∙ (b ∙ (λ i. c i ++ f i))
