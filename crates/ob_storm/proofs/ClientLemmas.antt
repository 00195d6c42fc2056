-- A pass with some of the numbers was split off, asked once, and joined again: nothing else was asked.
use Rattle.std.proofs.Common.{arith, ◌≡◌, ◌⊎◌, ℕ, List, [], ◌∷◌, ◌++◌, inl, inr, refl, sym, ap, subst, ◌∙◌, take, drop, length, append_assoc, append-nil, length-append, Result, Ok, Err}
use Rattle.std.specs.Prelude.{IfOk, OnErr, MatchResult}
use Rattle.std.specs.declared.alloc.AllocError.{AllocError}
use Rattle.std.proofs.lemmas.List.{take-append-drop, append_cancel_left}
use Rattle.ob_machine.specs.declared.call.Answer.{Answer}
use Rattle.ob_machine.specs.declared.call.Answer.TheVariants.{Done, NoMemory}
use Rattle.ob_machine.specs.declared.call.Entry.{Entry}
use Rattle.ob_machine.specs.History.{entry, left_by, after, IsAnswer, IsLegal}
use Rattle.ob_machine.proofs.HistoryLemmas.{after-snoc, legal_front, legal_back}
use Rattle.ob_turn.specs.Callers.{numbers_below, Strangers, HasSeen}
use Rattle.ob_turn.specs.Standing.{Standing}
use Rattle.ob_turn.proofs.Numbers.{below_there}
use Rattle.ob_turn.proofs.Histories.{strangers_both}

module _ {S Q P : Type 0} (act : S → Q → ℕ → S × P) where
  strangers_front : (ns : List ℕ) (xs ys : List (Entry Q P)) → Strangers ns (xs ++ ys) → Strangers ns xs
  strangers_front ns [] ys o = tt
  strangers_front ns (x ∷ xs) ys o = (o.0, strangers_front ns xs ys o.1)

  -- each caller has a number below 2^32
  nobody : (s : S) (es : List (Entry Q P)) → Strangers (numbers_below 4294967296) es → IsLegal act s es → es ≡ []
  nobody s [] o l = refl
  nobody s (e ∷ es) o l =
      let there = below_there e.caller 4294967296 l.0.caller in
      let none = o.0 in
      absurd (omega arith)

  -- of the two that were joined, the one that asked has seen more
  asked_last : (seen seen' seen'' between rest : List (Entry Q P)) (e : Entry Q P) → seen' ≡ (seen ++ between) ++ e ∷ []
      → (seen'' ≡ seen) ⊎ (seen'' ≡ seen') → seen' ++ rest ≡ seen'' → seen'' ≡ seen'
  asked_last seen seen' seen'' between rest e is (inr same) goes = same
  asked_last seen seen' seen'' between rest e is (inl same) goes =
      let a : length (seen' ++ rest) ≡ length seen = ap (λ (l : List (Entry Q P)). length l) (goes ∙ same) in
      let b : length seen' ≡ length ((seen ++ between) ++ e ∷ []) = ap (λ (l : List (Entry Q P)). length l) is in
      let c = length-append seen' rest in
      let d = length-append (seen ++ between) (e ∷ []) in
      let f = length-append seen between in
      absurd (omega (arith, a, b, c, d, f))

  pub asked_alone : (opening : S) (k : ℕ) (seen seen' seen'' between : List (Entry Q P)) (e : Entry Q P)
      → Strangers (drop k (numbers_below 4294967296)) between → seen' ≡ (seen ++ between) ++ e ∷ [] → IsLegal act opening seen'
      → (seen'' ≡ seen) ⊎ (seen'' ≡ seen') → HasSeen (take k (numbers_below 4294967296)) seen seen'' → HasSeen (drop k (numbers_below 4294967296)) seen' seen''
      → (seen'' ≡ seen ++ e ∷ []) × IsLegal act opening seen''
  asked_alone opening k seen seen' seen'' between e others is legal longer left right = (
    last ∙ is ∙ ap (λ (l : List (Entry Q P)). (seen ++ l) ++ e ∷ []) none ∙ ap (λ (l : List (Entry Q P)). l ++ e ∷ []) (append-nil seen),
    subst (λ (l : List (Entry Q P)). IsLegal act opening l) (sym last) legal,
  )
    where
      last : seen'' ≡ seen'
      last = asked_last seen seen' seen'' between right.rest e is longer right.is

      rest_is : left.rest ≡ between ++ e ∷ []
      rest_is = append_cancel_left seen left.rest (between ++ e ∷ []) (left.is ∙ last ∙ is ∙ append_assoc seen between (e ∷ []))

      mine : Strangers (take k (numbers_below 4294967296)) between
      mine = strangers_front (take k (numbers_below 4294967296)) between (e ∷ [])
          (subst (λ (l : List (Entry Q P)). Strangers (take k (numbers_below 4294967296)) l) rest_is left.others)

      all : Strangers (numbers_below 4294967296) between
      all = subst (λ (ns : List ℕ). Strangers ns between) (take-append-drop k (numbers_below 4294967296))
          (strangers_both (take k (numbers_below 4294967296)) (drop k (numbers_below 4294967296)) between mine others)

      goes : IsLegal act (after act opening seen) between
      goes = legal_back act opening seen between (legal_front act opening (seen ++ between) (e ∷ []) (subst (λ (l : List (Entry Q P)). IsLegal act opening l) is legal))

      none : between ≡ []
      none = nobody (after act opening seen) between all goes

  -- the answer of the last call is the machine's
  last_answer : (opening : S) (seen seen'' : List (Entry Q P)) (e : Entry Q P) → seen'' ≡ seen ++ e ∷ [] → IsLegal act opening seen''
      → IsAnswer act (after act opening seen) e.request e.moment e.answer
  last_answer opening seen seen'' e is legal =
      (legal_back act opening seen (e ∷ []) (subst (λ (l : List (Entry Q P)). IsLegal act opening l) is legal)).0.answer

  last_state : (opening : S) (seen seen'' : List (Entry Q P)) (e : Entry Q P) → seen'' ≡ seen ++ e ∷ []
      → after act opening seen'' ≡ left_by act (after act opening seen) e.request e.moment e.answer
  last_state opening seen seen'' e is = ap (λ (l : List (Entry Q P)). after act opening l) is ∙ after-snoc act opening seen e

  pub was_done : (opening : S) (seen seen'' : List (Entry Q P)) (by at : ℕ) (q : Q) (answer : Answer P) (result : Result P AllocError)
      → (seen'' ≡ seen ++ entry by q at answer ∷ []) × IsLegal act opening seen''
      → MatchResult result (λ reply. answer ≡ Done reply) (λ _. answer ≡ NoMemory)
      → IfOk result (λ reply. act (after act opening seen) q at ≡ (after act opening seen'', reply))
  was_done opening seen seen'' by at q answer (Err fault) h m = tt
  was_done opening seen seen'' by at q answer (Ok reply) h m =
      let right : reply ≡ (act (after act opening seen) q at).1 =
      subst (λ (a : Answer P). IsAnswer act (after act opening seen) q at a) m (last_answer opening seen seen'' (entry by q at answer) h.0 h.1) in
      let state : after act opening seen'' ≡ (act (after act opening seen) q at).0 =
      last_state opening seen seen'' (entry by q at answer) h.0 ∙ ap (λ (a : Answer P). left_by act (after act opening seen) q at a) m in
      λ i. (sym state i, sym right i)

  pub was_refused : (opening : S) (seen seen'' : List (Entry Q P)) (by at : ℕ) (q : Q) (answer : Answer P) (result : Result P AllocError)
      → (seen'' ≡ seen ++ entry by q at answer ∷ []) × IsLegal act opening seen''
      → MatchResult result (λ reply. answer ≡ Done reply) (λ _. answer ≡ NoMemory)
      → OnErr result (after act opening seen'' ≡ after act opening seen)
  was_refused opening seen seen'' by at q answer (Ok reply) h m = tt
  was_refused opening seen seen'' by at q answer (Err fault) h m =
      last_state opening seen seen'' (entry by q at answer) h.0 ∙ ap (λ (a : Answer P). left_by act (after act opening seen) q at a) m

  -- All numbers but those that a part keeps were split off; the part asked once, and was joined again.
  pub asked_by_part : (opening : S) (all left part part' all' : Standing Q P) (k by at : ℕ) (q : Q) (answer : Answer P)
      → all.numbers ≡ numbers_below 4294967296
      → left ≡ record all { numbers = take k all.numbers }
      → part ≡ record all { numbers = drop k all.numbers; since = length all.seen }
      → part' ≡ record part { seen = part'.seen }
      → ((between : List (Entry Q P)) × Strangers part.numbers between × (part'.seen ≡ (part.seen ++ between) ++ entry by q at answer ∷ []))
      → IsLegal act opening part'.seen
      → (all'.seen ≡ left.seen) ⊎ (all'.seen ≡ part'.seen)
      → HasSeen left.numbers left.seen all'.seen → HasSeen part'.numbers part'.seen all'.seen
      → (all'.seen ≡ all.seen ++ entry by q at answer ∷ []) × IsLegal act opening all'.seen
  asked_by_part opening all left part part' all' k by at q answer whole kept given same seen legal longer own_seen other_seen =
      asked_alone opening k all.seen part'.seen all'.seen seen.0 (entry by q at answer)
      (subst (λ (ns : List ℕ). Strangers ns seen.0) part_numbers seen.1)
      (seen.2 ∙ ap (λ (l : List (Entry Q P)). (l ++ seen.0) ++ entry by q at answer ∷ []) part_seen)
      legal
      (subst (λ (l : List (Entry Q P)). (all'.seen ≡ l) ⊎ (all'.seen ≡ part'.seen)) left_seen longer)
      (subst (λ (l : List (Entry Q P)). HasSeen (take k (numbers_below 4294967296)) l all'.seen) left_seen
      (subst (λ (ns : List ℕ). HasSeen ns left.seen all'.seen) left_numbers own_seen))
      (subst (λ (ns : List ℕ). HasSeen ns part'.seen all'.seen) (ap (λ (z : Standing Q P). z.numbers) same ∙ part_numbers) other_seen)
    where
      left_seen : left.seen ≡ all.seen
      left_seen = ap (λ (z : Standing Q P). z.seen) kept

      left_numbers : left.numbers ≡ take k (numbers_below 4294967296)
      left_numbers = ap (λ (z : Standing Q P). z.numbers) kept ∙ ap (take k) whole

      part_seen : part.seen ≡ all.seen
      part_seen = ap (λ (z : Standing Q P). z.seen) given

      part_numbers : part.numbers ≡ drop k (numbers_below 4294967296)
      part_numbers = ap (λ (z : Standing Q P). z.numbers) given ∙ ap (drop k) whole
