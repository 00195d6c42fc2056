-- A storm, request by request.
use Rattle.std.proofs.Common.{arith, ◌≡◌, ◌+◌, ◌-◌, ◌*◌, ◌%◌, ◌^◌, ◌<◌, ◌≤◌, ℕ, suc, Bool, true, false, cond, List, [], ◌∷◌, ap, ◌∙◌, sym, map, filter, length, sum}
use Rattle.std.proofs.lemmas.List.Sums.{sum_by-cons}
use Rattle.ob_object.specs.Object.{Object}
use Rattle.ob_site_rules.specs.declared.request.Request.{Request}
use Rattle.ob_storm.specs.declared.run.Tally.{Tally}
use Rattle.ob_storm.specs.Draws.{next_state, drawn_at, draws}
use Rattle.ob_storm.specs.Requests.{make, add, begin_from, request_at, in_turn}
use Rattle.ob_storm.specs.Counts.{is_err, objects_in, events_in, counted}
use Rattle.ob_storm.specs.Runs.{boot, replies, left_by}
use Rattle.ob_storm.specs.Tallies.{IsTallied, IsCounted}

errs_more : (o : Object) (os : List Object) → length (filter is_err (o ∷ os)) ≡ cond (is_err o) 1 0 + length (filter is_err os)
errs_more o os = elim (is_err o) as (λ b. length (cond b (o ∷ filter is_err os) (filter is_err os)) ≡ cond b 1 0 + length (filter is_err os)) [
  | true ↦ omega arith
  | false ↦ omega arith
]

-- what is still asked from request number k on, of so many
abbrev rest : (clients n k x : ℕ) → List Request
rest clients n k x = in_turn clients k (draws x (n - k))

module _ {S : Type 0} (act : S → Request → ℕ → S × Object) where
  -- ---- before the storm

  -- client number i, from 0, has begun
  pub one_began : (s s' : S) (i n : ℕ) → i < n → s' ≡ left_by act s (boot + 2 * i) (make ∷ add (i + 1) ∷ [])
      → left_by act s' (boot + 2 * (i + 1)) (begin_from (i + 1 + 1) (n - (i + 1))) ≡ left_by act s (boot + 2 * i) (begin_from (i + 1) (n - i))
  one_began s s' i n lt is =
      let at : boot + 2 * (i + 1) ≡ boot + 2 * i + 1 + 1 = omega arith in
      let left : suc (n - (i + 1)) ≡ n - i = omega arith in
      ap (λ (t : ℕ). left_by act s' t (begin_from (i + 1 + 1) (n - (i + 1)))) at
      ∙ ap (λ (z : S). left_by act z (boot + 2 * i + 1 + 1) (begin_from (i + 1 + 1) (n - (i + 1)))) is
      ∙ ap (λ (m : ℕ). left_by act s (boot + 2 * i) (begin_from (i + 1) m)) left

  pub none_began : (s : S) (n : ℕ) → left_by act s (boot + 2 * 0) (begin_from (0 + 1) (n - 0)) ≡ left_by act s boot (begin_from 1 n)
  none_began s n =
      ap (λ (t : ℕ). left_by act s t (begin_from (0 + 1) (n - 0))) (let e : boot + 2 * 0 ≡ boot = omega arith in e)
      ∙ ap (λ (k : ℕ). left_by act s boot (begin_from k (n - 0))) (let e : 0 + 1 ≡ 1 = omega arith in e)
      ∙ ap (λ (m : ℕ). left_by act s boot (begin_from 1 m)) (let e : n - 0 ≡ n = omega arith in e)

  pub all_began : (s s₀ : S) (i n at k : ℕ) → i ≡ n → left_by act s at (begin_from k (n - i)) ≡ left_by act s₀ boot (begin_from 1 n) → s ≡ left_by act s₀ boot (begin_from 1 n)
  all_began s s₀ i n at k end goes =
      ap (λ (m : ℕ). left_by act s at (begin_from k m)) (let e : 0 ≡ n - i = omega (arith, end) in e) ∙ goes

  -- ---- the storm

  -- What is left to be asked leads on to the end, and together with what was counted gives the counts of all.
  pub record Pours (first clients n : ℕ) (s₀ : S) (x₀ : ℕ) (s : S) (k x : ℕ) (t : Tally) : Type 0 where
    pub state : left_by act s (first + k) (in_turn clients k (draws x (n - k))) ≡ left_by act s₀ first (in_turn clients 0 (draws x₀ n))
    pub few : t.errs ≤ k
    pub objects_fit : t.objects ≤ 2 ^ 64 - 1
    pub events_fit : t.events ≤ 2 ^ 64 - 1
    pub errs : t.errs + length (filter is_err (replies act s (first + k) (in_turn clients k (draws x (n - k))))) ≡ length (filter is_err (replies act s₀ first (in_turn clients 0 (draws x₀ n))))
    pub objects : counted (t.objects + sum (map objects_in (replies act s (first + k) (in_turn clients k (draws x (n - k))))))
        ≡ counted (sum (map objects_in (replies act s₀ first (in_turn clients 0 (draws x₀ n)))))
    pub events : counted (t.events + sum (map events_in (replies act s (first + k) (in_turn clients k (draws x (n - k))))))
        ≡ counted (sum (map events_in (replies act s₀ first (in_turn clients 0 (draws x₀ n)))))

  pub pours_first : (first clients n : ℕ) (s : S) (x : ℕ) (t : Tally) → t.errs ≡ 0 → t.objects ≡ 0 → t.events ≡ 0 → Pours first clients n s x s 0 x t
  pours_first first clients n s x t no_errs no_objects no_events = record {
    state = ap (λ (t : ℕ). left_by act s t (in_turn clients 0 (draws x (n - 0)))) at ∙ ap (λ (m : ℕ). left_by act s first (in_turn clients 0 (draws x m))) all;
    few = omega (arith, no_errs);
    objects_fit = omega (arith, no_objects);
    events_fit = omega (arith, no_events);
    errs = let e = ap (λ (os : List Object). length (filter is_err os)) same in omega (arith, e, no_errs);
    objects = ap counted (let e = ap (λ (os : List Object). sum (map objects_in os)) same in omega (arith, e, no_objects));
    events = ap counted (let e = ap (λ (os : List Object). sum (map events_in os)) same in omega (arith, e, no_events));
  }
    where
      at : first + 0 ≡ first
      at = omega arith

      all : n - 0 ≡ n
      all = omega arith

      same : replies act s (first + 0) (in_turn clients 0 (draws x (n - 0))) ≡ replies act s first (in_turn clients 0 (draws x n))
      same = ap (λ (t : ℕ). replies act s t (in_turn clients 0 (draws x (n - 0)))) at ∙ ap (λ (m : ℕ). replies act s first (in_turn clients 0 (draws x m))) all

  -- one more request was made, and its reply counted
  pub pours_more : (first clients n : ℕ) (s₀ : S) (x₀ : ℕ) (s s' : S) (k x : ℕ) (t t' : Tally) (reply : Object) → Pours first clients n s₀ x₀ s k x t → k < n
      → act s (request_at (k % clients + 1) (drawn_at (next_state x))) (first + k) ≡ (s', reply) → IsCounted t reply t'
      → Pours first clients n s₀ x₀ s' (k + 1) (next_state x) t'
  pours_more first clients n s₀ x₀ s s' k x t t' reply p lt did is = record {
    state = ap (λ (r : S × Object). left_by act r.0 (first + (k + 1)) (rest clients n (k + 1) (next_state x))) (sym did)
        ∙ ap (λ (a : ℕ). left_by act (act s (request_at (k % clients + 1) (drawn_at (next_state x))) (first + k)).0 a (rest clients n (k + 1) (next_state x))) later
        ∙ ap (λ (m : ℕ). left_by act s (first + k) (in_turn clients k (draws x m))) left
        ∙ p.state;
    few = let a = errs_fit (is_err reply) in omega (arith, is.errs, p.few, a);
    objects_fit = omega (arith, is.objects);
    events_fit = omega (arith, is.events);
    errs =
        let a = ap (λ (os : List Object). length (filter is_err os)) all in
        let b = errs_more reply (replies act s' (first + (k + 1)) (rest clients n (k + 1) (next_state x))) in
        let c = p.errs in
        omega (arith, a, b, c, is.errs);
    objects =
        let a = ap (λ (os : List Object). sum (map objects_in os)) all in
        let b = p.objects in
        let c = sum_by-cons (λ x. x) (objects_in reply) (map objects_in (replies act s' (first + (k + 1)) (rest clients n (k + 1) (next_state x)))) in
        omega (arith, a, b, c, is.objects);
    events =
        let a = ap (λ (os : List Object). sum (map events_in os)) all in
        let b = p.events in
        let c = sum_by-cons (λ x. x) (events_in reply) (map events_in (replies act s' (first + (k + 1)) (rest clients n (k + 1) (next_state x)))) in
        omega (arith, a, b, c, is.events);
  }
    where
      later : first + (k + 1) ≡ first + k + 1
      later = omega arith

      left : suc (n - (k + 1)) ≡ n - k
      left = omega arith

      errs_fit : (b : Bool) → cond b 1 0 ≤ 1
      errs_fit true = omega arith
      errs_fit false = omega arith

      all : replies act s (first + k) (in_turn clients k (draws x (n - k))) ≡ reply ∷ replies act s' (first + (k + 1)) (rest clients n (k + 1) (next_state x))
      all =
          ap (λ (m : ℕ). replies act s (first + k) (in_turn clients k (draws x m))) (sym left)
          ∙ ap (λ (r : S × Object). r.1 ∷ replies act r.0 (first + k + 1) (rest clients n (k + 1) (next_state x))) did
          ∙ ap (λ (a : ℕ). reply ∷ replies act s' a (rest clients n (k + 1) (next_state x))) (sym later)

  pub poured_state : (first clients n : ℕ) (s₀ : S) (x₀ : ℕ) (s : S) (k x : ℕ) (t : Tally) → Pours first clients n s₀ x₀ s k x t → k ≡ n
      → s ≡ left_by act s₀ first (in_turn clients 0 (draws x₀ n))
  poured_state first clients n s₀ x₀ s k x t p end =
      ap (λ (m : ℕ). left_by act s (first + k) (in_turn clients k (draws x m))) (let e : 0 ≡ n - k = omega (arith, end) in e) ∙ p.state

  pub poured : (first clients n : ℕ) (s₀ : S) (x₀ : ℕ) (s : S) (k x : ℕ) (t : Tally) → Pours first clients n s₀ x₀ s k x t → k ≡ n
      → IsTallied (replies act s₀ first (in_turn clients 0 (draws x₀ n))) t
  poured first clients n s₀ x₀ s k x t p end = record {
    errs = let a = ap (λ (os : List Object). length (filter is_err os)) nothing in omega (arith, a, p.errs);
    objects = let a = ap (λ (os : List Object). sum (map objects_in os)) nothing in omega (arith, a, p.objects, p.objects_fit);
    events = let a = ap (λ (os : List Object). sum (map events_in os)) nothing in omega (arith, a, p.events, p.events_fit);
  }
    where
      nothing : replies act s (first + k) (in_turn clients k (draws x (n - k))) ≡ []
      nothing = ap (λ (m : ℕ). replies act s (first + k) (in_turn clients k (draws x m))) (let e : n - k ≡ 0 = omega (arith, end) in e)
