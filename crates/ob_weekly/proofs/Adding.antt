-- What a loop adds, step by step.
use Rattle.std.proofs.Common.{◌≡◌, ℕ, ◌+◌, ◌<◌, List, [], ◌∷◌, ◌++◌, subst, arith, ◌⊎◌, inl, inr, pos, ℤ, ◌+ℤ◌, ◌<ℤ◌, ◌≤ℤ◌}
use Rattle.std.specs.List.{Contains}
use Rattle.std.proofs.lemmas.Int.{ints}
use Rattle.std.proofs.lemmas.List.Elements.{Contains-append_left, Contains-push, Contains-push_cases}
use Rattle.ob_weekly.specs.declared.due.Due.{Due}
use Rattle.ob_weekly.specs.Search.{Adds, UpToDay, UpToPlace}

below_next : (n day : ℤ) → n <ℤ (day +ℤ pos 1) → (n <ℤ day) ⊎ (n ≡ day)
below_next n day h = grind (arith, ints)

pub below_next_place : (k place : ℕ) → k < place + 1 → (k < place) ⊎ (k ≡ place)
below_next_place k place h = grind arith

-- nothing was added yet
pub no_day : (P : ℤ → Due → Type 0) (old : List Due) (first : ℤ) → UpToDay P old first first old
no_day P old first d = (λ c. inl c, λ w. elim w [ inl c ↦ c | inr h ↦ absurd (omega (arith, ints, h.1, h.2)) ])

before_or : (n day : ℤ) → (n <ℤ day) ⊎ (day ≤ℤ n)
before_or n day = grind (arith, ints)

-- days on which nothing is due
pub idle_days : (P : ℤ → Due → Type 0) (old cur : List Due) (first day next : ℤ) → day ≤ℤ next → UpToDay P old first day cur → ((n : ℤ) (d : Due) → day ≤ℤ n → n <ℤ next → P n d → ⊥) → UpToDay P old first next cur
idle_days P old cur first day next later up none d = (
  λ c. elim ((up d).0 c) [ inl o ↦ inl o | inr h ↦ inr (h.0, h.1, (let before = h.2 in omega (arith, ints, before, later)), h.3) ],
  λ w. elim w [
    | inl o ↦ (up d).1 (inl o)
    | inr h ↦ elim (before_or h.0 day) [
      | inl lt ↦ (up d).1 (inr (h.0, h.1, lt, h.3))
      | inr ge ↦ absurd (none h.0 d ge h.2 h.3)
    ]
  ],
)

-- a day on which nothing is due
pub idle_day : (P : ℤ → Due → Type 0) (old cur : List Due) (first day : ℤ) → UpToDay P old first day cur → ((d : Due) → P day d → ⊥) → UpToDay P old first (day +ℤ pos 1) cur
idle_day P old cur first day up none d = (
  λ c. elim ((up d).0 c) [ inl o ↦ inl o | inr h ↦ inr (h.0, h.1, omega (arith, ints, h.2), h.3) ],
  λ w. elim w [
    | inl o ↦ (up d).1 (inl o)
    | inr h ↦ elim (below_next h.0 day h.2) [
      | inl lt ↦ (up d).1 (inr (h.0, h.1, lt, h.3))
      | inr e ↦ absurd (none d (subst (λ n. P n d) e h.3))
    ]
  ],
)

-- a day on which one is due, which is added
pub busy_day : (P : ℤ → Due → Type 0) (old cur : List Due) (first day : ℤ) (x : Due) → first ≤ℤ day → UpToDay P old first day cur → P day x → ((d : Due) → P day d → x ≡ d) → UpToDay P old first (day +ℤ pos 1) (cur ++ x ∷ [])
busy_day P old cur first day x from up is only d = (
  λ c. elim (Contains-push_cases cur x d c) [
    | inl before ↦ elim ((up d).0 before) [ inl o ↦ inl o | inr h ↦ inr (h.0, h.1, omega (arith, ints, h.2), h.3) ]
    | inr e ↦ inr (day, from, omega (arith, ints), subst (P day) e is)
  ],
  λ w. elim w [
    | inl o ↦ Contains-append_left cur (x ∷ []) d ((up d).1 (inl o))
    | inr h ↦ elim (below_next h.0 day h.2) [
      | inl lt ↦ Contains-append_left cur (x ∷ []) d ((up d).1 (inr (h.0, h.1, lt, h.3)))
      | inr e ↦ subst (Contains (cur ++ x ∷ [])) (only d (subst (λ n. P n d) e h.3)) (Contains-push cur x)
    ]
  ],
)

pub no_place : (P : ℕ → Due → Type 0) (old : List Due) → UpToPlace P old 0 old
no_place P old d = (λ c. inl c, λ w. elim w [ inl c ↦ c | inr h ↦ absurd (omega (arith, h.1)) ])

-- what is due at one more place was added
pub next_place : (P : ℕ → Due → Type 0) (old cur new : List Due) (place : ℕ) → UpToPlace P old place cur → Adds (P place) cur new → UpToPlace P old (place + 1) new
next_place P old cur new place up adds d = (
  λ c. elim ((adds d).0 c) [
    | inl before ↦ elim ((up d).0 before) [ inl o ↦ inl o | inr h ↦ inr (h.0, omega (arith, h.1), h.2) ]
    | inr p ↦ inr (place, omega arith, p)
  ],
  λ w. elim w [
    | inl o ↦ (adds d).1 (inl ((up d).1 (inl o)))
    | inr h ↦ elim (below_next_place h.0 place h.1) [
      | inl lt ↦ (adds d).1 (inl ((up d).1 (inr (h.0, lt, h.2))))
      | inr e ↦ (adds d).1 (inr (subst (λ k. P k d) e h.2))
    ]
  ],
)

-- what is added with P, where P and Q come to the same
pub adds_same : (P Q : Due → Type 0) (old new : List Due) → ((d : Due) → P d → Q d) → ((d : Due) → Q d → P d) → Adds P old new → Adds Q old new
adds_same P Q old new to back adds d = (
  λ c. elim ((adds d).0 c) [ inl o ↦ inl o | inr p ↦ inr (to d p) ],
  λ w. elim w [ inl o ↦ (adds d).1 (inl o) | inr q ↦ (adds d).1 (inr (back d q)) ],
)
