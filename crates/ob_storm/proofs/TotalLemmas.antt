-- What is counted in a whole storm.
use Rattle.std.proofs.Common.{arith, ◌≡◌, ◌+◌, ◌*◌, ℕ, zero, suc, List, [], ◌∷◌, refl, ap, ◌∙◌, sym, length}
use Rattle.std.specs.Prelude.{codes}
use Rattle.ob_object.specs.Object.{Object}
use Rattle.ob_site_rules.specs.declared.request.Request.{Request}
use Rattle.ob_storm.specs.declared.storm.Storm.{Storm}
use Rattle.ob_storm.specs.declared.run.Tally.{Tally}
use Rattle.ob_storm.specs.Draws.{next_state, draws}
use Rattle.ob_storm.specs.Requests.{get, begin_from, in_turn, beginning, stormed}
use Rattle.ob_storm.specs.Counts.{count_shown}
use Rattle.ob_storm.specs.Runs.{boot, replies, left_by, totals_of, totals}
use Rattle.ob_storm.specs.Tallies.{IsTallied}

many_begin : (c n : ℕ) → length (begin_from c n) ≡ 2 * n
many_begin c zero = omega arith
many_begin c (suc n) = let a = many_begin (c + 1) n in omega (arith, a)

many_drawn : (x n : ℕ) → length (draws x n) ≡ n
many_drawn x zero = refl
many_drawn x (suc n) = ap suc (many_drawn (next_state x) n)

many_in_turn : (clients k : ℕ) (rs : List ℕ) → length (in_turn clients k rs) ≡ length rs
many_in_turn clients k [] = refl
many_in_turn clients k (r ∷ rs) = ap suc (many_in_turn clients (k + 1) rs)

many_stormed : (storm : Storm) → length (stormed storm) ≡ storm.requests
many_stormed storm = many_in_turn storm.clients 0 (draws storm.seed storm.requests) ∙ many_drawn storm.seed storm.requests

module _ {S : Type 0} (act : S → Request → ℕ → S × Object) where
  many_replies : (s : S) (at : ℕ) (qs : List Request) → length (replies act s at qs) ≡ length qs
  many_replies s at [] = refl
  many_replies s at (q ∷ qs) = ap suc (many_replies (act s q at).0 (at + 1) qs)

  -- the moment of the first request of the storm, and of the first one behind it
  abbrev first : Storm → ℕ
  first storm = boot + length (beginning storm)

  abbrev end : Storm → ℕ
  end storm = first storm + length (stormed storm)

  -- the state that the storm begins at, and the one that it leaves
  abbrev ready : Storm → S → S
  ready storm s = left_by act s boot (beginning storm)

  abbrev done : Storm → S → S
  done storm s = left_by act (ready storm s) (first storm) (stormed storm)

  pub counted_all : (storm : Storm) (s s₁ s₂ s₃ : S) (t : Tally) (records alarms : ℕ)
      → s₁ ≡ left_by act s boot (beginning storm)
      → s₂ ≡ left_by act s₁ (boot + 2 * storm.clients) (stormed storm)
      → IsTallied (replies act s₁ (boot + 2 * storm.clients) (stormed storm)) t
      → (records ≡ count_shown (act s₂ (get (codes "/obix/h")) (boot + 2 * storm.clients + storm.requests)).1) × (s₃ ≡ (act s₂ (get (codes "/obix/h")) (boot + 2 * storm.clients + storm.requests)).0)
      → alarms ≡ count_shown (act s₃ (get (codes "/obix/alarms")) (boot + 2 * storm.clients + storm.requests + 1)).1
      → record { requests = storm.requests; errs = t.errs; objects = t.objects; events = t.events; records = records; alarms = alarms } ≡ totals act storm s
  counted_all storm s s₁ s₂ s₃ t records alarms begun ended tallied history subject =
      (λ i. record { requests = many i; errs = tallied.errs i; objects = tallied.objects i; events = tallied.events i; records = records; alarms = alarms })
      ∙ (λ i. totals_of (got i) (of_records i) (of_alarms i))
    where
      first_is : boot + 2 * storm.clients ≡ (first storm)
      first_is = let a = many_begin 1 storm.clients in omega (arith, a)

      end_is : boot + 2 * storm.clients + storm.requests ≡ (end storm)
      end_is = let a = many_stormed storm in omega (arith, a, first_is)

      many : storm.requests ≡ length (replies act s₁ (boot + 2 * storm.clients) (stormed storm))
      many = sym (many_replies s₁ (boot + 2 * storm.clients) (stormed storm) ∙ many_stormed storm)

      got : replies act s₁ (boot + 2 * storm.clients) (stormed storm) ≡ replies act (ready storm s) (first storm) (stormed storm)
      got = ap (λ (z : S). replies act z (boot + 2 * storm.clients) (stormed storm)) begun ∙ ap (λ (a : ℕ). replies act (ready storm s) a (stormed storm)) first_is

      done_is : s₂ ≡ (done storm s)
      done_is = ended ∙ ap (λ (z : S). left_by act z (boot + 2 * storm.clients) (stormed storm)) begun ∙ ap (λ (a : ℕ). left_by act (ready storm s) a (stormed storm)) first_is

      asked : act s₂ (get (codes "/obix/h")) (boot + 2 * storm.clients + storm.requests) ≡ act (done storm s) (get (codes "/obix/h")) (end storm)
      asked = ap (λ (z : S). act z (get (codes "/obix/h")) (boot + 2 * storm.clients + storm.requests)) done_is ∙ ap (λ (a : ℕ). act (done storm s) (get (codes "/obix/h")) a) end_is

      of_records : records ≡ count_shown (act (done storm s) (get (codes "/obix/h")) (end storm)).1
      of_records = history.0 ∙ ap (λ (r : S × Object). count_shown r.1) asked

      left : s₃ ≡ (act (done storm s) (get (codes "/obix/h")) (end storm)).0
      left = history.1 ∙ ap (λ (r : S × Object). r.0) asked

      of_alarms : alarms ≡ count_shown (act (act (done storm s) (get (codes "/obix/h")) (end storm)).0 (get (codes "/obix/alarms")) ((end storm) + 1)).1
      of_alarms =
          subject
          ∙ ap (λ (z : S). count_shown (act z (get (codes "/obix/alarms")) (boot + 2 * storm.clients + storm.requests + 1)).1) left
          ∙ ap (λ (a : ℕ). count_shown (act (act (done storm s) (get (codes "/obix/h")) (end storm)).0 (get (codes "/obix/alarms")) (a + 1)).1) end_is
