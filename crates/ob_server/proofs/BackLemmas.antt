-- One more worker, whose pass, door and clock were joined and given back.
use Rattle.std.proofs.Common.{arith, ◌≡◌, ◌⊎◌, ◌<◌, ◌≤◌, ◌+◌, ℕ, Bool, List, [], ◌∷◌, ◌++◌, Option, refl, sym, ap, subst, ◌∙◌, inl, ⊎_elim, map, length, sum_by, get_or, append_assoc}
use Rattle.std.proofs.lemmas.Bool.{cases_lt}
use Rattle.std.proofs.lemmas.List.Sums.{sum_by-cons}
use Rattle.ob_io.specs.Doors.{GainsDoor}
use Rattle.ob_io.specs.Faults.{Rose}
use Rattle.ob_io.specs.Twins.{GainsTwin}
use Rattle.ob_io.specs.Visits.{Visit, raised}
use Rattle.ob_turn.specs.Callers.{HasSeen}
use Rattle.ob_turn.specs.Standing.{Standing, mine}
use Rattle.ob_server.specs.GivenBack.{PortTold, ClockTold, CountsFaults, GivenBack}
use Rattle.ob_server.specs.Working.{Counts}
use Rattle.ob_server.specs.declared.worker.Worker.{Worker}
use Rattle.ob_server.proofs.TogetherLemmas.{joined_none, joined_more}
use Rattle.ob_server.proofs.WorkLemmas.{counts_then, counts_one}

counts_more : (before faults between after n : ℕ) → CountsFaults before faults between → (n ≡ 0 → after ≡ between) → between ≤ after → (¬ (n ≡ 0) → Rose between after) → CountsFaults before (n + faults) after
counts_more before faults between after n c whole later broken = record {
  later = omega (arith, c.later, later);
  whole = λ none.
      let here = whole (omega (arith, none)) in
      let there = c.whole (omega (arith, none)) in
      here ∙ there;
  broken = λ some.
      ⊎_elim (λ (here : 0 < n). let r = broken (λ none. absurd (omega (arith, here, none))) in omega (arith, c.later, r))
      (λ (none : n ≤ 0). let r = c.broken (omega (arith, some, none)) in omega (arith, later, r)) (cases_lt 0 n);
}

-- what stands behind the first of two lists is there
at_split : {W : Type 0} (xs ys : List W) (w d : W) → get_or (xs ++ w ∷ ys) (length xs) d ≡ w
at_split [] ys w d = refl
at_split (x ∷ xs) ys w d = at_split xs ys w d

less_split : {W : Type 0} (xs ys : List W) (w : W) → length xs < length (xs ++ w ∷ ys)
less_split [] ys w = omega arith
less_split (x ∷ xs) ys w = let e = less_split xs ys w in omega (arith, e)

-- the worker that was taken out is one of those that were handed in
pub taken_is : {W : Type 0} (F : W → Type 0) (all rest more done : List W) (w : W) → all ≡ more ++ done → more ≡ rest ++ w ∷ [] → ((k : ℕ) (d : W) → k < length all → F (get_or all k d)) → F w
taken_is F all rest more done w is out each =
    let split : all ≡ rest ++ w ∷ done = is ∙ (ap (λ (l : List _). l ++ done) out ∙ append_assoc rest (w ∷ []) done) in
    subst F (ap (λ (l : List _). get_or l (length rest) w) split ∙ at_split rest done w w)
    (each (length rest) w (subst (λ (l : List _). length rest < length l) (sym split) (less_split rest done w)))

pub taken_out : {W : Type 0} (all rest more done : List W) (w : W) → all ≡ more ++ done → more ≡ rest ++ w ∷ [] → all ≡ rest ++ (w ∷ done)
taken_out all rest more done w is out = is ∙ (ap (λ (l : List _). l ++ done) out ∙ append_assoc rest (w ∷ []) done)

module _ {S D C Q P : Type 0} (act : S → Q → ℕ → S × P) (faults handed returned : D → ℕ) (visits : D → Option (List Visit)) (closed : D → Bool) (given : C → Option (List ℕ)) (misses : C → ℕ) (opening : S) where
  pub back_none : (pass : Standing Q P) (port : PortTold) (clock : ClockTold) → GivenBack act faults handed returned visits closed given misses opening [] pass pass port port clock clock
  back_none pass port clock = record {
    joined = joined_none act opening pass;
    doors = refl;
    doors_back = inl (omega arith);
    door_faults = record { later = omega arith; whole = λ none. refl; broken = λ some. absurd (omega (arith, some)) };
    port_same = (refl, refl);
    twins = refl;
    clock_faults = record { later = omega arith; whole = λ none. refl; broken = λ some. absurd (omega (arith, some)) };
    clock_same = (refl, refl);
  }

  pub back_more : (w : Worker S D C Q P) (done : List (Worker S D C Q P)) (pass pass' pass'' : Standing Q P) (port port' port'' : PortTold) (clock clock' clock'' : ClockTold)
      → GivenBack act faults handed returned visits closed given misses opening done pass pass' port port' clock clock'
      → (pass''.table ≡ pass'.table) × (pass''.since ≡ pass'.since) × (pass''.numbers ≡ pass'.numbers ++ w.pass.numbers) → (pass''.seen ≡ pass'.seen) ⊎ (pass''.seen ≡ w.pass.seen)
      → HasSeen pass'.numbers pass'.seen pass''.seen → HasSeen w.pass.numbers w.pass.seen pass''.seen → mine pass'' ≡ mine pass'
      → GainsDoor port'.doors port''.doors (faults w.door) (handed w.door) (returned w.door) (closed w.door) (visits w.door) → port''.returned ≡ raised port'.returned 1
      → (faults w.door ≡ 0 → port''.faults ≡ port'.faults) → port'.faults ≤ port''.faults → (¬ (faults w.door ≡ 0) → Rose port'.faults port''.faults)
      → (port''.opened ≡ port'.opened) × (port''.listens ≡ port'.listens)
      → GainsTwin clock'.twins clock''.twins (given w.clock) (misses w.clock)
      → (misses w.clock ≡ 0 → clock''.faults ≡ clock'.faults) → clock'.faults ≤ clock''.faults → (¬ (misses w.clock ≡ 0) → Rose clock'.faults clock''.faults)
      → clock''.given ≡ clock'.given → clock''.pace ≡ clock'.pace
      → GivenBack act faults handed returned visits closed given misses opening (w ∷ done) pass pass'' port port'' clock clock''
  back_more w done pass pass' pass'' port port' port'' clock clock' clock'' b same longer own_seen other_seen calls door back door_whole door_later door_broken port_same twin clock_whole clock_later clock_broken given_same pace_same = record {
    joined = joined_more act opening pass pass' pass'' w.pass (map (λ (v : Worker S D C Q P). v.pass) done) b.joined same longer own_seen other_seen calls;
    doors = (port'.doors, b.doors, door);
    doors_back = subst (λ (n : ℕ). Counts port.returned n port''.returned) (omega arith) (counts_then port.returned port'.returned port''.returned (length done) 1 b.doors_back (counts_one port'.returned port''.returned back));
    door_faults = subst (λ (n : ℕ). CountsFaults port.faults n port''.faults) (sym (sum_by-cons (λ (v : Worker S D C Q P). faults v.door) w done))
        (counts_more port.faults (sum_by (λ (v : Worker S D C Q P). faults v.door) done) port'.faults port''.faults (faults w.door) b.door_faults door_whole door_later door_broken);
    port_same = (port_same.0 ∙ b.port_same.0, port_same.1 ∙ b.port_same.1);
    twins = (clock'.twins, b.twins, twin);
    clock_faults = subst (λ (n : ℕ). CountsFaults clock.faults n clock''.faults) (sym (sum_by-cons (λ (v : Worker S D C Q P). misses v.clock) w done))
        (counts_more clock.faults (sum_by (λ (v : Worker S D C Q P). misses v.clock) done) clock'.faults clock''.faults (misses w.clock) b.clock_faults clock_whole clock_later clock_broken);
    clock_same = (given_same ∙ b.clock_same.0, pace_same ∙ b.clock_same.1);
  }
