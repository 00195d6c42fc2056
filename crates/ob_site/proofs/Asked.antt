-- What is asked of a watch, of the watch service or of nothing.
use Rattle.std.proofs.Common.{◌≡◌, ℕ, suc, ◌≤◌, ◌<◌, ◌^◌, ◌==◌, Bool, true, false, not, cond, List, [], ◌∷◌, get_or, Option, Some, None, option_map, refl, sym, ap, ◌∙◌, subst, arith}
use Rattle.std.proofs.lemmas.Bool.Decides.{nat_tests}
use Rattle.ob_object.specs.Object.{Object}
use Rattle.ob_history.specs.declared.records.Filter.{Filter}
use Rattle.ob_watching.specs.Operations.{NewWatch, Nowhere, OneWatch}
use Rattle.ob_watching.specs.Tables.{lookup, numbers_of}
use Rattle.ob_watching.specs.Watches.{WatchOf, on_watch}
use Rattle.ob_site_rules.specs.declared.request.Request.{Request}
use Rattle.ob_site_rules.specs.Build.{Path, Text}
use Rattle.ob_site_rules.specs.declared.fault.Fault.TheVariants.{NoSuchObject}
use Rattle.ob_site_rules.specs.Faults.{err}
use Rattle.ob_site_rules.specs.Replies.{sent}
use Rattle.ob_site_rules.specs.Watched.{WatchOperation}
use Rattle.ob_site_state.specs.Kept.{Kept}
use Rattle.ob_site_state.specs.Stamping.{tree_of}
use Rattle.ob_site_watches.specs.Answers.{IsDone, IsServed}
use Rattle.ob_site_watches.specs.Polls.{Takes, WatchTakes}
use Rattle.ob_site_watches.proofs.Polled.{none_for}
use Rattle.ob_watch.specs.AsRules.{world_of}
use Rattle.ob_watch.specs.OfPlan.{of_plan}
use Rattle.ob_watch.specs.Flags.{flagged, flags_of}
use Rattle.ob_watch.specs.Tables.{Leased, Table, is_over, lapsed_at, live}
use Rattle.ob_watch.proofs.LawLemmas.{tables_agree}
use Rattle.ob_site.specs.Steps.{IsQuiet}

-- nothing is asked
pub nobody : (k : Kept) (t : Table) (r : Request) (o : Object) → o ≡ err NoSuchObject → IsQuiet k t t r Nowhere o
nobody k t r o e = record { world = refl; reply = e }

-- a number that is none of theirs
none_there : (n : ℕ) (ws : List (ℕ × Leased)) → 2 ^ 64 ≤ n → ((i : ℕ) → get_or (numbers_of ws) i 0 < 2 ^ 64) → lookup n ws ≡ None
none_there n [] l few = refl
none_there n (w ∷ ws) l few =
    let first : w.0 < 2 ^ 64 = few 0 in
    let rest = none_there n ws l (λ i. few (suc i)) in
    grind (arith, nat_tests, first, rest)

-- nor is it one of those whose lease has not run out
none_live : (now n : ℕ) (ws : List (ℕ × Leased)) → lookup n ws ≡ None → lookup n (live now ws) ≡ None
none_live now n [] none = refl
none_live now n (w ∷ ws) none = go (w.0 == n) refl (is_over now w.1) (λ e. none_live now n ws e)
  where
    rest : (b : Bool) → (w.0 == n) ≡ b → cond b (Some w.1) (lookup n ws) ≡ None
    rest b e = sym (ap (λ (x : Bool). cond x (Some w.1) (lookup n ws)) e) ∙ none

    go : (b : Bool) → (w.0 == n) ≡ b → (c : Bool) → (lookup n ws ≡ None → lookup n (live now ws) ≡ None) → lookup n (cond (not c) (w ∷ live now ws) (live now ws)) ≡ None
    go true e c behind = absurd (let f : Some w.1 ≡ None = rest true e in cc)
    go false e true behind = behind (rest false e)
    go false e false behind = ap (λ (b : Bool). cond b (Some w.1) (lookup n (live now ws))) e ∙ behind (rest false e)

-- no watch has the number
gone : (k : Kept) (t : Table) (n : ℕ) → 2 ^ 64 ≤ n → ((i : ℕ) → get_or (numbers_of t.watches) i 0 < 2 ^ 64) → lookup n (flags_of (tree_of k) (live k.time t.watches)) ≡ None
gone k t n l few =
    (tables_agree k.plan (tree_of k)).looks_up n (live k.time t.watches) ∙ ap (λ (w : Option Leased). option_map (flagged (tree_of k)) w) (none_live k.time n t.watches (none_there n t.watches l few))

pub beyond : (k : Kept) (t : Table) (r : Request) (n : ℕ) (op : WatchOperation) (o : Object) → 2 ^ 64 ≤ n → ((i : ℕ) → get_or (numbers_of t.watches) i 0 < 2 ^ 64) → o ≡ err NoSuchObject
    → IsQuiet k t t r (OneWatch n op) o
beyond k t r n op o l few e =
    let none = gone k t n l few in record {
      world = sym (ap (λ (found : Option (WatchOf Text Path Filter)). (on_watch (of_plan k.plan) (world_of k.plan k.time k.now (tree_of k) (lapsed_at k.time t)) n op found).0) none);
      reply = e ∙ sym (ap (λ (found : Option (WatchOf Text Path Filter)). sent k.plan (on_watch (of_plan k.plan) (world_of k.plan k.time k.now (tree_of k) (lapsed_at k.time t)) n op found).1) none);
    }

-- so nothing is counted for it
pub beyond_steps : (k : Kept) (t : Table) (n : ℕ) (op : WatchOperation) (steps : ℕ) → 2 ^ 64 ≤ n → ((i : ℕ) → get_or (numbers_of t.watches) i 0 < 2 ^ 64)
    → Takes k.plan (world_of k.plan k.time k.now (tree_of k) (lapsed_at k.time t)) (OneWatch n op) steps steps
beyond_steps k t n op steps l few =
    subst (λ (found : Option (WatchOf Text Path Filter)). WatchTakes k.plan k.now found op steps steps) (sym (gone k t n l few)) (none_for k.plan k.now op steps)

-- a watch is made
pub made_so : (k : Kept) (now : ℕ) (t u : Table) (o : Object) → now ≡ k.time → IsServed k.plan now t u o → (r : Request) → IsQuiet k t u r NewWatch o
made_so k now t u o e is r =
    let served : IsServed k.plan k.time t u o = subst (λ (n : ℕ). IsServed k.plan n t u o) e is in record {
      world = served.watches k.now (tree_of k) r;
      reply = served.reply k.now (tree_of k) r;
    }

-- a watch is asked
pub asked_so : (k : Kept) (now : ℕ) (t u : Table) (n : ℕ) (op : WatchOperation) (o : Object) → now ≡ k.time → IsDone k now t u n op o → (r : Request) → IsQuiet k t u r (OneWatch n op) o
asked_so k now t u n op o e is r =
    let done : IsDone k k.time t u n op o = subst (λ (m : ℕ). IsDone k m t u n op o) e is in record {
      world = done.watches;
      reply = done.reply;
    }

-- what is counted for it
pub asked_steps : (k : Kept) (now : ℕ) (t : Table) (n : ℕ) (op : WatchOperation) (old new : ℕ) → now ≡ k.time → WatchTakes k.plan k.now (lookup n (flags_of (tree_of k) (live now t.watches))) op old new
    → Takes k.plan (world_of k.plan k.time k.now (tree_of k) (lapsed_at k.time t)) (OneWatch n op) old new
asked_steps k now t n op old new e takes = subst (λ (m : ℕ). WatchTakes k.plan k.now (lookup n (flags_of (tree_of k) (live m t.watches))) op old new) e takes
