-- What operations leave of a table, by marks.
use Rattle.std.proofs.Common.{◌≡◌, ◌⊎◌, inl, inr, ℕ, ◌==◌, Bool, true, false, cond, [], ◌∷◌, Option, Some, None, Result, Ok, Err, refl, sym, ap, ◌∙◌, subst}
use Rattle.std.specs.Prelude.{option_map, option_and_then}
use Rattle.ob_watching.specs.Tables.{lookup, replace}
use Rattle.ob_watch.specs.Tables.{Leased, Table, at_number, holding, leased_for}
use Rattle.ob_site_rules.specs.declared.fault.Fault.{Fault}
use Rattle.ob_site_rules.specs.Watched.{WatchOperation}
use Rattle.ob_site_state.specs.Kept.{Kept}
use Rattle.ob_watching.specs.Operations.{PollChanges}
use Rattle.ob_requests.specs.declared.target.Operation.{Operation}
use Rattle.ob_requests.specs.declared.target.Operation.TheVariants as asks
use Rattle.ob_requests.specs.Targets.{operation_of}
use Rattle.ob_site_watches.specs.Leaving.{Renews, leased_if, leaving}
use Rattle.ob_watch.proofs.LapseLemmas.{lapses_commute}
use Rattle.ob_watch.proofs.TableLemmas.{Numbered}
use Rattle.ob_watch.proofs.TableLemmas.{none_replaced}

kept_by : (f : Leased → Leased) (o : Option Leased) → option_map f o ≡ option_and_then (λ w. Some (f w)) o
kept_by f None = refl
kept_by f (Some w) = refl

-- the watch of a number another
pub one_left : (n : ℕ) (f : Leased → Leased) (old new : Table) → new ≡ holding (at_number n f old.watches) old
    → new ≡ holding (replace n (option_and_then (λ w. Some (f w)) (lookup n old.watches)) old.watches) old
one_left n f old new e = e ∙ ap (λ (o : Option Leased). holding (replace n o old.watches) old) (kept_by f (lookup n old.watches))

-- and then another again
pub two_left : (n : ℕ) (f g : Leased → Leased) (old mid new : Table) → mid ≡ holding (at_number n g old.watches) old → new ≡ holding (at_number n f mid.watches) mid
    → new ≡ holding (replace n (option_and_then (λ w. Some (f (g w))) (lookup n old.watches)) old.watches) old
two_left n f g old mid new first second =
    second
    ∙ ap (λ (t : Table). holding (at_number n f t.watches) t) first
    ∙ ap (λ (ws : Numbered). holding ws old) ((lapses_commute 0).twice n f g old.watches)
    ∙ ap (λ (o : Option Leased). holding (replace n o old.watches) old) (kept_by (λ w. f (g w)) (lookup n old.watches))

-- and then its lease, if one that can be asked for was
pub renewed_left : (n : ℕ) (g : Leased → Leased) (old mid new : Table) (r : Result ℕ Fault) → mid ≡ holding (at_number n g old.watches) old → Renews n mid new r
    → new ≡ holding (replace n (option_and_then (λ w. Some (leased_if r (g w))) (lookup n old.watches)) old.watches) old
renewed_left n g old mid new (Ok lease) first second = two_left n (leased_for lease) g old mid new first second
renewed_left n g old mid new (Err fault) first second = one_left n g old new (second ∙ first)

deleted_after : (n : ℕ) (a : Leased) (ws : Numbered) → replace n None (replace n (Some a) ws) ≡ replace n None ws
deleted_after n a [] = refl
deleted_after n a (w ∷ ws) = go (w.0 == n) (deleted_after n a ws)
  where
    go : (c : Bool) → replace n None (replace n (Some a) ws) ≡ replace n None ws
        → cond c (replace n None (replace n (Some a) ws)) ((w.0, cond c a w.1) ∷ replace n None (replace n (Some a) ws)) ≡ cond c (replace n None ws) (w ∷ replace n None ws)
    go true rest = rest
    go false rest = ap (λ (xs : Numbered). w ∷ xs) rest

deleted_of : (n : ℕ) (f : Leased → Leased) (ws : Numbered) → replace n None (at_number n f ws) ≡ replace n None ws
deleted_of n f ws = go (lookup n ws) refl
  where
    go : (o : Option Leased) → lookup n ws ≡ o → replace n None (replace n (option_map f o) ws) ≡ replace n None ws
    go None none = ap (replace n None) (none_replaced n None ws none)
    go (Some v) there = deleted_after n (f v) ws

none_of : (o : Option Leased) → None ≡ option_and_then (λ (w : Leased). (let left : Option Leased = None in left)) o
none_of None = refl
none_of (Some w) = refl

-- the watch of a number is deleted
pub none_left : (n : ℕ) (g : Leased → Leased) (old mid new : Table) → mid ≡ holding (at_number n g old.watches) old → new ≡ holding (replace n None mid.watches) mid
    → new ≡ holding (replace n (option_and_then (λ (w : Leased). (let left : Option Leased = None in left)) (lookup n old.watches)) old.watches) old
none_left n g old mid new first second =
    second
    ∙ ap (λ (t : Table). holding (replace n None t.watches) t) first
    ∙ ap (λ (ws : Numbered). holding ws old) (deleted_of n g old.watches)
    ∙ ap (λ (o : Option Leased). holding (replace n o old.watches) old) (none_of (lookup n old.watches))

-- a poll of either kind
pub polled_left : (k : Kept) (now n : ℕ) (old new : Table) (asked : Operation) → (asked ≡ asks.PollChanges) ⊎ (asked ≡ asks.PollRefresh)
    → new ≡ leaving k now n PollChanges old → new ≡ leaving k now n (operation_of asked) old
polled_left k now n old new asked (inl is) e = subst (λ (op : WatchOperation). new ≡ leaving k now n op old) (sym (ap operation_of is)) e
polled_left k now n old new asked (inr is) e = subst (λ (op : WatchOperation). new ≡ leaving k now n op old) (sym (ap operation_of is)) e
