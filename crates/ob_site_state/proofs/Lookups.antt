-- The log of a history, by the place of the history in the plan.
use Rattle.std.proofs.Common.{◌≡◌, ℕ, ◌+◌, Bool, true, false, cond, List, [], ◌∷◌, map, Option, Some, None, option_map, refl, sym, ap, ◌∙◌, add-one}
use Rattle.std.specs.Prelude.{find, option_and_then, slice_get}
use Rattle.std.specs.Str.{bytes_eq}
use Rattle.ob_history.specs.Logs.{History}
use Rattle.ob_alarms.specs.Lists.{first_place}
use Rattle.ob_site_rules.specs.Build.{Path}
use Rattle.ob_site_rules.specs.State.{Log, at}
use Rattle.ob_site_state.specs.Roles.{stands_at}
use Rattle.ob_site_state.specs.Kept.{log_of, entry_of, keys}

abbrev pub log_at_place : List (Path × History) → ℕ → Option Log
log_at_place ls n = option_map (λ (l : Path × History). log_of l.1) (slice_get ls n)

heads : {x y : Path} {xs ys : List Path} → x ∷ xs ≡ y ∷ ys → x ≡ y
heads e = cc

tails : {x y : Path} {xs ys : List Path} → x ∷ xs ≡ y ∷ ys → xs ≡ ys
tails e = cc

one_more : (l : Path × History) (ls : List (Path × History)) (o : Option ℕ) → option_and_then (log_at_place ls) o ≡ option_and_then (log_at_place (l ∷ ls)) (option_map (λ n. n + 1) o)
one_more l ls None = refl
one_more l ls (Some n) = ap (log_at_place (l ∷ ls)) (sym (add-one n))

log_there : (p : Path) (ls : List (Path × History)) (hs : List (Path × Option Path)) → keys (map entry_of ls) ≡ map (λ h. h.0) hs
    → at p (map entry_of ls) ≡ option_and_then (log_at_place ls) (first_place (stands_at p) hs)
log_there p [] [] e = refl
log_there p [] (h ∷ hs) e = absurd cc
log_there p (l ∷ ls) [] e = absurd cc
log_there p (l ∷ ls) (h ∷ hs) e =
    ap (λ (q : Path). option_map (λ (x : Path × Log). x.1) (cond (bytes_eq q p) (Some (entry_of l)) (find (λ x. bytes_eq x.0 p) (map entry_of ls)))) (heads e)
    ∙ go (bytes_eq h.0 p) (log_there p ls hs (tails e))
  where
    go : (b : Bool) → at p (map entry_of ls) ≡ option_and_then (log_at_place ls) (first_place (stands_at p) hs)
        → option_map (λ (x : Path × Log). x.1) (cond b (Some (entry_of l)) (find (λ x. bytes_eq x.0 p) (map entry_of ls)))
        ≡ option_and_then (log_at_place (l ∷ ls)) (cond b (Some 0) (option_map (λ n. n + 1) (first_place (stands_at p) hs)))
    go true later = refl
    go false later = later ∙ one_more l ls (first_place (stands_at p) hs)

-- what a look-up finds is what stands first under the path
pub found_log : (p : Path) (ls : List (Path × History)) (hs : List (Path × Option Path)) (place : Option ℕ) (log : Option Log) → keys (map entry_of ls) ≡ map (λ h. h.0) hs
    → place ≡ first_place (stands_at p) hs → log ≡ option_and_then (log_at_place ls) place → log ≡ at p (map entry_of ls)
found_log p ls hs place log same is there = there ∙ ap (option_and_then (log_at_place ls)) is ∙ sym (log_there p ls hs same)
