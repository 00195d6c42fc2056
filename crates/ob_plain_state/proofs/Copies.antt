-- Lists that are made element by element.
use Rattle.std.proofs.Common.{◌≡◌, ℕ, ◌+◌, ◌<◌, ◌≤◌, List, [], ◌∷◌, ◌++◌, map, length, take, get_or, refl, sym, ap, ◌∙◌}
use Rattle.std.proofs.lemmas.List.{map-append, take_more, take_all}
use Rattle.ob_site_rules.specs.Build.{Path}
use Rattle.ob_site_rules.specs.State.{Log as SiteLog, rolled, rolled_logs}
use Rattle.ob_plain_state.specs.States.{log_of, entry_of}
use Rattle.ob_plain_state.specs.declared.log.OpenedLog.{OpenedLog}

-- one more element, which is seen as the next one is
pub more : {A B C : Type 0} (f : A → B) (g : C → B) (done : List C) (xs : List A) (i : ℕ) (x : A) (y : C)
    → i < length xs → x ≡ get_or xs i x → map g done ≡ map f (take i xs) → g y ≡ f x → map g (done ++ y ∷ []) ≡ map f (take (i + 1) xs)
more f g done xs i x y lt is so_far same =
    map-append g done (y ∷ [])
    ∙ ap (λ l. l ++ g y ∷ []) so_far
    ∙ ap (λ b. map f (take i xs) ++ b ∷ []) (same ∙ ap f is)
    ∙ sym (map-append f (take i xs) (get_or xs i x ∷ []))
    ∙ ap (map f) (sym (take_more xs i x lt))

pub whole : {A B C : Type 0} (f : A → B) (g : C → B) (done : List C) (xs : List A) (i : ℕ) → length xs ≤ i → map g done ≡ map f (take i xs) → map g done ≡ map f xs
whole f g done xs i end so_far = so_far ∙ ap (map f) (take_all i xs end)

-- a log under its path, rolled
abbrev pub rolled_entry : Path × OpenedLog → Path × SiteLog
rolled_entry e = (e.0, rolled (log_of e.1))

pub rolled-all : (ls : List (Path × OpenedLog)) → map rolled_entry ls ≡ rolled_logs (map entry_of ls)
rolled-all [] = refl
rolled-all (l ∷ ls) = ap (λ r. rolled_entry l ∷ r) (rolled-all ls)
