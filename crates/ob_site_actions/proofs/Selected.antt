-- The logs of a node's histories, by their places.
use Rattle.std.proofs.Common.{◌≡◌, ℕ, suc, ◌+◌, ◌<◌, ◌≤◌, Bool, true, false, ◌&&◌, ◌||◌, cond, List, [], ◌∷◌, ◌++◌, length, map, drop, get_or, Option, Some, refl, ap, ◌∙◌, subst, arith, add-one}
use Rattle.std.specs.Prelude.{slice_get, option_to_list, filter, is_none, nat_le}
use Rattle.std.specs.List.{list_any}
use Rattle.std.proofs.lemmas.List.{drop_more}
use Rattle.std.proofs.lemmas.Bool.Decides.{nat_tests}
use Rattle.ob_step_laws.specs.Laws.{Apart}
use Rattle.ob_site_rules.specs.Build.{Path}
use Rattle.ob_site_rules.specs.declared.plan.Plan.{Plan}
use Rattle.ob_site_rules.specs.State.{Log}
use Rattle.ob_site_rules.specs.Writes.{events_ever, records_from}
use Rattle.ob_site_state.specs.Roles.{all_places, is_of, recorders_of}
use Rattle.ob_site_state.specs.Tallies.{capacities_of, growing_in}
use Rattle.ob_site_state.proofs.Recording.{Beside, beside_histories, length-beside, recorder}
use Rattle.ob_site_actions.specs.Limits.{grows, growing, any_counted_out}

-- the logs of some places
abbrev pub logs_at : List ℕ → List (Path × Log) → List (Path × Log)
logs_at [] ls = []
logs_at (p ∷ ps) ls = option_to_list (slice_get ls p) ++ logs_at ps ls

logs_at_on : (ps : List ℕ) (l : Path × Log) (ls : List (Path × Log)) → logs_at (map (λ k. k + 1) ps) (l ∷ ls) ≡ logs_at ps ls
logs_at_on [] l ls = refl
logs_at_on (p ∷ ps) l ls =
    ap (λ (k : ℕ). option_to_list (slice_get (l ∷ ls) k) ++ logs_at (map (λ k. k + 1) ps) (l ∷ ls)) (add-one p)
    ∙ ap (λ (ms : List (Path × Log)). option_to_list (slice_get ls p) ++ ms) (logs_at_on ps l ls)

-- those of all places that pass
selected : {A : Type 0} (f : A → Bool) (g : Path × Log → Bool) (xs : List A) (ls : List (Path × Log)) → length xs ≡ length ls → Beside f g xs ls → logs_at (all_places f xs) ls ≡ filter g ls
selected f g [] [] len beside = refl
selected f g [] (l ∷ ls) len beside = absurd (omega (arith, len))
selected f g (x ∷ xs) [] len beside = absurd (omega (arith, len))
selected f g (x ∷ xs) (l ∷ ls) len beside =
    ap (λ (b : Bool). logs_at (cond b (0 ∷ map (λ k. k + 1) (all_places f xs)) (map (λ k. k + 1) (all_places f xs))) (l ∷ ls)) (beside 0 x l refl refl)
    ∙ go (g l)
    ∙ ap (λ (ms : List (Path × Log)). cond (g l) (l ∷ ms) ms) (selected f g xs ls (omega (arith, len)) (λ i. beside (suc i)))
  where
    go : (b : Bool) → logs_at (cond b (0 ∷ map (λ k. k + 1) (all_places f xs)) (map (λ k. k + 1) (all_places f xs))) (l ∷ ls) ≡ cond b (l ∷ logs_at (all_places f xs) ls) (logs_at (all_places f xs) ls)
    go true = ap (λ (ms : List (Path × Log)). l ∷ ms) (logs_at_on (all_places f xs) l ls)
    go false = logs_at_on (all_places f xs) l ls

-- the logs of the histories that record a node
pub of_recorders : (plan : Plan) (source : Path) (ls : List (Path × Log)) → Apart (map (λ h. h.0) plan.histories) → map (λ l. l.0) ls ≡ map (λ h. h.0) plan.histories
    → logs_at (recorders_of plan source) ls ≡ filter (λ l. records_from plan source l.0) ls
of_recorders plan source ls apart keys =
    selected (is_of source) (λ l. records_from plan source l.0) plan.histories ls (length-beside plan ls keys) (beside_histories plan source ls apart keys)

-- whether one of them passes, from a place on
pub any_more : (k : Path × Log → Bool) (ps : List ℕ) (n d : ℕ) (ls : List (Path × Log)) (l : Path × Log) → n < length ps → slice_get ls (get_or ps n d) ≡ Some l
    → list_any k (logs_at (drop n ps) ls) ≡ (k l || list_any k (logs_at (drop (n + 1) ps) ls))
any_more k ps n d ls l lt e =
    ap (λ (qs : List ℕ). list_any k (logs_at qs ls)) (drop_more ps n d lt)
    ∙ ap (λ (o : Option (Path × Log)). list_any k (option_to_list o ++ logs_at (drop (n + 1) ps) ls)) e

-- the place of one of these histories is that of a log
pub recorder_within : (plan : Plan) (source : Path) (ls : List (Path × Log)) (ps : List ℕ) (n d : ℕ) → Apart (map (λ h. h.0) plan.histories) → map (λ l. l.0) ls ≡ map (λ h. h.0) plan.histories
    → ps ≡ recorders_of plan source → n < length ps → get_or ps n d < length ls
recorder_within plan source ls ps n d apart keys same lt =
    (recorder plan source ls n (get_or ps n d) d apart keys (subst (λ (qs : List ℕ). n < length qs) same lt) (ap (λ (qs : List ℕ). get_or qs n d) same)).within

-- those of the node that keep all their records, by the places of the histories
growing_beside : (plan : Plan) (source : Path) (hs : List (Path × Option Path)) (ls : List (Path × Log)) → length hs ≡ length ls → Beside (is_of source) (λ l. records_from plan source l.0) hs ls
    → growing_in source hs (capacities_of ls) ≡ growing plan source ls
growing_beside plan source [] [] len beside = refl
growing_beside plan source [] (l ∷ ls) len beside = absurd (omega (arith, len))
growing_beside plan source (h ∷ hs) [] len beside = absurd (omega (arith, len))
growing_beside plan source (h ∷ hs) (l ∷ ls) len beside =
    ap (λ (b : Bool). cond {A = ℕ} (b && is_none l.1.capacity) 1 0 + growing_in source hs (capacities_of ls)) (beside 0 h l refl refl)
    ∙ ap (λ (n : ℕ). cond {A = ℕ} (grows plan source l) 1 0 + n) (growing_beside plan source hs ls (omega (arith, len)) (λ i. beside (suc i)))

pub growing_is : (plan : Plan) (source : Path) (ls : List (Path × Log)) → Apart (map (λ h. h.0) plan.histories) → map (λ l. l.0) ls ≡ map (λ h. h.0) plan.histories
    → growing_in source plan.histories (capacities_of ls) ≡ growing plan source ls
growing_is plan source ls apart keys = growing_beside plan source plan.histories ls (length-beside plan ls keys) (beside_histories plan source ls apart keys)

-- a history has had as many events as can be counted
abbrev pub is_full_log : Path × Log → Bool
is_full_log l = nat_le 9_223_372_036_854_775_807 (events_ever l.1)

pub out_so : (n : ℕ) → 9_223_372_036_854_775_807 ≤ n → nat_le 9_223_372_036_854_775_807 n ≡ true
out_so n h = grind (arith, nat_tests)

pub not_out : (n : ℕ) → n < 9_223_372_036_854_775_807 → nat_le 9_223_372_036_854_775_807 n ≡ false
not_out n h = grind (arith, nat_tests)

out_first : (b out : Bool) (l : Path × Log) (ls : List (Path × Log)) → list_any is_full_log ls ≡ out → list_any is_full_log (cond b (l ∷ ls) ls) ≡ ((b && is_full_log l) || out)
out_first true out l ls e = ap (λ (o : Bool). is_full_log l || o) e
out_first false out l ls e = e

out_of : (plan : Plan) (source : Path) (ls : List (Path × Log)) → list_any is_full_log (filter (λ l. records_from plan source l.0) ls) ≡ any_counted_out plan source ls
out_of plan source [] = refl
out_of plan source (l ∷ ls) = out_first (records_from plan source l.0) (any_counted_out plan source ls) l (filter (λ m. records_from plan source m.0) ls) (out_of plan source ls)

pub out_is : (plan : Plan) (source : Path) (ls : List (Path × Log)) → Apart (map (λ h. h.0) plan.histories) → map (λ l. l.0) ls ≡ map (λ h. h.0) plan.histories
    → list_any is_full_log (logs_at (recorders_of plan source) ls) ≡ any_counted_out plan source ls
out_is plan source ls apart keys = ap (list_any is_full_log) (of_recorders plan source ls apart keys) ∙ out_of plan source ls
