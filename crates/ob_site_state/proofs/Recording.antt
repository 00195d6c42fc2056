-- Records of a node, one history of it after the other.
use Rattle.std.proofs.Common.{◌≡◌, ℕ, zero, suc, ◌+◌, ◌<◌, Bool, true, false, cond, List, [], ◌∷◌, ◌++◌, length, map, take, get_or, Option, Some, refl, sym, ap, ◌∙◌, subst, arith, add-one}
use Rattle.std.specs.Prelude.{slice_get}
use Rattle.std.proofs.lemmas.List.{length-map, take_more}
use Rattle.ob_step_laws.specs.Laws.{Apart}
use Rattle.ob_site_rules.specs.Build.{Path}
use Rattle.ob_site_rules.specs.declared.plan.Plan.{Plan}
use Rattle.ob_site_rules.specs.State.{Log}
use Rattle.ob_site_rules.specs.Writes.{records_from}
use Rattle.ob_site_state.specs.Roles.{all_places, is_of, recorders_of}
use Rattle.ob_site_state.proofs.Standing.{AreBelow, Stands, stands}
use Rattle.ob_site_state.specs.Changes.{with_log}
use Rattle.ob_site_state.proofs.Aligned.{told_by_place}
use Rattle.ob_site_state.proofs.LogPlaces.{length-with_log}
use Rattle.ob_site_state.proofs.Settling.{other_log}

-- the logs, where those of some places are changed
abbrev pub with_logs : (Log → Log) → List ℕ → List (Path × Log) → List (Path × Log)
with_logs f [] ls = ls
with_logs f (p ∷ ps) ls = with_logs f ps (with_log f p ls)

with_logs-append : (f : Log → Log) (ps : List ℕ) (p : ℕ) (ls : List (Path × Log)) → with_logs f (ps ++ p ∷ []) ls ≡ with_log f p (with_logs f ps ls)
with_logs-append f [] p ls = refl
with_logs-append f (q ∷ ps) p ls = with_logs-append f ps p (with_log f q ls)

-- one place more
pub with_logs_more : (f : Log → Log) (ps : List ℕ) (n p d : ℕ) (ls : List (Path × Log)) → n < length ps → p ≡ get_or ps n d → with_log f p (with_logs f (take n ps) ls) ≡ with_logs f (take (n + 1) ps) ls
with_logs_more f ps n p d ls lt is =
    sym (with_logs-append f (take n ps) p ls)
    ∙ ap (λ (qs : List ℕ). with_logs f qs ls) (sym (take_more ps n d lt ∙ ap (λ (q : ℕ). take n ps ++ q ∷ []) (sym is)))

pub length-with_logs : (f : Log → Log) (ps : List ℕ) (ls : List (Path × Log)) → length (with_logs f ps ls) ≡ length ls
length-with_logs f [] ls = refl
length-with_logs f (p ∷ ps) ls = length-with_logs f ps (with_log f p ls) ∙ length-with_log f p ls

-- the log of a place above them stays
pub with_logs_below : (f : Log → Log) (ps : List ℕ) (q : ℕ) (ls : List (Path × Log)) → AreBelow q ps → slice_get (with_logs f ps ls) q ≡ slice_get ls q
with_logs_below f [] q ls h = refl
with_logs_below f (p ∷ ps) q ls h = with_logs_below f ps q (with_log f p ls) h.1 ∙ other_log f p q ls (λ e. omega (arith, h.0, e))

with_logs_on : (f : Log → Log) (ps : List ℕ) (l : Path × Log) (ls : List (Path × Log)) → with_logs f (map (λ k. k + 1) ps) (l ∷ ls) ≡ l ∷ with_logs f ps ls
with_logs_on f [] l ls = refl
with_logs_on f (p ∷ ps) l ls =
    ap (λ (k : ℕ). with_logs f (map (λ k. k + 1) ps) (with_log f k (l ∷ ls))) (add-one p) ∙ with_logs_on f ps l (with_log f p ls)

-- logs stand beside the elements of a list, and tell which of these pass
abbrev pub Beside : {A : Type 0} → (A → Bool) → (Path × Log → Bool) → List A → List (Path × Log) → Type 0
Beside {A} f g xs ls = (i : ℕ) (x : A) (l : Path × Log) → slice_get xs i ≡ Some x → slice_get ls i ≡ Some l → f x ≡ g l

-- to change the logs of all places that pass is to change each log that does
pub all_with_logs : {A : Type 0} (f : A → Bool) (g : Path × Log → Bool) (to : Log → Log) (xs : List A) (ls : List (Path × Log)) → length xs ≡ length ls → Beside f g xs ls
    → with_logs to (all_places f xs) ls ≡ map (λ l. (l.0, cond (g l) (to l.1) l.1)) ls
all_with_logs f g to [] [] len beside = refl
all_with_logs f g to [] (l ∷ ls) len beside = absurd (omega (arith, len))
all_with_logs f g to (x ∷ xs) [] len beside = absurd (omega (arith, len))
all_with_logs f g to (x ∷ xs) (l ∷ ls) len beside =
    ap (λ (b : Bool). with_logs to (cond b (0 ∷ map (λ k. k + 1) (all_places f xs)) (map (λ k. k + 1) (all_places f xs))) (l ∷ ls)) (beside 0 x l refl refl)
    ∙ go (g l)
    ∙ ap (λ (ms : List (Path × Log)). let m : Path × Log = (l.0, cond (g l) (to l.1) l.1) in m ∷ ms) (all_with_logs f g to xs ls (omega (arith, len)) (λ i. beside (suc i)))
  where
    go : (b : Bool) → with_logs to (cond b (0 ∷ map (λ k. k + 1) (all_places f xs)) (map (λ k. k + 1) (all_places f xs))) (l ∷ ls) ≡ (let m : Path × Log = (l.0, cond b (to l.1) l.1) in m ∷ with_logs to (all_places f xs) ls)
    go true = with_logs_on to (all_places f xs) (l.0, to l.1) ls
    go false = with_logs_on to (all_places f xs) l ls

-- the logs stand beside the plan's histories
pub beside_histories : (plan : Plan) (source : Path) (ls : List (Path × Log)) → Apart (map (λ h. h.0) plan.histories) → map (λ l. l.0) ls ≡ map (λ h. h.0) plan.histories → Beside (is_of source) (λ l. records_from plan source l.0) plan.histories ls
beside_histories plan source ls apart keys = λ i h l at there. told_by_place plan ls source (is_of source h) i apart keys (λ g e. let same : h ≡ g = one h g (sym at ∙ e) in ap (is_of source) same) l there
  where
    one : (h g : Path × Option Path) → Some h ≡ Some g → h ≡ g
    one h g e = cc

pub length-beside : (plan : Plan) (ls : List (Path × Log)) → map (λ l. l.0) ls ≡ map (λ h. h.0) plan.histories → length plan.histories ≡ length ls
length-beside plan ls keys =
    omega (arith, length-map plan.histories (λ (h : Path × Option Path). h.0), length-map ls (λ (l : Path × Log). l.0), ap (λ (ps : List Path). length ps) keys)

-- The log of a place whose history records a node.
pub record IsRecorder (plan : Plan) (source : Path) (ls : List (Path × Log)) (n p : ℕ) : Type 0 where
  pub within : p < length ls
  pub below : AreBelow p (take n (recorders_of plan source))
  pub records : (l : Path × Log) → slice_get ls p ≡ Some l → records_from plan source l.0 ≡ true

pub recorder : (plan : Plan) (source : Path) (ls : List (Path × Log)) (n p d : ℕ) → Apart (map (λ h. h.0) plan.histories) → map (λ l. l.0) ls ≡ map (λ h. h.0) plan.histories → n < length (recorders_of plan source)
    → p ≡ get_or (recorders_of plan source) n d → IsRecorder plan source ls n p
recorder plan source ls n p d apart keys lt is =
    let s : Stands (is_of source) plan.histories (recorders_of plan source) n p = subst (Stands (is_of source) plan.histories (recorders_of plan source) n) (sym is) (stands (is_of source) plan.histories n d lt) in record {
      within = omega (arith, s.within, length-beside plan ls keys);
      below = s.ascends;
      records = λ l e. sym (told_by_place plan ls source true p apart keys (λ h at. sym (s.passes h at)) l e);
    }
