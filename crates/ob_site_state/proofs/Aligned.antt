-- Logs that stand beside the plan's histories.
use Rattle.std.proofs.Common.{◌≡◌, ℕ, zero, suc, Bool, true, false, cond, ◌||◌, List, [], ◌∷◌, map, Option, Some, option_map, refl, sym, ap, ◌∙◌, subst, true≢false}
use Rattle.std.specs.Prelude.{slice_get, option_and_then, find}
use Rattle.std.specs.Str.{bytes_eq}
use Rattle.std.proofs.lemmas.Slice.Eq.{bytes_eq-Decides}
use Rattle.ob_values.proofs.Lists.{bytes_itself}
use Rattle.ob_step_laws.specs.Laws.{Apart}
use Rattle.ob_site_rules.specs.Build.{Path}
use Rattle.ob_object.specs.Paths.{is_path}
use Rattle.ob_site_rules.specs.State.{Log, at, is_among}
use Rattle.ob_site_rules.specs.declared.plan.Plan.{Plan}
use Rattle.ob_site_rules.specs.Writes.{records_from}

-- a path that is among others isn't one that isn't
other_path : (p : Path) (ps : List Path) (i : ℕ) (q : Path) → is_among p ps ≡ false → slice_get ps i ≡ Some q → bytes_eq p q ≡ false
other_path p [] i q h e = absurd cc
other_path p (r ∷ ps) zero q h e =
    let same : r ≡ q = cc in go (bytes_eq p q) refl (subst (λ (x : Path). (bytes_eq x p || is_among p ps) ≡ false) same h)
  where
    go : (b : Bool) → bytes_eq p q ≡ b → (bytes_eq q p || is_among p ps) ≡ false → bytes_eq p q ≡ false
    go true is h =
        let one : p ≡ q = (bytes_eq-Decides p q).0 is in
        absurd (true≢false (sym (ap (λ (b : Bool). b || is_among p ps) (subst (λ (x : Path). bytes_eq q x ≡ true) (sym one) (bytes_itself q))) ∙ h))
    go false is h = is
other_path p (r ∷ ps) (suc i) q h e = other_path p ps i q (rest (bytes_eq r p) h) e
  where
    rest : (b : Bool) → (b || is_among p ps) ≡ false → is_among p ps ≡ false
    rest true h = absurd (true≢false h)
    rest false h = h

-- what stands under the path of a place is what stands there
at_place : (hs : List (Path × Option Path)) (i : ℕ) (h : Path × Option Path) → Apart (map (λ e. e.0) hs) → slice_get hs i ≡ Some h → at h.0 hs ≡ Some h.1
at_place [] i h apart e = absurd cc
at_place (g ∷ hs) zero h apart e =
    let same : g ≡ h = cc in
    subst (λ (x : Path × Option Path). at x.0 (g ∷ hs) ≡ Some x.1) same
    (ap (λ (b : Bool). option_map (λ (x : Path × Option Path). x.1) (cond b (Some g) (find (λ x. bytes_eq x.0 g.0) hs))) (bytes_itself g.0))
at_place (g ∷ hs) (suc i) h apart e =
    ap (λ (b : Bool). option_map (λ (x : Path × Option Path). x.1) (cond b (Some g) (find (λ x. bytes_eq x.0 h.0) hs))) (other_path g.0 (map (λ x. x.0) hs) i h.0 apart.0 (path_there hs i e))
    ∙ at_place hs i h apart.1 e
  where
    path_there : (hs : List (Path × Option Path)) (i : ℕ) → slice_get hs i ≡ Some h → slice_get (map (λ x. x.0) hs) i ≡ Some h.0
    path_there [] i e = absurd cc
    path_there (x ∷ hs) zero e = let same : x ≡ h = cc in ap (λ (y : Path × Option Path). Some y.0) same
    path_there (x ∷ hs) (suc i) e = path_there hs i e

history_there : (hs : List (Path × Option Path)) (ls : List (Path × Log)) (i : ℕ) (l : Path × Log) → map (λ x. x.0) ls ≡ map (λ x. x.0) hs → slice_get ls i ≡ Some l
    → (h : Path × Option Path) × (slice_get hs i ≡ Some h) × (l.0 ≡ h.0)
history_there hs [] i l keys e = absurd cc
history_there [] (k ∷ ls) i l keys e = absurd cc
history_there (h ∷ hs) (k ∷ ls) zero l keys e =
    let same : k ≡ l = cc in
    let first : k.0 ≡ h.0 = cc in
    (h, refl, sym (ap (λ (x : Path × Log). x.0) same) ∙ first)
history_there (h ∷ hs) (k ∷ ls) (suc i) l keys e = let rest : map (λ x. x.0) ls ≡ map (λ x. x.0) hs = cc in history_there hs ls i l rest e

-- whether a history records a node is told by its place
pub told_by_place : (plan : Plan) (ls : List (Path × Log)) (source : Path) (has : Bool) (i : ℕ) → Apart (map (λ x. x.0) plan.histories) → map (λ x. x.0) ls ≡ map (λ x. x.0) plan.histories
    → ((h : Path × Option Path) → slice_get plan.histories i ≡ Some h → has ≡ is_path source h.1) → (l : Path × Log) → slice_get ls i ≡ Some l → has ≡ records_from plan source l.0
told_by_place plan ls source has i apart keys told l e =
    let there = history_there plan.histories ls i l keys e in
    told there.0 there.1
    ∙ sym (ap (λ (o : Option (Option Path)). is_path source (option_and_then (λ x. x) o))
    (ap (λ (p : Path). at p plan.histories) there.2 ∙ at_place plan.histories i there.0 apart there.1))
