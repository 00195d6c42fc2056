-- Places that are kept for a path.
use Rattle.std.proofs.Common.{◌≡◌, ℕ, Bool, true, false, cond, List, [], ◌∷◌, ◌++◌, Option, Some, None, refl, ap, ◌∙◌}
use Rattle.std.specs.Prelude.{Vec, String}
use Rattle.std.specs.Str.{bytes_eq}
use Rattle.std.specs.BTreeMap.{BTreeMap, get_by_text}
use Rattle.std.proofs.lemmas.Slice.Eq.{bytes_eq-Decides}
use Rattle.ob_site_rules.specs.Build.{Path}
use Rattle.ob_site_state.specs.Roles.{kept_places, places_at}

-- places that were taken out, and put back with one more behind them
pub put_last : {X Y : Type 0} (path p : Path) (place : ℕ) (old mid new : BTreeMap (String X) (Vec ℕ Y)) (own : Vec ℕ Y) (before : List ℕ) → before ≡ places_at old path → own.items ≡ before ++ place ∷ []
    → ((q : Path) → get_by_text mid q ≡ cond (bytes_eq path q) None (get_by_text old q)) → get_by_text new p ≡ cond (bytes_eq path p) (Some own) (get_by_text mid p)
    → places_at new p ≡ cond (bytes_eq path p) (places_at old p ++ place ∷ []) (places_at old p)
put_last {X} {Y} path p place old mid new own before taken pushed others put =
    ap kept_places (put ∙ ap (λ (o : Option (Vec ℕ Y)). cond (bytes_eq path p) (Some own) o) (others p)) ∙ go (bytes_eq path p) refl
  where
    go : (b : Bool) → bytes_eq path p ≡ b → kept_places (cond b (Some own) (cond b None (get_by_text old p))) ≡ cond b (places_at old p ++ place ∷ []) (places_at old p)
    go true is = pushed ∙ ap (λ (ps : List ℕ). ps ++ place ∷ []) (taken ∙ ap (places_at old) ((bytes_eq-Decides path p).0 is))
    go false is = refl
