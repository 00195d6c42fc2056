-- Paths that are apart.
use Rattle.std.proofs.Common.{◌≡◌, Bool, true, false, cond, ◌||◌, bytes_eq, List, [], ◌∷◌, Option, Some, None, refl, sym, ◌∙◌, true≢false}
use Rattle.std.proofs.lemmas.Slice.Eq.{bytes_eq-Decides}
use Rattle.ob_values.proofs.Bools.{neither_left, neither_right, both_false}
use Rattle.ob_site_rules.specs.Build.{Path}
use Rattle.ob_site_rules.specs.State.{is_among}
use Rattle.ob_site_rules.specs.Loading.{is_computed, taken_twice}
use Rattle.ob_step_laws.specs.Laws.{Apart, TakenOnce}

-- none of the paths is among those
abbrev pub Free : List Path → List Path → Type 0
Free seen [] = Unit {0}
Free seen (p ∷ ps) = (is_among p seen ≡ false) × Free seen ps

pub not_same : (p q : Path) → bytes_eq p q ≡ false → bytes_eq q p ≡ false
not_same p q h = go (bytes_eq q p) refl
  where
    go : (b : Bool) → bytes_eq q p ≡ b → bytes_eq q p ≡ false
    go false e = e
    go true e = absurd (true≢false (sym ((bytes_eq-Decides p q).1 (sym ((bytes_eq-Decides q p).0 e))) ∙ h))

pub free_less : (p : Path) (seen ps : List Path) → Free (p ∷ seen) ps → (is_among p ps ≡ false) × Free seen ps
free_less p seen [] f = (refl, tt)
free_less p seen (q ∷ ps) f =
    let rest : (is_among p ps ≡ false) × Free seen ps = free_less p seen ps f.1 in
    (both_false (bytes_eq q p) (is_among p ps) (not_same p q (neither_left (bytes_eq p q) (is_among q seen) f.0)) rest.0, (neither_right (bytes_eq p q) (is_among q seen) f.0, rest.1))

pub cond_none : (b : Bool) (p : Path) (r : Option Path) → cond b (Some p) r ≡ None → (b ≡ false) × (r ≡ None)
cond_none true p r h = absurd (let e : Some p ≡ None = h in cc)
cond_none false p r h = (refl, h)

once : (r : Path) (seen ps : List Path) → taken_twice r seen ps ≡ None → Apart ps × Free seen ps
once r seen [] h = (tt, tt)
once r seen (p ∷ ps) h =
    let t : ((is_computed r p || is_among p seen) ≡ false) × (taken_twice r (p ∷ seen) ps ≡ None) = cond_none (is_computed r p || is_among p seen) p (taken_twice r (p ∷ seen) ps) h in
    let rest : Apart ps × Free (p ∷ seen) ps = once r (p ∷ seen) ps t.1 in
    let less : (is_among p ps ≡ false) × Free seen ps = free_less p seen ps rest.1 in
    ((less.0, rest.0), (neither_right (is_computed r p) (is_among p seen) t.0, less.1))

pub taken_once : TakenOnce
taken_once r ps h = (once r [] ps h).0
