-- Paths that begin with others, and paths that don't.
use Rattle.std.proofs.Common.{◌≡◌, Bool, true, false, ◌++◌, Some, None, option_map, refl, sym, ap, ◌∙◌, cond}
use Rattle.std.specs.Prelude.{codes, nat_eq}
use Rattle.std.specs.List.{starts_with}
use Rattle.std.specs.Str.{bytes_eq}
use Rattle.std.proofs.lemmas.List.{append_cancel_left}
use Rattle.std.proofs.lemmas.Slice.Eq.{bytes_eq-Decides}
use Rattle.ob_site_rules.specs.Build.{Path}
use Rattle.ob_site_rules.specs.State.{at}
use Rattle.ob_site_rules.specs.Paths.{below}
use Rattle.ob_site_rules.specs.declared.resource.Resource.{Resource}
use Rattle.ob_site_rules.specs.declared.resource.Resource.TheVariants.{WritePointOf, QueryOf, FeedOf, AlarmQuery, AlarmFeed}
use Rattle.ob_site_rules.specs.Places.{subject_places}
use Rattle.ob_plain_state.specs.Parts.{point_parts, history_parts}
use Rattle.ob_site_reads.proofs.Nowhere.{below_off}

-- what is behind a beginning is the same where the whole is
pub followed : (front tail rest path : Path) → path ≡ front ++ rest → bytes_eq tail rest ≡ bytes_eq (front ++ tail) path
followed front tail rest path e = ap (λ (b : Bool). b) (go (bytes_eq tail rest) refl) ∙ ap (bytes_eq (front ++ tail)) (sym e)
  where
    both : (b : Bool) → bytes_eq (front ++ tail) (front ++ rest) ≡ b → bytes_eq tail rest ≡ false → false ≡ b
    both true f g =
        let same : bytes_eq tail rest ≡ true = (bytes_eq-Decides tail rest).1 (append_cancel_left front tail rest ((bytes_eq-Decides (front ++ tail) (front ++ rest)).0 f)) in
        absurd cc
    both false f g = refl

    go : (b : Bool) → bytes_eq tail rest ≡ b → b ≡ bytes_eq (front ++ tail) (front ++ rest)
    go true f = sym ((bytes_eq-Decides (front ++ tail) (front ++ rest)).1 (ap (λ (t : Path). front ++ t) ((bytes_eq-Decides tail rest).0 f)))
    go false f = both (bytes_eq (front ++ tail) (front ++ rest)) refl f

-- and where a path has another beginning it is none of those with it
pub not_followed : (front tail path : Path) → ((rest : Path) → path ≡ front ++ rest → ⊥) → false ≡ bytes_eq (front ++ tail) path
not_followed front tail path other = go (bytes_eq (front ++ tail) path) refl
  where
    go : (b : Bool) → bytes_eq (front ++ tail) path ≡ b → false ≡ b
    go true f = absurd (other tail (sym ((bytes_eq-Decides (front ++ tail) path).0 f)))
    go false f = refl

-- the places of a node's ops and feeds aren't at a path that doesn't begin with its own
one_off : (p : Path) (q : Path) (x : Resource) (b : Bool) → b ≡ false → option_map (λ (e : Path × Resource). e.1) (cond b (Some (q, x)) None) ≡ None
one_off p q x true e = absurd cc
one_off p q x false e = refl

two_off : (q r : Path) (x y : Resource) (a b : Bool) → a ≡ false → b ≡ false → option_map (λ (e : Path × Resource). e.1) (cond a (Some (q, x)) (cond b (Some (r, y)) None)) ≡ None
two_off q r x y true b e f = absurd cc
two_off q r x y false true e f = absurd cc
two_off q r x y false false e f = refl

pub point_off : (p q : Path) → bytes_eq (below q (codes "writePoint")) p ≡ false → at p (point_parts q) ≡ None
point_off p q e = one_off p (below q (codes "writePoint")) (WritePointOf q) (bytes_eq (below q (codes "writePoint")) p) e

pub history_off : (p q : Path) → bytes_eq (below q (codes "query")) p ≡ false → bytes_eq (below q (codes "feed")) p ≡ false → at p (history_parts q) ≡ None
history_off p q e f =
    two_off (below q (codes "query")) (below q (codes "feed")) (QueryOf q) (FeedOf q) (bytes_eq (below q (codes "query")) p) (bytes_eq (below q (codes "feed")) p) e f

pub subject_off : (p q : Path) → bytes_eq (below q (codes "query")) p ≡ false → bytes_eq (below q (codes "feed")) p ≡ false → at p (subject_places (Some q)) ≡ None
subject_off p q e f =
    two_off (below q (codes "query")) (below q (codes "feed")) AlarmQuery AlarmFeed (bytes_eq (below q (codes "query")) p) (bytes_eq (below q (codes "feed")) p) e f

pub no_point : (q p : Path) → starts_with nat_eq p q ≡ false → at p (point_parts q) ≡ None
no_point q p e = point_off p q (below_off q (codes "writePoint") p e)

pub no_history : (q p : Path) → starts_with nat_eq p q ≡ false → at p (history_parts q) ≡ None
no_history q p e = history_off p q (below_off q (codes "query") p e) (below_off q (codes "feed") p e)

pub no_subject : (q p : Path) → starts_with nat_eq p q ≡ false → at p (subject_places (Some q)) ≡ None
no_subject q p e = subject_off p q (below_off q (codes "query") p e) (below_off q (codes "feed") p e)
