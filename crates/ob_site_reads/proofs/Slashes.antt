-- Where what a role derives is derived, by its path alone.
use Rattle.std.proofs.Common.{◌≡◌, ℕ, suc, ◌+◌, ◌<◌, ◌≤◌, ◌≢◌, Bool, true, false, cond, eqb, List, [], ◌∷◌, ◌++◌, length, get_or, take, drop, Option, Some, None, refl, sym, ap, ap₂, ◌∙◌, subst, append_assoc, ◌⊎◌, inl, inr, arith}
use Rattle.std.specs.Prelude.{IsUtf8}
use Rattle.std.specs.Option.{MatchOption}
use Rattle.std.specs.Str.{encode_utf8_all, NoCharPasses}
use Rattle.std.specs.Str.Pattern.{RFindsChar, SplitsAroundMatch}
use Rattle.std.specs.List.{AllByRecursion}
use Rattle.std.proofs.lemmas.Bool.{eqb-true}
use Rattle.std.proofs.lemmas.List.{take-append-drop}
use Rattle.std.proofs.lemmas.Str.{cons_from_encodes}
use Rattle.std.proofs.lemmas.Str.Pattern.{NoCharPasses-char, drop_at_char}
use Rattle.ob_values.specs.XmlText.{IsXmlChar, IsXmlText}
use Rattle.ob_values.proofs.Bools.{both_false, or_second}
use Rattle.ob_site_rules.specs.Build.{Path}
use Rattle.ob_site_rules.specs.Paths.{below, ends_with_slash}
use Rattle.ob_site_reads.specs.Parents.{has_slash, IsParent}

-- what stands in front in a text of XML characters is one
chars_front : (us cs : List ℕ) (rest : List ℕ) → AllByRecursion IsXmlChar cs → encode_utf8_all cs ≡ encode_utf8_all us ++ rest → AllByRecursion IsXmlChar us
chars_front [] cs rest all e = tt
chars_front (u ∷ us) cs rest all e =
    let s = cons_from_encodes cs (encode_utf8_all us ++ rest) u (e ∙ append_assoc _ (encode_utf8_all us) rest) in
    let here = subst (AllByRecursion IsXmlChar) s.1 all in
    (here.0, chars_front us s.0 rest here.1 s.2)

pub xml_front : (text front rest : List ℕ) → IsUtf8 front → IsXmlText text → text ≡ front ++ rest → IsXmlText front
xml_front text front rest u t e =
    (u.0, chars_front u.0 t.0 rest t.1 (t.2 ∙ e ∙ ap (λ (f : List ℕ). f ++ rest) (sym u.1.1)), u.1.1)

eqb_no : (c d : ℕ) → c ≢ d → eqb c d ≡ false
eqb_no c d ne = go (eqb c d) refl
  where
    go : (b : Bool) → eqb c d ≡ b → b ≡ false
    go true e = absurd (ne (eqb-true c d e))
    go false e = refl

no_slash : (t : List ℕ) → ((i : ℕ) → i < length t → get_or t i 0 ≢ 47) → has_slash t ≡ false
no_slash [] h = refl
no_slash (c ∷ t) h = both_false (eqb c 47) (has_slash t) (eqb_no c 47 (h 0 (omega arith))) (no_slash t (λ i lt. h (suc i) (omega arith)))

pub none_split : (p : Path) → NoCharPasses (λ d. eqb d 47) p → has_slash p ≡ false
none_split p h = no_slash p (λ i lt. NoCharPasses-char 47 p i h (omega arith) lt)

pub last_split : (p front back : List ℕ) → SplitsAroundMatch (RFindsChar 47) p front back → IsParent p (Some front)
last_split p front back s =
    let i = s.0 in
    let j = s.1 in
    let found = s.2 in (
      back,
      sym (take-append-drop i p) ∙ ap₂ (λ (f r : List ℕ). f ++ r) (sym s.3) (drop_at_char 47 p i j found.1 (omega arith) ∙ ap (λ (r : List ℕ). 47 ∷ r) (sym s.4)),
      ap has_slash s.4 ∙ none_split (drop j p) found.0,
    )

pub slash_there : (front name : Path) → has_slash (front ++ 47 ∷ name) ≡ true
slash_there [] name = refl
slash_there (c ∷ front) name = or_second (eqb c 47) (has_slash (front ++ 47 ∷ name)) (slash_there front name)

heads : {c d : ℕ} {xs ys : List ℕ} → c ∷ xs ≡ d ∷ ys → c ≡ d
heads e = cc

tails : {c d : ℕ} {xs ys : List ℕ} → c ∷ xs ≡ d ∷ ys → xs ≡ ys
tails e = cc

clash : (t front name : Path) → has_slash t ≡ false → t ≡ front ++ 47 ∷ name → ⊥
clash t front name free e =
    let there : has_slash t ≡ true = ap has_slash e ∙ slash_there front name in
    absurd cc

same_front : (m name front tail : Path) → has_slash name ≡ false → has_slash tail ≡ false → m ++ 47 ∷ name ≡ front ++ 47 ∷ tail → m ≡ front
same_front [] name [] tail a b e = refl
same_front [] name (f ∷ front) tail a b e = absurd (clash name front tail a (tails e))
same_front (x ∷ m) name [] tail a b e = absurd (clash tail m name b (sym (tails e)))
same_front (x ∷ m) name (f ∷ front) tail a b e = ap₂ (λ (c : ℕ) (l : Path). c ∷ l) (heads e) (same_front m name front tail a b (tails e))

ends : (q : Path) → ends_with_slash q ≡ true → (m : Path) × (q ≡ m ++ 47 ∷ [])
ends [] e = absurd cc
ends (c ∷ []) e = ([], ap (λ (x : ℕ). x ∷ []) (eqb-true c 47 e))
ends (c ∷ d ∷ cs) e =
    let r = ends (d ∷ cs) e in
    (c ∷ r.0, ap (λ (l : Path). c ∷ l) r.1)

below_parts : (q name : Path) → (m : Path) × (below q name ≡ m ++ 47 ∷ name) × ((q ≡ m) ⊎ (q ≡ m ++ 47 ∷ []))
below_parts q name = go (ends_with_slash q) refl
  where
    go : (b : Bool) → ends_with_slash q ≡ b → (m : Path) × (cond b q (q ++ 47 ∷ []) ++ name ≡ m ++ 47 ∷ name) × ((q ≡ m) ⊎ (q ≡ m ++ 47 ∷ []))
    go true e =
        let r = ends q e in
        (r.0, ap (λ (l : Path). l ++ name) r.1 ∙ append_assoc r.0 (47 ∷ []) name, inr r.1)
    go false e = (q, append_assoc q (47 ∷ []) name, inl refl)

-- a path without a slash is no node's child
pub no_parent : (p q name : Path) → IsParent p None → below q name ≡ p → ⊥
no_parent p q name none e =
    let b = below_parts q name in
    clash p b.0 name none (sym e ∙ b.1)

-- and another path is that of its parent, or of its parent with a slash
pub at_parent : (p q name front : Path) → IsParent p (Some front) → has_slash name ≡ false → below q name ≡ p → (q ≡ front) ⊎ (q ≡ front ++ 47 ∷ [])
at_parent p q name front is free e =
    let b = below_parts q name in
    let same : b.0 ≡ front = same_front b.0 name front is.0 free is.2 (sym b.1 ∙ e ∙ is.1) in
    subst (λ (m : Path). (q ≡ m) ⊎ (q ≡ m ++ 47 ∷ [])) same b.2
