-- A copied index has the same places.
use Rattle.std.proofs.Common.{◌≡◌, ℕ, cond, List, [], ◌∷◌, Option, Some, refl, sym, ap, ◌∙◌}
use Rattle.std.specs.Prelude.{string_bytes, String}
use Rattle.std.specs.List.{AllZip, list_any}
use Rattle.std.specs.Map.{lookup}
use Rattle.std.specs.Ordering.{nat_cmp, is_eq}
use Rattle.std.specs.Cmp.Lexicographic.{slice_cmp}
use Rattle.std.specs.BTreeMap.{BTreeMap, is_at}
use Rattle.std.specs.BTreeSet.{BTreeSet}
use Rattle.ob_contracts.specs.Adding.{library_names}
use Rattle.ob_contracts.specs.Inherit.{Contracts}
use Rattle.ob_contracts.specs.Index.{place_of, IsIndex}
use Rattle.ob_contracts.specs.Named.{HasNamed}

module _ {Z : Type 0} where
  abbrev SameKeys : List (String Z) → List (String Z) → Type 0
  SameKeys ks ls = AllZip (λ k l. string_bytes l ≡ string_bytes k) ks ls

  same_words : (asked : List ℕ) (ks ls : List (String Z)) → SameKeys ks ls → list_any (is_at (λ k. slice_cmp nat_cmp asked (string_bytes k))) ls ≡ list_any (is_at (λ k. slice_cmp nat_cmp asked (string_bytes k))) ks
  same_words asked [] [] h = refl
  same_words asked [] (l ∷ ls) h = absurd h
  same_words asked (k ∷ ks) [] h = absurd h
  same_words asked (k ∷ ks) (l ∷ ls) h = rw (h.0, same_words asked ks ls h.1) refl

  -- a copy of known words has each of them
  pub named_copied : (m n : BTreeSet (String Z)) (lib copied : Contracts) → SameKeys m.keys n.keys → copied ≡ lib → HasNamed m lib → HasNamed n copied
  named_copied m n lib copied a e h = λ word named.
      same_words word m.keys n.keys a ∙ h word (ap (library_names word) (sym e) ∙ named)

module _ {Y : Type 0} where
  abbrev Copies : List (String Y × ℕ) → List (String Y × ℕ) → Type 0
  Copies es fs = AllZip (λ p q. (string_bytes q.0 ≡ string_bytes p.0) × (q.1 ≡ p.1)) es fs

  abbrev at_text : List ℕ → List (String Y × ℕ) → Option ℕ
  at_text word es = lookup (is_at (λ k. slice_cmp nat_cmp word (string_bytes k))) es

  same_at : (word : List ℕ) (es fs : List (String Y × ℕ)) → Copies es fs → at_text word fs ≡ at_text word es
  same_at word [] [] a = refl
  same_at word [] (y ∷ ys) a = absurd a
  same_at word (x ∷ xs) [] a = absurd a
  same_at word (x ∷ xs) (y ∷ ys) a =
      ap (λ (bs : List ℕ). cond (is_eq (slice_cmp nat_cmp word bs)) (Some y.1) (at_text word ys)) a.0.0
      ∙ ap (λ (n : ℕ). cond (is_eq (slice_cmp nat_cmp word (string_bytes x.0))) (Some n) (at_text word ys)) a.0.1
      ∙ ap (cond (is_eq (slice_cmp nat_cmp word (string_bytes x.0))) (Some x.1)) (same_at word xs ys a.1)

  -- a copy of an index is one too
  pub index_copied : (m n : BTreeMap (String Y) ℕ) (lib copied : Contracts) → Copies m.entries n.entries → copied ≡ lib → IsIndex m lib → IsIndex n copied
  index_copied m n lib copied a e h = λ word. same_at word m.entries n.entries a ∙ (h word ∙ ap (place_of word) (sym e))
