-- A value that is written with its references has at most six times the bytes that it was read from.
use Rattle.std.proofs.Common.{rules, ◌≡◌, ℕ, ◌+◌, ◌*◌, ◌≤◌, Bool, true, false, ◌&&◌, ◌||◌, cond, eqb, List, [], ◌∷◌, length, Option, Some, None, Result, Ok, Err, ap, subst, arith, length-append}
use Rattle.std.specs.Prelude.{codes, IfSome}
use Rattle.std.specs.Char.{encode_utf8}
use Rattle.std.specs.Str.{IsUtf8}
use Rattle.std.proofs.lemmas.Str.{length-encode, len_utf8_bounds, IsUtf8-append, IsUtf8-nil, IsUtf8-encode}
use Rattle.ob_scan.specs.declared.stop.Stop.{Stop}
use Rattle.ob_scan.specs.declared.character.Progress.{Progress}
use Rattle.ob_scan.specs.declared.character.Progress.TheVariants.{Whole}
use Rattle.ob_scan.specs.Characters.{after_byte}
use Rattle.ob_scan.specs.Reading.{literal, is_whole}
use Rattle.ob_scan.specs.Constructs.{digit, base, is_char, then_read, or_read, read_as, number_from, number_at, behind_hash, numeric_at, entity_at, reference_at}
use Rattle.ob_scan.specs.Expansion.{stop_or, character_from, behind_line_feed, item_at, Expands, nothing, item}
use Rattle.ob_scan.proofs.Expanding.{IsCharacter, reference_char, one_character, char_scalar, character_utf8, choose}
use Rattle.ob_encoding.specs.Escaped.{escape, escaped}
use Rattle.ob_encoding.proofs.Joining.{escaped-append}
use Rattle.ob_size_laws.proofs.Taken.{Costs, literal_cost, literal_costs}

-- ---- what is written for a text

short : (v : Bool) (x y : List ℕ) → length x ≤ 6 → length y ≤ 6 → length (cond v x y) ≤ 6
short true x y p q = p
short false x y p q = q

escape_short : (b : ℕ) → length (escape b) ≤ 6
escape_short b =
    short (eqb b 38) (codes "&amp;") _ (omega arith)
    (short (eqb b 60) (codes "&lt;") _ (omega arith)
    (short (eqb b 34) (codes "&quot;") _ (omega arith)
    (short (eqb b 9) (codes "&#9;") _ (omega arith)
    (short (eqb b 10) (codes "&#10;") _ (omega arith)
    (short (eqb b 13) (codes "&#13;") (b ∷ []) (omega arith) (omega arith))))))

pub escaped_most : (text : List ℕ) → length (escaped text) ≤ 6 * length text
escaped_most [] = omega arith
escaped_most (b ∷ text) = omega (arith, length-append (escape b) (escaped text), escape_short b, escaped_most text)

-- ---- references

-- what is left is shorter by so many bytes
abbrev Takes : ℕ → List ℕ → Option (ℕ × List ℕ) → Type 0
Takes n bytes o = IfSome o (λ x. n + length x.1 ≤ length bytes)

-- of a number at least its end is left to come, and its first digit where none was yet
abbrev wanting : Bool → ℕ
wanting true = 1
wanting false = 2

number_takes : (hex some : Bool) (value : ℕ) (bytes : List ℕ) → Takes (wanting some) bytes (number_from hex some value bytes)
number_takes hex some value [] = tt
number_takes hex some value (b ∷ bytes) = elim (eqb b 59) as (λ v. Takes (wanting some) (b ∷ bytes) (cond v (cond (some && is_char value) (Some (value, bytes)) None) (then_read (digit hex b) (λ d. number_from hex true (value * base hex + d) bytes)))) [
  | true ↦ ends some (is_char value)
  | false ↦ on (digit hex b) (λ d. number_takes hex true (value * base hex + d) bytes)
]
  where
    ends : (some v : Bool) → Takes (wanting some) (b ∷ bytes) (cond (some && v) (Some (value, bytes)) None)
    ends true true = omega arith
    ends true false = tt
    ends false v = tt

    most : (some : Bool) → wanting some ≤ 2
    most true = omega arith
    most false = omega arith

    wider : (o : Option (ℕ × List ℕ)) → Takes 1 bytes o → Takes (wanting some) (b ∷ bytes) o
    wider None h = tt
    wider (Some x) h = omega (arith, h, most some)

    on : (o : Option ℕ) → ((d : ℕ) → Takes 1 bytes (number_from hex true (value * base hex + d) bytes)) → Takes (wanting some) (b ∷ bytes) (then_read o (λ d. number_from hex true (value * base hex + d) bytes))
    on None later = tt
    on (Some d) later = wider (number_from hex true (value * base hex + d) bytes) (later d)

wide : (n b : ℕ) (bytes : List ℕ) (o : Option (ℕ × List ℕ)) → Takes n bytes o → Takes n (b ∷ bytes) o
wide n b bytes None h = tt
wide n b bytes (Some x) h = omega (arith, h)

more : (n b : ℕ) (bytes : List ℕ) (o : Option (ℕ × List ℕ)) → Takes n bytes o → Takes (n + 1) (b ∷ bytes) o
more n b bytes None h = tt
more n b bytes (Some x) h = omega (arith, h)

hash_takes : (bytes : List ℕ) → Takes 2 bytes (behind_hash bytes)
hash_takes [] = tt
hash_takes (b ∷ bytes) = elim (eqb b 120) as (λ v. Takes 2 (b ∷ bytes) (cond v (number_at true bytes) (number_at false (b ∷ bytes)))) [
  | true ↦ wide 2 b bytes (number_at true bytes) (number_takes true false 0 bytes)
  | false ↦ number_takes false false 0 (b ∷ bytes)
]

numeric_takes : (bytes : List ℕ) → Takes 3 bytes (numeric_at bytes)
numeric_takes [] = tt
numeric_takes (b ∷ bytes) = elim (eqb b 35) as (λ v. Takes 3 (b ∷ bytes) (cond v (behind_hash bytes) None)) [
  | true ↦ more 2 b bytes (behind_hash bytes) (hash_takes bytes)
  | false ↦ tt
]

either : (bytes : List ℕ) (r s : Option (ℕ × List ℕ)) → Takes 3 bytes r → Takes 3 bytes s → Takes 3 bytes (or_read r s)
either bytes None s p q = q
either bytes (Some x) s p q = p

entity_takes : (text : List ℕ) (c : ℕ) (bytes : List ℕ) → 3 ≤ length text → Takes 3 bytes (entity_at text c bytes)
entity_takes text c bytes long = on (literal text bytes) (literal_costs text bytes)
  where
    on : (r : Result (List ℕ) Stop) → Costs (literal_cost text) (length bytes) r → Takes 3 bytes (read_as c r)
    on (Ok x) h = omega (arith, h, long)
    on (Err e) h = tt

reference_takes : (bytes : List ℕ) → Takes 3 bytes (reference_at bytes)
unfolding reference_at
reference_takes bytes =
    either bytes (entity_at (codes "lt;") 60 bytes) (or_read (entity_at (codes "gt;") 62 bytes) (or_read (entity_at (codes "amp;") 38 bytes) (or_read (entity_at (codes "quot;") 34 bytes) (or_read (entity_at (codes "apos;") 39 bytes) (numeric_at bytes))))) (entity_takes (codes "lt;") 60 bytes (omega arith))
    (either bytes (entity_at (codes "gt;") 62 bytes) (or_read (entity_at (codes "amp;") 38 bytes) (or_read (entity_at (codes "quot;") 34 bytes) (or_read (entity_at (codes "apos;") 39 bytes) (numeric_at bytes)))) (entity_takes (codes "gt;") 62 bytes (omega arith))
    (either bytes (entity_at (codes "amp;") 38 bytes) (or_read (entity_at (codes "quot;") 34 bytes) (or_read (entity_at (codes "apos;") 39 bytes) (numeric_at bytes))) (entity_takes (codes "amp;") 38 bytes (omega arith))
    (either bytes (entity_at (codes "quot;") 34 bytes) (or_read (entity_at (codes "apos;") 39 bytes) (numeric_at bytes)) (entity_takes (codes "quot;") 34 bytes (omega arith))
    (either bytes (entity_at (codes "apos;") 39 bytes) (numeric_at bytes) (entity_takes (codes "apos;") 39 bytes (omega arith)) (numeric_takes bytes)))))

-- ---- items

-- what was read and what is left are the bytes
abbrev Splits : List ℕ → Option (List ℕ × List ℕ) → Type 0
Splits bytes o = IfSome o (λ x. length x.0 + length x.1 ≤ length bytes)

character_splits : (progress : Progress) (bytes : List ℕ) → Splits bytes (character_from progress bytes)
character_splits progress [] = tt
character_splits progress (b ∷ bytes) = on (after_byte progress b) (λ next. character_splits next bytes)
  where
    later : (o : Option (List ℕ × List ℕ)) → Splits bytes o → Splits (b ∷ bytes) (then_read o (λ x. Some (b ∷ x.0, x.1)))
    later None h = tt
    later (Some x) h = omega (arith, h)

    on : (r : Result Progress Stop) → ((next : Progress) → Splits bytes (character_from next bytes)) → Splits (b ∷ bytes) (stop_or b bytes r (λ next. character_from next bytes))
    on (Err e) h = tt
    on (Ok next) h = elim (is_whole next) as (λ v. Splits (b ∷ bytes) (cond v (Some (b ∷ [], bytes)) (then_read (character_from next bytes) (λ x. Some (b ∷ x.0, x.1))))) [
      | true ↦ omega arith
      | false ↦ later (character_from next bytes) (h next)
    ]

line_short : (bytes : List ℕ) → length (behind_line_feed bytes) ≤ length bytes
line_short [] = omega arith
line_short (b ∷ bytes) = elim (eqb b 10) as (λ v. length (cond v bytes (b ∷ bytes)) ≤ length (b ∷ bytes)) [ true ↦ omega arith | false ↦ omega arith ]

referred_splits : (b : ℕ) (bytes : List ℕ) (o : Option (ℕ × List ℕ)) → Takes 3 bytes o → Splits (b ∷ bytes) (then_read o (λ x. Some (encode_utf8 x.0, x.1)))
referred_splits b bytes None h = tt
referred_splits b bytes (Some x) h = omega (arith, h, length-encode x.0, (len_utf8_bounds x.0).1)

item_splits : (bytes : List ℕ) → Splits bytes (item_at bytes)
item_splits [] = tt
item_splits (b ∷ bytes) =
    let P : List ℕ × List ℕ → Type 0 = λ x. length x.0 + length x.1 ≤ length (b ∷ bytes) in
    choose P (eqb b 38) (then_read (reference_at bytes) (λ x. Some (encode_utf8 x.0, x.1))) (cond (eqb b 13) (Some (32 ∷ [], behind_line_feed bytes)) (cond (eqb b 10 || eqb b 9) (Some (32 ∷ [], bytes)) (character_from Whole (b ∷ bytes)))) (referred_splits b bytes (reference_at bytes) (reference_takes bytes))
    (choose P (eqb b 13) (Some (32 ∷ [], behind_line_feed bytes)) (cond (eqb b 10 || eqb b 9) (Some (32 ∷ [], bytes)) (character_from Whole (b ∷ bytes))) (omega (arith, line_short bytes))
    (choose P (eqb b 10 || eqb b 9) (Some (32 ∷ [], bytes)) (character_from Whole (b ∷ bytes)) (omega arith) (character_splits Whole (b ∷ bytes))))

-- a value stands for a text that is no longer
pub expanded_short : (raw text : List ℕ) → Expands raw text → length text ≤ length raw
expanded_short raw all nothing = omega arith
expanded_short raw all (item bytes text rest later e behind) =
    let here : Splits bytes (Some (text, rest)) = subst (Splits bytes) e (item_splits bytes) in
    omega (arith, here, length-append text later, expanded_short rest later behind)

-- what is written for what was read, and six times what is left, are at most six times the bytes
abbrev Fits : List ℕ → Option (List ℕ × List ℕ) → Type 0
Fits bytes o = IfSome o (λ x. length (escaped x.0) + 6 * length x.1 ≤ 6 * length bytes)

splits_fits : (bytes : List ℕ) (o : Option (List ℕ × List ℕ)) → Splits bytes o → Fits bytes o
splits_fits bytes None h = tt
splits_fits bytes (Some x) h = omega (arith, h, escaped_most x.0)

-- a reference has four bytes or more, and what it stands for at most four
referred : (b : ℕ) (bytes : List ℕ) (o : Option (ℕ × List ℕ)) → Takes 3 bytes o → Fits (b ∷ bytes) (then_read o (λ x. Some (encode_utf8 x.0, x.1)))
referred b bytes None h = tt
referred b bytes (Some x) h = omega (arith, h, escaped_most (encode_utf8 x.0), length-encode x.0, (len_utf8_bounds x.0).1)

item_fits : (bytes : List ℕ) → Fits bytes (item_at bytes)
item_fits [] = tt
item_fits (b ∷ bytes) =
    let P : List ℕ × List ℕ → Type 0 = λ x. length (escaped x.0) + 6 * length x.1 ≤ 6 * length (b ∷ bytes) in
    choose P (eqb b 38) (then_read (reference_at bytes) (λ x. Some (encode_utf8 x.0, x.1))) (cond (eqb b 13) (Some (32 ∷ [], behind_line_feed bytes)) (cond (eqb b 10 || eqb b 9) (Some (32 ∷ [], bytes)) (character_from Whole (b ∷ bytes)))) (referred b bytes (reference_at bytes) (reference_takes bytes))
    (choose P (eqb b 13) (Some (32 ∷ [], behind_line_feed bytes)) (cond (eqb b 10 || eqb b 9) (Some (32 ∷ [], bytes)) (character_from Whole (b ∷ bytes))) (omega (arith, line_short bytes))
    (choose P (eqb b 10 || eqb b 9) (Some (32 ∷ [], bytes)) (character_from Whole (b ∷ bytes)) (omega arith) (splits_fits (b ∷ bytes) (character_from Whole (b ∷ bytes)) (character_splits Whole (b ∷ bytes)))))

-- what is written for the text that a value stands for
pub expanded_fits : (raw text : List ℕ) → Expands raw text → length (escaped text) ≤ 6 * length raw
expanded_fits raw all nothing = omega arith
expanded_fits raw all (item bytes text rest later e behind) =
    let here : Fits bytes (Some (text, rest)) = subst (Fits bytes) e (item_fits bytes) in
    omega (arith, here, ap length (escaped-append text later), length-append (escaped text) (escaped later), expanded_fits rest later behind)

-- ---- its characters

item_utf8 : (bytes : List ℕ) → IfSome (item_at bytes) (λ x. IsUtf8 x.0)
item_utf8 [] = tt
item_utf8 (b ∷ bytes) =
    let P : List ℕ × List ℕ → Type 0 = λ x. IsUtf8 x.0 in
    choose P (eqb b 38) (then_read (reference_at bytes) (λ x. Some (encode_utf8 x.0, x.1))) (cond (eqb b 13) (Some (32 ∷ [], behind_line_feed bytes)) (cond (eqb b 10 || eqb b 9) (Some (32 ∷ [], bytes)) (character_from Whole (b ∷ bytes)))) (stands (reference_at bytes) (reference_char bytes))
    (choose P (eqb b 13) (Some (32 ∷ [], behind_line_feed bytes)) (cond (eqb b 10 || eqb b 9) (Some (32 ∷ [], bytes)) (character_from Whole (b ∷ bytes))) space
    (choose P (eqb b 10 || eqb b 9) (Some (32 ∷ [], bytes)) (character_from Whole (b ∷ bytes)) space (one (character_from Whole (b ∷ bytes)) (one_character (b ∷ bytes)))))
  where
    space : IsUtf8 (32 ∷ [])
    space = search rules

    stands : (o : Option (ℕ × List ℕ)) → IfSome o (λ x. is_char x.0 ≡ true) → IfSome {T = List ℕ × List ℕ} (then_read o (λ x. Some (encode_utf8 x.0, x.1))) (λ x. IsUtf8 x.0)
    stands None h = tt
    stands (Some x) h = IsUtf8-encode x.0 (char_scalar x.0 h)

    one : (o : Option (List ℕ × List ℕ)) → IfSome o (λ x. IsCharacter x.0) → IfSome o (λ x. IsUtf8 x.0)
    one None h = tt
    one (Some x) h = character_utf8 x.0 h

pub expanded_utf8 : (raw text : List ℕ) → Expands raw text → IsUtf8 text
expanded_utf8 raw all nothing = IsUtf8-nil
expanded_utf8 raw all (item bytes text rest later e behind) =
    let here : IfSome {T = List ℕ × List ℕ} (Some (text, rest)) (λ x. IsUtf8 x.0) = subst (λ (o : Option (List ℕ × List ℕ)). IfSome o (λ x. IsUtf8 x.0)) e (item_utf8 bytes) in
    IsUtf8-append text later here (expanded_utf8 rest later behind)
