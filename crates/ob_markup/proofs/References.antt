-- References at the front of bytes, and the bad ones of a value.
use Rattle.std.proofs.Common.{◌≡◌, ℕ, suc, ◌+◌, ◌-◌, ◌*◌, ◌<◌, ◌≤◌, ◌⊎◌, inl, inr, Bool, true, false, ◌&&◌, not, cond, eqb, List, [], ◌∷◌, ◌++◌, length, Option, Some, None, Result, Ok, Err, refl, sym, ap, ◌∙◌, subst, append_assoc, arith}
use Rattle.std.specs.Prelude.{codes, is_some}
use Rattle.std.specs.Option.{option_map}
use Rattle.std.specs.Char.{is_ascii_digit, is_ascii_hexdigit, digit_value}
use Rattle.std.specs.Str.Parse.{digits_value, digits_value_after}
use Rattle.std.proofs.lemmas.Bool.{eqb-true}
use Rattle.std.proofs.lemmas.Bool.Decides.{nat_tests}
use Rattle.ob_values.specs.XmlText.{IsXmlChar}
use Rattle.ob_values.proofs.Bools.{both_true, not_both}
use Rattle.ob_scan.specs.declared.stop.Stop.{Stop}
use Rattle.ob_scan.specs.Characters.{within}
use Rattle.ob_scan.specs.Reading.{literal}
use Rattle.ob_scan.specs.Constructs.{is_char, base, digit, then_read, or_read, number_from, number_at, behind_hash, numeric_at, read_as, entity_at, reference_at, is_bad_at, bad_reference}
use Rattle.ob_scan.proofs.XmlTexts.{xml_char}
use Rattle.ob_markup.specs.Characters.{AllPass}
use Rattle.ob_markup.specs.References.{Reference, less_than, greater_than, ampersand, quotation, apostrophe, decimal, hexadecimal, print_reference, referred, AreDigits, IsReference, BeginsReference, HasAmpersandAt, HasReferences, IsBadReference}
use Rattle.ob_markup.proofs.Literals.{literal_ok}

-- a reference that was read: its bytes stand behind the &
pub record ReferenceFound (bytes rest : List ℕ) (c : ℕ) : Type 0 where
  pub reference : Reference
  pub form : IsReference reference
  pub parts : 38 ∷ bytes ≡ print_reference reference ++ rest
  pub is : c ≡ referred reference

-- ---- digits

abbrev is_digit : Bool → ℕ → Bool
is_digit hex b = cond hex (is_ascii_hexdigit b) (is_ascii_digit b)

record DigitRead (hex : Bool) (b d : ℕ) : Type 0 where
  is_digit : is_digit hex b ≡ true
  value : d ≡ digit_value b

some_same : (x y : ℕ) → Some x ≡ Some y → x ≡ y
some_same x y e = cc

digit_read : (hex : Bool) (b d : ℕ) → digit hex b ≡ Some d → DigitRead hex b d
digit_read true b d e = on (within 48 57 b) (within 97 102 b) (within 65 70 b) refl refl refl e
  where
    on : (s t u : Bool) → within 48 57 b ≡ s → within 97 102 b ≡ t → within 65 70 b ≡ u → cond s (Some (b - 48)) (cond t (Some (b - 87)) (cond u (Some (b - 55)) None)) ≡ Some d → DigitRead true b d
    on true t u p q r h = let v : b - 48 ≡ d = some_same (b - 48) d h in record { is_digit = grind (arith, nat_tests); value = grind (arith, nat_tests) }
    on false true u p q r h = let v : b - 87 ≡ d = some_same (b - 87) d h in record { is_digit = grind (arith, nat_tests); value = grind (arith, nat_tests) }
    on false false true p q r h = let v : b - 55 ≡ d = some_same (b - 55) d h in record { is_digit = grind (arith, nat_tests); value = grind (arith, nat_tests) }
    on false false false p q r h = absurd cc
digit_read false b d e = on (within 48 57 b) refl e
  where
    on : (s : Bool) → within 48 57 b ≡ s → cond s (Some (b - 48)) None ≡ Some d → DigitRead false b d
    on true p h = let v : b - 48 ≡ d = some_same (b - 48) d h in record { is_digit = grind (arith, nat_tests); value = grind (arith, nat_tests) }
    on false p h = absurd cc

digit_again : (hex : Bool) (b : ℕ) → is_digit hex b ≡ true → (digit hex b ≡ Some (digit_value b)) × (eqb b 59 ≡ false)
digit_again true b e = (grind (arith, nat_tests), grind (arith, nat_tests))
digit_again false b e = (grind (arith, nat_tests), grind (arith, nat_tests))

-- ---- numbers

pub char_is : (c : ℕ) → IsXmlChar c → is_char c ≡ true
char_is c (inl e) = rw e refl
char_is c (inr (inl e)) = rw e refl
char_is c (inr (inr (inl e))) = rw e refl
char_is c (inr (inr (inr (inl h)))) = let low : 0x20 ≤ c = h.0 in let high : c ≤ 0xD7FF = h.1 in grind (arith, nat_tests)
char_is c (inr (inr (inr (inr (inl h))))) = let low : 0xE000 ≤ c = h.0 in let high : c ≤ 0xFFFD = h.1 in grind (arith, nat_tests)
char_is c (inr (inr (inr (inr (inr h))))) = let low : 0x10000 ≤ c = h.0 in let high : c ≤ 0x10FFFF = h.1 in grind (arith, nat_tests)

record NumberFound (hex some : Bool) (value : ℕ) (bytes : List ℕ) (x : ℕ × List ℕ) : Type 0 where
  digits : List ℕ
  are_digits : AllPass (is_digit hex) digits
  enough : (some ≡ false) → 0 < length digits
  parts : bytes ≡ digits ++ (59 ∷ x.1)
  number : x.0 ≡ digits_value_after (base hex) value digits
  is_char : is_char x.0 ≡ true

some_read : (x y : ℕ × List ℕ) → Some x ≡ Some y → x ≡ y
some_read x y e = cc

record Read {A : Type 0} (o : Option A) (f : A → Option (ℕ × List ℕ)) (x : ℕ × List ℕ) : Type 0 where
  mid : A
  first : o ≡ Some mid
  second : f mid ≡ Some x

then_ok : {A : Type 0} (o : Option A) (f : A → Option (ℕ × List ℕ)) (x : ℕ × List ℕ) → then_read o f ≡ Some x → Read o f x
then_ok None f x e = absurd cc
then_ok (Some a) f x e = record { mid = a; first = refl; second = e }

number_ok : (hex some : Bool) (value : ℕ) (bytes : List ℕ) (x : ℕ × List ℕ) → number_from hex some value bytes ≡ Some x → NumberFound hex some value bytes x
number_ok hex some value [] x e = absurd cc
number_ok hex some value (b ∷ bytes) x e = on (eqb b 59) refl e (λ d h. number_ok hex true (value * base hex + d) bytes x h)
  where
    end : (v : Bool) → (some && is_char value) ≡ v → cond v (Some (value, bytes)) None ≡ Some x → b ≡ 59 → NumberFound hex some value (b ∷ bytes) x
    end true t h is =
        let same : (value, bytes) ≡ x = some_read (value, bytes) x h in
        let both = both_true some (is_char value) t in
        record {
          digits = [];
          are_digits = tt;
          enough = λ f. absurd (not_both some both.0 f);
          parts = ap (λ (y : ℕ). y ∷ bytes) is ∙ ap (λ (y : ℕ × List ℕ). 59 ∷ y.1) same;
          number = sym (ap (λ (y : ℕ × List ℕ). y.0) same);
          is_char = ap (λ (y : ℕ × List ℕ). is_char y.0) (sym same) ∙ both.1;
        }
    end false t h is = absurd cc

    on : (v : Bool) → eqb b 59 ≡ v → cond v (cond (some && is_char value) (Some (value, bytes)) None) (then_read (digit hex b) (λ d. number_from hex true (value * base hex + d) bytes)) ≡ Some x
        → ((d : ℕ) → number_from hex true (value * base hex + d) bytes ≡ Some x → NumberFound hex true (value * base hex + d) bytes x) → NumberFound hex some value (b ∷ bytes) x
    on true t h later = end (some && is_char value) refl h (eqb-true b 59 t)
    on false t h later =
        let read = then_ok (digit hex b) (λ d. number_from hex true (value * base hex + d) bytes) x h in
        let d = digit_read hex b read.mid read.first in
        let found = later read.mid read.second in
        record {
          digits = b ∷ found.digits;
          are_digits = (d.is_digit, found.are_digits);
          enough = λ f. omega arith;
          parts = ap (λ (ys : List ℕ). b ∷ ys) found.parts;
          number = found.number ∙ ap (λ (n : ℕ). digits_value_after (base hex) (value * base hex + n) found.digits) d.value;
          is_char = found.is_char;
        }

number_again : (hex some : Bool) (value : ℕ) (digits rest : List ℕ) → AllPass (is_digit hex) digits → (some ≡ false → 0 < length digits) → is_char (digits_value_after (base hex) value digits) ≡ true
    → number_from hex some value (digits ++ (59 ∷ rest)) ≡ Some (digits_value_after (base hex) value digits, rest)
number_again hex true value [] rest h n c = rw c refl
number_again hex false value [] rest h n c = let k : 0 < 0 = n refl in absurd (omega arith)
number_again hex some value (b ∷ digits) rest h n c =
    let d = digit_again hex b h.0 in
    rw (d.1, d.0) (number_again hex true (value * base hex + digit_value b) digits rest h.1 (λ e. absurd cc) c)

-- ---- references

record EntityFound (text : List ℕ) (c : ℕ) (bytes : List ℕ) (x : ℕ × List ℕ) : Type 0 where
  parts : bytes ≡ text ++ x.1
  is : x.0 ≡ c

read_ok : (text : List ℕ) (c : ℕ) (bytes : List ℕ) (x : ℕ × List ℕ) (r : Result (List ℕ) Stop) → literal text bytes ≡ r → read_as c r ≡ Some x → EntityFound text c bytes x
read_ok text c bytes x (Ok rest) e h =
    let same : (c, rest) ≡ x = some_read (c, rest) x h in
    record { parts = literal_ok text bytes rest e ∙ ap (λ (y : ℕ × List ℕ). text ++ y.1) same; is = sym (ap (λ (y : ℕ × List ℕ). y.0) same) }
read_ok text c bytes x (Err s) e h = absurd cc

entity_ok : (text : List ℕ) (c : ℕ) (bytes : List ℕ) (x : ℕ × List ℕ) → entity_at text c bytes ≡ Some x → EntityFound text c bytes x
entity_ok text c bytes x e = read_ok text c bytes x (literal text bytes) refl e

or_ok : (a b : Option (ℕ × List ℕ)) (x : ℕ × List ℕ) → or_read a b ≡ Some x → (a ≡ Some x) ⊎ (b ≡ Some x)
or_ok None b x e = inr e
or_ok (Some y) b x e = inl e

of_entity : (r : Reference) (text bytes : List ℕ) (c : ℕ) (x : ℕ × List ℕ) → IsReference r → print_reference r ≡ 38 ∷ text → referred r ≡ c → EntityFound text c bytes x → ReferenceFound bytes x.1 x.0
of_entity r text bytes c x form print refers found = record {
  reference = r;
  form = form;
  parts = ap (λ (ys : List ℕ). 38 ∷ ys) found.parts ∙ ap (λ (ys : List ℕ). ys ++ x.1) (sym print);
  is = found.is ∙ sym refers;
}

hexadecimal_ok : (bytes : List ℕ) (x : ℕ × List ℕ) → number_at true bytes ≡ Some x → ReferenceFound (35 ∷ 120 ∷ bytes) x.1 x.0
hexadecimal_ok bytes x e =
    let n = number_ok true false 0 bytes x e in
    record {
      reference = hexadecimal n.digits;
      form = ((n.enough refl, n.are_digits), xml_char (digits_value 16 n.digits) (ap is_char (sym n.number) ∙ n.is_char));
      parts = ap (λ (ys : List ℕ). 38 ∷ 35 ∷ 120 ∷ ys) (n.parts ∙ sym (append_assoc n.digits (codes ";") x.1));
      is = n.number;
    }

decimal_ok : (bytes : List ℕ) (x : ℕ × List ℕ) → number_at false bytes ≡ Some x → ReferenceFound (35 ∷ bytes) x.1 x.0
decimal_ok bytes x e =
    let n = number_ok false false 0 bytes x e in
    record {
      reference = decimal n.digits;
      form = ((n.enough refl, n.are_digits), xml_char (digits_value 10 n.digits) (ap is_char (sym n.number) ∙ n.is_char));
      parts = ap (λ (ys : List ℕ). 38 ∷ 35 ∷ ys) (n.parts ∙ sym (append_assoc n.digits (codes ";") x.1));
      is = n.number;
    }

hash_ok : (bytes : List ℕ) (x : ℕ × List ℕ) → behind_hash bytes ≡ Some x → ReferenceFound (35 ∷ bytes) x.1 x.0
hash_ok [] x e = absurd cc
hash_ok (b ∷ bytes) x e = on (eqb b 120) refl e
  where
    on : (v : Bool) → eqb b 120 ≡ v → cond v (number_at true bytes) (number_at false (b ∷ bytes)) ≡ Some x → ReferenceFound (35 ∷ b ∷ bytes) x.1 x.0
    on true t h = let is : b ≡ 120 = eqb-true b 120 t in subst (λ (y : ℕ). ReferenceFound (35 ∷ y ∷ bytes) x.1 x.0) (sym is) (hexadecimal_ok bytes x h)
    on false t h = decimal_ok (b ∷ bytes) x h

numeric_ok : (bytes : List ℕ) (x : ℕ × List ℕ) → numeric_at bytes ≡ Some x → ReferenceFound bytes x.1 x.0
numeric_ok [] x e = absurd cc
numeric_ok (b ∷ bytes) x e = on (eqb b 35) refl e
  where
    on : (v : Bool) → eqb b 35 ≡ v → cond v (behind_hash bytes) None ≡ Some x → ReferenceFound (b ∷ bytes) x.1 x.0
    on true t h = let is : b ≡ 35 = eqb-true b 35 t in subst (λ (y : ℕ). ReferenceFound (y ∷ bytes) x.1 x.0) (sym is) (hash_ok bytes x h)
    on false t h = absurd cc

pub reference_ok : (bytes : List ℕ) (x : ℕ × List ℕ) → reference_at bytes ≡ Some x → ReferenceFound bytes x.1 x.0
unfolding reference_at
reference_ok bytes x e = first (or_ok (entity_at (codes "lt;") 60 bytes) _ x e)
  where
    fifth : (entity_at (codes "apos;") 39 bytes ≡ Some x) ⊎ (numeric_at bytes ≡ Some x) → ReferenceFound bytes x.1 x.0
    fifth (inl h) = of_entity apostrophe (codes "apos;") bytes 39 x tt refl refl (entity_ok (codes "apos;") 39 bytes x h)
    fifth (inr h) = numeric_ok bytes x h

    fourth : (entity_at (codes "quot;") 34 bytes ≡ Some x) ⊎ (or_read (entity_at (codes "apos;") 39 bytes) (numeric_at bytes) ≡ Some x) → ReferenceFound bytes x.1 x.0
    fourth (inl h) = of_entity quotation (codes "quot;") bytes 34 x tt refl refl (entity_ok (codes "quot;") 34 bytes x h)
    fourth (inr h) = fifth (or_ok (entity_at (codes "apos;") 39 bytes) (numeric_at bytes) x h)

    third : (entity_at (codes "amp;") 38 bytes ≡ Some x) ⊎ (or_read (entity_at (codes "quot;") 34 bytes) (or_read (entity_at (codes "apos;") 39 bytes) (numeric_at bytes)) ≡ Some x) → ReferenceFound bytes x.1 x.0
    third (inl h) = of_entity ampersand (codes "amp;") bytes 38 x tt refl refl (entity_ok (codes "amp;") 38 bytes x h)
    third (inr h) = fourth (or_ok (entity_at (codes "quot;") 34 bytes) (or_read (entity_at (codes "apos;") 39 bytes) (numeric_at bytes)) x h)

    second : (entity_at (codes "gt;") 62 bytes ≡ Some x) ⊎ (or_read (entity_at (codes "amp;") 38 bytes) (or_read (entity_at (codes "quot;") 34 bytes) (or_read (entity_at (codes "apos;") 39 bytes) (numeric_at bytes))) ≡ Some x) → ReferenceFound bytes x.1 x.0
    second (inl h) = of_entity greater_than (codes "gt;") bytes 62 x tt refl refl (entity_ok (codes "gt;") 62 bytes x h)
    second (inr h) = third (or_ok (entity_at (codes "amp;") 38 bytes) (or_read (entity_at (codes "quot;") 34 bytes) (or_read (entity_at (codes "apos;") 39 bytes) (numeric_at bytes))) x h)

    first : (entity_at (codes "lt;") 60 bytes ≡ Some x) ⊎ (or_read (entity_at (codes "gt;") 62 bytes) (or_read (entity_at (codes "amp;") 38 bytes) (or_read (entity_at (codes "quot;") 34 bytes) (or_read (entity_at (codes "apos;") 39 bytes) (numeric_at bytes)))) ≡ Some x) → ReferenceFound bytes x.1 x.0
    first (inl h) = of_entity less_than (codes "lt;") bytes 60 x tt refl refl (entity_ok (codes "lt;") 60 bytes x h)
    first (inr h) = second (or_ok (entity_at (codes "gt;") 62 bytes) (or_read (entity_at (codes "amp;") 38 bytes) (or_read (entity_at (codes "quot;") 34 bytes) (or_read (entity_at (codes "apos;") 39 bytes) (numeric_at bytes)))) x h)

-- what stands behind the & of a printed reference
abbrev pub behind_ampersand : Reference → List ℕ
behind_ampersand less_than = codes "lt;"
behind_ampersand greater_than = codes "gt;"
behind_ampersand ampersand = codes "amp;"
behind_ampersand quotation = codes "quot;"
behind_ampersand apostrophe = codes "apos;"
behind_ampersand (decimal digits) = 35 ∷ (digits ++ codes ";")
behind_ampersand (hexadecimal digits) = 35 ∷ 120 ∷ (digits ++ codes ";")

pub print_is : (r : Reference) → print_reference r ≡ 38 ∷ behind_ampersand r
print_is less_than = refl
print_is greater_than = refl
print_is ampersand = refl
print_is quotation = refl
print_is apostrophe = refl
print_is (decimal digits) = refl
print_is (hexadecimal digits) = refl

no_letter : (b : ℕ) → is_ascii_digit b ≡ true → eqb b 120 ≡ false
no_letter b e = grind (arith, nat_tests)

decimal_again : (digits rest : List ℕ) → AreDigits is_ascii_digit digits → IsXmlChar (digits_value 10 digits) → behind_hash (digits ++ (59 ∷ rest)) ≡ Some (digits_value 10 digits, rest)
decimal_again [] rest d c = absurd (omega (arith, d.0))
decimal_again (b ∷ digits) rest d c = rw (no_letter b d.1.0) (number_again false false 0 (b ∷ digits) rest d.1 (λ e. d.0) (char_is (digits_value 10 (b ∷ digits)) c))

pub reference_again : (r : Reference) (rest : List ℕ) → IsReference r → reference_at (behind_ampersand r ++ rest) ≡ Some (referred r, rest)
unfolding reference_at
reference_again less_than rest form = refl
reference_again greater_than rest form = refl
reference_again ampersand rest form = refl
reference_again quotation rest form = refl
reference_again apostrophe rest form = refl
reference_again (decimal digits) rest form =
    ap (λ (ys : List ℕ). behind_hash ys) (append_assoc digits (codes ";") rest) ∙ decimal_again digits rest form.0 form.1
reference_again (hexadecimal digits) rest form =
    ap (λ (ys : List ℕ). number_at true ys) (append_assoc digits (codes ";") rest)
    ∙ number_again true false 0 digits rest form.0.1 (λ e. form.0.0) (char_is (digits_value 16 digits) form.1)

pub begins_ok : (bytes : List ℕ) (x : ℕ × List ℕ) → reference_at bytes ≡ Some x → BeginsReference (38 ∷ bytes)
begins_ok bytes x e = let f = reference_ok bytes x e in (f.reference, x.1, f.form, f.parts)

pub begins_again : (bytes : List ℕ) → BeginsReference (38 ∷ bytes) → is_some (reference_at bytes) ≡ true
begins_again bytes b =
    let all : 38 ∷ bytes ≡ 38 ∷ (behind_ampersand b.0 ++ b.1) = b.3 ∙ ap (λ (ys : List ℕ). ys ++ b.1) (print_is b.0) in
    let is : bytes ≡ behind_ampersand b.0 ++ b.1 = cc in
    ap (λ (ys : List ℕ). is_some (reference_at ys)) is ∙ ap is_some (reference_again b.0 b.1 b.2)

-- ---- the bad references of a value

some_begins : (bytes : List ℕ) (o : Option (ℕ × List ℕ)) → reference_at bytes ≡ o → is_some o ≡ true → BeginsReference (38 ∷ bytes)
some_begins bytes None e h = absurd cc
some_begins bytes (Some x) e h = begins_ok bytes x e

-- a value that begins with a byte that is no bad reference
good_here : (b : ℕ) (bytes : List ℕ) → is_bad_at b bytes ≡ false → b ≡ 38 → BeginsReference (38 ∷ bytes)
good_here b bytes e is = on (is_some (reference_at bytes)) refl
  where
    on : (v : Bool) → is_some (reference_at bytes) ≡ v → BeginsReference (38 ∷ bytes)
    on true t = some_begins bytes (reference_at bytes) refl t
    on false t =
        let bad : is_bad_at b bytes ≡ true = rw (is, t) refl in
        absurd (not_both (is_bad_at b bytes) bad e)

-- an & of a value is its first byte, or one of those behind
ampersand_in : (b : ℕ) (bytes rest : List ℕ) (k : ℕ) → HasAmpersandAt (b ∷ bytes) k rest → ((b ≡ 38) × (bytes ≡ rest) × (k ≡ 0)) ⊎ ((j : ℕ) × (k ≡ suc j) × HasAmpersandAt bytes j rest)
ampersand_in b bytes rest k ([], e, n) =
    let first : b ≡ 38 = cc in
    let later : bytes ≡ rest = cc in
    inl (first, later, sym n)
ampersand_in b bytes rest k (f ∷ front, e, n) =
    let later : bytes ≡ front ++ (38 ∷ rest) = cc in
    inr (length front, omega (arith, n), (front, later, refl))

first_good : (b : ℕ) (bytes : List ℕ) → is_bad_at b bytes ≡ false → (more : List ℕ) → (b ≡ 38) × (bytes ≡ more) → BeginsReference (38 ∷ more)
first_good b bytes e more h = subst (λ (ys : List ℕ). BeginsReference (38 ∷ ys)) h.1 (good_here b bytes e h.0)

record NoneBad (value : List ℕ) (o : Option ℕ) : Type 0 where
  none : o ≡ None → HasReferences value
  some : (k : ℕ) → o ≡ Some k → IsBadReference value k

bad_later : (b : ℕ) (bytes : List ℕ) (o : Option ℕ) → is_bad_at b bytes ≡ false → NoneBad bytes o → NoneBad (b ∷ bytes) (option_map suc o)
bad_later b bytes None e h = record {
  none = λ _. λ k rest a. on k rest (ampersand_in b bytes rest k a);
  some = λ k f. absurd cc;
}
  where
    on : (k : ℕ) (rest : List ℕ) → ((b ≡ 38) × (bytes ≡ rest) × (k ≡ 0)) ⊎ ((j : ℕ) × (k ≡ suc j) × HasAmpersandAt bytes j rest) → BeginsReference (38 ∷ rest)
    on k rest (inl a) = first_good b bytes e rest (a.0, a.1)
    on k rest (inr a) = h.none refl a.0 rest a.2
bad_later b bytes (Some m) e h = record {
  none = λ f. absurd cc;
  some = λ k f. at k (some_number k f);
}
  where
    some_number : (k : ℕ) → Some (suc m) ≡ Some k → suc m ≡ k
    some_number k f = cc

    first : (j : ℕ) (more : List ℕ) → j < suc m → ((b ≡ 38) × (bytes ≡ more) × (j ≡ 0)) ⊎ ((i : ℕ) × (j ≡ suc i) × HasAmpersandAt bytes i more) → BeginsReference (38 ∷ more)
    first j more lt (inl a) = first_good b bytes e more (a.0, a.1)
    first j more lt (inr a) = (h.some m refl).first a.0 more (omega (arith, a.1)) a.2

    here : IsBadReference (b ∷ bytes) (suc m)
    here =
        let bad = h.some m refl in
        record {
          rest = bad.rest;
          stands = (b ∷ bad.stands.0, ap (λ (ys : List ℕ). b ∷ ys) bad.stands.1, omega (arith, bad.stands.2));
          no_reference = bad.no_reference;
          first = λ j more lt a. first j more lt (ampersand_in b bytes more j a);
        }

    at : (k : ℕ) → suc m ≡ k → IsBadReference (b ∷ bytes) k
    at k f = subst (IsBadReference (b ∷ bytes)) f here

bad_here : (b : ℕ) (bytes : List ℕ) → is_bad_at b bytes ≡ true → IsBadReference (b ∷ bytes) 0
bad_here b bytes e =
    let is : b ≡ 38 = eqb-true b 38 (both_true (eqb b 38) (not (is_some (reference_at bytes))) e).0 in
    record {
      rest = bytes;
      stands = ([], ap (λ (y : ℕ). y ∷ bytes) is, refl);
      no_reference = λ h. unread (begins_again bytes h);
      first = λ j more lt a. absurd (omega (arith, lt));
    }
  where
    unread : is_some (reference_at bytes) ≡ true → ⊥
    unread h =
        let n : not (is_some (reference_at bytes)) ≡ true = (both_true (eqb b 38) (not (is_some (reference_at bytes))) e).1 in
        let m : not true ≡ true = ap not (sym h) ∙ n in
        cc

none_bad : (value : List ℕ) → NoneBad value (bad_reference value)
none_bad [] = record { none = λ _. λ k rest a. nothing k rest a; some = λ k f. absurd cc }
  where
    nothing : (k : ℕ) (rest : List ℕ) → HasAmpersandAt [] k rest → BeginsReference (38 ∷ rest)
    nothing k rest ([], e, n) = absurd cc
    nothing k rest (f ∷ front, e, n) = absurd cc
none_bad (b ∷ bytes) = on (is_bad_at b bytes) refl (none_bad bytes)
  where
    zero_is : (k : ℕ) → Some 0 ≡ Some k → 0 ≡ k
    zero_is k f = cc

    on : (v : Bool) → is_bad_at b bytes ≡ v → NoneBad bytes (bad_reference bytes) → NoneBad (b ∷ bytes) (cond v (Some 0) (option_map suc (bad_reference bytes)))
    on true t h = record { none = λ f. absurd cc; some = λ k f. subst (IsBadReference (b ∷ bytes)) (zero_is k f) (bad_here b bytes t) }
    on false t h = bad_later b bytes (bad_reference bytes) t h

pub no_bad_ok : (value : List ℕ) → bad_reference value ≡ None → HasReferences value
no_bad_ok value e = (none_bad value).none e

pub bad_ok : (value : List ℕ) (k : ℕ) → bad_reference value ≡ Some k → IsBadReference value k
bad_ok value k e = (none_bad value).some k e

bad_is_bad : (value : List ℕ) (k : ℕ) → IsBadReference value k → HasReferences value → ⊥
bad_is_bad value k bad good = bad.no_reference (good k bad.rest bad.stands)

pub no_bad_again : (value : List ℕ) → HasReferences value → bad_reference value ≡ None
no_bad_again value h = on (bad_reference value) refl
  where
    on : (o : Option ℕ) → bad_reference value ≡ o → o ≡ None
    on None e = refl
    on (Some k) e = absurd (bad_is_bad value k (bad_ok value k e) h)

one_bad : (value : List ℕ) (j k : ℕ) → IsBadReference value j → IsBadReference value k → (j < k) → ⊥
one_bad value j k a b lt = a.no_reference (b.first j a.rest lt a.stands)

same_number : (j k : ℕ) → ¬ (j < k) → ¬ (k < j) → j ≡ k
same_number j k a b = omega (arith, a, b)

pub bad_again : (value : List ℕ) (k : ℕ) → IsBadReference value k → bad_reference value ≡ Some k
bad_again value k bad = on (bad_reference value) refl
  where
    on : (o : Option ℕ) → bad_reference value ≡ o → o ≡ Some k
    on None e = absurd (bad_is_bad value k bad (no_bad_ok value e))
    on (Some j) e =
        let other = bad_ok value j e in
        let same : j ≡ k = same_number j k (one_bad value j k other bad) (one_bad value k j bad other) in
        ap (λ (n : ℕ). Some n) same
