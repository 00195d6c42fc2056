-- Loops over the value of an attribute, and the characters in it.
use Rattle.std.proofs.Common.{◌≡◌, ℕ, ◌+◌, ◌-◌, ◌*◌, ◌/◌, ◌%◌, ◌<◌, ◌≤◌, Bool, true, false, ◌&&◌, ◌||◌, cond, eqb, List, [], ◌∷◌, ◌++◌, length, Option, Some, None, Result, Ok, Err, refl, sym, ap, subst, le-ltb, lt-ltb, append_assoc, append-nil, arith}
use Rattle.std.specs.Prelude.{IfSome, codes}
use Rattle.std.specs.Char.{encode_utf8}
use Rattle.std.specs.Str.{IsUtf8}
use Rattle.std.proofs.lemmas.Str.{IsUtf8-append, IsUtf8-nil, IsUtf8-encode}
use Rattle.std.proofs.lemmas.Bool.Decides.{nat_tests}
use Rattle.std.proofs.lemmas.Bool.{and_parts}
use lib.Utf8.{scalar}
use Rattle.ob_scan.specs.declared.stop.Stop.{Stop}
use Rattle.ob_scan.specs.declared.stop.Stop.TheVariants.{Malformed}
use Rattle.ob_scan.specs.declared.character.Progress.{Progress}
use Rattle.ob_scan.specs.declared.character.Progress.TheVariants.{Whole, Tail, BehindEf}
use Rattle.ob_scan.specs.Characters.{within, after_byte}
use Rattle.ob_scan.specs.Reading.{is_whole, literal}
use Rattle.ob_scan.specs.Constructs.{is_char, base, digit, then_read, or_read, number_from, number_at, behind_hash, numeric_at, read_as, entity_at, reference_at}
use Rattle.ob_scan.specs.Expansion.{stop_or, character_from, behind_line_feed, item_at, Expands, IsBadAt, plain_or, plain_from, is_plain}
use Rattle.ob_scan.specs.Expansion as expansion
use Rattle.ob_scan.proofs.Suffixes.{Leaves, all_of, suffix_len, literal_leaves}

-- what was read before, and what is still read
abbrev pub with_start : List ℕ → Option (List ℕ × List ℕ) → Option (List ℕ × List ℕ)
with_start front read = then_read read (λ x. Some (front ++ x.0, x.1))

-- the bytes of one character
abbrev pub IsCharacter : List ℕ → Type 0
IsCharacter bytes = (c : ℕ) × (is_char c ≡ true) × (encode_utf8 c ≡ bytes)

is_1 : (b : ℕ) → b < 0x80 → is_char b ≡ true → IsCharacter (b ∷ [])
unfolding encode_utf8
is_1 b low ok = (b, ok, rw (lt-ltb b 128 low) refl)

is_2 : (b x : ℕ) → 0xC2 ≤ b → b ≤ 0xDF → 0x80 ≤ x → x ≤ 0xBF → IsCharacter (b ∷ x ∷ [])
unfolding encode_utf8
is_2 b x p q r s =
    let c = (b - 0xC0) * 64 + (x - 0x80) in
    let first : 192 + c / 64 ≡ b = omega arith in
    let last : 128 + c % 64 ≡ x = omega arith in
    (c, grind (arith, nat_tests), rw (le-ltb c 128 (omega arith), lt-ltb c 2048 (omega arith), first, last) refl)

is_3 : (b x y : ℕ) → 0xE0 ≤ b → b < 0xF0 → 0x80 ≤ x → x ≤ 0xBF → 0x80 ≤ y → y ≤ 0xBF → (b ≡ 0xE0 → 0xA0 ≤ x) → (b ≡ 0xED → x < 0xA0) → (b ≡ 0xEF → x ≡ 0xBF → y ≤ 0xBD) → IsCharacter (b ∷ x ∷ y ∷ [])
unfolding encode_utf8
is_3 b x y p q r s t u low high far =
    let c = ((b - 0xE0) * 64 + (x - 0x80)) * 64 + (y - 0x80) in
    let bounds : (2048 ≤ c) × (c < 65536) × (55296 ≤ c → 57344 ≤ c) × (c ≤ 0xFFFD) = (grind arith, omega arith, λ h. grind arith, grind arith) in
    let first : 224 + c / 4096 ≡ b = omega arith in
    let middle : 128 + (c / 64) % 64 ≡ x = omega arith in
    let last : 128 + c % 64 ≡ y = omega arith in
    (c, grind (arith, nat_tests), rw (le-ltb c 128 (omega arith), le-ltb c 2048 (omega arith), lt-ltb c 65536 (omega arith), first, middle, last) refl)

is_4 : (b x y z : ℕ) → 0xF0 ≤ b → b ≤ 0xF4 → 0x80 ≤ x → x ≤ 0xBF → 0x80 ≤ y → y ≤ 0xBF → 0x80 ≤ z → z ≤ 0xBF → (b ≡ 0xF0 → 0x90 ≤ x) → (b ≡ 0xF4 → x < 0x90) → IsCharacter (b ∷ x ∷ y ∷ z ∷ [])
unfolding encode_utf8
is_4 b x y z p q r s t u v w low high =
    let c = (((b - 0xF0) * 64 + (x - 0x80)) * 64 + (y - 0x80)) * 64 + (z - 0x80) in
    let bounds : (65536 ≤ c) × (c < 1114112) = (grind arith, grind arith) in
    let first : 240 + c / 262144 ≡ b = omega arith in
    let next : 128 + (c / 4096) % 64 ≡ x = omega arith in
    let middle : 128 + (c / 64) % 64 ≡ y = omega arith in
    let last : 128 + c % 64 ≡ z = omega arith in
    (c, grind (arith, nat_tests), rw (le-ltb c 128 (omega arith), le-ltb c 2048 (omega arith), le-ltb c 65536 (omega arith), first, next, middle, last) refl)

-- ---- one character

abbrev pub Holds : (List ℕ → Type 0) → Option (List ℕ × List ℕ) → Type 0
Holds P o = IfSome o (λ x. P x.0)

one_more : (P : List ℕ → Type 0) (b : ℕ) (o : Option (List ℕ × List ℕ)) → Holds (λ cs. P (b ∷ cs)) o → Holds P (then_read o (λ x. Some (b ∷ x.0, x.1)))
one_more P b None h = tt
one_more P b (Some x) h = h

pick : (Q : Result Progress Stop → Type 0) (t : Bool) (r s : Result Progress Stop) → (t ≡ true → Q r) → (t ≡ false → Q s) → Q (cond t r s)
pick Q true r s p q = p refl
pick Q false r s p q = q refl

pub range : (low high b : ℕ) → within low high b ≡ true → (low ≤ b) × (b ≤ high)
range low high b e = (grind (arith, nat_tests), grind (arith, nat_tests))

tail_1 : (low high : ℕ) (P : List ℕ → Type 0) (bytes : List ℕ) → ((y : ℕ) → low ≤ y → y ≤ high → P (y ∷ [])) → Holds P (character_from (Tail low high 0) bytes)
tail_1 low high P [] h = tt
tail_1 low high P (b ∷ bytes) h =
    pick (λ r. Holds P (stop_or b bytes r (λ next. character_from next bytes))) (within low high b) (Ok Whole) (Err Malformed)
    (λ e. let p = range low high b e in h b p.0 p.1) (λ e. tt)

tail_2 : (low high : ℕ) (P : List ℕ → Type 0) (bytes : List ℕ) → ((y z : ℕ) → low ≤ y → y ≤ high → 0x80 ≤ z → z ≤ 0xBF → P (y ∷ z ∷ [])) → Holds P (character_from (Tail low high 1) bytes)
tail_2 low high P [] h = tt
tail_2 low high P (b ∷ bytes) h =
    pick (λ r. Holds P (stop_or b bytes r (λ next. character_from next bytes))) (within low high b) (Ok (Tail 0x80 0xBF 0)) (Err Malformed)
    (λ e. let p = range low high b e in one_more P b (character_from (Tail 0x80 0xBF 0) bytes) (tail_1 0x80 0xBF (λ cs. P (b ∷ cs)) bytes (λ z r s. h b z p.0 p.1 r s))) (λ e. tt)

tail_3 : (low high : ℕ) (P : List ℕ → Type 0) (bytes : List ℕ) → ((x y z : ℕ) → low ≤ x → x ≤ high → 0x80 ≤ y → y ≤ 0xBF → 0x80 ≤ z → z ≤ 0xBF → P (x ∷ y ∷ z ∷ [])) → Holds P (character_from (Tail low high 2) bytes)
tail_3 low high P [] h = tt
tail_3 low high P (b ∷ bytes) h =
    pick (λ r. Holds P (stop_or b bytes r (λ next. character_from next bytes))) (within low high b) (Ok (Tail 0x80 0xBF 1)) (Err Malformed)
    (λ e. let p = range low high b e in one_more P b (character_from (Tail 0x80 0xBF 1) bytes) (tail_2 0x80 0xBF (λ cs. P (b ∷ cs)) bytes (λ y z. h b y z p.0 p.1))) (λ e. tt)

behind_ef : (P : List ℕ → Type 0) (bytes : List ℕ) → ((y z : ℕ) → 0x80 ≤ y → y ≤ 0xBF → 0x80 ≤ z → z ≤ 0xBF → (y ≡ 0xBF → z ≤ 0xBD) → P (y ∷ z ∷ [])) → Holds P (character_from BehindEf bytes)
behind_ef P [] h = tt
behind_ef P (b ∷ bytes) h =
    let Q : Result Progress Stop → Type 0 = λ r. Holds P (stop_or b bytes r (λ next. character_from next bytes)) in
    pick Q (within 0x80 0xBE b) (Ok (Tail 0x80 0xBF 0)) (cond (eqb b 0xBF) (Ok (Tail 0x80 0xBD 0)) (Err Malformed))
    (λ e. let p = range 0x80 0xBE b e in one_more P b (character_from (Tail 0x80 0xBF 0) bytes) (tail_1 0x80 0xBF (λ cs. P (b ∷ cs)) bytes (λ z r s. h b z p.0 (omega (arith, p.1)) r s (λ i. absurd (omega (arith, p.1, i))))))
    (λ e. pick Q (eqb b 0xBF) (Ok (Tail 0x80 0xBD 0)) (Err Malformed)
    (λ i. let is : b ≡ 0xBF = grind (arith, nat_tests) in one_more P b (character_from (Tail 0x80 0xBD 0) bytes) (tail_1 0x80 0xBD (λ cs. P (b ∷ cs)) bytes (λ z r s. h b z (omega arith) (omega arith) r (omega arith) (λ k. s)))) (λ i. tt))

pub one_character : (bytes : List ℕ) → Holds IsCharacter (character_from Whole bytes)
one_character [] = tt
one_character (b ∷ bytes) =
    let Q : Result Progress Stop → Type 0 = λ r. Holds IsCharacter (stop_or b bytes r (λ next. character_from next bytes)) in
    pick Q (eqb b 9 || eqb b 10 || eqb b 13 || within 0x20 0x7F b) (Ok Whole) (cond (within 0xC2 0xDF b) (Ok (Tail 0x80 0xBF 0)) (cond (eqb b 0xE0) (Ok (Tail 0xA0 0xBF 1)) (cond (within 0xE1 0xEC b || eqb b 0xEE) (Ok (Tail 0x80 0xBF 1)) (cond (eqb b 0xED) (Ok (Tail 0x80 0x9F 1)) (cond (eqb b 0xEF) (Ok BehindEf) (cond (eqb b 0xF0) (Ok (Tail 0x90 0xBF 2)) (cond (within 0xF1 0xF3 b) (Ok (Tail 0x80 0xBF 2)) (cond (eqb b 0xF4) (Ok (Tail 0x80 0x8F 2)) (Err Malformed)))))))))
    (λ e. is_1 b (grind (arith, nat_tests)) (grind (arith, nat_tests)))
    (λ e1. pick Q (within 0xC2 0xDF b) (Ok (Tail 0x80 0xBF 0)) (cond (eqb b 0xE0) (Ok (Tail 0xA0 0xBF 1)) (cond (within 0xE1 0xEC b || eqb b 0xEE) (Ok (Tail 0x80 0xBF 1)) (cond (eqb b 0xED) (Ok (Tail 0x80 0x9F 1)) (cond (eqb b 0xEF) (Ok BehindEf) (cond (eqb b 0xF0) (Ok (Tail 0x90 0xBF 2)) (cond (within 0xF1 0xF3 b) (Ok (Tail 0x80 0xBF 2)) (cond (eqb b 0xF4) (Ok (Tail 0x80 0x8F 2)) (Err Malformed))))))))
    (λ e. let p = range 0xC2 0xDF b e in one_more IsCharacter b (character_from (Tail 0x80 0xBF 0) bytes) (tail_1 0x80 0xBF (λ cs. IsCharacter (b ∷ cs)) bytes (λ y r s. is_2 b y p.0 p.1 r s)))
    (λ e2. pick Q (eqb b 0xE0) (Ok (Tail 0xA0 0xBF 1)) (cond (within 0xE1 0xEC b || eqb b 0xEE) (Ok (Tail 0x80 0xBF 1)) (cond (eqb b 0xED) (Ok (Tail 0x80 0x9F 1)) (cond (eqb b 0xEF) (Ok BehindEf) (cond (eqb b 0xF0) (Ok (Tail 0x90 0xBF 2)) (cond (within 0xF1 0xF3 b) (Ok (Tail 0x80 0xBF 2)) (cond (eqb b 0xF4) (Ok (Tail 0x80 0x8F 2)) (Err Malformed)))))))
    (λ e. let is : b ≡ 0xE0 = grind (arith, nat_tests) in one_more IsCharacter b (character_from (Tail 0xA0 0xBF 1) bytes) (tail_2 0xA0 0xBF (λ cs. IsCharacter (b ∷ cs)) bytes (λ y z r s t u. is_3 b y z (omega arith) (omega arith) (omega arith) s t u (λ h. r) (λ h. absurd (omega arith)) (λ h. absurd (omega arith)))))
    (λ e3. pick Q (within 0xE1 0xEC b || eqb b 0xEE) (Ok (Tail 0x80 0xBF 1)) (cond (eqb b 0xED) (Ok (Tail 0x80 0x9F 1)) (cond (eqb b 0xEF) (Ok BehindEf) (cond (eqb b 0xF0) (Ok (Tail 0x90 0xBF 2)) (cond (within 0xF1 0xF3 b) (Ok (Tail 0x80 0xBF 2)) (cond (eqb b 0xF4) (Ok (Tail 0x80 0x8F 2)) (Err Malformed))))))
    (λ e. let in_range : (0xE1 ≤ b) × (b ≤ 0xEE) × ((b ≡ 0xED) → ⊥) = (grind (arith, nat_tests), grind (arith, nat_tests), λ h. grind (arith, nat_tests)) in one_more IsCharacter b (character_from (Tail 0x80 0xBF 1) bytes) (tail_2 0x80 0xBF (λ cs. IsCharacter (b ∷ cs)) bytes (λ y z r s t u. is_3 b y z (omega arith) (omega arith) r s t u (λ h. absurd (omega (arith, in_range.0))) (λ h. absurd (in_range.2 h)) (λ h. absurd (omega (arith, in_range.1))))))
    (λ e4. pick Q (eqb b 0xED) (Ok (Tail 0x80 0x9F 1)) (cond (eqb b 0xEF) (Ok BehindEf) (cond (eqb b 0xF0) (Ok (Tail 0x90 0xBF 2)) (cond (within 0xF1 0xF3 b) (Ok (Tail 0x80 0xBF 2)) (cond (eqb b 0xF4) (Ok (Tail 0x80 0x8F 2)) (Err Malformed)))))
    (λ e. let is : b ≡ 0xED = grind (arith, nat_tests) in one_more IsCharacter b (character_from (Tail 0x80 0x9F 1) bytes) (tail_2 0x80 0x9F (λ cs. IsCharacter (b ∷ cs)) bytes (λ y z r s t u. is_3 b y z (omega arith) (omega arith) r (omega arith) t u (λ h. absurd (omega arith)) (λ h. omega arith) (λ h. absurd (omega arith)))))
    (λ e5. pick Q (eqb b 0xEF) (Ok BehindEf) (cond (eqb b 0xF0) (Ok (Tail 0x90 0xBF 2)) (cond (within 0xF1 0xF3 b) (Ok (Tail 0x80 0xBF 2)) (cond (eqb b 0xF4) (Ok (Tail 0x80 0x8F 2)) (Err Malformed))))
    (λ e. let is : b ≡ 0xEF = grind (arith, nat_tests) in one_more IsCharacter b (character_from BehindEf bytes) (behind_ef (λ cs. IsCharacter (b ∷ cs)) bytes (λ y z r s t u k. is_3 b y z (omega arith) (omega arith) r s t u (λ h. absurd (omega arith)) (λ h. absurd (omega arith)) (λ h i. k i))))
    (λ e6. pick Q (eqb b 0xF0) (Ok (Tail 0x90 0xBF 2)) (cond (within 0xF1 0xF3 b) (Ok (Tail 0x80 0xBF 2)) (cond (eqb b 0xF4) (Ok (Tail 0x80 0x8F 2)) (Err Malformed)))
    (λ e. let is : b ≡ 0xF0 = grind (arith, nat_tests) in one_more IsCharacter b (character_from (Tail 0x90 0xBF 2) bytes) (tail_3 0x90 0xBF (λ cs. IsCharacter (b ∷ cs)) bytes (λ x y z r s t u v w. is_4 b x y z (omega arith) (omega arith) (omega arith) s t u v w (λ h. r) (λ h. absurd (omega arith)))))
    (λ e7. pick Q (within 0xF1 0xF3 b) (Ok (Tail 0x80 0xBF 2)) (cond (eqb b 0xF4) (Ok (Tail 0x80 0x8F 2)) (Err Malformed))
    (λ e. let p = range 0xF1 0xF3 b e in one_more IsCharacter b (character_from (Tail 0x80 0xBF 2) bytes) (tail_3 0x80 0xBF (λ cs. IsCharacter (b ∷ cs)) bytes (λ x y z r s t u v w. is_4 b x y z (omega (arith, p.0)) (omega (arith, p.1)) r s t u v w (λ h. absurd (omega (arith, p.0))) (λ h. absurd (omega (arith, p.1))))))
    (λ e8. pick Q (eqb b 0xF4) (Ok (Tail 0x80 0x8F 2)) (Err Malformed)
    (λ e. let is : b ≡ 0xF4 = grind (arith, nat_tests) in one_more IsCharacter b (character_from (Tail 0x80 0x8F 2) bytes) (tail_3 0x80 0x8F (λ cs. IsCharacter (b ∷ cs)) bytes (λ x y z r s t u v w. is_4 b x y z (omega arith) (omega arith) r (omega arith) t u v w (λ h. absurd (omega arith)) (λ h. omega arith))))
    (λ e9. tt)))))))))

pub char_scalar : (c : ℕ) → is_char c ≡ true → scalar c ≡ true
char_scalar c e = grind (arith, nat_tests)

pub character_utf8 : (bytes : List ℕ) → IsCharacter bytes → IsUtf8 bytes
character_utf8 bytes c = subst IsUtf8 c.2 (IsUtf8-encode c.0 (char_scalar c.0 c.1))

-- ---- references

abbrev HasChar : Option (ℕ × List ℕ) → Type 0
HasChar o = IfSome o (λ x. is_char x.0 ≡ true)

-- what is left is at most so long
abbrev Leaves_at_most : ℕ → Option (ℕ × List ℕ) → Type 0
Leaves_at_most n o = IfSome o (λ x. length x.1 ≤ n)

-- what is left is shorter
abbrev Leaves_below : ℕ → Option (List ℕ × List ℕ) → Type 0
Leaves_below n o = IfSome o (λ x. length x.1 < n)

number_char : (hex some : Bool) (value : ℕ) (bytes : List ℕ) → HasChar (number_from hex some value bytes)
number_char hex some value [] = tt
number_char hex some value (b ∷ bytes) = elim (eqb b 59) as (λ v. HasChar (cond v (cond (some && is_char value) (Some (value, bytes)) None) (then_read (digit hex b) (λ d. number_from hex true (value * base hex + d) bytes)))) [
  | true ↦ ends some (is_char value) refl
  | false ↦ on (digit hex b) (λ d. number_char hex true (value * base hex + d) bytes)
]
  where
    ends : (s v : Bool) → is_char value ≡ v → HasChar (cond (s && v) (Some (value, bytes)) None)
    ends true true e = e
    ends true false e = tt
    ends false v e = tt

    on : (o : Option ℕ) → ((d : ℕ) → HasChar (number_from hex true (value * base hex + d) bytes)) → HasChar (then_read o (λ d. number_from hex true (value * base hex + d) bytes))
    on None later = tt
    on (Some d) later = later d

number_short : (hex some : Bool) (value : ℕ) (bytes : List ℕ) → Leaves_at_most (length bytes) (number_from hex some value bytes)
number_short hex some value [] = tt
number_short hex some value (b ∷ bytes) = elim (eqb b 59) as (λ v. Leaves_at_most (length (b ∷ bytes)) (cond v (cond (some && is_char value) (Some (value, bytes)) None) (then_read (digit hex b) (λ d. number_from hex true (value * base hex + d) bytes)))) [
  | true ↦ ends (some && is_char value)
  | false ↦ on (digit hex b) (λ d. number_short hex true (value * base hex + d) bytes)
]
  where
    ends : (v : Bool) → Leaves_at_most (length (b ∷ bytes)) (cond v (Some (value, bytes)) None)
    ends true = omega arith
    ends false = tt

    wider : (o : Option (ℕ × List ℕ)) → Leaves_at_most (length bytes) o → Leaves_at_most (length (b ∷ bytes)) o
    wider None h = tt
    wider (Some x) h = omega (arith, h)

    on : (o : Option ℕ) → ((d : ℕ) → Leaves_at_most (length bytes) (number_from hex true (value * base hex + d) bytes)) → Leaves_at_most (length (b ∷ bytes)) (then_read o (λ d. number_from hex true (value * base hex + d) bytes))
    on None later = tt
    on (Some d) later = wider (number_from hex true (value * base hex + d) bytes) (later d)

-- a property of what is read holds where it holds of both ways
either : (P : ℕ × List ℕ → Type 0) (r s : Option (ℕ × List ℕ)) → IfSome r P → IfSome s P → IfSome (or_read r s) P
either P None s p q = q
either P (Some x) s p q = p

entity_short : (text : List ℕ) (c : ℕ) (bytes : List ℕ) → Leaves_at_most (length bytes) (entity_at text c bytes)
entity_short text c bytes = on (literal text bytes) (literal_leaves text bytes)
  where
    on : (r : Result (List ℕ) Stop) → Leaves all_of bytes r → Leaves_at_most (length bytes) (read_as c r)
    on (Ok x) s = suffix_len x bytes s
    on (Err e) s = tt

entity_char : (text : List ℕ) (c : ℕ) (bytes : List ℕ) → is_char c ≡ true → HasChar (entity_at text c bytes)
entity_char text c bytes ok = on (literal text bytes)
  where
    on : (r : Result (List ℕ) Stop) → HasChar (read_as c r)
    on (Ok x) = ok
    on (Err e) = tt

hash_char : (bytes : List ℕ) → HasChar (behind_hash bytes)
hash_char [] = tt
hash_char (b ∷ bytes) = elim (eqb b 120) as (λ v. HasChar (cond v (number_at true bytes) (number_at false (b ∷ bytes)))) [ true ↦ number_char true false 0 bytes | false ↦ number_char false false 0 (b ∷ bytes) ]

numeric_char : (bytes : List ℕ) → HasChar (numeric_at bytes)
numeric_char [] = tt
numeric_char (b ∷ bytes) = elim (eqb b 35) as (λ v. HasChar (cond v (behind_hash bytes) None)) [ true ↦ hash_char bytes | false ↦ tt ]

wide : (m n : ℕ) (o : Option (ℕ × List ℕ)) → m ≤ n → Leaves_at_most m o → Leaves_at_most n o
wide m n None le h = tt
wide m n (Some x) le h = omega (arith, h)

hash_short : (bytes : List ℕ) → Leaves_at_most (length bytes) (behind_hash bytes)
hash_short [] = tt
hash_short (b ∷ bytes) = elim (eqb b 120) as (λ v. Leaves_at_most (length (b ∷ bytes)) (cond v (number_at true bytes) (number_at false (b ∷ bytes)))) [
  | true ↦ wide (length bytes) (length (b ∷ bytes)) (number_at true bytes) (omega arith) (number_short true false 0 bytes)
  | false ↦ number_short false false 0 (b ∷ bytes)
]

numeric_short : (bytes : List ℕ) → Leaves_at_most (length bytes) (numeric_at bytes)
numeric_short [] = tt
numeric_short (b ∷ bytes) = elim (eqb b 35) as (λ v. Leaves_at_most (length (b ∷ bytes)) (cond v (behind_hash bytes) None)) [
  | true ↦ wide (length bytes) (length (b ∷ bytes)) (behind_hash bytes) (omega arith) (hash_short bytes)
  | false ↦ tt
]

pub reference_char : (bytes : List ℕ) → HasChar (reference_at bytes)
unfolding reference_at
reference_char bytes =
    let P : ℕ × List ℕ → Type 0 = λ x. is_char x.0 ≡ true in
    either P (entity_at (codes "lt;") 60 bytes) (or_read (entity_at (codes "gt;") 62 bytes) (or_read (entity_at (codes "amp;") 38 bytes) (or_read (entity_at (codes "quot;") 34 bytes) (or_read (entity_at (codes "apos;") 39 bytes) (numeric_at bytes))))) (entity_char (codes "lt;") 60 bytes refl)
    (either P (entity_at (codes "gt;") 62 bytes) (or_read (entity_at (codes "amp;") 38 bytes) (or_read (entity_at (codes "quot;") 34 bytes) (or_read (entity_at (codes "apos;") 39 bytes) (numeric_at bytes)))) (entity_char (codes "gt;") 62 bytes refl)
    (either P (entity_at (codes "amp;") 38 bytes) (or_read (entity_at (codes "quot;") 34 bytes) (or_read (entity_at (codes "apos;") 39 bytes) (numeric_at bytes))) (entity_char (codes "amp;") 38 bytes refl)
    (either P (entity_at (codes "quot;") 34 bytes) (or_read (entity_at (codes "apos;") 39 bytes) (numeric_at bytes)) (entity_char (codes "quot;") 34 bytes refl)
    (either P (entity_at (codes "apos;") 39 bytes) (numeric_at bytes) (entity_char (codes "apos;") 39 bytes refl) (numeric_char bytes)))))

pub reference_short : (bytes : List ℕ) → Leaves_at_most (length bytes) (reference_at bytes)
unfolding reference_at
reference_short bytes =
    let P : ℕ × List ℕ → Type 0 = λ x. length x.1 ≤ length bytes in
    either P (entity_at (codes "lt;") 60 bytes) (or_read (entity_at (codes "gt;") 62 bytes) (or_read (entity_at (codes "amp;") 38 bytes) (or_read (entity_at (codes "quot;") 34 bytes) (or_read (entity_at (codes "apos;") 39 bytes) (numeric_at bytes))))) (entity_short (codes "lt;") 60 bytes)
    (either P (entity_at (codes "gt;") 62 bytes) (or_read (entity_at (codes "amp;") 38 bytes) (or_read (entity_at (codes "quot;") 34 bytes) (or_read (entity_at (codes "apos;") 39 bytes) (numeric_at bytes)))) (entity_short (codes "gt;") 62 bytes)
    (either P (entity_at (codes "amp;") 38 bytes) (or_read (entity_at (codes "quot;") 34 bytes) (or_read (entity_at (codes "apos;") 39 bytes) (numeric_at bytes))) (entity_short (codes "amp;") 38 bytes)
    (either P (entity_at (codes "quot;") 34 bytes) (or_read (entity_at (codes "apos;") 39 bytes) (numeric_at bytes)) (entity_short (codes "quot;") 34 bytes)
    (either P (entity_at (codes "apos;") 39 bytes) (numeric_at bytes) (entity_short (codes "apos;") 39 bytes) (numeric_short bytes)))))

-- ---- items

character_short : (progress : Progress) (bytes : List ℕ) → Leaves_below (length bytes) (character_from progress bytes)
character_short progress [] = tt
character_short progress (b ∷ bytes) = on (after_byte progress b) (λ next. character_short next bytes)
  where
    later : (o : Option (List ℕ × List ℕ)) → Leaves_below (length bytes) o → Leaves_below (length (b ∷ bytes)) (then_read o (λ x. Some (b ∷ x.0, x.1)))
    later None h = tt
    later (Some x) h = omega (arith, h)

    on : (r : Result Progress Stop) → ((next : Progress) → Leaves_below (length bytes) (character_from next bytes)) → Leaves_below (length (b ∷ bytes)) (stop_or b bytes r (λ next. character_from next bytes))
    on (Err e) h = tt
    on (Ok next) h = elim (is_whole next) as (λ v. Leaves_below (length (b ∷ bytes)) (cond v (Some (b ∷ [], bytes)) (then_read (character_from next bytes) (λ x. Some (b ∷ x.0, x.1))))) [
      | true ↦ omega arith
      | false ↦ later (character_from next bytes) (h next)
    ]

line_short : (bytes : List ℕ) → length (behind_line_feed bytes) ≤ length bytes
line_short [] = omega arith
line_short (b ∷ bytes) = elim (eqb b 10) as (λ v. length (cond v bytes (b ∷ bytes)) ≤ length (b ∷ bytes)) [ true ↦ omega arith | false ↦ omega arith ]

pub choose : (P : List ℕ × List ℕ → Type 0) (v : Bool) (r s : Option (List ℕ × List ℕ)) → IfSome r P → IfSome s P → IfSome (cond v r s) P
choose P true r s p q = p
choose P false r s p q = q

item_takes : (bytes : List ℕ) → Leaves_below (length bytes) (item_at bytes)
item_takes [] = tt
item_takes (b ∷ bytes) =
    let P : List ℕ × List ℕ → Type 0 = λ x. length x.1 < length (b ∷ bytes) in
    choose P (eqb b 38) (then_read (reference_at bytes) (λ x. Some (encode_utf8 x.0, x.1))) (cond (eqb b 13) (Some (32 ∷ [], behind_line_feed bytes)) (cond (eqb b 10 || eqb b 9) (Some (32 ∷ [], bytes)) (character_from Whole (b ∷ bytes)))) (on (reference_at bytes) (reference_short bytes))
    (choose P (eqb b 13) (Some (32 ∷ [], behind_line_feed bytes)) (cond (eqb b 10 || eqb b 9) (Some (32 ∷ [], bytes)) (character_from Whole (b ∷ bytes))) (omega (arith, line_short bytes))
    (choose P (eqb b 10 || eqb b 9) (Some (32 ∷ [], bytes)) (character_from Whole (b ∷ bytes)) (omega arith) (character_short Whole (b ∷ bytes))))
  where
    on : (o : Option (ℕ × List ℕ)) → Leaves_at_most (length bytes) o → Leaves_below (length (b ∷ bytes)) (then_read o (λ x. Some (encode_utf8 x.0, x.1)))
    on None h = tt
    on (Some x) h = omega (arith, h)

pub item_shorter : (bytes text rest : List ℕ) → Some (text, rest) ≡ item_at bytes → length rest < length bytes
item_shorter bytes text rest e = subst (λ (o : Option (List ℕ × List ℕ)). Leaves_below (length bytes) o) (sym e) (item_takes bytes)

pub text_on : (raw rest text behind out : List ℕ) → Some (text, behind) ≡ item_at rest → ((more : List ℕ) → Expands rest more → Expands raw (out ++ more))
    → (more : List ℕ) → Expands behind more → Expands raw ((out ++ text) ++ more)
text_on raw rest text behind out e so_far more h = subst (Expands raw) (sym (append_assoc out text more)) (so_far (text ++ more) (expansion.item rest text behind more (sym e) h))

pub bad_further : (raw rest text behind : List ℕ) → length rest ≤ length raw → Some (text, behind) ≡ item_at rest → ((k : ℕ) → IsBadAt rest k → IsBadAt raw ((length raw - length rest) + k))
    → (k : ℕ) → IsBadAt behind k → IsBadAt raw ((length raw - length behind) + k)
bad_further raw rest text behind short e so_far k h =
    let lt : length behind < length rest = item_shorter rest text behind e in
    let place : (length raw - length rest) + ((length rest - length behind) + k) ≡ (length raw - length behind) + k = omega arith in
    subst (IsBadAt raw) place (so_far ((length rest - length behind) + k) (expansion.later rest text behind k (sym e) h))

-- ---- the loop of expand

pub ends_whole : (raw rest out : List ℕ) → true ≡ eqb (length rest) 0 → ((more : List ℕ) → Expands rest more → Expands raw (out ++ more)) → Expands raw out
ends_whole raw [] out e h = subst (Expands raw) (append-nil out) (h [] expansion.nothing)
ends_whole raw (b ∷ rest) out e h = absurd (grind (arith, nat_tests))

pub bad_here : (raw rest : List ℕ) → false ≡ eqb (length rest) 0 → None ≡ item_at rest → ((k : ℕ) → IsBadAt rest k → IsBadAt raw ((length raw - length rest) + k)) → IsBadAt raw (length raw - length rest)
bad_here raw [] e n h = absurd (grind (arith, nat_tests))
bad_here raw (b ∷ rest) e n h =
    let place : (length raw - length (b ∷ rest)) + 0 ≡ length raw - length (b ∷ rest) = omega arith in
    subst (IsBadAt raw) place (h 0 (expansion.here (b ∷ rest) (omega arith) (sym n)))
