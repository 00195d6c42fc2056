-- The bytes of a character are one character to the scanner.
use Rattle.std.proofs.Common.{◌≡◌, ℕ, ◌+◌, ◌/◌, ◌%◌, ◌<◌, ◌≤◌, ◌⊎◌, inl, inr, true, false, ◌&&◌, eqb, ltb, List, [], ◌∷◌, ◌++◌, Some, Result, Ok, refl, sym, ap, ◌∙◌, subst, arith}
use Rattle.std.specs.Char.{encode_utf8}
use Rattle.std.proofs.lemmas.Bool.{cases_lt}
use Rattle.std.proofs.lemmas.Bool.Decides.{nat_tests, eqb_tells}
use Rattle.ob_values.specs.XmlText.{IsXmlChar}
use Rattle.ob_scan.specs.declared.stop.Stop.{Stop}
use Rattle.ob_scan.specs.declared.character.Progress.{Progress}
use Rattle.ob_scan.specs.declared.character.Progress.TheVariants.{Whole, Tail, BehindEf}
use Rattle.ob_scan.specs.declared.reading.Ends.{Ends}
use Rattle.ob_scan.specs.Characters.{after_byte}
use Rattle.ob_scan.specs.Reading.{is_whole, ends_at}
use Rattle.ob_scan.specs.Expansion.{character_from}

-- characters, and none of these bytes among them
abbrev pub RunsTo : Ends → Progress → List ℕ → Type 0
RunsTo ends progress [] = progress ≡ Whole
RunsTo ends progress (b ∷ bytes) = (is_whole progress && ends_at ends b ≡ false) × (next : Progress) × (after_byte progress b ≡ Ok next) × RunsTo ends next bytes

-- one character: the bytes lead on, and only the last one ends it
abbrev pub Walk : Progress → List ℕ → Type 0
Walk p [] = ⊥
Walk p (b ∷ []) = after_byte p b ≡ Ok Whole
Walk p (b ∷ (c ∷ bytes)) = (next : Progress) × (is_whole next ≡ false) × (after_byte p b ≡ Ok next) × Walk next (c ∷ bytes)

pub walk_item : (p : Progress) (bytes rest : List ℕ) → Walk p bytes → character_from p (bytes ++ rest) ≡ Some (bytes, rest)
walk_item p [] rest w = absurd w
walk_item p (b ∷ []) rest w = rw w refl
walk_item p (b ∷ (c ∷ bytes)) rest w = rw (w.2, w.1, walk_item w.0 (c ∷ bytes) rest w.3) refl

walk_on : (ends : Ends) (p : Progress) (bytes more : List ℕ) → is_whole p ≡ false → Walk p bytes → RunsTo ends Whole more → RunsTo ends p (bytes ++ more)
walk_on ends p [] more inside w h = absurd w
walk_on ends p (b ∷ []) more inside w h = (rw inside refl, Whole, w, h)
walk_on ends p (b ∷ (c ∷ bytes)) more inside w h = (rw inside refl, w.0, w.2, walk_on ends w.0 (c ∷ bytes) more w.1 w.3 h)

pub walk_runs : (ends : Ends) (b : ℕ) (bytes more : List ℕ) → ends_at ends b ≡ false → Walk Whole (b ∷ bytes) → RunsTo ends Whole more → RunsTo ends Whole (b ∷ (bytes ++ more))
walk_runs ends b [] more inner w h = (inner, Whole, w, h)
walk_runs ends b (c ∷ bytes) more inner w h = (inner, w.0, w.2, walk_on ends w.0 (c ∷ bytes) more w.1 w.3 h)

-- ---- the bytes that begin a character, and those that go on

lead_1 : (b : ℕ) → (b ≡ 9) ⊎ ((b ≡ 10) ⊎ ((b ≡ 13) ⊎ ((0x20 ≤ b) × (b ≤ 0x7F)))) → after_byte Whole b ≡ Ok Whole
lead_1 b (inl e) = rw e refl
lead_1 b (inr (inl e)) = rw e refl
lead_1 b (inr (inr (inl e))) = rw e refl
lead_1 b (inr (inr (inr h))) = lead_ascii b h.0 h.1
  where
    lead_ascii : (b : ℕ) → 0x20 ≤ b → b ≤ 0x7F → after_byte Whole b ≡ Ok Whole
    lead_ascii b h k = grind (arith, nat_tests)

lead_2 : (b : ℕ) → 0xC2 ≤ b → b ≤ 0xDF → after_byte Whole b ≡ Ok (Tail 0x80 0xBF 0)
lead_2 b h k = grind (arith, nat_tests)

lead_e0 : after_byte Whole 0xE0 ≡ Ok (Tail 0xA0 0xBF 1)
lead_e0 = refl

lead_3 : (b : ℕ) → 0xE1 ≤ b → b ≤ 0xEC → after_byte Whole b ≡ Ok (Tail 0x80 0xBF 1)
lead_3 b h k = grind (arith, nat_tests)

lead_4 : (b : ℕ) → 0xF1 ≤ b → b ≤ 0xF3 → after_byte Whole b ≡ Ok (Tail 0x80 0xBF 2)
lead_4 b h k = grind (arith, nat_tests)

last : (low high b : ℕ) → low ≤ b → b ≤ high → after_byte (Tail low high 0) b ≡ Ok Whole
last low high b h k = grind (arith, nat_tests)

middle : (low high b : ℕ) → low ≤ b → b ≤ high → after_byte (Tail low high 1) b ≡ Ok (Tail 0x80 0xBF 0)
middle low high b h k = grind (arith, nat_tests)

second : (low high b : ℕ) → low ≤ b → b ≤ high → after_byte (Tail low high 2) b ≡ Ok (Tail 0x80 0xBF 1)
second low high b h k = grind (arith, nat_tests)

behind_ef : (b : ℕ) → 0x80 ≤ b → b ≤ 0xBE → after_byte BehindEf b ≡ Ok (Tail 0x80 0xBF 0)
behind_ef b h k = grind (arith, nat_tests)

-- ---- characters of more than one byte

abbrev pub AreHigh : List ℕ → Type 0
AreHigh [] = Unit {0}
AreHigh (b ∷ bytes) = (128 ≤ b) × AreHigh bytes

pub record CharWalk (c : ℕ) : Type 0 where
  pub first : ℕ
  pub more : List ℕ
  pub bytes : encode_utf8 c ≡ first ∷ more
  pub high : AreHigh (first ∷ more)
  pub walk : Walk Whole (first ∷ more)

pub encode_2 : (c : ℕ) → 128 ≤ c → c < 2048 → encode_utf8 c ≡ (192 + c / 64) ∷ (128 + c % 64) ∷ []
unfolding encode_utf8
encode_2 c low high =
    let a : ltb c 128 ≡ false = grind (arith, nat_tests) in
    let b : ltb c 2048 ≡ true = grind (arith, nat_tests) in
    rw (a, b) refl

pub encode_3 : (c : ℕ) → 2048 ≤ c → c < 65536 → encode_utf8 c ≡ (224 + c / 4096) ∷ (128 + c / 64 % 64) ∷ (128 + c % 64) ∷ []
unfolding encode_utf8
encode_3 c low high =
    let a : ltb c 128 ≡ false = grind (arith, nat_tests) in
    let b : ltb c 2048 ≡ false = grind (arith, nat_tests) in
    let d : ltb c 65536 ≡ true = grind (arith, nat_tests) in
    rw (a, b, d) refl

pub encode_4 : (c : ℕ) → 65536 ≤ c → encode_utf8 c ≡ (240 + c / 262144) ∷ (128 + c / 4096 % 64) ∷ (128 + c / 64 % 64) ∷ (128 + c % 64) ∷ []
unfolding encode_utf8
encode_4 c low =
    let a : ltb c 128 ≡ false = grind (arith, nat_tests) in
    let b : ltb c 2048 ≡ false = grind (arith, nat_tests) in
    let d : ltb c 65536 ≡ false = grind (arith, nat_tests) in
    rw (a, b, d) refl

walk_2 : (c : ℕ) → 128 ≤ c → c < 2048 → CharWalk c
walk_2 c low high = record {
  first = 192 + c / 64;
  more = (128 + c % 64) ∷ [];
  bytes = encode_2 c low high;
  high = (omega arith, (omega arith, tt));
  walk = (Tail 0x80 0xBF 0, refl, lead_2 (192 + c / 64) (omega arith) (omega arith), last 0x80 0xBF (128 + c % 64) (omega arith) (omega arith));
}

-- a lead byte, and two bytes of which the first lies between these
walk_3 : (c low high : ℕ) → 2048 ≤ c → c < 65536 → after_byte Whole (224 + c / 4096) ≡ Ok (Tail low high 1) → low ≤ 128 + c / 64 % 64 → 128 + c / 64 % 64 ≤ high → CharWalk c
walk_3 c low high least most lead p q = record {
  first = 224 + c / 4096;
  more = (128 + c / 64 % 64) ∷ (128 + c % 64) ∷ [];
  bytes = encode_3 c least most;
  high = (omega arith, (omega arith, (omega arith, tt)));
  walk = (Tail low high 1, refl, lead, (Tail 0x80 0xBF 0, refl, middle low high (128 + c / 64 % 64) p q, last 0x80 0xBF (128 + c % 64) (omega arith) (omega arith)));
}

walk_4 : (c low high : ℕ) → 65536 ≤ c → after_byte Whole (240 + c / 262144) ≡ Ok (Tail low high 2) → low ≤ 128 + c / 4096 % 64 → 128 + c / 4096 % 64 ≤ high → CharWalk c
walk_4 c low high least lead p q = record {
  first = 240 + c / 262144;
  more = (128 + c / 4096 % 64) ∷ (128 + c / 64 % 64) ∷ (128 + c % 64) ∷ [];
  bytes = encode_4 c least;
  high = (omega arith, (omega arith, (omega arith, (omega arith, tt))));
  walk = (Tail low high 2, refl, lead, (Tail 0x80 0xBF 1, refl, second low high (128 + c / 4096 % 64) p q, (Tail 0x80 0xBF 0, refl, middle 0x80 0xBF (128 + c / 64 % 64) (omega arith) (omega arith), last 0x80 0xBF (128 + c % 64) (omega arith) (omega arith))));
}

at_byte : (b d : ℕ) (r : Result Progress Stop) → b ≡ d → after_byte Whole d ≡ r → after_byte Whole b ≡ r
at_byte b d r e h = ap (after_byte Whole) e ∙ h

walk_ef : (c : ℕ) → 0xF000 ≤ c → c ≤ 0xFFFD → CharWalk c
walk_ef c low high =
    let least : 2048 ≤ c = omega arith in
    let most : c < 65536 = omega arith in
    let lead : after_byte Whole (224 + c / 4096) ≡ Ok BehindEf = at_byte (224 + c / 4096) 0xEF (Ok BehindEf) (omega arith) refl in
    elim (cases_lt (128 + c / 64 % 64) 0xBF) [
      | inl less ↦ record {
        first = 224 + c / 4096;
        more = (128 + c / 64 % 64) ∷ (128 + c % 64) ∷ [];
        bytes = encode_3 c least most;
        high = (omega arith, (omega arith, (omega arith, tt)));
        walk = (BehindEf, refl, lead, (Tail 0x80 0xBF 0, refl, behind_ef (128 + c / 64 % 64) (omega arith) (omega arith), last 0x80 0xBF (128 + c % 64) (omega arith) (omega arith)));
      }
      | inr more ↦
          let is : 128 + c / 64 % 64 ≡ 0xBF = omega arith in
          let second_is : after_byte BehindEf (128 + c / 64 % 64) ≡ Ok (Tail 0x80 0xBD 0) = ap (after_byte BehindEf) is in
          record {
            first = 224 + c / 4096;
            more = (128 + c / 64 % 64) ∷ (128 + c % 64) ∷ [];
            bytes = encode_3 c least most;
            high = (omega arith, (omega arith, (omega arith, tt)));
            walk = (BehindEf, refl, lead, (Tail 0x80 0xBD 0, refl, second_is, last 0x80 0xBD (128 + c % 64) (omega arith) (omega arith)));
          }
    ]

low_walk : (c : ℕ) → 128 ≤ c → c ≤ 0xD7FF → CharWalk c
low_walk c low high =
    elim (cases_lt c 2048) [
      | inl two ↦ walk_2 c low two
      | inr three ↦ elim (cases_lt c 0x1000) [
        | inl e0 ↦ walk_3 c 0xA0 0xBF three (omega arith) (at_byte (224 + c / 4096) 0xE0 (Ok (Tail 0xA0 0xBF 1)) (omega arith) refl) (omega arith) (omega arith)
        | inr later ↦ elim (cases_lt c 0xD000) [
          | inl ec ↦ walk_3 c 0x80 0xBF three (omega arith) (lead_3 (224 + c / 4096) (omega arith) (omega arith)) (omega arith) (omega arith)
          | inr ed ↦ walk_3 c 0x80 0x9F three (omega arith) (at_byte (224 + c / 4096) 0xED (Ok (Tail 0x80 0x9F 1)) (omega arith) refl) (omega arith) (omega arith)
        ]
      ]
    ]

private_walk : (c : ℕ) → 0xE000 ≤ c → c ≤ 0xFFFD → CharWalk c
private_walk c low high =
    elim (cases_lt c 0xF000) [
      | inl ee ↦ walk_3 c 0x80 0xBF (omega arith) (omega arith) (at_byte (224 + c / 4096) 0xEE (Ok (Tail 0x80 0xBF 1)) (omega arith) refl) (omega arith) (omega arith)
      | inr ef ↦ walk_ef c ef high
    ]

far_walk : (c : ℕ) → 0x10000 ≤ c → c ≤ 0x10FFFF → CharWalk c
far_walk c low high =
    elim (cases_lt c 0x40000) [
      | inl f0 ↦ walk_4 c 0x90 0xBF low (at_byte (240 + c / 262144) 0xF0 (Ok (Tail 0x90 0xBF 2)) (omega arith) refl) (omega arith) (omega arith)
      | inr later ↦ elim (cases_lt c 0x100000) [
        | inl f3 ↦ walk_4 c 0x80 0xBF low (lead_4 (240 + c / 262144) (omega arith) (omega arith)) (omega arith) (omega arith)
        | inr f4 ↦ walk_4 c 0x80 0x8F low (at_byte (240 + c / 262144) 0xF4 (Ok (Tail 0x80 0x8F 2)) (omega arith) refl) (omega arith) (omega arith)
      ]
    ]

-- ---- the sorts of characters: those that are written as references, the rest of ASCII, and all others

pub record IsPlain (c : ℕ) : Type 0 where
  pub one : encode_utf8 c ≡ c ∷ []
  pub least : 0x20 ≤ c
  pub most : c ≤ 0x7F
  pub no_quote : eqb c 34 ≡ false
  pub no_and : eqb c 38 ≡ false
  pub no_less : eqb c 60 ≡ false

pub data Sort : ℕ → Type 0 where
  tab : Sort 9
  line_feed : Sort 10
  return : Sort 13
  quote : Sort 34
  ampersand : Sort 38
  less_than : Sort 60
  plain : (c : ℕ) → IsPlain c → Sort c
  wide : (c : ℕ) → CharWalk c → Sort c

pub encode_1 : (c : ℕ) → c < 128 → encode_utf8 c ≡ c ∷ []
unfolding encode_utf8
encode_1 c low = let a : ltb c 128 ≡ true = grind (arith, nat_tests) in rw a refl

ascii_sort : (c : ℕ) → 0x20 ≤ c → c ≤ 0x7F → Sort c
ascii_sort c low high =
    elim (eqb_tells c 34) [
      | inl q ↦ subst Sort (sym q.1) quote
      | inr a ↦ elim (eqb_tells c 38) [
        | inl q ↦ subst Sort (sym q.1) ampersand
        | inr b ↦ elim (eqb_tells c 60) [
          | inl q ↦ subst Sort (sym q.1) less_than
          | inr d ↦ plain c (record { one = encode_1 c (omega arith); least = low; most = high; no_quote = a.0; no_and = b.0; no_less = d.0 })
        ]
      ]
    ]

pub sort_of : (c : ℕ) → IsXmlChar c → Sort c
sort_of c (inl e) = subst Sort (sym e) tab
sort_of c (inr (inl e)) = subst Sort (sym e) line_feed
sort_of c (inr (inr (inl e))) = subst Sort (sym e) return
sort_of c (inr (inr (inr (inl h)))) = elim (cases_lt c 128) [ inl ascii ↦ ascii_sort c h.0 (omega arith) | inr high ↦ wide c (low_walk c high h.1) ]
sort_of c (inr (inr (inr (inr (inl h))))) = wide c (private_walk c h.0 h.1)
sort_of c (inr (inr (inr (inr (inr h))))) = wide c (far_walk c h.0 h.1)
