-- Characters read byte by byte.
use Rattle.std.proofs.Common.{◌≡◌, ℕ, suc, zero, ◌-◌, ◌<◌, ◌≤◌, ◌⊎◌, inl, inr, Bool, true, false, ◌||◌, cond, eqb, List, [], ◌∷◌, ◌++◌, Some, Result, Ok, Err, refl, sym, ap, ◌∙◌, subst, arith}
use Rattle.std.specs.List.{AllByRecursion}
use Rattle.std.proofs.lemmas.Bool.Decides.{nat_tests}
use Rattle.ob_values.specs.XmlText.{IsXmlText}
use Rattle.ob_scan.specs.declared.stop.Stop.{Stop}
use Rattle.ob_scan.specs.declared.stop.Stop.TheVariants.{Want, Malformed}
use Rattle.ob_scan.specs.declared.character.Progress.{Progress}
use Rattle.ob_scan.specs.declared.character.Progress.TheVariants.{Whole, Tail, BehindEf}
use Rattle.ob_scan.specs.Characters.{within, after_byte}
use Rattle.ob_scan.specs.Reading.{is_whole}
use Rattle.ob_scan.specs.Expansion.{character_from}
use Rattle.ob_scan.proofs.Expanding.{Holds, IsCharacter, one_character}
use Rattle.ob_scan.proofs.XmlTexts.{xml_none, xml_both, character_xml}

-- from the progress on the bytes are characters
abbrev pub Chars : Progress → List ℕ → Type 0
Chars p [] = p ≡ Whole
Chars p (b ∷ bytes) = (next : Progress) × (after_byte p b ≡ Ok next) × Chars next bytes

abbrev pub AreHigh : List ℕ → Type 0
AreHigh bytes = AllByRecursion (λ b. 128 ≤ b) bytes

-- a progress that some bytes lead to
abbrev pub Fair : Progress → Type 0
Fair Whole = Unit {0}
Fair (Tail low high more) = (128 ≤ low) × (low ≤ high)
Fair BehindEf = Unit {0}

-- a byte leads on, or can't go on
abbrev FairResult : Result Progress Stop → Type 0
FairResult (Ok next) = Fair next
FairResult (Err Want) = ⊥
FairResult (Err Malformed) = Unit {0}

fair_choice : (r s t u v w x y z : Bool) → FairResult (cond r (Ok Whole) (cond s (Ok (Tail 0x80 0xBF 0)) (cond t (Ok (Tail 0xA0 0xBF 1)) (cond u (Ok (Tail 0x80 0xBF 1)) (cond v (Ok (Tail 0x80 0x9F 1)) (cond w (Ok BehindEf) (cond x (Ok (Tail 0x90 0xBF 2)) (cond y (Ok (Tail 0x80 0xBF 2)) (cond z (Ok (Tail 0x80 0x8F 2)) (Err Malformed))))))))))
fair_choice true s t u v w x y z = tt
fair_choice false true t u v w x y z = (omega arith, omega arith)
fair_choice false false true u v w x y z = (omega arith, omega arith)
fair_choice false false false true v w x y z = (omega arith, omega arith)
fair_choice false false false false true w x y z = (omega arith, omega arith)
fair_choice false false false false false true x y z = tt
fair_choice false false false false false false true y z = (omega arith, omega arith)
fair_choice false false false false false false false true z = (omega arith, omega arith)
fair_choice false false false false false false false false true = (omega arith, omega arith)
fair_choice false false false false false false false false false = tt

tail_choice : (s t : Bool) (more : ℕ) → FairResult (cond s (cond t (Ok Whole) (Ok (Tail 0x80 0xBF more))) (Err Malformed))
tail_choice true true more = tt
tail_choice true false more = (omega arith, omega arith)
tail_choice false t more = tt

ef_choice : (s t : Bool) → FairResult (cond s (Ok (Tail 0x80 0xBF 0)) (cond t (Ok (Tail 0x80 0xBD 0)) (Err Malformed)))
ef_choice true t = (omega arith, omega arith)
ef_choice false true = (omega arith, omega arith)
ef_choice false false = tt

fair_result : (p : Progress) (b : ℕ) → FairResult (after_byte p b)
fair_result Whole b =
    fair_choice (eqb b 9 || eqb b 10 || eqb b 13 || within 0x20 0x7F b) (within 0xC2 0xDF b) (eqb b 0xE0) (within 0xE1 0xEC b || eqb b 0xEE) (eqb b 0xED) (eqb b 0xEF) (eqb b 0xF0) (within 0xF1 0xF3 b) (eqb b 0xF4)
fair_result (Tail low high more) b = tail_choice (within low high b) (eqb more 0) (more - 1)
fair_result BehindEf b = ef_choice (within 0x80 0xBE b) (eqb b 0xBF)

pub fair_next : (p : Progress) (b : ℕ) (next : Progress) → after_byte p b ≡ Ok next → Fair next
fair_next p b next e = subst FairResult e (fair_result p b)

-- ---- bytes inside a character

first_chosen : (t : Bool) (r : Result Progress Stop) (next : Progress) → cond t r (Err Malformed) ≡ Ok next → t ≡ true
first_chosen true r next e = refl
first_chosen false r next e = absurd cc

one_chosen : (t u : Bool) (r s : Result Progress Stop) (next : Progress) → cond t r (cond u s (Err Malformed)) ≡ Ok next → (t ≡ true) ⊎ (u ≡ true)
one_chosen true u r s next e = inl refl
one_chosen false u r s next e = inr (first_chosen u s next e)

from_low : (low high b : ℕ) → 128 ≤ low → within low high b ≡ true → 128 ≤ b
from_low low high b h e = grind (arith, nat_tests)

behind_high : (b : ℕ) → (within 0x80 0xBE b ≡ true) ⊎ (eqb b 0xBF ≡ true) → 128 ≤ b
behind_high b (inl e) = grind (arith, nat_tests)
behind_high b (inr e) = grind (arith, nat_tests)

pub inner_high : (p : Progress) (b : ℕ) (next : Progress) → Fair p → is_whole p ≡ false → after_byte p b ≡ Ok next → 128 ≤ b
inner_high Whole b next f w e = absurd cc
inner_high (Tail low high more) b next f w e = from_low low high b f.0 (first_chosen _ _ next e)
inner_high BehindEf b next f w e = behind_high b (one_chosen _ _ _ _ next e)

pub whole_is : (p : Progress) → is_whole p ≡ true → p ≡ Whole
whole_is Whole e = refl
whole_is (Tail low high more) e = absurd cc
whole_is BehindEf e = absurd cc

-- a byte below 128 stands for itself
pub low_at_whole : (p : Progress) (b : ℕ) (next : Progress) → Fair p → b < 128 → after_byte p b ≡ Ok next → p ≡ Whole
low_at_whole p b next f low e = on (is_whole p) refl
  where
    on : (v : Bool) → is_whole p ≡ v → p ≡ Whole
    on true w = whole_is p w
    on false w = let high : 128 ≤ b = inner_high p b next f w e in absurd (omega arith)

-- ---- the characters are XML's

abbrev IsTail : Progress → List ℕ → Type 0
IsTail p bytes = (cs : List ℕ) × (rest : List ℕ) × (character_from p bytes ≡ Some (cs, rest)) × (cs ++ rest ≡ bytes) × IsXmlText rest

record Reads (p : Progress) (bytes : List ℕ) : Type 0 where
  text : is_whole p ≡ true → IsXmlText bytes
  tail : is_whole p ≡ false → IsTail p bytes

from_tail : (p : Progress) (b : ℕ) (bytes : List ℕ) → IsTail p (b ∷ bytes) → Reads p (b ∷ bytes)
from_tail Whole b bytes t = record {
  text = λ _.
      let c : Holds IsCharacter (Some (t.0, t.1)) = subst (Holds IsCharacter) t.2 (one_character (b ∷ bytes)) in
      subst IsXmlText t.3 (xml_both t.0 t.1 (character_xml t.0 c) t.4);
  tail = λ e. t;
}
from_tail (Tail low high more) b bytes t = record { text = λ e. absurd cc; tail = λ e. t }
from_tail BehindEf b bytes t = record { text = λ e. absurd cc; tail = λ e. t }

chars_read : (p : Progress) (bytes : List ℕ) → Chars p bytes → Reads p bytes
chars_read p [] e = record { text = λ _. xml_none; tail = λ f. absurd (nothing p e f) }
  where
    nothing : (p : Progress) → p ≡ Whole → is_whole p ≡ false → ⊥
    nothing p e f = let g : true ≡ false = sym (ap is_whole e) ∙ f in cc
chars_read p (b ∷ bytes) h = from_tail p b bytes (by_end (is_whole h.0) refl (chars_read h.0 bytes h.2))
  where
    by_end : (v : Bool) → is_whole h.0 ≡ v → Reads h.0 bytes → IsTail p (b ∷ bytes)
    by_end true w reads = (b ∷ [], bytes, rw h.1 (rw w refl), refl, reads.text w)
    by_end false w reads = let t = reads.tail w in (b ∷ t.0, t.1, rw h.1 (rw w (rw t.2 refl)), ap (λ (xs : List ℕ). b ∷ xs) t.3, t.4)

pub chars_text : (bytes : List ℕ) → Chars Whole bytes → IsXmlText bytes
chars_text bytes h = (chars_read Whole bytes h).text refl

-- ---- characters one after another

pub chars_both : (p : Progress) (xs ys : List ℕ) → Chars p xs → Chars Whole ys → Chars p (xs ++ ys)
chars_both p [] ys e h = subst (λ (q : Progress). Chars q ys) (sym e) h
chars_both p (x ∷ xs) ys g h = (g.0, g.1, chars_both g.0 xs ys g.2 h)

-- what stands before a byte below 128 is characters
pub chars_before : (p : Progress) (xs : List ℕ) (b : ℕ) (ys : List ℕ) → Fair p → b < 128 → Chars p (xs ++ (b ∷ ys)) → Chars p xs
chars_before p [] b ys f low h = low_at_whole p b h.0 f low h.1
chars_before p (x ∷ xs) b ys f low h = (h.0, h.1, chars_before h.0 xs b ys (fair_next p x h.0 h.1) low h.2)

-- ---- a character that has begun can be ended

pub record Finish (p : Progress) : Type 0 where
  pub bytes : List ℕ
  pub chars : Chars p bytes
  pub high : AreHigh bytes

finish_tail : (low high n : ℕ) → 128 ≤ low → low ≤ high → Finish (Tail low high n)
finish_tail low high zero h k = record {
  bytes = low ∷ [];
  chars = (Whole, let e : within low high low ≡ true = grind (arith, nat_tests) in rw e refl, refl);
  high = (h, tt);
}
finish_tail low high (suc n) h k =
    let later = finish_tail 0x80 0xBF n (omega arith) (omega arith) in
    let e : within low high low ≡ true = grind (arith, nat_tests) in
    let some : eqb (suc n) 0 ≡ false = grind (arith, nat_tests) in
    let less : suc n - 1 ≡ n = omega arith in
    record {
      bytes = low ∷ later.bytes;
      chars = (Tail 0x80 0xBF n, rw (e, some, less) refl, later.chars);
      high = (h, later.high);
    }

pub finish : (p : Progress) → Fair p → Finish p
finish Whole f = record { bytes = []; chars = refl; high = tt }
finish (Tail low high more) f = finish_tail low high more f.0 f.1
finish BehindEf f = record {
  bytes = 0x80 ∷ 0x80 ∷ [];
  chars = (Tail 0x80 0xBF 0, refl, (Whole, refl, refl));
  high = (omega arith, (omega arith, tt));
}

-- a byte never wants another
pub never_wants : (p : Progress) (b : ℕ) → after_byte p b ≡ Err Want → ⊥
never_wants p b e = subst FairResult e (fair_result p b)
